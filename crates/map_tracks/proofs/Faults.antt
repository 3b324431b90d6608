-- The place of a track section's fault stands in the section.
use Prim.Native.Nat.{ℕ, ◌+◌, ◌-◌, ◌≤◌}
use mathlib.Core.Path.{◌≡◌, refl}
use mathlib.Core.Bool.{Bool, true, false}
use mathlib.Core.List.{List, [], ◌∷◌}
use native.Mathlib.Omega.{arith}
use lib.ListN.{length}
use Rattle.std.specs.Prelude.{Result, Ok, Err, ⊤}
use Rattle.plate.specs.Choice.{pick}
use Rattle.plate.specs.declared.Refusal.{Refusal}
use Rattle.map_items.specs.Judge.{bad, and_then, has, verdict_of}
use Rattle.map_items.specs.declared.Section.TheVariants as section
use Rattle.plate.specs.declared.Fault.TheVariants as fault
use Rattle.map_items.specs.Items.{section_of}
use Rattle.map_items.specs.Find.{Found, missing, found, find, part_of}
use Rattle.map_items.proofs.Lookup.{section_stands}
use Rattle.media_type.specs.MediaType.{known_type, wrong_form}
use Rattle.map_answer.specs.Answer.{is_null}
use Rattle.map_items.proofs.Places.{at_place, not_refused, either_part}
use Rattle.map_items.proofs.Places as items
use Rattle.map_tracks.specs.Tracks.{Description, End, over, short, hangs, tracks_of, on_bytes, on_form, track_over, track_verdict, end_verdict, judge_tracks, tracks_verdict}
use Rattle.map_tracks.specs.Inside.{descriptions_size}
use Rattle.map_tracks.proofs.Anywhere.{by_bytes}
use Rattle.map_tracks.proofs.Split.{section_size_lem}

-- a header's bytes, or what follows
bytes_place : {X : Type 0} (k i p : ℕ) (next : Result ⊤ Refusal) (r : Refusal) → on_bytes k i p next ≡ Err r → (r.place ≡ p → X) → (next ≡ Err r → X) → X
bytes_place k i p next r e f g = by_bytes k i p next (Err r) e (λ h. f (at_place fault.TypeOrId p r h)) (λ a b h. g h)

over_place : (type_byte : ℕ) (s : List ℕ) (p : ℕ) (r : Refusal) → track_over type_byte (section_of s).list p ≡ Err r → r.place ≤ p + length s
unfolding track_over
over_place type_byte s p r = go (known_type (type_byte - 0x80)) (is_null (part_of (find 0x4C p (section_of s).list))) (find (wrong_form (type_byte - 0x80)) p (section_of s).list) refl
  where
    go : (k z : Bool) (x : Found) → find (wrong_form (type_byte - 0x80)) p (section_of s).list ≡ x → pick k (pick z (Ok tt) (on_form x)) (Ok tt) ≡ Err r → r.place ≤ p + length s
    go false z x f e = not_refused r e
    go true true x f e = not_refused r e
    go true false missing f e = not_refused r e
    go true false (found q v) f e = omega (arith, at_place fault.WrongForm (q - 2) r e, (section_stands (wrong_form (type_byte - 0x80)) p s q v f).1)

track_place : (type_byte : ℕ) (items : List ℕ) (p : ℕ) (r : Refusal) → track_verdict type_byte items p ≡ Err r → r.place ≤ p + length items
unfolding track_verdict
track_place type_byte s p r e =
    either_part (verdict_of section.Track s p) (track_over type_byte (section_of s).list p) r e (λ f. items.place_within section.Track s p r f) (λ f. over_place type_byte s p r f)

end_place : (p : ℕ) (e : End) (r : Refusal) → end_verdict p e ≡ Err r → r.place ≡ p
unfolding end_verdict
end_place p over r e = not_refused r e
end_place p short r e = at_place fault.Overhang p r e
end_place p (hangs k i) r e = bytes_place k i p (bad fault.Overhang p) r e (λ f. f) (λ f. at_place fault.Overhang p r f)

tracks_place : (ids : List ℕ) (p : ℕ) (ds : List Description) (end : End) (r : Refusal) → judge_tracks ids p ds end ≡ Err r → r.place ≤ p + descriptions_size ds
unfolding judge_tracks descriptions_size
tracks_place ids p [] end r e = omega (arith, end_place p end r e)
tracks_place ids p (d ∷ ds) end r e =
    bytes_place d.type_byte d.id p _ r e (λ f. omega arith)
    (λ f. go (has d.id ids) f (λ g. tracks_place (d.id ∷ ids) (p + 4 + length d.items) ds end r g))
  where
    go : (b : Bool)
        → pick b (bad fault.Twice p) (and_then (track_verdict d.type_byte d.items (p + 4)) (judge_tracks (d.id ∷ ids) (p + 4 + length d.items) ds end)) ≡ Err r
        → (judge_tracks (d.id ∷ ids) (p + 4 + length d.items) ds end ≡ Err r → r.place ≤ p + 4 + length d.items + descriptions_size ds)
        → r.place ≤ p + (4 + length d.items + descriptions_size ds)
    go true e ih = omega (arith, at_place fault.Twice p r e)
    go false e ih =
        either_part (track_verdict d.type_byte d.items (p + 4)) _ r e
        (λ f. omega (arith, track_place d.type_byte d.items (p + 4) r f)) (λ f. omega (arith, ih f))

pub place_within : (s : List ℕ) (base : ℕ) (r : Refusal) → tracks_verdict s base ≡ Err r → r.place ≤ base + length s
unfolding tracks_verdict
place_within s base r e = let a = tracks_place [] base (tracks_of s).list (tracks_of s).end r e in omega (arith, section_size_lem s)
