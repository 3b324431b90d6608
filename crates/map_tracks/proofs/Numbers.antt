-- Which numbers the refusal of a map's content can have: 7 to 12, and 29, and no bytes lack with them. The track section's is one of them.
use Prim.Native.Nat.{ℕ, ◌+◌, ◌-◌, ◌≤◌}
use mathlib.Core.Path.{refl}
use mathlib.Core.List.{List, [], ◌∷◌}
use mathlib.Core.Logic.{◌⊎◌, inl, inr}
use native.Mathlib.Omega.{arith}
use lib.ListN.{length}
use lib.Dec.{ltb}
use Rattle.std.specs.Prelude.{Result, Ok, Err, ⊤}
use Rattle.plate.specs.declared.Refusal.{Refusal}
use Rattle.plate.proofs.Numbers.{either, Among, wider}
use Rattle.media_type.specs.MediaType.{known_type, wrong_form}
use Rattle.map_items.specs.Items.{section_of}
use Rattle.map_items.specs.Find.{Found, missing, found, find, part_of}
use Rattle.map_items.specs.Judge.{bad, and_then, has, verdict_of}
use Rattle.map_items.specs.declared.Section.{Section}
use Rattle.map_items.specs.declared.Section.TheVariants as section
use Rattle.plate.specs.declared.Fault.TheVariants as fault
use Rattle.map_items.proofs.Numbers as items
use Rattle.map_answer.specs.Answer.{is_null}
use Rattle.map_tracks.specs.Tracks.{Description, End, over, short, hangs, on_bytes, on_form, track_over, track_verdict, end_verdict, judge_tracks}
use Rattle.plate.specs.declared.Fault.{Fault}
use Rattle.plate.specs.Plate.{number_of}

-- a number from lo to 12, or 29
abbrev pub OfMap : ℕ → Refusal → Type 0
OfMap lo r = Among lo 12 r ⊎ Among 29 29 r

pub as_among : {lo : ℕ} (from to : ℕ) (r : Refusal) → from ≤ lo → from ≤ 29 → 29 ≤ to → OfMap lo r → Among from to r
as_among from to r l m n (inl h) = wider from to r l (omega arith) h
as_among from to r l m n (inr h) = wider from to r m n h

abbrev pub Own : Result ⊤ Refusal → Type 0
Own (Ok _) = Unit {0}
Own (Err r) = OfMap 7 r

pub both : (v w : Result ⊤ Refusal) → Own v → Own w → Own (and_then v w)
both (Ok _) w h k = k
both (Err r) w h k = h

pub own : (f : Fault) (p : ℕ) → 7 ≤ number_of f → number_of f ≤ 12 → Own (bad f p)
own f p l m = inl (l, m, λ e. refl)

pub section_own : (c : Section) (s : List ℕ) (p : ℕ) → Own (verdict_of c s p)
section_own c s p = go (verdict_of c s p) (items.section_own c s p)
  where
    go : (v : Result ⊤ Refusal) → items.Own v → Own v
    go (Ok _) h = tt
    go (Err r) h = inl (wider 7 12 r (omega arith) (omega arith) h)

bytes_own : (k i p : ℕ) (v : Result ⊤ Refusal) → Own v → Own (on_bytes k i p v)
bytes_own k i p v h = either Own (ltb k 0x80) (own fault.TypeOrId p (omega arith) (omega arith)) (either Own (ltb i 0xC0) (own fault.TypeOrId p (omega arith) (omega arith)) h)

end_own : (p : ℕ) (e : End) → Own (end_verdict p e)
unfolding end_verdict
end_own p over = tt
end_own p short = own fault.Overhang p (omega arith) (omega arith)
end_own p (hangs k i) = bytes_own k i p (bad fault.Overhang p) (own fault.Overhang p (omega arith) (omega arith))

-- a track's end: 29
form_own : (x : Found) → Own (on_form x)
form_own missing = tt
form_own (found q v) = inr (omega arith, omega arith, λ e. refl)

track_own : (type_byte : ℕ) (s : List ℕ) (p : ℕ) → Own (track_verdict type_byte s p)
unfolding track_verdict track_over
track_own type_byte s p =
    both (verdict_of section.Track s p) _ (section_own section.Track s p)
    (either Own (known_type (type_byte - 0x80)) (either Own (is_null (part_of (find 0x4C p (section_of s).list))) tt (form_own (find (wrong_form (type_byte - 0x80)) p (section_of s).list))) tt)

pub tracks_own : (ids : List ℕ) (p : ℕ) (ds : List Description) (e : End) → Own (judge_tracks ids p ds e)
unfolding judge_tracks
tracks_own ids p [] e = end_own p e
tracks_own ids p (d ∷ ds) e =
    bytes_own d.type_byte d.id p _
    (either Own (has d.id ids) (own fault.Twice p (omega arith) (omega arith))
    (both (track_verdict d.type_byte d.items (p + 4)) (judge_tracks (d.id ∷ ids) (p + 4 + length d.items) ds e) (track_own d.type_byte d.items (p + 4)) (tracks_own (d.id ∷ ids) (p + 4 + length d.items) ds e)))
