-- Whether tracks are accepted does not depend on the place where they stand; what an accepted track and an accepted section have met.
use Prim.Native.Nat.{ℕ, ◌+◌, ◌≤◌}
use mathlib.Core.Path.{◌≡◌, refl}
use mathlib.Core.Bool.{Bool, true, false}
use mathlib.Core.List.{List, [], ◌∷◌}
use lib.ListN.{length}
use lib.Dec.{ltb}
use borrow.Author.Tests.{ltb-false, le-ltb}
use Rattle.std.specs.Prelude.{Result, Ok, ⊤}
use Rattle.plate.specs.Choice.{pick}
use Rattle.map_items.specs.Items.{section_of}
use Rattle.map_items.specs.Judge.{bad, and_then, has, verdict_of}
use Rattle.map_items.specs.declared.Section.TheVariants as section
use Rattle.plate.specs.declared.Refusal.{Refusal}
use Rattle.plate.specs.declared.Fault.TheVariants as fault
use Rattle.map_items.proofs.Anywhere.{not_accepted, both_accepted, verdict_accepted, judge_anywhere}
use Rattle.map_tracks.proofs.Form.{over_anywhere}
use Rattle.map_tracks.specs.Tracks.{Description, End, over, short, hangs, on_bytes, track_over, track_verdict, end_verdict, judge_tracks}

-- a track's items and its end
pub track_accepted : (type_byte : ℕ) (s : List ℕ) (p : ℕ) → track_verdict type_byte s p ≡ (Ok tt) → (verdict_of section.Track s p ≡ (Ok tt)) × (track_over type_byte (section_of s).list p ≡ (Ok tt))
unfolding track_verdict
track_accepted type_byte s p e = both_accepted (verdict_of section.Track s p) (track_over type_byte (section_of s).list p) e

pub track_anywhere : (type_byte : ℕ) (s : List ℕ) (p q : ℕ) → track_verdict type_byte s p ≡ (Ok tt) → track_verdict type_byte s q ≡ (Ok tt)
unfolding track_verdict verdict_of
track_anywhere type_byte s p q e =
    let b = track_accepted type_byte s p e in
    let a = verdict_accepted section.Track s p b.0 in
    rw (judge_anywhere section.Track [] p q (section_of s).list a.0, a.1) (over_anywhere type_byte (section_of s).list p q b.1)

pub track_whole : (type_byte : ℕ) (s : List ℕ) (p : ℕ) → track_verdict type_byte s p ≡ (Ok tt) → (section_of s).end ≡ true
track_whole type_byte s p e = (verdict_accepted section.Track s p (track_accepted type_byte s p e).0).1

-- what a track has met, after tracks of some IDs, and what follows it
pub record Passed (ids : List ℕ) (p : ℕ) (d : Description) (ds : List Description) (e : End) : Type 0 where
  pub type_byte : 0x80 ≤ d.type_byte
  pub id : 0xC0 ≤ d.id
  pub fresh : has d.id ids ≡ false
  pub items : track_verdict d.type_byte d.items (p + 4) ≡ (Ok tt)
  pub rest : judge_tracks (d.id ∷ ids) (p + 4 + length d.items) ds e ≡ (Ok tt)

-- by a header's bytes: 12, or what follows
pub by_bytes : {X : Type 0} (k i p : ℕ) (next v : Result ⊤ Refusal) → on_bytes k i p next ≡ v → (bad fault.TypeOrId p ≡ v → X) → (0x80 ≤ k → 0xC0 ≤ i → next ≡ v → X) → X
by_bytes {X} k i p next v e low high = go (ltb k 0x80) (ltb i 0xC0) refl refl e
  where
    go : (a b : Bool) → ltb k 0x80 ≡ a → ltb i 0xC0 ≡ b → pick a (bad fault.TypeOrId p) (pick b (bad fault.TypeOrId p) next) ≡ v → X
    go true b q r e = low e
    go false true q r e = low e
    go false false q r e = high (ltb-false _ _ q) (ltb-false _ _ r) e

bytes_accepted : (k i p : ℕ) (next : Result ⊤ Refusal) → on_bytes k i p next ≡ (Ok tt) → (0x80 ≤ k) × (0xC0 ≤ i) × (next ≡ (Ok tt))
bytes_accepted k i p next e = by_bytes k i p next (Ok tt) e (λ f. not_accepted fault.TypeOrId p f) (λ a b f. (a, b, f))

pub passed : (ids : List ℕ) (p : ℕ) (d : Description) (ds : List Description) (e : End) → judge_tracks ids p (d ∷ ds) e ≡ (Ok tt) → Passed ids p d ds e
unfolding judge_tracks
passed ids p d ds e h =
    let b = bytes_accepted d.type_byte d.id p _ h in go (has d.id ids) refl b.0 b.1 b.2
  where
    go : (a : Bool) → has d.id ids ≡ a → 0x80 ≤ d.type_byte → 0xC0 ≤ d.id
        → pick a (bad fault.Twice p) (and_then (track_verdict d.type_byte d.items (p + 4)) (judge_tracks (d.id ∷ ids) (p + 4 + length d.items) ds e)) ≡ (Ok tt)
        → Passed ids p d ds e
    go true q k i w = not_accepted fault.Twice p w
    go false q k i w =
        let x = both_accepted (track_verdict d.type_byte d.items (p + 4)) _ w in
        record { type_byte = k; id = i; fresh = q; items = x.0; rest = x.1 }

pub pass : (ids : List ℕ) (p : ℕ) (d : Description) (ds : List Description) (e : End) → Passed ids p d ds e → judge_tracks ids p (d ∷ ds) e ≡ (Ok tt)
unfolding judge_tracks
pass ids p d ds e h = rw (le-ltb d.type_byte 0x80 h.type_byte, le-ltb d.id 0xC0 h.id, h.fresh, h.items, h.rest)

-- an accepted section ends where a track ends
pub accepted_over : (ids : List ℕ) (p : ℕ) (ds : List Description) (e : End) → judge_tracks ids p ds e ≡ (Ok tt) → e ≡ over
unfolding judge_tracks end_verdict
accepted_over ids p [] over h = refl
accepted_over ids p [] short h = not_accepted fault.Overhang p h
accepted_over ids p [] (hangs k i) h = not_accepted fault.Overhang p (bytes_accepted k i p (bad fault.Overhang p) h).2
accepted_over ids p (d ∷ ds) e h = accepted_over (d.id ∷ ids) (p + 4 + length d.items) ds e (passed ids p d ds e h).rest

pub tracks_anywhere : (ids : List ℕ) (p q : ℕ) (ds : List Description) → judge_tracks ids p ds over ≡ (Ok tt) → judge_tracks ids q ds over ≡ (Ok tt)
unfolding judge_tracks end_verdict
tracks_anywhere ids p q [] h = refl
tracks_anywhere ids p q (d ∷ ds) h =
    let w = passed ids p d ds over h in
    pass ids q d ds over
    (record {
      type_byte = w.type_byte;
      id = w.id;
      fresh = w.fresh;
      items = track_anywhere d.type_byte d.items (p + 4) (q + 4) w.items;
      rest = tracks_anywhere (d.id ∷ ids) (p + 4 + length d.items) (q + 4 + length d.items) ds w.rest;
    })
