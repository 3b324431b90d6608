-- What is struck is what the lists of 01 do not have: the remainder is clean, and all else is kept in order.
use Prim.Native.Nat.{ℕ, zero, suc, ◌+◌, ◌-◌, ◌≤◌, ◌<◌}
use mathlib.Core.Path.{◌≡◌, refl, sym, ◌∙◌, ap}
use mathlib.Core.Bool.{Bool, true, false, not}
use mathlib.Core.List.{List, [], ◌∷◌, map}
use native.Mathlib.Omega.{arith}
use lib.ListN.{length}
use lib.Dec.{eqb, leb}
use borrow.Author.Tests.{leb-true, leb-false, eqb-true, eqb-false}
use Rattle.std.specs.Prelude.{Some, None}
use Rattle.plate.specs.Choice.{pick, within}
use Rattle.number.specs.Number.{be}
use Rattle.media_type.specs.MediaType.{known_type}
use Rattle.map_items.specs.Items.{Item}
use Rattle.map_items.specs.Find.{found}
use Rattle.map_items.specs.Judge.{form_of, is_known, has}
use Rattle.map_items.specs.declared.Form.TheVariants as form
use Rattle.map_answer.specs.Answer.{value_of, code_of, allowed}
use Rattle.map_answer.specs.declared.Code.TheVariants as code
use Rattle.map_tracks.specs.Tracks.{is_listed}
use Rattle.map.specs.Encode.{TrackParts, MapParts, described}
use Rattle.map.specs.Parts.{listed_of}
use Rattle.map_newer.specs.Known.{known_material, meaningful, known_item, known_track, Each, EachItem, Clean, Leaves, Same, KeptTrack, Kept}
use Rattle.map_newer.specs.Strike.{kept, material_stays, is_reserved, track_stays, struck_track, struck}

-- some numbers one after another, in front of others
unfoldable run : ℕ → ℕ → List ℕ → List ℕ
run first zero rest = rest
run first (suc c) rest = first ∷ run (suc first) c rest

in_run : (n first c : ℕ) (rest : List ℕ) → first ≤ n → n < first + c → has n (run first c rest) ≡ true
unfolding run has
in_run n first zero rest h k = absurd (omega arith)
in_run n first (suc c) rest h k = go (eqb n first) refl (in_run n (suc first) c rest)
  where
    go : (b : Bool) → eqb n first ≡ b → (suc first ≤ n → n < suc first + c → has n (run (suc first) c rest) ≡ true) → pick b true (has n (run (suc first) c rest)) ≡ true
    go true q more = refl
    go false q more = more (omega (arith, eqb-false n first q)) (omega arith)

before_run : (n first c : ℕ) (rest : List ℕ) → n < first → has n (run first c rest) ≡ has n rest
unfolding run has
before_run n first zero rest h = refl
before_run n first (suc c) rest h = go (eqb n first) refl (before_run n (suc first) c rest (omega arith))
  where
    go : (b : Bool) → eqb n first ≡ b → has n (run (suc first) c rest) ≡ has n rest → pick b true (has n (run (suc first) c rest)) ≡ has n rest
    go true q more = absurd (omega (arith, eqb-true n first q))
    go false q more = more

behind_run : (n first c : ℕ) (rest : List ℕ) → first + c ≤ n → has n (run first c rest) ≡ has n rest
unfolding run has
behind_run n first zero rest h = refl
behind_run n first (suc c) rest h = go (eqb n first) refl (behind_run n (suc first) c rest (omega arith))
  where
    go : (b : Bool) → eqb n first ≡ b → has n (run (suc first) c rest) ≡ has n rest → pick b true (has n (run (suc first) c rest)) ≡ has n rest
    go true q more = absurd (omega (arith, eqb-true n first q))
    go false q more = more

-- as a test for first and last
has_run : (n first c : ℕ) (rest : List ℕ) → has n (run first (suc c) rest) ≡ pick (within first (first + c) n) true (has n rest)
has_run n first c rest = go (leb first n) (leb n (first + c)) refl refl
  where
    go : (x y : Bool) → leb first n ≡ x → leb n (first + c) ≡ y → has n (run first (suc c) rest) ≡ pick (pick x y false) true (has n rest)
    go true true q r = in_run n first (suc c) rest (leb-true first n q) (omega (arith, leb-true n (first + c) r))
    go true false q r = behind_run n first (suc c) rest (omega (arith, leb-false n (first + c) r))
    go false y q r = before_run n first (suc c) rest (leb-false first n q)

alone : (b : Bool) → pick b true false ≡ b
alone true = refl
alone false = refl

-- the tests of `struck` are those of the lists
material_known : (i : Item) → material_stays i ≡ known_material i
unfolding material_stays known_material form_of is_known has run
material_known i = go (eqb i.tag 0x40) (within 0x41 0x45 i.tag) ∙ sym (ap (λ (b : Bool). pick (eqb i.tag 0x40) true b) (has_run i.tag 0x41 4 []))
  where
    go : (a b : Bool) → is_known (pick a form.Text (pick b (form.Sized 4) form.Unknown)) ≡ pick a true (pick b true false)
    go true b = refl
    go false true = refl
    go false false = refl

track_known : (t : TrackParts) → is_listed (described t) ≡ known_track t
unfolding is_listed described known_track known_type has run
track_known t =
    let n = t.type_byte - 0x80 in
    sym (has_run n 3 1 (run 7 12 (run 20 7 []))
    ∙ ap (λ (b : Bool). pick (within 3 4 n) true b) (has_run n 7 11 (run 20 7 []) ∙ ap (λ (b : Bool). pick (within 7 18 n) true b) (has_run n 20 6 [] ∙ alone (within 20 26 n))))

code_known : (tag : ℕ) (codes v : List ℕ) → ((n : ℕ) → allowed tag n ≡ has n codes) → not (is_reserved (code_of tag (value_of (found 0 v)))) ≡ meaningful codes v
unfolding value_of code_of is_reserved meaningful has
code_known tag codes v h = sized (eqb (length v) 4)
  where
    go : (n : ℕ) (a b c : Bool)
        → not (is_reserved (pick a code.NotApplicable (pick b code.NotAvailable (pick c (code.Is n) code.Absent)))) ≡ pick a true (pick b true c)
    go n true b c = refl
    go n false true c = refl
    go n false false true = refl
    go n false false false = refl

    sized : (b : Bool)
        → not (is_reserved (code_of tag (pick b (Some (be v 0 4)) None))) ≡ pick b (has (be v 0 4) (0xFFFFFFFF ∷ 0xFFFFFFFE ∷ codes)) false
    sized true = let n = be v 0 4 in go n (eqb n 0xFFFFFFFF) (eqb n 0xFFFFFFFE) (allowed tag n) ∙ ap (λ (b : Bool). pick (eqb n 0xFFFFFFFF) true (pick (eqb n 0xFFFFFFFE) true b)) (h n)
    sized false = refl

rates_known : (n : ℕ) → allowed 0x50 n ≡ has n (run 1 8 [])
unfolding allowed has
rates_known n = sym (has_run n 1 7 [] ∙ alone (within 1 8 n))

item_known : (i : Item) → track_stays i ≡ known_item i
unfolding track_stays known_item form_of is_known has run allowed
item_known i = go (eqb t 0x4C) (eqb t 0x4D) (eqb t 0x4E) (eqb t 0x4F) (eqb t 0x50) (eqb t 0x51) (eqb t 0x52) refl refl refl refl refl refl refl
  where
    t : ℕ
    t = i.tag

    other : eqb i.tag 0x50 ≡ false → eqb i.tag 0x51 ≡ false → eqb i.tag 0x52 ≡ false → within 0x50 0x52 i.tag ≡ false
    other x y z = sym (alone (within 0x50 0x52 i.tag)) ∙ sym (has_run i.tag 0x50 2 []) ∙ rw (x, y, z)

    go : (a b c d e f g : Bool) → eqb i.tag 0x4C ≡ a → eqb i.tag 0x4D ≡ b → eqb i.tag 0x4E ≡ c → eqb i.tag 0x4F ≡ d
        → eqb i.tag 0x50 ≡ e → eqb i.tag 0x51 ≡ f → eqb i.tag 0x52 ≡ g → track_stays i ≡ known_item i
    go true b c d e f g q r s u x y z = rw (eqb-true i.tag 0x4C q)
    go false true c d e f g q r s u x y z = rw (eqb-true i.tag 0x4D r)
    go false false true d e f g q r s u x y z = rw (eqb-true i.tag 0x4E s)
    go false false false true e f g q r s u x y z = rw (eqb-true i.tag 0x4F u)
    go false false false false true f g q r s u x y z = rw (eqb-true i.tag 0x50 x) (code_known 0x50 (run 1 8 []) i.value rates_known)
    go false false false false false true g q r s u x y z = rw (eqb-true i.tag 0x51 y) (code_known 0x51 (1 ∷ 2 ∷ 4 ∷ 6 ∷ []) i.value (λ n. refl))
    go false false false false false false true q r s u x y z = rw (eqb-true i.tag 0x52 z) (code_known 0x52 (1 ∷ 2 ∷ []) i.value (λ n. refl))
    go false false false false false false false q r s u x y z = rw (q, r, s, u, x, y, z, other x y z)

-- those that stay, by a test that is another's
module _ (stays known : Item → Bool) (same : (i : Item) → stays i ≡ known i) where
  kept_leaves : (is : List Item) → Leaves known Same is (kept stays is)
  unfolding kept
  kept_leaves [] = Leaves.none
  kept_leaves (i ∷ is) = go (stays i) refl (kept_leaves is)
    where
      go : (b : Bool) → stays i ≡ b → Leaves known Same is (kept stays is) → Leaves known Same (i ∷ is) (pick b (i ∷ kept stays is) (kept stays is))
      go true q rest = Leaves.stays (sym (same i) ∙ q) refl rest
      go false q rest = Leaves.goes (sym (same i) ∙ q) rest

  kept_each : (is : List Item) → Each known (kept stays is)
  unfolding kept
  kept_each [] = tt
  kept_each (i ∷ is) = go (stays i) refl (kept_each is)
    where
      go : (b : Bool) → stays i ≡ b → Each known (kept stays is) → Each known (pick b (i ∷ kept stays is) (kept stays is))
      go true q rest = (sym (same i) ∙ q, rest)
      go false q rest = rest

struck_track_known : (t : TrackParts) → known_track (struck_track t) ≡ known_track t
unfolding known_track struck_track
struck_track_known t = refl

kept_track : (t : TrackParts) → KeptTrack t (struck_track t)
unfolding struck_track
kept_track t = record { type_byte = refl; id = refl; items = kept_leaves track_stays known_item item_known t.items }

clean_track : (t : TrackParts) → Each known_item (struck_track t).items
unfolding struck_track
clean_track t = kept_each track_stays known_item item_known t.items

tracks_leave : (ts : List TrackParts) → Leaves known_track KeptTrack ts (map struck_track (listed_of ts))
unfolding listed_of
tracks_leave [] = Leaves.none
tracks_leave (t ∷ ts) = go (is_listed (described t)) refl (tracks_leave ts)
  where
    go : (b : Bool) → is_listed (described t) ≡ b → Leaves known_track KeptTrack ts (map struck_track (listed_of ts))
        → Leaves known_track KeptTrack (t ∷ ts) (map struck_track (pick b (t ∷ listed_of ts) (listed_of ts)))
    go true q rest = Leaves.stays (sym (track_known t) ∙ q) (kept_track t) rest
    go false q rest = Leaves.goes (sym (track_known t) ∙ q) rest

tracks_clean : (ts : List TrackParts) → Each known_track (map struck_track (listed_of ts)) × EachItem (map struck_track (listed_of ts))
unfolding listed_of
tracks_clean [] = (tt, tt)
tracks_clean (t ∷ ts) = go (is_listed (described t)) refl (tracks_clean ts)
  where
    go : (b : Bool) → is_listed (described t) ≡ b → Each known_track (map struck_track (listed_of ts)) × EachItem (map struck_track (listed_of ts))
        → Each known_track (map struck_track (pick b (t ∷ listed_of ts) (listed_of ts))) × EachItem (map struck_track (pick b (t ∷ listed_of ts) (listed_of ts)))
    go true q rest = ((struck_track_known t ∙ sym (track_known t) ∙ q, rest.0), (clean_track t, rest.1))
    go false q rest = rest

pub struck_clean : (p : MapParts) → Clean (struck p)
unfolding struck
struck_clean p =
    record { material = kept_each material_stays known_material material_known p.material; tracks = (tracks_clean p.tracks).0; items = (tracks_clean p.tracks).1 }

pub struck_kept : (p : MapParts) → Kept p (struck p)
unfolding struck
struck_kept p =
    record { spare = refl; second = refl; material = kept_leaves material_stays known_material material_known p.material; tracks = tracks_leave p.tracks }
