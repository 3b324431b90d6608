-- The table by ID of tracks that pass: under each ID the type byte of the listed track of that ID, as its record has it. And a table of tracks none of which is progressive has no mark.
use Prim.Native.Nat.{ℕ, zero, suc, ◌+◌, ◌-◌, ◌<◌, ◌≤◌}
use mathlib.Core.Path.{◌≡◌, refl, sym, ap, ◌∙◌}
use mathlib.Core.Bool.{Bool, true, false}
use mathlib.Core.List.{List, [], ◌∷◌}
use native.Mathlib.Omega.{arith}
use lib.ListN.{length, get_or, set, length-set}
use lib.Seq.{get_or-set_same, get_or-set_other}
use lib.Dec.{eqb, ltb}
use borrow.Author.Tests.{eqb-true, eqb-false, ltb-true, ltb-false}
use Rattle.std.specs.Prelude.{Option, Some, None, Ok}
use Rattle.plate.specs.Choice.{pick}
use Rattle.media_type.specs.MediaType.{known_type}
use Rattle.media_type.proofs.Laws.{known_under}
use Rattle.field.specs.Field.{type_with, has_mark, type_alone}
use Rattle.field.proofs.Laws.{mark_back, type_back}
use Rattle.map_items.specs.Items.{section_of}
use Rattle.map_answer.specs.Answer.{is_progressive, track_of}
use Rattle.map_answer.specs.declared.Track.{Track}
use Rattle.map_answer.proofs.Laws.{value_anywhere}
use Rattle.map_tracks.specs.Tracks.{Description, Placed, End, is_listed, listed, record_of, id_of, byte_of, types_of, judge_tracks}
use Rattle.map_tracks.specs.Table.{NoneProgressive, plain_types_of}
use Rattle.map_tracks.proofs.Anywhere.{Passed, passed}
use Rattle.map_tracks.proofs.ById.{id_numbered, not_among, number_own}

-- the type byte of a record, and that of the listed track of an ID, or what stood there
abbrev pub byte_in : Track → ℕ
byte_in t = type_with (is_progressive t.fields) t.media_type

abbrev pub byte_for : Option Track → ℕ → ℕ
byte_for (Some t) n = byte_in t
byte_for None n = n

-- a track's type byte is its record's
pub byte_same : (q : ℕ) (d : Description) → byte_of d.type_byte d.items ≡ byte_in (record_of (record { at = q; track = d }))
unfolding byte_of record_of track_of
byte_same q d = rw (value_anywhere 0x52 0 (q + 4) (section_of d.items).list)

-- a listed track is of known type
pub listed_known : (id q : ℕ) (ds : List Description) (t : Track) → id_of id (listed q ds) ≡ Some t → known_type t.media_type ≡ true
unfolding listed id_of is_listed record_of track_of
listed_known id q [] t e = absurd (let z : ◌≡◌ {A = ℕ} 0 1 = cc in omega arith)
listed_known id q (d ∷ ds) t e = go (known_type (d.type_byte - 0x80)) refl e (listed_known id (q + 4 + length d.items) ds t)
  where
    x : Placed
    x = record { at = q; track = d }

    xs : List Placed
    xs = listed (q + 4 + length d.items) ds

    here : known_type (d.type_byte - 0x80) ≡ true → (b : Bool) → pick b (Some (record_of x)) (id_of id xs) ≡ Some t → (id_of id xs ≡ Some t → known_type t.media_type ≡ true) → known_type t.media_type ≡ true
    here k true e on = let r : record_of x ≡ t = cc in rw (← (ap (λ (y : Track). y.media_type) r)) k
    here k false e on = on e

    go : (b : Bool) → known_type (d.type_byte - 0x80) ≡ b → id_of id (pick b (x ∷ xs) xs) ≡ Some t → (id_of id xs ≡ Some t → known_type t.media_type ≡ true) → known_type t.media_type ≡ true
    go true k e on = here k (eqb (d.id - 0xC0) id) e on
    go false k e on = on e

module _ (id : ℕ) where
  -- behind a track that passed there is none of its ID
  none_behind : (ids : List ℕ) (p q : ℕ) (d : Description) (ds : List Description) (e : End) → judge_tracks (d.id ∷ ids) p ds e ≡ (Ok tt) → 0xC0 ≤ d.id → d.id - 0xC0 ≡ id → id_of id (listed q ds) ≡ None
  none_behind ids p q d ds e a h i = go (id_of id (listed q ds)) refl
    where
      go : (x : Option Track) → id_of id (listed q ds) ≡ x → x ≡ None
      go None r = refl
      go (Some t) r =
          let k = id_numbered id (listed q ds) t r in
          let o = number_own (d.id ∷ ids) p q ds e a k.0 t k.1 in
          absurd ((not_among (t.id + 0xC0) d.id ids o.1).1 (omega (arith, h, i, k.2)))

  pub table_says : id < 64 → (ids : List ℕ) (p q : ℕ) (ds : List Description) (e : End) → judge_tracks ids p ds e ≡ (Ok tt) → (types : List ℕ) → length types ≡ 64
      → get_or (types_of types ds) id 0 ≡ byte_for (id_of id (listed q ds)) (get_or types id 0)
  unfolding types_of listed id_of
  table_says h ids p q [] e a types l = refl
  table_says h ids p q (d ∷ ds) e a types l =
      let w = passed ids p d ds e a in
      go (is_listed d) w (λ ts m. table_says h (d.id ∷ ids) _ (q + 4 + length d.items) ds e w.rest ts m)
    where
      x : Placed
      x = record { at = q; track = d }

      xs : List Placed
      xs = listed (q + 4 + length d.items) ds

      j : ℕ
      j = d.id - 0xC0

      byte : ℕ
      byte = byte_of d.type_byte d.items

      On : Type 0
      On = (ts : List ℕ) → length ts ≡ 64 → get_or (types_of ts ds) id 0 ≡ byte_for (id_of id xs) (get_or ts id 0)

      by : (b : Bool) → eqb j id ≡ b → Passed ids p d ds e → On → get_or (types_of (set types j byte) ds) id 0 ≡ byte_for (pick b (Some (record_of x)) (id_of id xs)) (get_or types id 0)
      by true r w on =
          let i = eqb-true j id r in
          let s : get_or (set types j byte) id 0 ≡ byte = rw (← i) (get_or-set_same types j byte 0 (omega (arith, i, l, h))) in
          let n = none_behind ids _ (q + 4 + length d.items) d ds e w.rest w.id i in
          on (set types j byte) (length-set types j byte ∙ l) ∙ rw n (s ∙ byte_same q d)
      by false r w on = on (set types j byte) (length-set types j byte ∙ l) ∙ rw (get_or-set_other types j id byte 0 (λ z. eqb-false j id r (sym z)))

      go : (b : Bool) → Passed ids p d ds e → On
          → get_or (types_of (pick b (set types j byte) types) ds) id 0 ≡ byte_for (id_of id (pick b (x ∷ xs) xs)) (get_or types id 0)
      go true w on = by (eqb j id) refl w on
      go false w on = on types l

-- no byte of a table has the mark
abbrev pub Unmarked : List ℕ → Type 0
Unmarked types = (i : ℕ) → has_mark (get_or types i 0) ≡ false

unmarked_set : (types : List ℕ) (j v : ℕ) → Unmarked types → has_mark v ≡ false → Unmarked (set types j v)
unmarked_set [] j v u e i = u i
unmarked_set (t ∷ ts) zero v u e zero = e
unmarked_set (t ∷ ts) zero v u e (suc i) = u (suc i)
unmarked_set (t ∷ ts) (suc j) v u e zero = u zero
unmarked_set (t ∷ ts) (suc j) v u e (suc i) = unmarked_set ts j v (λ k. u (suc k)) e i

-- a listed track that is not progressive has a type byte without it
plain_byte : (q : ℕ) (d : Description) → is_listed d ≡ true → is_progressive (record_of (record { at = q; track = d })).fields ≡ false → has_mark (byte_of d.type_byte d.items) ≡ false
unfolding is_listed record_of track_of
plain_byte q d k e = ap has_mark (byte_same q d) ∙ rw e (mark_back false (d.type_byte - 0x80) (omega (arith, known_under (d.type_byte - 0x80) k)))

-- so of tracks that are not progressive, whatever stood there before
pub plain_table : (q : ℕ) (ds : List Description) (types : List ℕ) → NoneProgressive (listed q ds) → Unmarked types → Unmarked (types_of types ds)
unfolding types_of listed
plain_table q [] types n u = u
plain_table q (d ∷ ds) types n u = go (is_listed d) refl n (λ ts. plain_table (q + 4 + length d.items) ds ts)
  where
    x : Placed
    x = record { at = q; track = d }

    xs : List Placed
    xs = listed (q + 4 + length d.items) ds

    byte : ℕ
    byte = byte_of d.type_byte d.items

    go : (b : Bool) → is_listed d ≡ b → NoneProgressive (pick b (x ∷ xs) xs) → ((ts : List ℕ) → NoneProgressive xs → Unmarked ts → Unmarked (types_of ts ds))
        → Unmarked (types_of (pick b (set types (d.id - 0xC0) byte) types) ds)
    go true k n on = on (set types (d.id - 0xC0) byte) n.1 (unmarked_set types (d.id - 0xC0) byte u (plain_byte q d k n.0))
    go false k n on = on types n u

-- what is set past the end is not
past : (l : List ℕ) (j v : ℕ) → length l ≤ j → set l j v ≡ l
past [] j v h = refl
past (x ∷ l) zero v h = absurd (omega arith)
past (x ∷ l) (suc j) v h = ap (λ (t : List ℕ). x ∷ t) (past l j v (omega arith))

byte_alone : (d : Description) → is_listed d ≡ true → type_alone (byte_of d.type_byte d.items) ≡ d.type_byte - 0x80
unfolding is_listed byte_of
byte_alone d k = type_back _ (d.type_byte - 0x80) (omega (arith, known_under (d.type_byte - 0x80) k))

-- without the mark a table is 01's
pub alone : (id : ℕ) (ds : List Description) (marked plain : List ℕ) → type_alone (get_or marked id 0) ≡ get_or plain id 0 → length marked ≡ length plain → type_alone (get_or (types_of marked ds) id 0) ≡ get_or (plain_types_of plain ds) id 0
unfolding types_of plain_types_of
alone id [] marked plain e l = e
alone id (d ∷ ds) marked plain e l = go (is_listed d) refl (λ ms ps. alone id ds ms ps)
  where
    j : ℕ
    j = d.id - 0xC0

    byte : ℕ
    byte = byte_of d.type_byte d.items

    set_both : (b : Bool) → eqb id j ≡ b → is_listed d ≡ true → (c : Bool) → ltb j (length marked) ≡ c → type_alone (get_or (set marked j byte) id 0) ≡ get_or (set plain j (d.type_byte - 0x80)) id 0
    set_both false q k c r = rw (get_or-set_other marked j id byte 0 (eqb-false id j q), get_or-set_other plain j id (d.type_byte - 0x80) 0 (eqb-false id j q)) e
    set_both true q k true r =
        let i = eqb-true id j q in let h = ltb-true j (length marked) r in
        rw (i, get_or-set_same marked j byte 0 h, get_or-set_same plain j (d.type_byte - 0x80) 0 (omega (arith, h, l))) (byte_alone d k)
    set_both true q k false r =
        let i = eqb-true id j q in let h = ltb-false j (length marked) r in
        rw (past marked j byte h, past plain j (d.type_byte - 0x80) (omega (arith, h, l))) e

    go : (b : Bool) → is_listed d ≡ b → ((ms ps : List ℕ) → type_alone (get_or ms id 0) ≡ get_or ps id 0 → length ms ≡ length ps → type_alone (get_or (types_of ms ds) id 0) ≡ get_or (plain_types_of ps ds) id 0)
        → type_alone (get_or (types_of (pick b (set marked j byte) marked) ds) id 0) ≡ get_or (plain_types_of (pick b (set plain j (d.type_byte - 0x80)) plain) ds) id 0
    go true k on = on _ _ (set_both (eqb id j) refl k (ltb j (length marked)) refl) (length-set marked j byte ∙ l ∙ sym (length-set plain j (d.type_byte - 0x80)))
    go false k on = on marked plain e l
