-- The proofs of specs/OddFields.antt: where the packets of a stream stand and what table each has, and which fields a packet carries.
use Prim.Native.Nat.{ℕ, zero, suc, ◌+◌, ◌%◌, ◌^◌, ◌<◌, ◌≤◌}
use mathlib.Core.Path.{◌≡◌, refl, sym, subst, ◌∙◌}
use mathlib.Core.Bool.{Bool, true, false}
use mathlib.Core.List.{List, [], ◌∷◌, ◌++◌, append_assoc}
use mathlib.Core.Logic.{◌⊎◌, inl, inr}
use native.Mathlib.Omega.{arith}
use lib.ListN.{length, get_or, replicate}
use lib.Dec.{eqb, ltb}
use borrow.Author.Tests.{eq-eqb, ne_eqb, eqb-true, eqb-false}
use Rattle.std.specs.Prelude.{Some, Result, Ok, Err}
use Rattle.plate.specs.Choice.{pick}
use Rattle.plate.specs.Ended.{none}
use Rattle.plate.proofs.Tests.{no_choice}
use Rattle.number.proofs.Laws.{Bytes}
use Rattle.packet.specs.Packet.{type_map, type_media}
use Rattle.media_type.specs.MediaType.{known_type}
use Rattle.field.specs.Field.{has_mark, is_even, carries_two, is_field}
use Rattle.field.proofs.Laws.{two_even, other_half}
use Rattle.map_answer.specs.Answer.{is_progressive}
use Rattle.map_answer.specs.declared.Track.{Track}
use Rattle.map_answer.specs.declared.Code.TheVariants as code
use Rattle.map_tracks.specs.Tracks.{id_of}
use Rattle.map_tracks.proofs.Table.{Unmarked}
use Rattle.map.specs.Map.{listed_in, types_in}
use Rattle.map.proofs.Table.{table, plain_types, empty_plain}
use Rattle.piece.specs.Piece.{piece_at}
use Rattle.piece.specs.declared.Piece.{Piece}
use Rattle.plate.specs.declared.Refusal.{Refusal}
use Rattle.piece.proofs.Laws.{told}
use Rattle.piece.proofs.Fields.{field_fits}
use Rattle.piece.proofs.Maps.{map_accepted}
use Rattle.stream.specs.Stream.{Placed, closed, runs_out, types_after, on_piece, packets_from, packets, check_of, carries_as, carries, first_of, seek_of}
use Rattle.stream.specs.Sought.{NoneCarries}
use Rattle.stream.specs.OddFields.{Media, Progressive, Carries, states, first_stated, seek_stated, NotProgressive, NoMap, Latest, bytes_of, NeverOne, AnswersBy, OddFields}

-- which fields a number is
own_field : (two : Bool) (number : ℕ) → is_field two number number ≡ true
unfolding is_field
own_field two number = rw (eq-eqb number number refl)

field_above : (number : ℕ) → is_field true number (number + 1) ≡ true
unfolding is_field
field_above number = rw (ne_eqb number (number + 1) (λ z. omega (arith, z)), eq-eqb (number + 1) (number + 1) refl)

no_field : (two : Bool) (number field : ℕ) → (field ≡ number → ⊥) → (two ≡ true → field ≡ number + 1 → ⊥) → is_field two number field ≡ false
unfolding is_field
no_field two number field n m = rw (ne_eqb number field (λ z. n (sym z))) (go two m)
  where
    go : (b : Bool) → (b ≡ true → field ≡ number + 1 → ⊥) → pick b (eqb (number + 1) field) false ≡ false
    go true m = ne_eqb (number + 1) field (λ z. m refl (sym z))
    go false m = refl

-- two fields, or one
two_carried : (byte number : ℕ) → has_mark byte ≡ true → is_even number ≡ true → carries_two byte number ≡ true
unfolding carries_two
two_carried byte number m e = rw m e

one_odd : (byte number : ℕ) → is_even number ≡ false → carries_two byte number ≡ true → ⊥
one_odd byte number o t = let z : true ≡ false = sym (two_even byte number t) ∙ o in absurd (let y : ◌≡◌ {A = ℕ} 0 1 = cc in omega arith)

pub one_unmarked : (byte number : ℕ) → has_mark byte ≡ false → carries_two byte number ≡ false
unfolding carries_two
one_unmarked byte number m = rw m

pub not_true : (b : Bool) → (b ≡ true → ⊥) → b ≡ false
not_true true h = absurd (h refl)
not_true false h = refl

-- what a media packet of known type carries of its own track is told by its number
module _ (x : Placed) (two : Bool) where
  pub of_media_lem : Media x → (field : ℕ) → carries_as two x.piece.track field x.piece ≡ is_field two x.piece.field field
  unfolding carries_as
  of_media_lem m field = rw (eq-eqb x.piece.packet_type type_media m.media, eq-eqb x.piece.track x.piece.track refl, m.known) (go (is_field two x.piece.field field))
    where
      go : (b : Bool) → pick b true false ≡ b
      go true = refl
      go false = refl

  of_another : (track field : ℕ) → (x.piece.track ≡ track → ⊥) → carries_as two track field x.piece ≡ false
  unfolding carries_as
  of_another track field n = rw (ne_eqb x.piece.track track n) (no_choice (eqb x.piece.packet_type type_media) false)

  of_none : (track field : ℕ) → is_field two x.piece.field field ≡ false → carries_as two track field x.piece ≡ false
  unfolding carries_as
  of_none track field n = rw n (go (eqb x.piece.packet_type type_media) (eqb x.piece.track track))
    where
      go : (a b : Bool) → pick a (pick b false false) false ≡ false
      go true true = refl
      go true false = refl
      go false b = refl

  no_media : (Media x → ⊥) → (track field : ℕ) → carries_as two track field x.piece ≡ false
  unfolding carries_as
  no_media n track field = go (eqb x.piece.packet_type type_media) refl (known_type x.piece.media_type) refl (eqb x.piece.track track) (is_field two x.piece.field field)
    where
      go : (a : Bool) → eqb x.piece.packet_type type_media ≡ a → (k : Bool) → known_type x.piece.media_type ≡ k → (b d : Bool) → pick a (pick b (pick d k false) false) false ≡ false
      go true p true q b d = absurd (n (record { media = eqb-true x.piece.packet_type type_media p; known = q }))
      go true p false q true true = refl
      go true p false q true false = refl
      go true p false q false d = refl
      go false p k q b d = refl

-- by 01's word, and so by ours
more_carried : (two : Bool) (track field : ℕ) (x : Piece) → carries_as false track field x ≡ true → carries_as two track field x ≡ true
unfolding carries_as is_field
more_carried two track field x = go (eqb x.packet_type type_media) (eqb x.track track) (eqb x.field field) (known_type x.media_type)
  where
    go : (a b d k : Bool) → pick a (pick b (pick (pick d true false) k false) false) false ≡ true
        → pick a (pick b (pick (pick d true (pick two (eqb (x.field + 1) field) false)) k false) false) false ≡ true
    go true true true k e = e
    go true true false k e = absurd (let z : ◌≡◌ {A = ℕ} 0 1 = cc in omega arith)
    go true false d k e = absurd (let z : ◌≡◌ {A = ℕ} 0 1 = cc in omega arith)
    go false b d k e = absurd (let z : ◌≡◌ {A = ℕ} 0 1 = cc in omega arith)

-- an even field is carried by its own number alone
even_alone : (byte number field : ℕ) → is_even field ≡ true → is_field (carries_two byte number) number field ≡ is_field false number field
unfolding is_field is_even
even_alone byte number field e = go (carries_two byte number) (two_even byte number)
  where
    go : (two : Bool) → (two ≡ true → eqb (number % 2) 0 ≡ true) → pick (eqb number field) true (pick two (eqb (number + 1) field) false) ≡ pick (eqb number field) true false
    go false t = refl
    go true t = rw (ne_eqb (number + 1) field (λ z. omega (arith, z, eqb-true (number % 2) 0 (t refl), eqb-true (field % 2) 0 e)))

module _ (s : List ℕ) where
  -- a packet stands where it says, behind an offset, with the table that the packets before it leave it
  record There (at : ℕ) (types : List ℕ) (x : Placed) : Type 0 where
    first : Bool
    whole : piece_at s x.at first ≡ Ok x.piece
    behind : at ≤ x.at
    says : x.types ≡ types_after s x.at x.piece types

  abbrev AllThere : ℕ → List ℕ → List Placed → Type 0
  AllThere at types [] = Unit {0}
  AllThere at types (x ∷ xs) = There at types x × AllThere x.at x.types xs

  lower : (j k : ℕ) (types : List ℕ) (xs : List Placed) → j ≤ k → AllThere k types xs → AllThere j types xs
  lower j k types [] h a = tt
  lower j k types (x ∷ xs) h a = (record { first = a.0.first; whole = a.0.whole; behind = omega (arith, a.0.behind); says = a.0.says }, a.1)

  there_from : (f : ℕ) (first : Bool) (types : List ℕ) (at : ℕ) → AllThere at types (packets_from s f first types at).list
  unfolding packets_from
  there_from zero first types at = tt
  there_from (suc f) first types at = step (λ ts k. there_from f false ts k) (ltb at (length s)) (piece_at s at first) refl
    where
      step : ((ts : List ℕ) (k : ℕ) → AllThere k ts (packets_from s f false ts k).list) → (t : Bool) (a : Result Piece Refusal) → piece_at s at first ≡ a
          → AllThere at types (pick t (on_piece s at types (λ now_types next. packets_from s f false now_types next) a) (none runs_out)).list
      step ih false a q = tt
      step ih true (Err r) q = tt
      step ih true (Ok x) q = (record { first = first; whole = q; behind = omega arith; says = refl }, by (eqb x.packet_type 0xFB))
        where
          now_types : List ℕ
          now_types = types_after s at x types

          by : (b : Bool) → AllThere at now_types (pick b (none closed) (packets_from s f false now_types (at + x.len))).list
          by true = tt
          by false = lower at (at + x.len) now_types (packets_from s f false now_types (at + x.len)).list (omega arith) (ih now_types (at + x.len))

  all_there : AllThere 0 (replicate 64 0) (packets s).list
  unfolding packets
  all_there = there_from (suc (length s)) true (replicate 64 0) 0

  -- one of them, behind others
  one_there : (at : ℕ) (types : List ℕ) (before : List Placed) (x : Placed) (after : List Placed) → AllThere at types (before ++ (x ∷ after)) → (now_types : List ℕ) × There at now_types x
  one_there at types [] x after a = (types, a.0)
  one_there at types (y ∷ ys) x after a =
      let w = one_there y.at y.types ys x after a.1 in
      let t = w.1 in
      (w.0, record { first = t.first; whole = t.whole; behind = omega (arith, a.0.behind, t.behind); says = t.says })

  rest_there : (at : ℕ) (types : List ℕ) (before xs : List Placed) → AllThere at types (before ++ xs) → (k : ℕ) × (ts : List ℕ) × AllThere k ts xs
  rest_there at types [] xs a = (at, types, a)
  rest_there at types (y ∷ ys) xs a = rest_there y.at y.types ys xs a.1

  -- where no map comes between, the table stays
  stays : (at : ℕ) (types : List ℕ) (between : List Placed) (x : Placed) (after : List Placed) → AllThere at types (between ++ (x ∷ after)) → NoMap between → (x.piece.packet_type ≡ type_map → ⊥) → x.types ≡ types
  stays at types [] x after a n m = a.0.says ∙ rw (ne_eqb x.piece.packet_type type_map m)
  stays at types (y ∷ ys) x after a n m = stays y.at y.types ys x after a.1 n.1 m ∙ a.0.says ∙ rw (ne_eqb y.piece.packet_type type_map n.0)

  module _ (m x : Placed) (l : Latest s m x) where
    map_there : (k : ℕ) × (ts : List ℕ) × AllThere k ts (m ∷ (l.between ++ (x ∷ l.after)))
    map_there = rest_there 0 (replicate 64 0) l.before (m ∷ (l.between ++ (x ∷ l.after))) (subst (AllThere 0 (replicate 64 0)) l.all all_there)

    latest_table : x.types ≡ types_in (bytes_of s m)
    latest_table =
        let w = map_there.2 in
        stays m.at m.types l.between x l.after w.1 l.no_map l.none ∙ w.0.says ∙ rw (eq-eqb m.piece.packet_type type_map l.map)

    by_map : (t : Track) → id_of x.piece.track (listed_in (bytes_of s m)) ≡ Some t → has_mark (get_or x.types x.piece.track 0) ≡ is_progressive t.fields
    by_map t e =
        let w = map_there.2 in
        let g = (one_there m.at m.types l.between x l.after w.1).1 in
        let h = (told s x.at g.first x.piece g.whole).track in
        let v = map_accepted s m.at w.0.first m.piece w.0.whole l.map in
        rw latest_table ((table.says (bytes_of s m) v x.piece.track h).mark t e)

  -- the first carrier is no later than any
  first_by : (track field at : ℕ) (types : List ℕ) (before : List Placed) (x : Placed) (after : List Placed) → AllThere at types (before ++ (x ∷ after)) → carries track field x ≡ true
      → (o : ℕ) × (first_of track field (before ++ (x ∷ after)) ≡ Some o) × (o ≤ x.at)
  unfolding first_of
  first_by track field at types [] x after a c = (x.at, rw c, omega arith)
  first_by track field at types (y ∷ ys) x after a c = go (carries track field y) (one_there y.at y.types ys x after a.1).1.behind (first_by track field y.at y.types ys x after a.1 c)
    where
      go : (b : Bool) → y.at ≤ x.at → (o : ℕ) × (first_of track field (ys ++ (x ∷ after)) ≡ Some o) × (o ≤ x.at)
          → (o : ℕ) × (pick b (Some y.at) (first_of track field (ys ++ (x ∷ after))) ≡ Some o) × (o ≤ x.at)
      go true h r = (y.at, refl, h)
      go false h r = r

  module _ (n : ℕ) (accepted : check_of s ≡ Ok n) where
    answers_by : (track field : ℕ) (before : List Placed) (x : Placed) (after : List Placed) → (packets s).list ≡ before ++ (x ∷ after) → carries track field x ≡ true → AnswersBy (seek_of s track field) x.at
    unfolding seek_of
    answers_by track field before x after e c =
        let f = first_by track field 0 (replicate 64 0) before x after (subst (AllThere 0 (replicate 64 0)) e all_there) c in
        (f.0, rw (accepted, e, f.1), f.2)

    still : (track field : ℕ) (before : List Placed) (x : Placed) (after : List Placed) → (packets s).list ≡ before ++ (x ∷ after) → states track field x ≡ true → AnswersBy (seek_of s track field) x.at
    still track field before x after e c = answers_by track field before x after e (more_carried _ track field x.piece c)

-- where the packets carry the field just as 01 has it, so does seek answer
abbrev Alike : ℕ → ℕ → List Placed → Type 0
Alike track field [] = Unit {0}
Alike track field (x ∷ xs) = (carries track field x ≡ states track field x) × Alike track field xs

first_alike : (track field : ℕ) (xs : List Placed) → Alike track field xs → first_of track field xs ≡ first_stated track field xs
unfolding first_of first_stated
first_alike track field [] a = refl
first_alike track field (x ∷ xs) a = rw (a.0, first_alike track field xs a.1)

seek_alike : (s : List ℕ) (track field : ℕ) → Alike track field (packets s).list → seek_of s track field ≡ seek_stated s track field
unfolding seek_of seek_stated
seek_alike s track field a = rw (first_alike track field (packets s).list a)

alike_even : (track field : ℕ) → is_even field ≡ true → (xs : List Placed) → Alike track field xs
unfolding carries_as
alike_even track field e [] = tt
alike_even track field e (x ∷ xs) = (rw (even_alone (get_or x.types x.piece.track 0) x.piece.field field e), alike_even track field e xs)

alike_track : (track field : ℕ) (xs : List Placed) → NotProgressive track xs → Alike track field xs
alike_track track field [] n = tt
alike_track track field (x ∷ xs) n = (go (eqb x.piece.track track) refl, alike_track track field xs n.1)
  where
    byte : ℕ
    byte = get_or x.types x.piece.track 0

    go : (b : Bool) → eqb x.piece.track track ≡ b → carries track field x ≡ states track field x
    go true q = rw (one_unmarked byte x.piece.field (not_true (has_mark byte) (n.0 (eqb-true x.piece.track track q))))
    go false q = let z = eqb-false x.piece.track track q in of_another x _ track field z ∙ sym (of_another x false track field z)

-- maps that never say 1 leave no packet progressive
never : (s : List ℕ) (track at : ℕ) (types : List ℕ) (xs : List Placed) → AllThere s at types xs → NeverOne s xs → Unmarked types → NotProgressive track xs
never s track at types [] a n u = tt
never s track at types (x ∷ xs) a n u = (λ h p. absurd (let z : true ≡ false = sym p ∙ plain x.piece.track in let y : ◌≡◌ {A = ℕ} 0 1 = cc in omega arith), never s track x.at x.types xs a.1 n.1 plain)
  where
    after : (b : Bool) → eqb x.piece.packet_type type_map ≡ b → Unmarked (pick b (types_in (bytes_of s x)) types)
    after true q = plain_types (bytes_of s x) (n.0 (eqb-true x.piece.packet_type type_map q))
    after false q = u

    plain : Unmarked x.types
    plain = subst Unmarked (sym a.0.says) (after (eqb x.piece.packet_type type_map) refl)

pub no_packet : (s : List ℕ) (track : ℕ) → NeverOne s (packets s).list → NotProgressive track (packets s).list
no_packet s track n = never s track 0 (replicate 64 0) (packets s).list (all_there s) n empty_plain

-- fields over 32 bits
narrow_from : (s : List ℕ) → Bytes s → (track field at : ℕ) (types : List ℕ) → 2 ^ 32 ≤ field → (xs : List Placed) → AllThere s at types xs → NoneCarries track field xs
narrow_from s b track field at types h [] a = tt
narrow_from s b track field at types h (x ∷ xs) a =
    let number = x.piece.field in
    let byte = get_or x.types x.piece.track 0 in
    let f : number < 2 ^ 32 = field_fits s x.at a.0.first x.piece b a.0.whole in
    (of_none x _ track field (other_half (carries_two byte number) number field (two_even byte number) (λ z. omega (arith, z, f, h))), narrow_from s b track field x.at x.types h xs a.1)

-- exactly these
module _ (x : Placed) (m : Media x) where
  abbrev byte : ℕ
  byte = get_or x.types x.piece.track 0

  abbrev number : ℕ
  number = x.piece.field

  both : carries_two byte number ≡ true → Carries x (λ field. (field ≡ number) ⊎ (field ≡ number + 1))
  both t =
      record {
        these = λ field e. of_media_lem x (carries_two byte number) m field ∙ by field e;
        no_other = λ field n. of_media_lem x (carries_two byte number) m field ∙ no_field (carries_two byte number) number field (λ z. n (inl z)) (λ _ z. n (inr z));
      }
    where
      by : (field : ℕ) → (field ≡ number) ⊎ (field ≡ number + 1) → is_field (carries_two byte number) number field ≡ true
      by field (inl e) = rw e (own_field (carries_two byte number) number)
      by field (inr e) = rw (e, t) (field_above number)

  single : (carries_two byte number ≡ true → ⊥) → Carries x (λ field. field ≡ number)
  single t =
      record {
        these = λ field e. of_media_lem x (carries_two byte number) m field ∙ rw e (own_field (carries_two byte number) number);
        no_other = λ field n. of_media_lem x (carries_two byte number) m field ∙ no_field (carries_two byte number) number field n (λ u _. t u);
      }

-- two are carried with the mark alone
marked : (x : Placed) → carries_two (get_or x.types x.piece.track 0) x.piece.field ≡ true → Progressive x
unfolding carries_two
marked x = go (has_mark (get_or x.types x.piece.track 0))
  where
    go : (b : Bool) → pick b (is_even x.piece.field) false ≡ true → b ≡ true
    go true e = refl
    go false e = e

whole_list : (s : List ℕ) (m x : Placed) (l : Latest s m x) → (packets s).list ≡ (l.before ++ (m ∷ l.between)) ++ (x ∷ l.after)
whole_list s m x l = l.all ∙ sym (append_assoc l.before (m ∷ l.between) (x ∷ l.after))

-- fields per frame 1 is what progressive means
is_one : (t : Track) → t.fields ≡ code.Is 1 → is_progressive t.fields ≡ true
unfolding is_progressive
is_one t e = rw e

pub odd_fields : OddFields
odd_fields =
    record {
      latest = latest_table;
      by_map = by_map;
      even = λ x m p e. both x m (two_carried _ _ p e);
      odd = λ x m p o. single x m (one_odd _ _ o);
      other = λ x m p. single x m (λ t. p (marked x t));
      elsewhere = λ x track field n. of_another x _ track field n;
      no_media = λ x n track field. no_media x _ n track field;
      narrow = λ s b track field h. narrow_from s (λ i. record { fits = b i }) track field 0 (replicate 64 0) h (packets s).list (all_there s);
      above = λ s n a m x l t e f k v. answers_by s n a x.piece.track (x.piece.field + 1) (l.before ++ (m ∷ l.between)) x l.after (whole_list s m x l)
          ((both x k (two_carried _ _ (by_map s m x l t e ∙ is_one t f) v)).these (x.piece.field + 1) (inr refl));
      still = still;
      even_before = λ s track field e. seek_alike s track field (alike_even track field e (packets s).list);
      track_before = λ s track n field. seek_alike s track field (alike_track track field (packets s).list n);
      as_before = λ s n track field. seek_alike s track field (alike_track track field (packets s).list (no_packet s track n));
    }
