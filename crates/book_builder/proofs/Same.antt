-- The book of a stream that passes the check: it is a good book, and lookup in it gives what seek gives in the stream, for every track and field.
use Prim.Native.Nat.{ℕ, ◌*◌, ◌^◌, ◌<◌, ◌≤◌}
use mathlib.Core.Path.{◌≡◌, refl, ◌∙◌, ap}
use mathlib.Core.Bool.{Bool, true, false}
use mathlib.Core.List.{List, [], ◌∷◌, ◌++◌}
use native.Mathlib.Omega.{arith}
use lib.ListN.{length, get_or, take, drop}
use lib.Seq.{take-append_seam, drop-append_seam}
use lib.Dec.{eqb, ltb}
use borrow.Author.Tests.{le-ltb}
use Rattle.std.specs.Prelude.{Option, Some, None, Result, Ok, Err}
use Rattle.plate.specs.Choice.{pick}
use Rattle.plate.specs.Plate.{refusal}
use Rattle.plate.specs.declared.Refusal.{Refusal}
use Rattle.plate.specs.declared.Fault.TheVariants as fault
use Rattle.number.proofs.Laws.{Bytes}
use Rattle.media_type.specs.MediaType.{known_type}
use Rattle.media_type.proofs.Laws.{known_under}
use Rattle.field.specs.Field.{carries_two, is_field}
use Rattle.field.proofs.Laws.{mark_back}
use Rattle.stream.specs.Stream.{Placed, packets, check_of, carries_as, carries, first_of, seek_of, or_not_there}
use Rattle.book.specs.Book.{book_bytes, judge_book, good, book_of, Offset, nothing, there, is_of, first_in, lookup_of, or_not_there as or_no_record}
use Rattle.book.proofs.Coding.{length-bytes, book_back, lookup_back}
use Rattle.book_builder.specs.BookBuilder.{recorded, entry_of, entries_here, entries_of, entries_in, in_room, build_answer, built_in}
use Rattle.book_builder.proofs.Sound.{sound}

abbrev spot_of : Offset → Option ℕ
spot_of (there o) = Some o
spot_of nothing = None

-- one packet: it carries the field of the track where its record is of that track and field
first_with : (track field : ℕ) (x : Placed) (xs : List Placed) → spot_of (first_in track field (entries_of xs)) ≡ first_of track field xs
    → spot_of (first_in track field (entries_here x.at (get_or x.types x.piece.track 0) x.piece ++ entries_of xs)) ≡ pick (carries track field x) (Some x.at) (first_of track field xs)
unfolding entries_here recorded carries_as first_in is_of
first_with track field x xs i =
    go (eqb x.piece.packet_type 0xBF) (known_type x.piece.media_type) (eqb x.piece.track track) (is_field two x.piece.field field) refl refl refl
  where
    byte : ℕ
    byte = get_or x.types x.piece.track 0

    two : Bool
    two = carries_two byte x.piece.field

    go : (a k b d : Bool) → known_type x.piece.media_type ≡ k → eqb x.piece.track track ≡ b → is_field two x.piece.field field ≡ d
        → spot_of (first_in track field (pick (pick a k false) (entry_of x.at byte x.piece ∷ []) [] ++ entries_of xs))
        ≡ pick (pick a (pick b (pick d k false) false) false) (Some x.at) (first_of track field xs)
    go true true true true k p q = rw (p, mark_back two x.piece.media_type (omega (arith, known_under _ k)), q)
    go true true true false k p q = rw (p, mark_back two x.piece.media_type (omega (arith, known_under _ k)), q) i
    go true true false d k p q = rw p i
    go true false true true k p q = i
    go true false true false k p q = i
    go true false false d k p q = i
    go false k b d e p q = i

first_same : (track field : ℕ) (xs : List Placed) → spot_of (first_in track field (entries_of xs)) ≡ first_of track field xs
unfolding entries_of first_in first_of
first_same track field [] = refl
first_same track field (x ∷ xs) = first_with track field x xs (first_same track field xs)

answer_same : (a : Offset) → or_no_record a ≡ or_not_there (spot_of a)
answer_same (there o) = refl
answer_same nothing = refl

first_in_lem : (s : List ℕ) (track field : ℕ) → spot_of (first_in track field (entries_in s)) ≡ first_of track field (packets s).list
unfolding entries_in
first_in_lem s track field = first_same track field (packets s).list

-- a book is good: no record of it is bad, and nothing else stands in it
abbrev pub GoodBook : List ℕ → Type 0
GoodBook book = judge_book 0 0 (book_of book).list (book_of book).end ≡ good

-- what an answer of n records tells: the stream passes the check, and n is the number of its records
record Told (s : List ℕ) (n : ℕ) : Type 0 where
  packets : ℕ
  passed : check_of s ≡ Ok packets
  many : n ≡ length (entries_in s)

told : (l s : List ℕ) (n : ℕ) → build_answer l s ≡ Ok n → Told s n
unfolding build_answer
told l s n = go (check_of s) (ltb (length l) (16 * length (entries_in s))) refl refl
  where
    go : (a : Result ℕ Refusal) (t : Bool) → check_of s ≡ a → ltb (length l) (16 * length (entries_in s)) ≡ t → in_room (length l) (length (entries_in s)) a ≡ Ok n → Told s n
    go (Err r) t p q e = absurd (let z : ◌≡◌ {A = ℕ} 0 1 = cc in omega arith)
    go (Ok k) t p q e = by t (rw q at e)
      where
        by : (t : Bool) → pick t (Err (refusal fault.Room 0)) (Ok (length (entries_in s))) ≡ Ok n → Told s n
        by true e = absurd (let z : ◌≡◌ {A = ℕ} 0 1 = cc in omega arith)
        by false e = record { packets = k; passed = p; many = cc }

-- what stands in the buffer after an answer of n records: the records of the stream, at its start
pub book_of_lem : (l s : List ℕ) (n : ℕ) → build_answer l s ≡ Ok n → take (16 * n) (built_in l s) ≡ book_bytes (entries_in s)
unfolding built_in
book_of_lem l s n e =
    let a : 16 * n ≡ length (book_bytes (entries_in s)) = omega (arith, length-bytes (entries_in s), (told l s n e).many) in
    rw (e, a) (take-append_seam (book_bytes (entries_in s)) (drop (length (book_bytes (entries_in s))) l))

-- a number of records is that of the stream's records
pub many_of : (l s : List ℕ) (n : ℕ) → build_answer l s ≡ Ok n → n ≡ length (entries_in s)
many_of l s n e = (told l s n e).many

-- a stream that passes the check is answered by the number of its records, where the buffer has room for them
pub answered : (l s : List ℕ) (n : ℕ) → check_of s ≡ Ok n → 16 * length (entries_in s) ≤ length l → build_answer l s ≡ Ok (length (entries_in s))
unfolding build_answer
answered l s n e h = rw (e, le-ltb (length l) (16 * length (entries_in s)) h)

-- the bytes beyond the book stay
pub beyond_stays : (l s : List ℕ) (n : ℕ) → build_answer l s ≡ Ok n → drop (16 * n) (built_in l s) ≡ drop (16 * n) l
unfolding built_in
beyond_stays l s n e =
    let a : 16 * n ≡ length (book_bytes (entries_in s)) = omega (arith, length-bytes (entries_in s), (told l s n e).many) in
    rw (e, a) (drop-append_seam (book_bytes (entries_in s)) (drop (length (book_bytes (entries_in s))) l))

-- a refused build leaves every byte as it was
pub refused_stays : (l s : List ℕ) (r : Refusal) → build_answer l s ≡ Err r → built_in l s ≡ l
unfolding built_in
refused_stays l s r e = rw e

-- s is what a slice lends: bytes, fewer than 2^64; l is the lent buffer
module _ (s : List ℕ) (b : Bytes s) (small : length s < 2 ^ 64) where
  pub records_good : GoodBook (book_bytes (entries_in s))
  records_good = rw (book_back (entries_in s) (sound s b small).fit) (sound s b small).judged

  -- for every stream that passes the check, lookup in its records gives what seek gives: the offset, or 16
  pub records_same : (n : ℕ) → check_of s ≡ Ok n → (track field : ℕ) → lookup_of (book_bytes (entries_in s)) track field ≡ seek_of s track field
  unfolding seek_of
  records_same n e track field =
      rw (e, lookup_back (entries_in s) track field (sound s b small).fit, (sound s b small).judged)
      (answer_same (first_in track field (entries_in s)) ∙ ap or_not_there (first_in_lem s track field))

  module _ (l : List ℕ) (n : ℕ) (e : build_answer l s ≡ Ok n) where
    -- a built book is a good book
    pub good_built : GoodBook (take (16 * n) (built_in l s))
    good_built = rw (book_of_lem l s n e) records_good

    -- lookup in a built book gives what seek gives
    pub lookup_is_seek : (track field : ℕ) → lookup_of (take (16 * n) (built_in l s)) track field ≡ seek_of s track field
    lookup_is_seek track field = let t = told l s n e in rw (book_of_lem l s n e) (records_same t.packets t.passed track field)
