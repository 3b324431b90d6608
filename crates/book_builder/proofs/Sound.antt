-- The entries of a stream are a good book: IDs up to 63, known types, rising offsets, and numbers that a record has room for.
use Prim.Native.Nat.{ℕ, zero, suc, ◌+◌, ◌-◌, ◌^◌, ◌<◌, ◌≤◌}
use mathlib.Core.Path.{◌≡◌, refl}
use mathlib.Core.Bool.{Bool, true, false}
use mathlib.Core.List.{List, [], ◌∷◌, ◌++◌}
use native.Mathlib.Omega.{arith}
use lib.ListN.{length, replicate}
use lib.Dec.{eqb, ltb}
use borrow.Author.Tests.{lt-ltb, le-ltb, ne_eqb}
use Rattle.std.specs.Prelude.{Result, Ok, Err}
use Rattle.plate.specs.Choice.{pick}
use Rattle.plate.specs.Ended.{none}
use Rattle.number.proofs.Laws.{Bytes}
use Rattle.media_type.specs.MediaType.{known_type}
use Rattle.media_type.proofs.Laws.{known_under}
use Rattle.field.specs.Field.{type_with, has_mark, is_even, carries_two}
use Rattle.field.proofs.Laws.{two_even, mark_back}
use Rattle.piece.specs.Piece.{piece_at}
use Rattle.piece.specs.declared.Piece.{Piece}
use Rattle.piece.proofs.Laws.{told}
use Rattle.piece.proofs.Fields.{field_fits}
use Rattle.stream.specs.Stream.{closed, runs_out, types_after, on_piece, packets_from, packets}
use Rattle.book.specs.Book.{sound_type, rises_at, stands, judge_book, good}
use Rattle.book.specs.declared.Entry.{Entry}
use Rattle.plate.specs.declared.Refusal.{Refusal}
use Rattle.book.proofs.Coding.{AllFit}
use Rattle.book_builder.specs.BookBuilder.{recorded, entry_of, entries_here, entries_of, entries_in}

-- a packet with a record is of known type
pub known_of : (x : Piece) → recorded x ≡ true → known_type x.media_type ≡ true
unfolding recorded
known_of x = go (eqb x.packet_type 0xBF)
  where
    go : (t : Bool) → pick t (known_type x.media_type) false ≡ true → known_type x.media_type ≡ true
    go true e = e
    go false e = absurd (let z : ◌≡◌ {A = ℕ} 0 1 = cc in omega arith)

-- the type byte that a packet of known type gets is good beside its number
marked_sound : (byte number type : ℕ) → known_type type ≡ true → sound_type (type_with (carries_two byte number) type) number ≡ true
unfolding sound_type type_with
marked_sound byte number type k = go (carries_two byte number) (two_even byte number)
  where
    go : (two : Bool) → (two ≡ true → is_even number ≡ true)
        → pick (has_mark (pick two (type + 64) type)) (pick (known_type (pick two (type + 64) type - 64)) (is_even number) false) (known_type (pick two (type + 64) type)) ≡ true
    go true e = let z : type + 64 - 64 ≡ type = omega arith in rw (mark_back true type (omega (arith, known_under type k)), z, k) (e refl)
    go false e = rw (mark_back false type (omega (arith, known_under type k))) k

-- entries that may stand behind n others, the latest of an offset, in a book with no fault
pub record Sound (n last : ℕ) (es : List Entry) : Type 0 where
  pub judged : judge_book n last es true ≡ good
  pub fit : AllFit es

-- every offset from a place on may stand behind n others, the latest of an offset
abbrev Low : ℕ → ℕ → ℕ → Type 0
Low n last at = (o : ℕ) → at ≤ o → pick (eqb n 0) true (ltb last o) ≡ true

nothing : (n last : ℕ) → Sound n last []
unfolding judge_book AllFit
nothing n last = record { judged = refl; fit = tt }

module _ (s : List ℕ) (b : Bytes s) (small : length s < 2 ^ 64) where
  -- a packet, and packets behind it
  on_whole : (at : ℕ) (first : Bool) (x : Piece) → piece_at s at first ≡ Ok x → (n last : ℕ) → Low n last at
      → (byte : ℕ) (es : List Entry) → ((m o : ℕ) → Low m o (at + x.len) → Sound m o es) → Sound n last (entries_here at byte x ++ es)
  unfolding entries_here judge_book AllFit stands rises_at
  on_whole at first x e n last low byte es rest = go (recorded x) refl
    where
      go : (t : Bool) → recorded x ≡ t → Sound n last (pick t (entry_of at byte x ∷ []) [] ++ es)
      go false q = rest n last (λ o h. low o (omega arith))
      go true q =
          let w = told s at first x e in
          let i = rest (n + 1) at (λ o h. rw (ne_eqb (n + 1) 0 (λ z. omega arith), lt-ltb at o (omega (arith, w.cut.least)))) in
          record {
            judged = rw (le-ltb 63 x.track (omega (arith, w.track)), marked_sound byte x.field x.media_type (known_of x q), low at (omega arith)) i.judged;
            fit = (record { field = field_fits s at first x b e; at = omega (arith, w.cut.within, w.cut.least) }, i.fit);
          }

  sound_from : (f : ℕ) (first : Bool) (types : List ℕ) (at n last : ℕ) → Low n last at → Sound n last (entries_of (packets_from s f first types at).list)
  unfolding packets_from entries_of
  sound_from zero first types at n last low = nothing n last
  sound_from (suc f) first types at n last low = step (λ ts k m o h. sound_from f false ts k m o h) (ltb at (length s)) (piece_at s at first) refl
    where
      step : ((ts : List ℕ) (k m o : ℕ) → Low m o k → Sound m o (entries_of (packets_from s f false ts k).list)) → (t : Bool) (a : Result Piece Refusal) → piece_at s at first ≡ a
          → Sound n last (entries_of (pick t (on_piece s at types (λ now_types next. packets_from s f false now_types next) a) (none runs_out)).list)
      step ih false a q = nothing n last
      step ih true (Err r) q = nothing n last
      step ih true (Ok x) q = on_whole at first x q n last low _ _ (by (eqb x.packet_type 0xFB))
        where
          by : (t : Bool) (m o : ℕ) → Low m o (at + x.len)
              → Sound m o (entries_of (pick t (none closed) (packets_from s f false (types_after s at x types) (at + x.len))).list)
          by true m o h = nothing m o
          by false m o h = ih (types_after s at x types) (at + x.len) m o h

  pub sound : Sound 0 0 (entries_in s)
  unfolding entries_in packets
  sound = sound_from (suc (length s)) true (replicate 64 0) 0 0 0 (λ o h. refl)
