-- The proofs of specs/OddFields.antt.
use Prim.Native.Nat.{ℕ, ◌+◌}
use mathlib.Core.Path.{◌≡◌, refl, sym, ap, ◌∙◌}
use mathlib.Core.Bool.{Bool, true, false}
use mathlib.Core.List.{List, [], ◌∷◌, ◌++◌, map}
use native.Mathlib.Omega.{arith}
use lib.ListN.{get_or}
use lib.Dec.{eqb}
use borrow.Author.Tests.{eq-eqb, ne_eqb, eqb-true}
use Rattle.plate.specs.Choice.{pick}
use Rattle.media_type.specs.MediaType.{known_type}
use Rattle.media_type.proofs.Laws.{known_under}
use Rattle.field.specs.Field.{type_with, has_mark, carries_two, is_field}
use Rattle.field.proofs.Laws.{mark_back, type_back}
use Rattle.stream.specs.Stream.{Placed, packets, carries}
use Rattle.stream.specs.OddFields.{Media, NotProgressive}
use Rattle.stream.proofs.OddFields.{not_true, one_unmarked, of_media_lem, no_packet}
use Rattle.book.specs.Book.{book_bytes}
use Rattle.book_builder.specs.BookBuilder.{recorded, entry_of, entries_here, entries_of, entries_in}
use Rattle.book_builder.specs.OddFields.{plain_entry, plain_entries, bare_entry, BookMarks}
use Rattle.book_builder.proofs.Sound.{known_of}

module _ (x : Placed) where
  abbrev byte : ℕ
  byte = get_or x.types x.piece.track 0

  abbrev two : Bool
  two = carries_two byte x.piece.field

  -- of a packet that has a record
  module _ (r : recorded x.piece ≡ true) where
    is_media : Media x
    unfolding recorded
    is_media = record { media = eqb-true x.piece.packet_type 0xBF (go (eqb x.piece.packet_type 0xBF) r); known = known_of x.piece r }
      where
        go : (b : Bool) → pick b (known_type x.piece.media_type) false ≡ true → b ≡ true
        go true e = refl
        go false e = e

    marked_above : has_mark (entry_of x.at byte x.piece).media_type ≡ carries x.piece.track (x.piece.field + 1) x
    unfolding is_field
    marked_above =
        mark_back two x.piece.media_type (omega (arith, known_under _ (known_of x.piece r)))
        ∙ sym (of_media_lem x two is_media (x.piece.field + 1) ∙ rw (ne_eqb x.piece.field (x.piece.field + 1) (λ z. omega (arith, z)), eq-eqb (x.piece.field + 1) (x.piece.field + 1) refl) (go two))
      where
        go : (b : Bool) → pick b true false ≡ b
        go true = refl
        go false = refl

bare_entries : (xs : List Placed) → map bare_entry (entries_of xs) ≡ plain_entries xs
unfolding entries_of entries_here plain_entries
bare_entries [] = refl
bare_entries (x ∷ xs) = go (recorded x.piece) refl (bare_entries xs)
  where
    go : (b : Bool) → recorded x.piece ≡ b → map bare_entry (entries_of xs) ≡ plain_entries xs
        → map bare_entry (pick b (entry_of x.at (byte x) x.piece ∷ []) [] ++ entries_of xs) ≡ pick b (plain_entry x ∷ []) [] ++ plain_entries xs
    go true r e = rw (type_back (two x) x.piece.media_type (omega (arith, known_under _ (known_of x.piece r))), e)
    go false r e = e

-- no packet of any track is progressive
plain_entries_lem : (xs : List Placed) → ((track : ℕ) → NotProgressive track xs) → entries_of xs ≡ plain_entries xs
unfolding entries_of entries_here plain_entries type_with
plain_entries_lem [] n = refl
plain_entries_lem (x ∷ xs) n =
    rw (one_unmarked (byte x) x.piece.field (not_true (has_mark (byte x)) ((n x.piece.track).0 refl)), plain_entries_lem xs (λ track. (n track).1))

pub book_marks : BookMarks
unfolding entries_in
book_marks =
    record {
      bare = λ s. bare_entries (packets s).list;
      mark = marked_above;
      as_before = λ s n. ap book_bytes (plain_entries_lem (packets s).list (λ track. no_packet s track n));
    }
