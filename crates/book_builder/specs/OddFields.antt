-- What the mark of 02 §2 changed of a book: the type of some records, and of a stream whose maps never say fields per frame 1 nothing, byte for byte. Proved in proofs/OddFields.antt.
use Rattle.std.specs.Prelude.{ℕ, ◌+◌, ◌≡◌, true, List, [], ◌∷◌, ◌++◌, map, get_or}
use Rattle.plate.specs.Choice.{pick}
use Rattle.field.specs.Field.{has_mark, type_alone}
use Rattle.stream.specs.Stream.{Placed, packets, carries}
use Rattle.stream.specs.OddFields.{NeverOne}
use Rattle.book.specs.Book.{book_bytes}
use Rattle.book.specs.declared.Entry.{Entry}
use Rattle.book_builder.specs.BookBuilder.{recorded, entry_of, entries_in}

-- 01's record of a packet: its type alone
abbrev pub plain_entry : Placed → Entry
plain_entry x = record { track = x.piece.track; media_type = x.piece.media_type; field = x.piece.field; at = x.at }

unfoldable pub plain_entries : List Placed → List Entry
plain_entries [] = []
plain_entries (x ∷ xs) = pick (recorded x.piece) (plain_entry x ∷ []) [] ++ plain_entries xs

-- a record without its mark
abbrev pub bare_entry : Entry → Entry
bare_entry e = record { track = e.track; media_type = type_alone e.media_type; field = e.field; at = e.at }

pub record BookMarks : Type 0 where
  -- but for the marks a stream's records are 01's
  pub bare : (s : List ℕ) → map bare_entry (entries_in s) ≡ plain_entries (packets s).list
  -- a packet's record has the mark just where the packet carries the field above its number too
  pub mark : (x : Placed) → recorded x.piece ≡ true → has_mark (entry_of x.at (get_or x.types x.piece.track 0) x.piece).media_type ≡ carries x.piece.track (x.piece.field + 1) x
  -- and a stream whose maps never say 1 gets the book it got before
  pub as_before : (s : List ℕ) → NeverOne s (packets s).list → book_bytes (entries_in s) ≡ book_bytes (plain_entries (packets s).list)
