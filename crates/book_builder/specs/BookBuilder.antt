-- The building of a seek book (01, "Stream, seek, book"): the entries of a stream's packets, the answer, and what the lent buffer holds then.
use Rattle.std.specs.Prelude.{ℕ, ◌*◌, Bool, false, List, [], ◌∷◌, ◌++◌, length, get_or, drop, eqb, ltb, Result, Ok, Err}
use Rattle.packet.specs.Packet.{type_media}
use Rattle.plate.specs.Choice.{pick}
use Rattle.plate.specs.Plate.{refusal}
use Rattle.media_type.specs.MediaType.{known_type}
use Rattle.field.specs.Field.{type_with, carries_two}
use Rattle.piece.specs.declared.Piece.{Piece}
use Rattle.stream.specs.Stream.{Placed, packets, check_of}
use Rattle.book.specs.Book.{book_bytes}
use Rattle.book.specs.declared.Entry.{Entry}
use Rattle.plate.specs.declared.Refusal.{Refusal}
use Rattle.plate.specs.declared.Fault.TheVariants as fault

-- a packet has a record if it is media of known type
unfoldable pub recorded : Piece → Bool
recorded x = pick (eqb x.packet_type type_media) (known_type x.media_type) false

-- the record of a packet at an offset: its type has the mark just where the packet carries two fields (02, §2), by the marked type that the latest map gives its ID
abbrev pub entry_of : ℕ → ℕ → Piece → Entry
entry_of at byte x = record { track = x.track; media_type = type_with (carries_two byte x.field) x.media_type; field = x.field; at = at }

unfoldable pub entries_here : ℕ → ℕ → Piece → List Entry
entries_here at byte x = pick (recorded x) (entry_of at byte x ∷ []) []

-- one record a packet that has one, in stream order
unfoldable pub entries_of : List Placed → List Entry
entries_of [] = []
entries_of (x ∷ xs) = entries_here x.at (get_or x.types x.piece.track 0) x.piece ++ entries_of xs

-- the entries of a stream; of one that the check refuses, those of the packets that its bytes give, which no answer shows
unfoldable pub entries_in : List ℕ → List Entry
entries_in s = entries_of (packets s).list

-- the check's refusal first; then 13 exactly when the room is under 16 times the records; else their number
abbrev pub in_room : ℕ → ℕ → Result ℕ Refusal → Result ℕ Refusal
in_room room n (Err r) = Err r
in_room room n (Ok k) = pick (ltb room (16 * n)) (Err (refusal fault.Room 0)) (Ok n)

unfoldable pub build_answer : List ℕ → List ℕ → Result ℕ Refusal
build_answer l s = in_room (length l) (length (entries_in s)) (check_of s)

-- the records at the buffer's start, if there was no refusal; all else stays
abbrev pub records_written_in : List ℕ → List ℕ → Result ℕ Refusal → List ℕ
records_written_in l bytes (Err r) = l
records_written_in l bytes (Ok n) = bytes ++ drop (length bytes) l

unfoldable pub built_in : List ℕ → List ℕ → List ℕ
built_in l s = records_written_in l (book_bytes (entries_in s)) (build_answer l s)
