-- Readings of odd fields on progressive tracks (02, §2): streams, their seeks and books, and foreign books. Proved in proofs/OddFields.antt.
use Rattle.std.specs.Prelude.{ℕ, ◌+◌, ◌-◌, ◌/◌, ◌%◌, ◌≡◌, List, [], ◌∷◌, ◌++◌, length, get_or, replicate, Result, Ok, Err}
use Rattle.plate.specs.Plate.{refusal}
use Rattle.map.specs.Map as map
use Rattle.map.proofs.Samples.{headed}
use Rattle.stream.specs.Stream as stream
use Rattle.book.specs.Book as book
use Rattle.book_builder.specs.BookBuilder as builder
use Rattle.paper_readings.specs.Forms.{track, null}
use Rattle.paper_readings.specs.Streams.{room}
use Rattle.plate.specs.declared.Refusal.{Refusal}
use Rattle.plate.specs.declared.Fault.TheVariants as fault

-- a map without material, of some tracks
abbrev pub listing : List ℕ → List ℕ
listing ts = headed 0xBC (22 + length ts + (4 - (22 + length ts) % 4) % 4) ++ (0xE0 ∷ 0xFF ∷ 0 ∷ 0 ∷ 0 ∷ length ts ∷ ts) ++ replicate ((4 - (22 + length ts) % 4) % 4) 0

-- items: the name A, 720 lines, fields per frame
abbrev pub named : List ℕ
named = 0x4C ∷ 2 ∷ 0x41 ∷ 0 ∷ []

abbrev pub lines : List ℕ
lines = 0x51 ∷ 4 ∷ 0 ∷ 0 ∷ 0 ∷ 6 ∷ []

abbrev pub fields : ℕ → ℕ → List ℕ
fields high low = 0x52 ∷ 4 ∷ high ∷ high ∷ high ∷ low ∷ []

-- track 0 of type 20, MPEG-2 HD, with some items; the map of the reading has 44 bytes
abbrev pub video : List ℕ → List ℕ
video is = track 0x94 0xC0 is

abbrev pub clip : ℕ → List ℕ
clip n = listing (video (named ++ lines ++ fields 0 n))

-- a UMF of 24 bytes, EOS, and a media packet of 32
abbrev pub umf : List ℕ
umf = headed 0xFD 24 ++ replicate 8 0

abbrev pub eos : List ℕ
eos = headed 0xFB 16

abbrev pub media : ℕ → ℕ → ℕ → ℕ → List ℕ
media type id high low = headed 0xBF 32 ++ (type ∷ id ∷ high ∷ high ∷ (high + 1) % 256 ∷ low ∷ replicate 10 0)

-- media packets of track 0, type 20: `frame`, whose number is 256 and so many; `numbered`, with any number whose three high bytes are alike
abbrev pub frame : ℕ → List ℕ
frame low = media 20 0 0 low

abbrev pub numbered : ℕ → ℕ → List ℕ
numbered high low = headed 0xBF 32 ++ (20 ∷ 0 ∷ high ∷ high ∷ high ∷ low ∷ replicate 10 0)

-- the clip of the request, with fields per frame 1 or another: 300 at 68, 302 at 100, EOS
abbrev pub asked : List ℕ → List ℕ
asked m = m ++ umf ++ frame 44 ++ frame 46 ++ eos

-- one media packet, at 68 where the map has 44 bytes
abbrev pub one : List ℕ → List ℕ → List ℕ
one m p = m ++ umf ++ p ++ eos

-- the code turned from 1 to 2 and back, and left out: 300 at 68, 302 at 144, 304 at 220, 306 at 288 behind a map of 36
abbrev pub turned : List ℕ
turned = clip 1 ++ umf ++ frame 44 ++ clip 2 ++ frame 46 ++ clip 1 ++ frame 48 ++ listing (video (named ++ lines)) ++ frame 50 ++ eos

-- video with fields per frame 1 and sound with −1: a map of 56 bytes, then 300 of both, at 80 and 112
abbrev pub mixed : List ℕ
mixed = listing (video (named ++ lines ++ fields 0 1) ++ track 0x89 0xC1 (named ++ fields 0xFF 0xFF)) ++ umf ++ frame 44 ++ media 9 1 0 44 ++ eos

-- a record of track 0: a type byte, the number 256 and so many, or any of 32 bits, an offset
abbrev pub entry : ℕ → ℕ → ℕ → List ℕ
entry type low at = 0x47 ∷ 0x58 ∷ 0 ∷ type ∷ low ∷ 1 ∷ 0 ∷ 0 ∷ at % 256 ∷ at / 256 ∷ replicate 6 0

abbrev pub far : ℕ → ℕ → ℕ → List ℕ
far type low high = 0x47 ∷ 0x58 ∷ 0 ∷ type ∷ low ∷ high ∷ high ∷ high ∷ 68 ∷ replicate 7 0

abbrev pub NotThere : Result ℕ Refusal → Type 0
NotThere a = a ≡ Err (refusal fault.NotThere 0)

abbrev pub Bad : Result ℕ Refusal → Type 0
Bad a = a ≡ Err (refusal fault.Book 0)

pub record OddReadings : Type 0 where
  -- the clip of the request: accepted, the field above each number at its packet, and no other
  pub checked : stream.check_of (asked (clip 1)) ≡ Ok 5
  pub even : stream.seek_of (asked (clip 1)) 0 300 ≡ Ok 68
  pub above : stream.seek_of (asked (clip 1)) 0 301 ≡ Ok 68
  pub next : stream.seek_of (asked (clip 1)) 0 302 ≡ Ok 100
  pub last : stream.seek_of (asked (clip 1)) 0 303 ≡ Ok 100
  pub below : NotThere (stream.seek_of (asked (clip 1)) 0 299)
  pub over : NotThere (stream.seek_of (asked (clip 1)) 0 304)
  pub other_track : NotThere (stream.seek_of (asked (clip 1)) 1 301)
  -- its book: type bytes 54 in hex, and look-ups as seeks
  pub built : builder.build_answer (room 33) (asked (clip 1)) ≡ Ok 2
  pub written : builder.built_in (room 33) (asked (clip 1)) ≡ entry 0x54 44 68 ++ entry 0x54 46 100 ++ (0xEE ∷ [])
  pub looked_above : book.lookup_of (entry 0x54 44 68 ++ entry 0x54 46 100) 0 301 ≡ Ok 68
  pub looked_last : book.lookup_of (entry 0x54 44 68 ++ entry 0x54 46 100) 0 303 ≡ Ok 100
  pub looked_over : book.lookup_of (entry 0x54 44 68 ++ entry 0x54 46 100) 0 304 ≡ Err (refusal fault.NotThere 0)
  -- fields per frame 2, −1, −2, 3 or none: 16, and a record without the mark; accepted all the same
  pub interlaced : NotThere (stream.seek_of (asked (clip 2)) 0 301)
  pub interlaced_own : stream.seek_of (asked (clip 2)) 0 300 ≡ Ok 68
  pub interlaced_checked : stream.check_of (asked (clip 2)) ≡ Ok 5
  pub interlaced_written : builder.built_in (room 32) (asked (clip 2)) ≡ entry 0x14 44 68 ++ entry 0x14 46 100
  pub not_applicable : NotThere (stream.seek_of (asked (listing (video (named ++ lines ++ fields 0xFF 0xFF)))) 0 301)
  pub not_available_lem : NotThere (stream.seek_of (asked (listing (video (named ++ lines ++ fields 0xFF 0xFE)))) 0 301)
  pub reserved : NotThere (stream.seek_of (asked (listing (video (named ++ lines ++ fields 0 3)))) 0 301)
  pub no_item : NotThere (stream.seek_of (asked (listing (video (named ++ lines)))) 0 301)
  -- a null name hides 4D, 4E and 4F, and not this item; sound and time code may have it too
  pub null_name_lem : stream.seek_of (one (listing (video (null ++ lines ++ fields 0 1))) (frame 44)) 0 301 ≡ Ok 68
  pub sound : stream.seek_of (one (listing (track 0x89 0xC0 (named ++ lines ++ fields 0 1))) (media 9 0 0 44)) 0 301 ≡ Ok 68
  pub time_code : stream.seek_of (one (listing (track 0x87 0xC0 (named ++ lines ++ fields 0 1))) (media 7 0 0 44)) 0 301 ≡ Ok 68
  -- each packet goes by its own latest map
  pub turned_before : stream.seek_of turned 0 301 ≡ Ok 68
  pub turned_two : NotThere (stream.seek_of turned 0 303)
  pub turned_back : stream.seek_of turned 0 305 ≡ Ok 220
  pub turned_out : NotThere (stream.seek_of turned 0 307)
  pub turned_own : stream.seek_of turned 0 302 ≡ Ok 144
  pub turned_written : builder.built_in (room 64) turned ≡ entry 0x54 44 68 ++ entry 0x14 46 144 ++ entry 0x54 48 220 ++ entry 0x14 50 288
  -- another track of the map does not matter
  pub mixed_video : stream.seek_of mixed 0 301 ≡ Ok 80
  pub mixed_sound : NotThere (stream.seek_of mixed 1 301)
  pub mixed_own : stream.seek_of mixed 1 300 ≡ Ok 112
  -- an odd packet carries its number alone; of two carriers the first in the stream answers
  pub odd_before : stream.seek_of (clip 1 ++ umf ++ frame 45 ++ frame 44 ++ eos) 0 301 ≡ Ok 68
  pub odd_behind : stream.seek_of (clip 1 ++ umf ++ frame 44 ++ frame 45 ++ eos) 0 301 ≡ Ok 68
  pub odd_alone : NotThere (stream.seek_of (one (clip 1) (frame 45)) 0 302)
  pub odd_below : NotThere (stream.seek_of (one (clip 1) (frame 45)) 0 300)
  pub odd_written : builder.built_in (room 16) (one (clip 1) (frame 45)) ≡ entry 0x14 45 68
  -- the first and the last numbers: nothing is carried round
  pub zero : stream.seek_of (one (clip 1) (numbered 0 0)) 0 0 ≡ Ok 68
  pub one_above : stream.seek_of (one (clip 1) (numbered 0 0)) 0 1 ≡ Ok 68
  pub last_even : stream.seek_of (one (clip 1) (numbered 255 254)) 0 4294967294 ≡ Ok 68
  pub last_above : stream.seek_of (one (clip 1) (numbered 255 254)) 0 4294967295 ≡ Ok 68
  pub no_more : NotThere (stream.seek_of (one (clip 1) (numbered 255 254)) 0 4294967296)
  pub last_odd : stream.seek_of (one (clip 1) (numbered 255 255)) 0 4294967295 ≡ Ok 68
  pub past_odd : NotThere (stream.seek_of (one (clip 1) (numbered 255 255)) 0 4294967296)
  pub not_round : NotThere (stream.seek_of (one (clip 1) (numbered 255 255)) 0 0)
  -- a packet of reserved type on the ID carries nothing and has no record
  pub reserved_checked : stream.check_of (one (clip 1) (media 19 0 0 44)) ≡ Ok 4
  pub reserved_media : NotThere (stream.seek_of (one (clip 1) (media 19 0 0 44)) 0 300)
  pub reserved_above : NotThere (stream.seek_of (one (clip 1) (media 19 0 0 44)) 0 301)
  pub reserved_built : builder.build_answer (room 16) (one (clip 1) (media 19 0 0 44)) ≡ Ok 0
  -- foreign books: 64 beside an odd number, with a reserved type, or twice is 23
  pub marked_odd : Bad (book.lookup_of (entry 0x54 45 68) 0 300)
  pub marked_19 : Bad (book.lookup_of (entry 0x53 44 68) 0 300)
  pub marked_0 : Bad (book.lookup_of (entry 0x40 44 68) 0 300)
  pub twice : Bad (book.lookup_of (entry 0x94 44 68) 0 300)
  pub all_marks : Bad (book.lookup_of (entry 0xD4 44 68) 0 300)
  pub marked_last : Bad (book.lookup_of (far 0x54 255 255) 0 300)
  pub marked_1 : Bad (book.lookup_of (far 0x54 1 0) 0 300)
  -- and good ones answer by what they say: with the mark both numbers, without it one, the first record of two
  pub foreign_own : book.lookup_of (entry 0x54 44 68) 0 300 ≡ Ok 68
  pub foreign_above : book.lookup_of (entry 0x54 44 68) 0 301 ≡ Ok 68
  pub unmarked_own : book.lookup_of (entry 0x14 44 68) 0 300 ≡ Ok 68
  pub foreign_first : book.lookup_of (entry 0x14 45 68 ++ entry 0x54 44 100) 0 301 ≡ Ok 68
  pub foreign_second : book.lookup_of (entry 0x54 44 68 ++ entry 0x14 45 100) 0 301 ≡ Ok 68
  pub foreign_last : book.lookup_of (far 0x54 254 255) 0 4294967295 ≡ Ok 68
  pub foreign_zero : book.lookup_of (far 0x54 0 0) 0 1 ≡ Ok 68
  pub unmarked_above : book.lookup_of (entry 0x14 44 68) 0 301 ≡ Err (refusal fault.NotThere 0)
  pub foreign_below : book.lookup_of (entry 0x54 44 68) 0 299 ≡ Err (refusal fault.NotThere 0)
  pub foreign_over : book.lookup_of (entry 0x54 44 68) 0 302 ≡ Err (refusal fault.NotThere 0)
  pub foreign_round : book.lookup_of (far 0x14 255 255) 0 0 ≡ Err (refusal fault.NotThere 0)
  -- the table by ID: the type and 64, the type, and 0
  pub table_one : get_or (map.types_in (clip 1)) 0 0 ≡ 84
  pub table_two : get_or (map.types_in (clip 2)) 0 0 ≡ 20
  pub table_none : get_or (map.types_in (clip 1)) 1 0 ≡ 0
