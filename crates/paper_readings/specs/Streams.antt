-- A stream put together, with its check, its seeks, its book and look-ups: what is to be computed of it. Proved in proofs/Streams.antt.
use Rattle.std.specs.Prelude.{ℕ, ◌≡◌, List, [], ◌∷◌, ◌++◌, replicate, take, Ok, Err}
use Rattle.plate.specs.Plate.{refusal, torn}
use Rattle.stream.specs.Stream as stream
use Rattle.book.specs.Book as book
use Rattle.book_builder.specs.BookBuilder as builder
use Rattle.map.proofs.Samples.{headed, M}
use Rattle.paper_readings.specs.Forms.{with, name, rate, mpeg}
use Rattle.plate.specs.declared.Fault.TheVariants as fault

-- a media packet of track 1, type 10, with a field number under 256
abbrev pub carrying : ℕ → List ℕ
carrying field = headed 0xBF 32 ++ (10 ∷ 1 ∷ 0 ∷ 0 ∷ 0 ∷ field ∷ replicate 10 0)

-- M, a UMF, fields 0 and 1 of track 1, EOS: packets at 0, 44, 60, 92 and 124
abbrev pub S : List ℕ
S = M ++ headed 0xFD 16 ++ carrying 0 ++ carrying 1 ++ headed 0xFB 16

-- the same without media, and without a UMF
abbrev pub mute : List ℕ
mute = M ++ headed 0xFD 16 ++ headed 0xFB 16

abbrev pub unnoted : List ℕ
unnoted = M ++ carrying 0 ++ headed 0xFB 16

-- M with a 4F behind the rate, 48 bytes, and a stream whose second map it is
abbrev pub deformed : List ℕ
deformed = with 0x8A (name ++ rate ++ mpeg)

abbrev pub reformed : List ℕ
reformed = M ++ headed 0xFD 16 ++ deformed ++ headed 0xFB 16

-- an FLT without entries that is not second, at 60, and a map behind it, where only EOS may stand
abbrev pub due : List ℕ → List ℕ
due map = M ++ headed 0xFD 16 ++ headed 0xFC 24 ++ (1 ∷ replicate 7 0) ++ map ++ headed 0xFB 16

-- the book of S: two records of 16 bytes
abbrev pub B : List ℕ
B =
    0x47 ∷ 0x58 ∷ 1 ∷ 10 ∷ 0 ∷ 0 ∷ 0 ∷ 0 ∷ 60 ∷ 0 ∷ 0 ∷ 0 ∷ 0 ∷ 0 ∷ 0 ∷ 0
    ∷ 0x47 ∷ 0x58 ∷ 1 ∷ 10 ∷ 1 ∷ 0 ∷ 0 ∷ 0 ∷ 92 ∷ 0 ∷ 0 ∷ 0 ∷ 0 ∷ 0 ∷ 0 ∷ 0
    ∷ []

-- a lent buffer
abbrev pub room : ℕ → List ℕ
room n = replicate n 0xEE

pub record Computed : Type 0 where
  -- the check: accepted, with two numbers of packets; and no UMF is 21 at the EOS
  pub checked : stream.check_of S ≡ Ok 5
  pub mute_checked : stream.check_of mute ≡ Ok 3
  pub no_umf : stream.check_of unnoted ≡ Err (refusal fault.NoUmf 76)
  -- cut inside the packet at 60: 12 bytes lack, to check, seek and builder alike; with 11 more one lacks, and with 12 the packet is whole, and the bytes run out behind it
  pub torn_checked : stream.check_of (take 80 S) ≡ Err (torn 60 12)
  pub torn_sought : stream.seek_of (take 80 S) 1 0 ≡ Err (torn 60 12)
  pub torn_built : builder.build_answer (room 33) (take 80 S) ≡ Err (torn 60 12)
  pub one_lacks : stream.check_of (take 91 S) ≡ Err (torn 60 1)
  pub none_lacks : stream.check_of (take 92 S) ≡ Err (refusal fault.StreamEnd 92)
  -- of M, cut to 30 bytes, 14 lack; cut to 15, no length is known
  pub map_torn : stream.check_of (take 30 M) ≡ Err (torn 0 14)
  pub map_short : stream.check_of (take 15 M) ≡ Err (refusal fault.FewBytes 0)
  -- a first packet that is torn and no map: 5 before 17
  pub torn_first : stream.check_of (headed 0xFD 20 ++ replicate 3 0) ≡ Err (torn 0 1)
  pub no_map_first : stream.check_of (headed 0xFD 20 ++ replicate 4 0) ≡ Err (refusal fault.NoMapFirst 0)
  -- a second map with the wrong form, at 60: 29 at its tag, 43 behind that, to check, seek and builder alike; the bytes before it only run out; as the first map, at 43
  pub wrong_checked : stream.check_of reformed ≡ Err (refusal fault.WrongForm 103)
  pub wrong_sought : stream.seek_of reformed 1 0 ≡ Err (refusal fault.WrongForm 103)
  pub wrong_built : builder.build_answer (room 33) reformed ≡ Err (refusal fault.WrongForm 103)
  pub before_wrong : stream.check_of (take 60 reformed) ≡ Err (refusal fault.StreamEnd 60)
  pub wrong_first : stream.check_of (deformed ++ headed 0xFD 16 ++ headed 0xFB 16) ≡ Err (refusal fault.WrongForm 43)
  -- and before 19, which another map there is refused with
  pub wrong_due : stream.check_of (due deformed) ≡ Err (refusal fault.WrongForm 127)
  pub right_due : stream.check_of (due M) ≡ Err (refusal fault.LocatorPlace 84)
  -- seek: each field where it lies, and 16 for a field, or a track, that is not there; the check's refusal first
  pub field_0 : stream.seek_of S 1 0 ≡ Ok 60
  pub field_1 : stream.seek_of S 1 1 ≡ Ok 92
  pub no_field : stream.seek_of S 1 2 ≡ Err (refusal fault.NotThere 0)
  pub no_track : stream.seek_of S 2 0 ≡ Err (refusal fault.NotThere 0)
  pub not_checked : stream.seek_of unnoted 1 0 ≡ Err (refusal fault.NoUmf 76)
  -- the builder: two records, or none, or 13 where one byte is missing, or the check's refusal
  pub two : builder.build_answer (room 33) S ≡ Ok 2
  pub none : builder.build_answer (room 33) mute ≡ Ok 0
  pub no_room : builder.build_answer (room 31) S ≡ Err (refusal fault.Room 0)
  pub not_built : builder.build_answer (room 33) unnoted ≡ Err (refusal fault.NoUmf 76)
  -- the buffer: the book, and the byte beyond it; of a stream without media nothing, and untouched where the build is refused
  pub written : builder.built_in (room 33) S ≡ B ++ (0xEE ∷ [])
  pub mute_written : builder.built_in (room 33) mute ≡ room 33
  pub untouched : builder.built_in (room 31) S ≡ room 31
  -- look-up: what seek gives; 16, and 23 for the second record, cut
  pub record_0 : book.lookup_of B 1 0 ≡ Ok 60
  pub record_1 : book.lookup_of B 1 1 ≡ Ok 92
  pub no_record : book.lookup_of B 1 2 ≡ Err (refusal fault.NotThere 0)
  pub cut : book.lookup_of (take 31 B) 1 0 ≡ Err (refusal fault.Book 1)
