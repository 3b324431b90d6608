-- What a UMF says (RDD 14, Tables 15 to 18 and 20; 02, §1): its preamble, payload and material descriptions, a track, a user record.
-- Numbers without a list of values are as stored, reserved words are left out, and a number outside its list counts as absent.
use Rattle.std.specs.Prelude.{ℕ, ◌+◌, ◌-◌, ◌*◌, ◌/◌, ◌%◌, ◌^◌, Bool, true, false, List, [], ◌∷◌, length, take, drop, eqb, leb, Option, Some, None, Result, Ok, Err, ⊤}
use Rattle.plate.specs.Choice.{pick, within}
use Rattle.plate.specs.Plate.{refusal}
use Rattle.number.specs.Number.{le}
use Rattle.packet.specs.Packet.{packet_at, type_umf}
use Rattle.map_items.specs.Judge.{has}
use Rattle.map_items.specs.Find.{missing, found}
use Rattle.umf.specs.Umf.{flag_of, length_of, payload_of, is_opened, parts_of, umf_verdict, Asked, refused, answered, asked_at}
use Rattle.umf.specs.declared.Described.TheVariants.{Tracks, Users}
use Rattle.umf_answer.specs.declared.Preamble.{Preamble}
use Rattle.umf_answer.specs.declared.Payload.{Payload}
use Rattle.umf_answer.specs.declared.Material.{Material}
use Rattle.umf_answer.specs.declared.UmfSays.{UmfSays}
use Rattle.umf_answer.specs.declared.UmfSays.TheVariants as umf
use Rattle.umf_answer.specs.declared.TrackSays.{TrackSays}
use Rattle.umf_answer.specs.declared.Owner.{Owner}
use Rattle.umf_answer.specs.declared.Owner.TheVariants as owner
use Rattle.umf_answer.specs.declared.UserSays.{UserSays}
use Rattle.packet.specs.declared.Packet.{Packet}
use Rattle.plate.specs.declared.Refusal.{Refusal}
use Rattle.plate.specs.declared.Fault.TheVariants as fault

-- a number as it is where a test holds, else absent: the one rule for values outside the tables
abbrev pub shown_if : Bool → ℕ → Option ℕ
shown_if b n = pick b (Some n) None

-- Table 15: flags 0 to 3; other values are reserved
unfoldable pub preamble_of : List ℕ → Preamble
preamble_of p = record { flag = shown_if (leb (flag_of p) 3) (flag_of p); len = length_of p }

-- Table 16, its ten numbers; the version shall be 3
unfoldable pub payload_says : List ℕ → Payload
payload_says y =
    record {
      total = le y 0x00 4;
      version = shown_if (eqb (le y 0x04 4) 3) (le y 0x04 4);
      tracks = le y 0x08 4;
      tracks_at = le y 0x0C 4;
      tracks_size = le y 0x10 4;
      segments = le y 0x14 4;
      segments_at = le y 0x18 4;
      segments_size = le y 0x1C 4;
      users_at = le y 0x20 4;
      users_size = le y 0x24 4;
    }

-- a time of 64 bits, its more significant word first
abbrev pub time_of : List ℕ → ℕ → ℕ
time_of y at = le y at 4 * 2 ^ 32 + le y (at + 4) 4

-- Table 17, which begins behind the 48 bytes of Table 16; every bit of the attributes has a line there
unfoldable pub material_says : List ℕ → Material
material_says y =
    record {
      attributes = le y (48 + 0x00) 4;
      longest = le y (48 + 0x04) 4;
      shortest = le y (48 + 0x08) 4;
      mark_in = le y (48 + 0x0C) 4;
      mark_out = le y (48 + 0x10) 4;
      time_in = le y (48 + 0x14) 4;
      time_out = le y (48 + 0x18) 4;
      modified = time_of y (48 + 0x1C);
      created = time_of y (48 + 0x24);
      audio = le y (48 + 0x30) 2;
      time_codes = le y (48 + 0x32) 2;
      mpeg = le y (48 + 0x36) 2;
    }

-- what an accepted packet says
unfoldable pub says_of : List ℕ → UmfSays
says_of p =
    pick (is_opened p)
    (umf.Opened (record { len = length_of p; payload = payload_says (payload_of p); material = material_says (payload_of p); users = length (parts_of Users (payload_of p)).list }))
    (umf.Closed (preamble_of p))

abbrev pub if_accepted : List ℕ → Result ⊤ Refusal → Result UmfSays Refusal
if_accepted p (Err r) = Err r
if_accepted p (Ok _) = Ok (says_of p)

abbrev pub if_whole : List ℕ → ℕ → Result Packet Refusal → Result UmfSays Refusal
if_whole s at (Err r) = Err r
if_whole s at (Ok w) = if_accepted (take w.len (drop at s)) (umf_verdict (take w.len (drop at s)))

-- the UMF packet at a position
unfoldable pub umf_at : List ℕ → ℕ → Result UmfSays Refusal
umf_at s at = if_whole s at (packet_at s at type_umf)

-- Table 18: the letters of the types of tracks
abbrev pub letters : List ℕ
letters =
    0x41 ∷  -- A, audio
    0x44 ∷  -- D, DV-based 25 Mb/s
    0x45 ∷  -- E, DV-based 50 Mb/s
    0x46 ∷  -- F, DV-based 100 Mb/s
    0x48 ∷  -- H, MPEG-2 HD video
    0x49 ∷  -- I, AVC-Intra-based video
    0x4C ∷  -- L, MPEG-1 video
    0x4D ∷  -- M, MPEG-2 SD video
    0x4E ∷  -- N, ancillary data
    0x54 ∷  -- T, time code
    0x56 ∷  -- V, Motion JPEG
    []

-- a number of 16 bits, the letter its high byte and the logical number its low one (D0 is 4430): 0 to 9, of audio tracks A to V too
unfoldable pub is_track : ℕ → Bool
is_track n =
    pick (has (n / 256) letters)
    (pick (within 0x30 0x39 (n % 256)) true (pick (eqb (n / 256) 0x41) (within 0x41 0x56 (n % 256)) false))
    false

abbrev pub track_shown : ℕ → Option ℕ
track_shown n = shown_if (is_track n) n

-- Table 18, a track description's bytes
unfoldable pub track_of : List ℕ → TrackSays
track_of d = record { track = track_shown (le d 0x00 2); segments = le d 0x02 2 }

-- Table 20: 0 is no track
unfoldable pub owner_of : ℕ → Owner
owner_of n = pick (eqb n 0) owner.NoTrack (pick (is_track n) (owner.Track n) owner.Absent)

-- Table 20, the bytes of a user record that begins at place q: the data begins at 16, and the ending 00 and the reserved byte are none of it
unfoldable pub user_of : ℕ → List ℕ → UserSays
user_of q d =
    record {
      position = le d 0x04 4;
      owner = owner_of (le d 0x08 2);
      sequence = le d 0x0A 2;
      key = le d 0x0C 4;
      place = record { at = q + 0x10; len = length d - 18 };
    }

-- 16 where there is no such
abbrev pub track_in : Asked → Result TrackSays Refusal
track_in (refused r) = Err r
track_in (answered missing) = Err (refusal fault.NotThere 0)
track_in (answered (found q d)) = Ok (track_of d)

unfoldable pub track_at : List ℕ → ℕ → ℕ → Result TrackSays Refusal
track_at s at n = track_in (asked_at s at Tracks n)

abbrev pub user_in : Asked → Result UserSays Refusal
user_in (refused r) = Err r
user_in (answered missing) = Err (refusal fault.NotThere 0)
user_in (answered (found q d)) = Ok (user_of q d)

unfoldable pub user_at : List ℕ → ℕ → ℕ → Result UserSays Refusal
user_at s at n = user_in (asked_at s at Users n)
