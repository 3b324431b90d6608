-- How long a written map can be (RDD 14, clause 7.1, Tables 3 to 6; 01, "Writers"; docs/DECISIONS.md, F22): what no input without fault passes, an input that reaches it, and the room that is enough for every map.
-- A length word states up to 65,535 bytes, so each section fits, and no refusal is needed for one that does not. Proved in proofs/Largest.antt.
use Rattle.std.specs.Prelude.{ℕ, zero, suc, ◌+◌, ◌-◌, ◌≤◌, ◌<◌, ◌≡◌, true, false, List, [], ◌∷◌, ◌++◌, map, length, replicate, Ok, Err, None}
use Rattle.plate.specs.Plate.{number}
use Rattle.plate.specs.declared.Refusal.{Refusal}
use Rattle.plate.specs.declared.Fault.TheVariants as fault
use Rattle.map_items.specs.Items.{items_bytes}
use Rattle.map_items.specs.Judge.{has}
use Rattle.map_tracks.specs.Tracks as tracks
use Rattle.map.specs.Encode.{TrackParts, MapParts, described}
use Rattle.packet_writer.specs.Write.{refused}
use Rattle.map_given.specs.Given.{tracks_given}
use Rattle.map_given.specs.Faults.{fault_of, any_wrong}
use Rattle.map_writer.specs.Write.{parts_given, map_packet, map_written_answer}

-- the lengths of the two sections
abbrev pub material_length : MapParts → ℕ
material_length p = length (items_bytes p.material)

abbrev pub tracks_length : MapParts → ℕ
tracks_length p = length (tracks.descriptions_bytes (map described p.tracks))

-- a track's length, its header included; and what holds of the length of every track
abbrev pub track_length : TrackParts → ℕ
track_length t = length (tracks.descriptions_bytes (described t ∷ []))

abbrev pub Each : (ℕ → Type 0) → List TrackParts → Type 0
Each Long [] = Unit {0}
Each Long (t ∷ ts) = Long (track_length t) × Each Long ts

-- the sizes of the map that an input makes, held against the bounds: they are at most these, or just these
pub record Sizes (Holds : ℕ → ℕ → Type 0) (text ms ts : List ℕ) : Type 0 where
  pub count : Holds (length (parts_given text ms ts).tracks) 64
  -- 4 for the header, 257 for the name, 257 for the 4F, 6 for the 4E, 18 for the codes; a track with a 4D in the 4F's place has 295 at most
  pub track : Each (λ n. Holds n 542) (parts_given text ms ts).tracks
  pub track_section : Holds (tracks_length (parts_given text ms ts)) 34688
  -- 257 for the name, 30 for the numbers
  pub material_section : Holds (material_length (parts_given text ms ts)) 287
  -- 22 for the packet's header, the preamble and the two length words; the padding comes on top
  pub used : Holds (22 + material_length (parts_given text ms ts) + tracks_length (parts_given text ms ts)) 34997
  pub packet : Holds (length (map_packet text ms ts)) 35000

-- the largest map, by the writer's rules, which don't open a 4F: one text of 254 bytes for every name and 4F, and 1 for every number and code
abbrev pub largest_text : List ℕ
largest_text = replicate 254 0x41

-- slots: all of the text, the number or code 1, and an absent one
abbrev whole : List ℕ
whole = 1 ∷ 0 ∷ 254 ∷ []

abbrev one : List ℕ
one = 1 ∷ 1 ∷ 0 ∷ []

abbrev absent : List ℕ
absent = 0 ∷ 0 ∷ 0 ∷ []

abbrev pub largest_material : List ℕ
largest_material = whole ++ one ++ one ++ one ++ one ++ one

-- tracks of type 11, MPEG-2 525, from an ID on: name, no 4D, 4E, 4F, rate, lines, fields
abbrev pub largest_tracks_from : ℕ → ℕ → List ℕ
largest_tracks_from zero id = []
largest_tracks_from (suc n) id = (11 ∷ id ∷ []) ++ whole ++ absent ++ one ++ whole ++ one ++ one ++ one ++ largest_tracks_from n (id + 1)

abbrev pub largest_tracks : List ℕ
largest_tracks = largest_tracks_from 64 0

pub record Largest : Type 0 where
  -- no input without 24, 11 and 10 passes the bounds
  pub most : (text ms ts : List ℕ) → fault_of text ms ts ≡ None → Sizes ◌≤◌ text ms ts
  -- so each section fits its length word
  pub fits : (text ms ts : List ℕ) → fault_of text ms ts ≡ None → (material_length (parts_given text ms ts) ≤ 65535) × (tracks_length (parts_given text ms ts) ≤ 65535)
  -- and a length that is answered is 35,000 at most
  pub lengths : (out : List ℕ) (at : ℕ) (text ms ts : List ℕ) (n : ℕ) → map_written_answer out at text ms ts ≡ Ok n → n ≤ 35000
  -- the largest map, which has no 24, 11 or 10 and no wrong form, is at every one of the bounds
  pub sound : fault_of largest_text largest_material largest_tracks ≡ None
  pub form : any_wrong (tracks_given largest_tracks) ≡ false
  pub reached : Sizes (◌≡◌ {A = ℕ}) largest_text largest_material largest_tracks
  -- 35,000 bytes from the place on are room enough for every map: it is written, and no call is refused with 13
  pub written : (out : List ℕ) (at : ℕ) (text ms ts : List ℕ) → at + 35000 ≤ length out → fault_of text ms ts ≡ None → any_wrong (tracks_given ts) ≡ false → map_written_answer out at text ms ts ≡ Ok (length (map_packet text ms ts))
  pub never_13 : (out : List ℕ) (at : ℕ) (text ms ts : List ℕ) (r : Refusal) → at + 35000 ≤ length out → map_written_answer out at text ms ts ≡ Err r → number r ≡ 13 → ⊥
  -- and fewer are not: the largest map is refused there
  pub fewer_13 : (out : List ℕ) (at : ℕ) → length out - at < 35000 → map_written_answer out at largest_text largest_material largest_tracks ≡ refused fault.Room
  -- a refusal is 24, 11, 10, 29 or 13, its place is 0, and no bytes lack with it
  pub refusals : (out : List ℕ) (at : ℕ) (text ms ts : List ℕ) (r : Refusal) → map_written_answer out at text ms ts ≡ Err r → (has (number r) (24 ∷ 11 ∷ 10 ∷ 29 ∷ 13 ∷ []) ≡ true) × (r.place ≡ 0) × (r.lacking ≡ 0)
