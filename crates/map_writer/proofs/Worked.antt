-- Worked examples of the writer: M of the bench readings, and the edges of what it takes.
use mathlib.Core.Path.{◌≡◌, refl}
use mathlib.Core.Bool.{false}
use mathlib.Core.List.{List, [], ◌∷◌, ◌++◌}
use Prim.Native.Nat.{ℕ}
use lib.ListN.{replicate}
use Rattle.std.specs.Prelude.{Ok, None}
use Rattle.number.specs.Number.{be_bytes}
use Rattle.text.specs.Text.{text_ok}
use Rattle.media_type.specs.MediaType.{known_type, mpeg_type, wrong_form}
use Rattle.map_items.specs.Items.{items_bytes}
use Rattle.map_items.specs.Judge.{has}
use Rattle.map_answer.specs.Answer.{allowed}
use Rattle.map_tracks.specs.Tracks as tracks
use Rattle.map.specs.Encode as encode
use Rattle.map.specs.Encode.{described, padding, packet_length, section_bytes, front, encode}
use Rattle.packet_writer.specs.Write.{refused}
use Rattle.map_given.specs.Given.{slots, material_slots, tracks_from, tracks_given}
use Rattle.map_given.specs.Faults.{is_text, is_eight, is_code, code_fits, fits, reads, slot_fault, slots_fault, given, null_name, barred, own_fault, tracks_fault, id_fault, ids_fault, fault_of, given_wrong, any_wrong}
use Rattle.map_writer.specs.Inside.{slot_size, slots_size, tracks_size}
use Rattle.map_writer.specs.Largest.{largest_text, largest_material, largest_tracks}
use Rattle.map_writer.specs.Write.{slot_value, items_of, parts_given, map_packet, map_written_answer}
use Rattle.plate.specs.declared.Fault.TheVariants as fault

-- an absent slot, a number, a code of −2, a text
abbrev pub absent : List ℕ
absent = 0 ∷ 0 ∷ 0 ∷ []

abbrev number : ℕ → List ℕ
number n = 1 ∷ n ∷ 0 ∷ []

abbrev not_available : List ℕ
not_available = number 0xFFFFFFFFFFFFFFFE

abbrev pub at : ℕ → ℕ → List ℕ
at from n = 1 ∷ from ∷ n ∷ []

-- a material with a first field alone, and a track of a name and a rate
abbrev pub material : ℕ → List ℕ
material first = absent ++ number first ++ absent ++ absent ++ absent ++ absent

abbrev pub track : ℕ → ℕ → List ℕ → List ℕ → List ℕ
track media_type id name rate = (media_type ∷ id ∷ []) ++ name ++ absent ++ absent ++ absent ++ rate ++ absent ++ absent

-- the text A1
abbrev pub text : List ℕ
text = 0x41 ∷ 0x31 ∷ []

-- M: first field 0, track 1 of type 10, name A1, rate not available
pub m : map_packet text (material 0) (track 10 1 (at 0 2) not_available)
    ≡ 0 ∷ 0 ∷ 0 ∷ 0 ∷ 1 ∷ 0xBC ∷ 0 ∷ 0 ∷ 0 ∷ 0x2C ∷ 0 ∷ 0 ∷ 0 ∷ 0 ∷ 0xE1 ∷ 0xE2 ∷ 0xE0 ∷ 0xFF ∷ 0 ∷ 6 ∷ 0x41 ∷ 4 ∷ 0 ∷ 0 ∷ 0 ∷ 0 ∷ 0 ∷ 0x0F ∷ 0x8A ∷ 0xC1 ∷ 0 ∷ 0x0B ∷ 0x4C ∷ 3 ∷ 0x41 ∷ 0x31 ∷ 0 ∷ 0x50 ∷ 4 ∷ 0xFF ∷ 0xFF ∷ 0xFF ∷ 0xFE ∷ 0 ∷ []
unfolding map_packet parts_given items_of slot_value slots tracks_from is_text is_eight has encode encode.packet_of front section_bytes packet_length padding described items_bytes tracks.descriptions_bytes be_bytes
m = refl

-- the edges
pub edges :
    -- M in a buffer of just its length; one byte fewer is 13, and so is a place beyond the buffer
    (map_written_answer (replicate 44 7) 0 text (material 0) (track 10 1 (at 0 2) not_available) ≡ Ok 44)
    × (map_written_answer (replicate 44 7) 1 text (material 0) (track 10 1 (at 0 2) not_available) ≡ refused fault.Room)
    × (map_written_answer (replicate 44 7) 18446744073709551615 text (material 0) (track 10 1 (at 0 2) not_available) ≡ refused fault.Room)
    -- no items and no tracks: the shortest map
    × (map_written_answer (replicate 24 7) 0 [] (replicate 18 0) [] ≡ Ok 24)
    -- a field number of 33 bits, before there is any room
    × (map_written_answer [] 0 text (material 4294967296) [] ≡ refused fault.Barred)
    × (map_written_answer [] 0 text (material 4294967295) [] ≡ refused fault.Room)
    -- a mark that is neither 1 nor 0, a record cut short, a part outside the text, 255 bytes of text
    × (map_written_answer [] 0 text (2 ∷ replicate 17 0) [] ≡ refused fault.Barred)
    × (map_written_answer [] 0 text (material 0) (10 ∷ 1 ∷ []) ≡ refused fault.Barred)
    × (map_written_answer [] 0 text (at 1 2 ++ replicate 15 0) [] ≡ refused fault.Barred)
    × (map_written_answer [] 0 (replicate 255 0x41) (at 0 255 ++ replicate 15 0) [] ≡ refused fault.Barred)
    -- a type and an ID that no map has, a reserved rate, −1 in 32 bits
    × (map_written_answer [] 0 text (material 0) (track 5 1 (at 0 2) absent) ≡ refused fault.Barred)
    × (map_written_answer [] 0 text (material 0) (track 10 64 (at 0 2) absent) ≡ refused fault.Barred)
    × (map_written_answer [] 0 text (material 0) (track 10 1 (at 0 2) (number 9)) ≡ refused fault.Barred)
    × (map_written_answer [] 0 text (material 0) (track 10 1 (at 0 2) (number 4294967295)) ≡ refused fault.Barred)
    -- an ID twice is 10; with a bad text after it 11, and with a number that does not fit 24
    × (map_written_answer [] 0 text (material 0) (track 10 1 (at 0 2) absent ++ track 10 1 (at 0 2) absent) ≡ refused fault.Twice)
    × (map_written_answer [] 0 (0x41 ∷ 0x80 ∷ []) (material 0) (track 10 1 (at 0 1) absent ++ track 10 1 (at 0 2) absent) ≡ refused fault.Text)
    × (map_written_answer [] 0 (0x41 ∷ 0x80 ∷ []) (material 4294967296) (track 10 1 (at 0 1) absent ++ track 10 1 (at 0 2) absent) ≡ refused fault.Barred)
    -- an auxiliary item beside a null name; beside no name it is written
    × (map_written_answer [] 0 (replicate 8 1) (material 0) ((10 ∷ 1 ∷ []) ++ at 0 0 ++ at 0 8 ++ replicate 15 0) ≡ refused fault.Barred)
    × (map_written_answer [] 0 (replicate 8 1) (material 0) ((10 ∷ 1 ∷ []) ++ absent ++ at 0 8 ++ replicate 15 0) ≡ refused fault.Room)
    -- a track of 295 bytes: a name of 254 bytes, a 4D, a 4E and the three codes; 22 and 295 bytes, and three zeros
    × (map_written_answer (replicate 320 7) 0 (replicate 254 0x41) (replicate 18 0) ((10 ∷ 1 ∷ []) ++ at 0 254 ++ at 0 8 ++ number 1 ++ absent ++ number 1 ++ number 1 ++ number 1) ≡ Ok 320)
    -- 4D beside 4F
    × (map_written_answer [] 0 (replicate 8 1) (material 0) ((10 ∷ 1 ∷ []) ++ at 0 1 ++ at 0 8 ++ absent ++ at 0 1 ++ replicate 9 0) ≡ refused fault.Twice)
unfolding map_written_answer any_wrong given_wrong wrong_form mpeg_type fault_of slots_fault slot_fault fits reads is_text is_eight is_code code_fits allowed has text_ok known_type tracks_fault own_fault barred null_name given ids_fault id_fault slots tracks_from map_packet parts_given items_of slot_value encode encode.packet_of front section_bytes packet_length padding described items_bytes tracks.descriptions_bytes be_bytes
edges = (refl, refl, refl, refl, refl, refl, refl, refl, refl, refl, refl, refl, refl, refl, refl, refl, refl, refl, refl, refl, refl)

-- the largest map has no fault; and what its items and its tracks take
pub largest_sound : fault_of largest_text largest_material largest_tracks ≡ None
unfolding fault_of slots_fault slot_fault fits reads is_text is_eight is_code code_fits allowed has text_ok known_type tracks_fault own_fault barred null_name given ids_fault id_fault slots tracks_from
largest_sound = refl

pub largest_form : any_wrong (tracks_given largest_tracks) ≡ false
unfolding any_wrong given_wrong wrong_form mpeg_type given slots tracks_from
largest_form = refl

pub largest_material_lem : slots_size (material_slots largest_material) ≡ 287
unfolding slots slots_size slot_size is_text is_eight has
largest_material_lem = refl

pub largest_tracks_lem : tracks_size (tracks_given largest_tracks) ≡ 34688
unfolding tracks_from slots tracks_size slots_size slot_size is_text is_eight has
largest_tracks_lem = refl
