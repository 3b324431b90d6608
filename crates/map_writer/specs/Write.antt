-- Writing a map (RDD 14, clause 7.1, Tables 3 to 6; 01, "Writers"; 02, §12): the packet, the answer, and what the buffer then holds.
use Rattle.std.specs.Prelude.{ℕ, ◌+◌, List, [], ◌∷◌, ◌++◌, map, length, eqb, Option, Some, None, Result}
use Rattle.plate.specs.Choice.{pick}
use Rattle.number.specs.Number.{be_bytes}
use Rattle.map_items.specs.Items.{Item}
use Rattle.map.specs.Encode.{TrackParts, MapParts, encode}
use Rattle.packet_writer.specs.Write.{refused, if_room, buffer_after}
use Rattle.map_given.specs.Given.{material_slots, Given, tracks_given}
use Rattle.map_given.specs.Faults.{is_text, is_eight, slot_part, fault_of, any_wrong}
use Rattle.map_given.specs.declared.Slot.{Slot}
use Rattle.plate.specs.declared.Refusal.{Refusal}
use Rattle.plate.specs.declared.Fault.{Fault}
use Rattle.plate.specs.declared.Fault.TheVariants as fault

-- the bytes of a present slot's item: a text gets its 00; a number has four bytes, and so have −1 and −2
unfoldable pub slot_value : List ℕ → Slot → List ℕ
slot_value text s = pick (is_text s.tag) (slot_part text s ++ (0 ∷ [])) (pick (is_eight s.tag) (slot_part text s) (be_bytes 4 s.first))

-- absent items are left out; tags rise as the slots do
unfoldable pub items_of : List ℕ → List Slot → List Item
items_of text [] = []
items_of text (s ∷ ss) = pick (eqb s.mark 1) (record { tag = s.tag; value = slot_value text s } ∷ items_of text ss) (items_of text ss)

-- a track's bytes: 80 and the type, C0 and the ID
abbrev pub parts_of_track : List ℕ → Given → TrackParts
parts_of_track text t = record { type_byte = 0x80 + t.media_type; id = 0xC0 + t.id; items = items_of text t.slots }

-- reserved header bytes 0, the second payload byte FF; tracks in the given order
unfoldable pub parts_given : List ℕ → List ℕ → List ℕ → MapParts
parts_given text ms ts =
    record {
      spare = 0 ∷ 0 ∷ 0 ∷ 0 ∷ [];
      second = 0xFF;
      material = items_of text (material_slots ms);
      tracks = map (parts_of_track text) (tracks_given ts);
    }

unfoldable pub map_packet : List ℕ → List ℕ → List ℕ → List ℕ
map_packet text ms ts = encode (parts_given text ms ts)

-- a fault's refusal, or what else there is
abbrev pub or_refused : Option Fault → Result ℕ Refusal → Result ℕ Refusal
or_refused (Some f) a = refused f
or_refused None a = a

-- 24, 11, 10; then 29; then 13; else the packet's length
unfoldable pub map_written_answer : List ℕ → ℕ → List ℕ → List ℕ → List ℕ → Result ℕ Refusal
map_written_answer out at text ms ts =
    or_refused (fault_of text ms ts)
    (pick (any_wrong (tracks_given ts)) (refused fault.WrongForm) (if_room out at (length (map_packet text ms ts))))

-- what the buffer then holds
unfoldable pub map_written_in : List ℕ → ℕ → List ℕ → List ℕ → List ℕ → List ℕ
map_written_in out at text ms ts = buffer_after out at (map_packet text ms ts) (map_written_answer out at text ms ts)
