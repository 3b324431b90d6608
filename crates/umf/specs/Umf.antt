-- The UMF packet (RDD 14, clause 7.3 and Tables 15 and 16; 02, §1): its preamble, and of a whole UMF its payload, judged in the order of 7.3.2, at the first thing that does not fit.
use Rattle.std.specs.Prelude.{ℕ, zero, suc, ◌+◌, Bool, List, [], ◌∷◌, length, get_or, take, drop, ltb, eqb, Result, Ok, Err, ⊤}
use Rattle.plate.specs.Choice.{pick}
use Rattle.plate.specs.Plate.{refusal}
use Rattle.plate.specs.declared.Refusal.{Refusal}
use Rattle.number.specs.Number.{be, le}
use Rattle.packet.specs.Packet.{packet_at, type_umf}
use Rattle.map_items.specs.Judge.{bad, and_then}
use Rattle.map_items.specs.Find.{Found, missing, found}
use Rattle.umf.specs.Split.{Parts, split_of, size_of}
use Rattle.umf.specs.declared.Described.{Described}
use Rattle.umf.specs.declared.Described.TheVariants.{Tracks, Segments, Users}
use Rattle.map_items.specs.declared.Part.{Part}
use Rattle.packet.specs.declared.Packet.{Packet}
use Rattle.plate.specs.declared.Fault.TheVariants as fault

-- Table 15, behind the header: the flag, and the payload data length, most significant byte first
abbrev pub flag_of : List ℕ → ℕ
flag_of p = get_or p 16 0

abbrev pub length_of : List ℕ → ℕ
length_of p = be p 17 4

-- so many bytes from 21 on; what follows them in the packet is padding
unfoldable pub payload_of : List ℕ → List ℕ
payload_of p = take (length_of p) (drop 21 p)

-- Table 16: where in it a section's offset stands; its size stands behind
unfoldable pub offset_at : Described → ℕ
offset_at Tracks = 0x0C
offset_at Segments = 0x18
offset_at Users = 0x20

-- of a payload: offset and size of a section, in bytes from the payload description on, least significant byte first as all that follows the preamble
abbrev pub section_at : Described → List ℕ → ℕ
section_at k y = le y (offset_at k) 4

abbrev pub section_size : Described → List ℕ → ℕ
section_size k y = le y (offset_at k + 4) 4

-- how many there are to be; user records are not counted, and there are no more than bytes
unfoldable pub count_of : Described → List ℕ → ℕ
count_of Tracks y = le y 0x08 4
count_of Segments y = le y 0x14 4
count_of Users y = section_size Users y

abbrev pub section_of : Described → List ℕ → List ℕ
section_of k y = take (section_size k y) (drop (section_at k y) y)

unfoldable pub parts_of : Described → List ℕ → Parts
parts_of k y = split_of k (count_of k y) (section_of k y)

-- 30, the one refusal of a UMF's own, at a place of the packet
abbrev pub bad30 : ℕ → Result ⊤ Refusal
bad30 p = bad fault.UmfForm p

-- a section that passes the payload, at its first byte; then the first in it that passes it or states a length under its fixed fields
unfoldable pub section_verdict : Described → List ℕ → Result ⊤ Refusal
section_verdict k y =
    pick (ltb (length y) (section_at k y + section_size k y)) (bad30 (21 + section_at k y))
    (pick (parts_of k y).end (Ok tt) (bad30 (21 + section_at k y + size_of (parts_of k y).list)))

-- the sections, each with what is in it before the next
abbrev pub sections_verdict : List ℕ → Result ⊤ Refusal
sections_verdict y = and_then (section_verdict Tracks y) (and_then (section_verdict Segments y) (section_verdict Users y))

-- a payload: the 48 bytes of Table 16, the 56 of Table 17, then the sections
unfoldable pub payload_verdict : List ℕ → Result ⊤ Refusal
payload_verdict y =
    pick (ltb (length y) 48) (bad30 21)
    (pick (ltb (length y) 104) (bad30 69) (sections_verdict y))

-- flag 3: the only packet, with a whole UMF in it; any other is not opened
abbrev pub is_opened : List ℕ → Bool
is_opened p = eqb (flag_of p) 3

-- a packet's bytes: the preamble, which is 30 where its five bytes or the payload that it states pass the packet; then the payload of one that is opened
unfoldable pub umf_verdict : List ℕ → Result ⊤ Refusal
umf_verdict p =
    pick (ltb (length p) (21 + length_of p)) (bad30 16)
    (pick (is_opened p) (payload_verdict (payload_of p)) (Ok tt))

-- number n, from 0, of some descriptions that begin at place b: where it begins, and its bytes
unfoldable pub nth_from : ℕ → ℕ → List (List ℕ) → Found
nth_from b n [] = missing
nth_from b zero (d ∷ ds) = found b d
nth_from b (suc n) (d ∷ ds) = nth_from (b + length d) n ds

-- of a payload, with places in the packet
unfoldable pub nth_of : Described → ℕ → List ℕ → Found
nth_of k n y = nth_from (21 + section_at k y) n (parts_of k y).list

-- of an accepted packet: none where it is not opened
abbrev pub nth_in : Described → ℕ → List ℕ → Found
nth_in k n p = pick (is_opened p) (nth_of k n (payload_of p)) missing

-- what is asked for by its number in the UMF packet at a position: refusals 1 to 6, then 30; else it is there or missing
pub data Asked : Type 0 where
  refused : Refusal → Asked
  answered : Found → Asked

abbrev pub if_accepted : Described → ℕ → List ℕ → Result ⊤ Refusal → Asked
if_accepted k n p (Err r) = refused r
if_accepted k n p (Ok _) = answered (nth_in k n p)

abbrev pub if_whole : List ℕ → ℕ → Described → ℕ → Result Packet Refusal → Asked
if_whole s at k n (Err r) = refused r
if_whole s at k n (Ok w) = if_accepted k n (take w.len (drop at s)) (umf_verdict (take w.len (drop at s)))

unfoldable pub asked_at : List ℕ → ℕ → Described → ℕ → Asked
asked_at s at k n = if_whole s at k n (packet_at s at type_umf)

-- place and length, the place counted from the packet's first byte; 16 where it is missing
unfoldable pub place_of : Asked → Result Part Refusal
place_of (refused r) = Err r
place_of (answered missing) = Err (refusal fault.NotThere 0)
place_of (answered (found q d)) = Ok (record { at = q; len = length d })
