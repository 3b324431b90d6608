-- Demand 3: what the reader doesn't know in a map changes nothing. Five theorems, proved in proofs/Demand.antt.
use Rattle.std.specs.Prelude.{ℕ, ◌+◌, ◌-◌, ◌<◌, ◌≤◌, ◌≡◌, false, List, length, get_or, drop, replicate, Ok}
use Rattle.number.specs.Number.{be}
use Rattle.map_items.specs.Items.{Item}
use Rattle.map_items.specs.Judge.{form_of, is_known}
use Rattle.map_items.specs.declared.Section.{Section}
use Rattle.map_items.specs.declared.Section.TheVariants as section
use Rattle.map.specs.Map.{layout_of, material_in, tracks_in, map_at}
use Rattle.map.specs.declared.Layout.{Layout}
use Rattle.map.specs.declared.Layout.TheVariants.{Both, One, Neither}
use Rattle.map.specs.declared.MapSays.{MapSays}
use Rattle.map.specs.View.{view_in}
use Rattle.map.specs.Parts.{parts_of}
use Rattle.map_newer.specs.Known.{Clean, Kept}
use Rattle.map_newer.specs.Strike.{struck, strike, Boundary, in_material, in_track, set_in, set_in_parts}

-- each of them is a byte
abbrev pub Bytes : List ℕ → Type 0
Bytes s = (i : ℕ) → get_or s i 0 < 256

-- a map packet that the reader accepts: the bytes of one packet, as many as its header states, and the reader's answer on them
pub record Accepted (m : List ℕ) : Type 0 where
  pub bytes : Bytes m
  pub alone : be m 6 4 ≡ length m
  pub says : MapSays
  pub read : map_at m 0 ≡ Ok says

-- alike, places aside: the count, the material answer and the records in order, with the bytes that the places point at for the places
abbrev pub Alike : List ℕ → List ℕ → Type 0
Alike m n = view_in m ≡ view_in n

-- a boundary's section, its length in a map, and whether the map has the boundary's track
abbrev pub section_at : Boundary → Section
section_at (in_material k) = section.Material
section_at (in_track j k) = section.Track

abbrev pub length_at : Boundary → List ℕ → ℕ
length_at (in_material k) m = length (material_in m (layout_of m))
length_at (in_track j k) m = length (tracks_in m (layout_of m))

abbrev pub There : Boundary → List ℕ → Type 0
There (in_material k) m = Unit {0}
There (in_track j k) m = j < length (parts_of m).tracks

-- the section has room for the item: with it, it has 65,535 bytes at most, as many as a length word can state; a track lies in its section, so it fits then too
abbrev pub Room : Boundary → Item → List ℕ → Type 0
Room b i m = length_at b m + 2 + length i.value ≤ 65535

-- an item whose tag is unknown in the boundary's section; it has a tag byte, a length byte and bytes
pub record Unknown (b : Boundary) (i : Item) : Type 0 where
  pub unknown : is_known (form_of (section_at b) i.tag) ≡ false
  pub tag : i.tag < 256
  pub long : length i.value < 256
  pub bytes : Bytes i.value

-- the fewest zeros as padding (01, "Map"): behind its track section, which ends at e, a packet has fewer than four bytes, all of them zeros; an accepted one has a multiple of 4
abbrev pub Padded : List ℕ → Layout → Type 0
Padded p (Both a e) = (length p < e + 4) × (drop e p ≡ replicate (length p - e) 0)
Padded p (One a) = ⊥
Padded p Neither = ⊥

pub record Demand : Type 0 where
  -- 1. the remainder is accepted; its parts are the map's, less what is struck
  pub accepted : (m : List ℕ) → Accepted m → Accepted (strike m)
  pub rest : (m : List ℕ) → Accepted m → parts_of (strike m) ≡ struck (parts_of m)
  -- and it has the fewest zeros
  pub tight : (m : List ℕ) → Accepted m → Padded (strike m) (layout_of (strike m))
  -- so its bytes are settled: no two accepted maps with the fewest zeros have the same parts
  pub only : (m n : List ℕ) → Accepted m → Accepted n → Padded m (layout_of m) → Padded n (layout_of n) → parts_of m ≡ parts_of n → m ≡ n
  -- nothing of the remainder is unknown, reserved or of unknown type; all else of the map is in it, in order
  pub clean : (m : List ℕ) → Accepted m → Clean (parts_of (strike m))
  pub kept : (m : List ℕ) → Accepted m → Kept (parts_of m) (parts_of (strike m))
  -- 2. map and remainder get the one answer
  pub one_answer : (m : List ℕ) → Accepted m → Alike m (strike m)
  -- 3. so two accepted maps with the same remainder answer alike
  pub same_remainder : (m n : List ℕ) → Accepted m → Accepted n → strike m ≡ strike n → Alike m n
  -- 4. an unknown item set in leaves the map accepted and the answer alike, if its section has room for it
  pub set_in_lem : (m : List ℕ) → Accepted m → (b : Boundary) (i : Item) → There b m → Unknown b i → Room b i m → Accepted (set_in b i m) × Alike m (set_in b i m)
  -- with the fewest zeros too
  pub set_tight : (m : List ℕ) → Accepted m → (b : Boundary) (i : Item) → There b m → Room b i m → Padded (set_in b i m) (layout_of (set_in b i m))
  -- the map has the item there then; and without the room no accepted map has those parts
  pub set_there : (m : List ℕ) → Accepted m → (b : Boundary) (i : Item) → There b m → Room b i m → parts_of (set_in b i m) ≡ set_in_parts b i (parts_of m)
  pub no_more : (m : List ℕ) → Accepted m → (b : Boundary) (i : Item) → There b m → (n : List ℕ) → Accepted n → parts_of n ≡ set_in_parts b i (parts_of m) → Room b i m
  -- 5. striking twice is striking once
  pub twice : (m : List ℕ) → Accepted m → strike (strike m) ≡ strike m
