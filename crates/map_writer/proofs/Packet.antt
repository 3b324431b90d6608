-- The packet put together from its runs, and the outcomes of a call.
use Prim.Native.Nat.{ℕ, ◌+◌, ◌-◌}
use mathlib.Core.Path.{◌≡◌, refl, sym, ◌∙◌, ap}
use mathlib.Core.Bool.{true, false}
use mathlib.Core.List.{List, [], ◌∷◌, ◌++◌, append_assoc}
use native.Mathlib.Omega.{arith}
use lib.ListN.{length, replicate}
use lib.Seq.{sets}
use lib.Dec.{ltb}
use Rattle.std.specs.Prelude.{Some, None, Ok}
use Rattle.number.specs.Number.{be_bytes}
use Rattle.number.proofs.Laws.{length-be_bytes}
use Rattle.number.proofs.Stores.{sets_append}
use Rattle.map_items.specs.Items.{items_bytes}
use Rattle.packet_writer.specs.Write.{header_of, over, refused, if_room}
use Rattle.map.specs.Encode as encode
use Rattle.map.specs.Encode.{padding, packet_length, section_bytes, front, encode}
use Rattle.map.proofs.Encoded.{front_length, packet_length_lem}
use Rattle.map_given.specs.Given.{material_slots, tracks_given}
use Rattle.map_writer.specs.Inside.{slots_size, tracks_size, tracks_bytes}
use Rattle.map_given.specs.Faults.{fault_of, any_wrong}
use Rattle.map_writer.specs.Write.{items_of, parts_given, map_packet, map_written_answer, map_written_in}
use Rattle.map_writer.proofs.Puts.{slots_length}
use Rattle.map_writer.proofs.PutTracks.{tracks_length_lem}
use Rattle.map_given.proofs.Clean.{Clean, clean}
use Rattle.plate.specs.declared.Fault.{Fault}
use Rattle.plate.specs.declared.Fault.TheVariants as fault

-- what is put in two runs is put in one
two_runs : (p r l : List ℕ) (i n : ℕ) → i + length p ≡ n → sets l i (p ++ r) ≡ sets (sets l i p) n r
two_runs p r l i n e = rw (← e) (sym (sets_append p l i r))

abbrev zeros : List ℕ
zeros = 0 ∷ 0 ∷ 0 ∷ 0 ∷ []

pub first_run : (l : List ℕ) (len : ℕ) → sets (sets l 0 (header_of 0xBC len)) 16 (0xE0 ∷ 0xFF ∷ []) ≡ sets l 0 (front len zeros 0xFF)
unfolding header_of front be_bytes
first_run l len = refl

-- the six runs of a packet
runs : (l m t : List ℕ) (len pad : ℕ) → sets
    (sets (sets (sets (sets (sets l 0 (front len zeros 0xFF)) 18 (be_bytes 2 (length m))) 20 m) (20 + length m) (be_bytes 2 (length t))) (22 + length m) t)
    (22 + length m + length t)
    (replicate pad 0)
    ≡ sets l 0 (front len zeros 0xFF ++ (section_bytes m t ++ replicate pad 0))
unfolding section_bytes
runs l m t len pad =
    let x = length m in
    let r4 = t ++ replicate pad 0 in
    let r3 = be_bytes 2 (length t) ++ r4 in
    let r2 = m ++ r3 in
    let r1 = be_bytes 2 x ++ r2 in
    let l1 = sets l 0 (front len zeros 0xFF) in
    let l2 = sets l1 18 (be_bytes 2 x) in
    let l3 = sets l2 20 m in
    let l4 = sets l3 (20 + x) (be_bytes 2 (length t)) in
    simp append_assoc
    (sym
    (two_runs (front len zeros 0xFF) r1 l 0 18 (omega (arith, front_length len zeros 0xFF refl))
    ∙ two_runs (be_bytes 2 x) r2 l1 18 20 (omega (arith, length-be_bytes 2 x))
    ∙ two_runs m r3 l2 20 (20 + x) refl
    ∙ two_runs (be_bytes 2 (length t)) r4 l3 (20 + x) (22 + x) (omega (arith, length-be_bytes 2 (length t)))
    ∙ two_runs t (replicate pad 0) l4 (22 + x) (22 + x + length t) refl))

-- the packet of an input
module _ (text ms ts : List ℕ) where
  abbrev pub m : List ℕ
  m = items_bytes (items_of text (material_slots ms))

  abbrev pub t : List ℕ
  t = tracks_bytes text (tracks_given ts)

  pub packet_is : map_packet text ms ts ≡ encode.packet_of zeros 0xFF m t
  unfolding map_packet parts_given encode tracks_bytes
  packet_is = refl

  pub packet_long : length (map_packet text ms ts) ≡ packet_length m t
  packet_long = ap length packet_is ∙ packet_length_lem zeros 0xFF m t refl

  module _ (c : Clean text ms ts) where
    pub material_size : length m ≡ slots_size (material_slots ms)
    material_size = slots_length text (material_slots ms) c.material

    pub tracks_size_lem : length t ≡ tracks_size (tracks_given ts)
    tracks_size_lem = tracks_length_lem text (tracks_given ts) c.tracks

    pub packet_size : length (map_packet text ms ts) ≡ 22 + slots_size (material_slots ms) + tracks_size (tracks_given ts) + padding (22 + slots_size (material_slots ms) + tracks_size (tracks_given ts))
    unfolding packet_length
    packet_size = packet_long ∙ rw (material_size, tracks_size_lem)

    -- the bytes that the writer puts are the packet
    pub packet_runs : (l : List ℕ) (a b pad : ℕ) → a ≡ slots_size (material_slots ms) → b ≡ tracks_size (tracks_given ts) → pad ≡ padding (22 + a + b)
        → sets
        (sets (sets (sets (sets (sets l 0 (front (22 + a + b + pad) zeros 0xFF)) 18 (be_bytes 2 a)) 20 m) (20 + a) (be_bytes 2 b)) (22 + a) t)
        (22 + a + b)
        (replicate pad 0)
        ≡ sets l 0 (map_packet text ms ts)
    unfolding packet_length encode.packet_of
    packet_runs l a b pad e f g =
        let p : a ≡ length m = e ∙ sym material_size in
        let q : b ≡ length t = f ∙ sym tracks_size_lem in
        rw (g, p, q) (runs l m t (22 + length m + length t + padding (22 + length m + length t)) (padding (22 + length m + length t)) ∙ ap (sets l 0) (sym packet_is))

-- the outcomes of a call
module _ (out : List ℕ) (at : ℕ) (text ms ts : List ℕ) where
  pub faulty : (f : Fault) → fault_of text ms ts ≡ Some f → (map_written_answer out at text ms ts ≡ refused f) × (map_written_in out at text ms ts ≡ out)
  unfolding map_written_answer map_written_in
  faulty f e = rw e (refl, refl)

  pub wrong_formed : fault_of text ms ts ≡ None → any_wrong (tracks_given ts) ≡ true → (map_written_answer out at text ms ts ≡ refused fault.WrongForm) × (map_written_in out at text ms ts ≡ out)
  unfolding map_written_answer map_written_in
  wrong_formed f w = simp (f, w) (refl, refl)

  module _ (f : fault_of text ms ts ≡ None) (w : any_wrong (tracks_given ts) ≡ false) where
    abbrev used : ℕ
    used = 22 + slots_size (material_slots ms) + tracks_size (tracks_given ts)

    abbrev pub len : ℕ
    len = used + padding used

    answer_is : map_written_answer out at text ms ts ≡ if_room out at len
    unfolding map_written_answer
    answer_is = simp (f, w, packet_size text ms ts (clean text ms ts f))

    pub no_room : ltb (length out - at) len ≡ true → (map_written_answer out at text ms ts ≡ refused fault.Room) × (map_written_in out at text ms ts ≡ out)
    unfolding map_written_in
    no_room e = simp (answer_is, e) (refl, refl)

    pub wrote : ltb (length out - at) len ≡ false → (map_written_answer out at text ms ts ≡ Ok len) × (map_written_in out at text ms ts ≡ over out at (map_packet text ms ts))
    unfolding map_written_in
    wrote e = simp (answer_is, e) (refl, refl)
