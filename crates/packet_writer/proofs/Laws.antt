-- What every writer's packet is to its buffer: it stands at its place, and the bytes before and after it are as they were.
use Prim.Native.Nat.{ℕ, ◌+◌, ◌-◌, ◌≤◌}
use mathlib.Core.Path.{◌≡◌, refl, sym, ◌∙◌, ap}
use mathlib.Core.List.{List, ◌++◌, append_assoc, append-nil}
use native.Mathlib.Omega.{arith}
use native.Mathlib.Nat.{zero-add}
use mathlib.Core.Bool.{false}
use lib.Dec.{ltb}
use borrow.Author.Tests.{ltb-false}
use borrow.Rule.Slice.PartMut.{put_mid}
use lib.ListN.{length, take, drop, length-append, length-drop, drop_of_length-le, get_or-append}
use lib.Seq.{sets, length-take-le, take_at, drop_at, sets-eq, drop-drop, take_all, take-append_seam}
use Rattle.std.specs.Prelude.{Ok}
use Rattle.number.specs.Number.{be, be_bytes}
use Rattle.number.proofs.Laws.{be-take}
use Rattle.packet.specs.Packet.{header_at}
use Rattle.packet.specs.declared.Packet.{Packet}
use Rattle.packet.proofs.Edge.{anywhere}
use Rattle.packet.proofs.Laws.{accepts, whole}
use Rattle.packet_writer.specs.Write.{header_of, over}

pub length-header : (packet_type len : ℕ) → length (header_of packet_type len) ≡ 16
unfolding header_of be_bytes
length-header packet_type len = refl

-- room that is not lacking
pub has_room : (size at len : ℕ) → ltb (size - at) len ≡ false → len ≤ size - at
has_room size at len e = omega (arith, ltb-false)

-- a part from a place on that comes back with bytes at its start: the whole with those bytes at the place
pub part_over : (l vs : List ℕ) (at : ℕ) → at + length vs ≤ length l
    → put_mid at (length l - at) l (sets (take (length l - at) (drop at l)) 0 vs) ≡ over l at vs
part_over l vs at h =
    let k : length (drop at l) ≤ length l - at = simp length-drop (omega arith) in
    rw (take_all (length l - at) (drop at l) k, drop_of_length-le (drop at l) k, append-nil, sets-eq vs (drop at l) 0 (simp length-drop (omega arith)))
    (simp (zero-add, drop-drop, append_assoc))

-- what stands behind a packet changes nothing of what its header says
pub header_before : (p s : List ℕ) (w : Packet) → header_at p 0 ≡ Ok w → header_at (p ++ s) 0 ≡ Ok w
header_before p s w e =
    let g = whole p 0 w e in
    let number : (k n : ℕ) → k + n ≤ length p → be (p ++ s) k n ≡ be p k n = λ k n h. sym (be-take (length p) (p ++ s) k n h) ∙ rw (take-append_seam p s) in
    let small = g.least in
    let inside = g.within in
    accepts (p ++ s) 0 w.len (number 0 5 (omega arith) ∙ g.leader) (number 14 2 (omega arith) ∙ g.trailer) (number 6 4 (omega arith) ∙ sym g.lens) g.least g.fours (omega (arith, length-append p s))
    ∙ ap (λ (k : ℕ). Ok (record { packet_type = k; len = w.len })) (get_or-append p s 0 5 (omega arith) ∙ sym g.kinds)

-- bytes written over others: they stand at the place, and all else is as it was
pub record Framed (out : List ℕ) (at : ℕ) (bytes now : List ℕ) : Type 0 where
  pub stands : take (length bytes) (drop at now) ≡ bytes
  pub before : take at now ≡ take at out
  pub after : drop (at + length bytes) now ≡ drop (at + length bytes) out
  pub lengths : length now ≡ length out

module _ (out : List ℕ) (at : ℕ) (p : List ℕ) (h : at + length p ≤ length out) where
  abbrev q : List ℕ
  q = take at out

  abbrev r : List ℕ
  r = drop (at + length p) out

  in_front_lem : length q ≡ at
  in_front_lem = length-take-le at out (omega arith)

  three : over out at p ≡ q ++ (p ++ r)
  three = append_assoc q p r

  pub framed : Framed out at p (over out at p)
  framed =
      let l : length (q ++ p) ≡ at + length p = rw (length-append, in_front_lem) in
      record {
        stands = rw (three, drop_at q (p ++ r) at in_front_lem) (take_at p r (length p) refl);
        before = rw three (take_at q (p ++ r) at in_front_lem);
        after = drop_at (q ++ p) r (at + length p) l;
        lengths = rw (three, length-append, length-append, length-drop, in_front_lem) (omega arith);
      }

  -- a packet whose header is read in front of anything is read at its place
  pub header_stands : (w : Packet) → ((s : List ℕ) → header_at (p ++ s) 0 ≡ Ok w) → header_at (over out at p) at ≡ Ok w
  header_stands w e = rw three (rw in_front_lem at (anywhere q (p ++ r) w (e r)))
