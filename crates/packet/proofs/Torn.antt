-- What the bytes lacking say: a torn packet's header, and what more bytes behind the lent ones make of it.
use Prim.Native.Nat.{ℕ, ◌+◌, ◌-◌, ◌<◌, ◌≤◌, ◌%◌}
use mathlib.Core.Path.{◌≡◌, refl, sym, ◌∙◌, ap, subst}
use mathlib.Core.Bool.{Bool, true, false}
use mathlib.Core.List.{List, ◌++◌}
use native.Mathlib.Omega.{arith}
use lib.ListN.{length, get_or, take, length-append, get_or-append}
use lib.Seq.{take-append_seam, length-take-le, get_or-take}
use lib.Dec.{ltb, eqb}
use borrow.Author.Tests.{ltb-true, ltb-false, eqb-true, eqb-false, le-ltb, lt-ltb, eq-eqb}
use Rattle.std.specs.Prelude.{Result, Ok, Err}
use Rattle.plate.specs.Choice.{pick}
use Rattle.plate.specs.Plate.{refusal, torn, number, number_of}
use Rattle.plate.specs.declared.Refusal.{Refusal}
use Rattle.plate.proofs.Numbers.{Among, other}
use Rattle.number.specs.Number.{be}
use Rattle.number.proofs.Laws.{Bytes, be-take, be_lt}
use Rattle.packet.specs.Packet.{header_at, sized_at, refused, if_type, packet_at}
use Rattle.packet.specs.Lacking.{Lacking, CutOff, PassedOn}
use Rattle.packet.specs.declared.Packet.{Packet}
use Rattle.plate.specs.declared.Fault.{Fault}
use Rattle.plate.specs.declared.Fault.TheVariants as fault
use Rattle.packet.proofs.Laws.{Good, whole, accepts}
use Rattle.packet.proofs.Numbers.{OfHeader, header_numbers, packet_numbers}

-- a packet that is torn: its header is there, as clause 6 has it, and states more than the bytes left
pub record Torn (s : List ℕ) (at : ℕ) (r : Refusal) : Type 0 where
  pub leader : be s at 5 ≡ 1
  pub trailer : be s (at + 14) 2 ≡ 0xE1E2
  pub least : 16 ≤ be s (at + 6) 4
  pub fours : be s (at + 6) 4 % 4 ≡ 0
  pub header : 16 ≤ length s - at
  pub longer : length s - at < be s (at + 6) 4
  pub it : r ≡ torn at (be s (at + 6) 4 - (length s - at))

module _ (r : Refusal) (five : number r ≡ 5) where
  -- a choice that is refused with 5, where one of its branches is refused with another number, came by the other
  not_this : (f : Fault) (p : ℕ) → (number_of f ≡ 5 → ⊥) → refused f p ≡ Err r → ⊥
  not_this f p other e = let q : refusal f p ≡ r = cc in other (ap (λ (x : Refusal). (number x)) q ∙ five)

  else_torn : (b : Bool) (f : Fault) (p : ℕ) (y : Result Packet Refusal) → (number_of f ≡ 5 → ⊥) → pick b (refused f p) y ≡ Err r → (b ≡ false) × (y ≡ Err r)
  else_torn true f p y other e = absurd (not_this f p other e)
  else_torn false f p y other e = (refl, e)

  then_torn : (b : Bool) (f : Fault) (p : ℕ) (y : Result Packet Refusal) → (number_of f ≡ 5 → ⊥) → pick b y (refused f p) ≡ Err r → (b ≡ true) × (y ≡ Err r)
  then_torn true f p y other e = (refl, e)
  then_torn false f p y other e = absurd (not_this f p other e)

  last_torn : (b : Bool) (q : Refusal) (w : Packet) → pick b (Err q) (Ok w) ≡ Err r → (b ≡ true) × (r ≡ q)
  last_torn true q w e = (refl, cc)
  last_torn false q w e = absurd (let z : ◌≡◌ {A = ℕ} 0 1 = cc in omega arith)

  pub torn_there : (s : List ℕ) (at : ℕ) → header_at s at ≡ Err r → Torn s at r
  unfolding header_at sized_at
  torn_there s at e =
      let a = else_torn (ltb (length s - at) 16) fault.FewBytes at _ (λ z. omega arith) e in
      let b = then_torn (eqb (be s at 5) 1) fault.Leader at _ (λ z. omega arith) a.1 in
      let d = then_torn (eqb (be s (at + 14) 2) 0xE1E2) fault.Trailer at _ (λ z. omega arith) b.1 in
      let f = else_torn (ltb (be s (at + 6) 4) 16) fault.PacketLength at _ (λ z. omega arith) d.1 in
      let g = then_torn (eqb (be s (at + 6) 4 % 4) 0) fault.PacketLength at _ (λ z. omega arith) f.1 in
      let h = last_torn (ltb (length s - at) (be s (at + 6) 4)) _ _ g.1 in
      record {
        leader = eqb-true _ _ b.0;
        trailer = eqb-true _ _ d.0;
        least = ltb-false _ _ f.0;
        fours = eqb-true _ _ g.0;
        header = ltb-false _ _ a.0;
        longer = ltb-true _ _ h.0;
        it = h.1;
      }

-- the other way: what a header must be to be refused with 5
pub tears : (s : List ℕ) (at n : ℕ) → be s at 5 ≡ 1 → be s (at + 14) 2 ≡ 0xE1E2 → be s (at + 6) 4 ≡ n → 16 ≤ n → n % 4 ≡ 0 → 16 ≤ length s - at → length s - at < n
    → header_at s at ≡ Err (torn at (n - (length s - at)))
unfolding header_at sized_at
tears s at n l t e a b d f =
    rw e (simp (le-ltb (length s - at) 16 d, eq-eqb _ _ l, eq-eqb _ _ t, le-ltb n 16 a, eq-eqb _ _ b, lt-ltb (length s - at) n f))

-- a number in the front of some bytes
pub be-front : (s t : List ℕ) (at n : ℕ) → at + n ≤ length s → be (s ++ t) at n ≡ be s at n
be-front s t at n h = sym (be-take (length s) (s ++ t) at n h) ∙ ap (λ (x : List ℕ). be x at n) (take-append_seam s t)

-- bytes behind a whole packet change nothing of what its header says
pub header_before : (s t : List ℕ) (at : ℕ) (w : Packet) → header_at s at ≡ Ok w → header_at (s ++ t) at ≡ Ok w
header_before s t at w e =
    let g = whole s at w e in
    let k : get_or (s ++ t) (at + 5) 0 ≡ w.packet_type = get_or-append s t 0 (at + 5) (omega (arith, g.within, g.least)) ∙ sym g.kinds in
    accepts (s ++ t) at w.len (be-front s t at 5 (omega (arith, g.within, g.least)) ∙ g.leader) (be-front s t (at + 14) 2 (omega (arith, g.within, g.least)) ∙ g.trailer)
    (be-front s t (at + 6) 4 (omega (arith, g.within, g.least)) ∙ sym g.lens) g.least g.fours (omega (arith, g.within, length-append s t))
    ∙ ap (λ (k : ℕ). Ok (record { packet_type = k; len = w.len })) k

module _ (s : List ℕ) (at : ℕ) (r : Refusal) (e : header_at s at ≡ Err r) (five : number r ≡ 5) where
  there : Torn s at r
  there = torn_there r five s at e

  by_length : r.lacking ≡ be s (at + 6) 4 - (length s - at)
  by_length = ap (λ (x : Refusal). x.lacking) there.it

  module _ (t : List ℕ) where
    joined : length (s ++ t) ≡ length s + length t
    joined = length-append s t

    lead : be (s ++ t) at 5 ≡ 1
    lead = be-front s t at 5 (omega (arith, there.header)) ∙ there.leader

    trail : be (s ++ t) (at + 14) 2 ≡ 0xE1E2
    trail = be-front s t (at + 14) 2 (omega (arith, there.header)) ∙ there.trailer

    stated : be (s ++ t) (at + 6) 4 ≡ be s (at + 6) 4
    stated = be-front s t (at + 6) 4 (omega (arith, there.header))

    enough : r.lacking ≤ length t → header_at (s ++ t) at ≡ Ok (record { packet_type = get_or s (at + 5) 0; len = be s (at + 6) 4 })
    enough h =
        accepts (s ++ t) at (be s (at + 6) 4) lead trail stated there.least there.fours (omega (arith, there.header, there.longer, by_length, joined))
        ∙ ap (λ (k : ℕ). Ok (record { packet_type = k; len = be s (at + 6) 4 })) (get_or-append s t 0 (at + 5) (omega (arith, there.header)))

    fewer : length t < r.lacking → header_at (s ++ t) at ≡ Err (torn at (r.lacking - length t))
    fewer h =
        tears (s ++ t) at (be s (at + 6) 4) lead trail stated there.least there.fours (omega (arith, there.header, joined)) (omega (arith, there.header, there.longer, by_length, joined))
        ∙ ap (λ (k : ℕ). Err (torn at k)) (omega (arith, there.header, there.longer, by_length, joined))

most : (s : List ℕ) (at : ℕ) (r : Refusal) → header_at s at ≡ Err r → Bytes s → r.lacking ≤ 4294967276
most s at r e b = go (eqb (number r) 5) refl
  where
    go : (t : Bool) → eqb (number r) 5 ≡ t → r.lacking ≤ 4294967276
    go true q = let five = eqb-true (number r) 5 q in let g = there s at r e five in omega (arith, by_length s at r e five, g.fours, g.header, be_lt s b (at + 6) 4)
    go false q = omega (arith, (subst (OfHeader 5) e (header_numbers s at)).2 (eqb-false (number r) 5 q))

pub lacking : (s : List ℕ) (at : ℕ) (r : Refusal) → header_at s at ≡ Err r → Lacking s at r
lacking s at r e =
    record {
      it = e;
      none = (subst (OfHeader 5) e (header_numbers s at)).2;
      exact = λ five. ((there s at r e five).it, omega (arith, by_length s at r e five, (there s at r e five).longer));
      most = λ b. omega (arith, most s at r e (λ i. record { fits = b i }));
      enough = λ five t h. enough s at r e five t h;
      fewer = λ five t h. fewer s at r e five t h;
    }

-- ---- a part of the bytes, up to c
module _ (s : List ℕ) (at : ℕ) (w : Packet) (e : header_at s at ≡ Ok w) (c : ℕ) (h : at + 16 ≤ c) (l : c ≤ length s) where
  good : Good s at w
  good = whole s at w e

  lead_in : be (take c s) at 5 ≡ 1
  lead_in = be-take c s at 5 (omega arith) ∙ good.leader

  trail_in : be (take c s) (at + 14) 2 ≡ 0xE1E2
  trail_in = be-take c s (at + 14) 2 (omega arith) ∙ good.trailer

  stated_in : be (take c s) (at + 6) 4 ≡ w.len
  stated_in = be-take c s (at + 6) 4 (omega arith) ∙ sym good.lens

  long : length (take c s) ≡ c
  long = length-take-le c s l

  -- a packet that ends within it is whole there
  pub whole_within : at + w.len ≤ c → header_at (take c s) at ≡ Ok w
  whole_within k =
      accepts (take c s) at w.len lead_in trail_in stated_in good.least good.fours (omega (arith, long, good.least))
      ∙ ap (λ (k : ℕ). Ok (record { packet_type = k; len = w.len })) (get_or-take c s (at + 5) 0 (omega arith) ∙ sym good.kinds)

  -- and one that does not is torn
  torn_within : c < at + w.len → header_at (take c s) at ≡ Err (torn at (w.len - (c - at)))
  torn_within k =
      tears (take c s) at w.len lead_in trail_in stated_in good.least good.fours (omega (arith, long)) (omega (arith, long, good.least))
      ∙ ap (λ (n : ℕ). Err (torn at n)) (omega (arith, long))

pub cut_off : CutOff
cut_off s at p e k h l =
    let g = whole s at p e in
    torn_within s at p e (at + k) (omega arith) (omega (arith, g.within, g.least)) (omega arith) ∙ ap (λ (n : ℕ). Err (torn at n)) (omega arith)

-- ---- readers
-- what the header is refused with, a packet of an asked type is refused with, and its 5 is the header's
pub type_passes : (s : List ℕ) (at packet_type : ℕ) (r : Refusal) → header_at s at ≡ Err r → packet_at s at packet_type ≡ Err r
unfolding packet_at
type_passes s at packet_type r e = rw e

pub type_passed : (s : List ℕ) (at packet_type : ℕ) (r : Refusal) → packet_at s at packet_type ≡ Err r → PassedOn s at r
unfolding packet_at
type_passed s at packet_type r e = record { same = λ five. go five (header_at s at) refl e; none = (subst (OfHeader 6) e (packet_numbers s at packet_type)).2 }
  where
    by_type : number r ≡ 5 → (b : Bool) (p : Packet) → pick b (Ok p) (refused fault.OtherType at) ≡ Err r → ⊥
    by_type five true p e = let z : ◌≡◌ {A = ℕ} 0 1 = cc in omega arith
    by_type five false p e = not_this r five fault.OtherType at (λ z. omega arith) e

    go : number r ≡ 5 → (a : Result Packet Refusal) → header_at s at ≡ a → if_type at packet_type a ≡ Err r → header_at s at ≡ Err r
    go five (Err q) h e = h ∙ e
    go five (Ok p) h e = absurd (by_type five (eqb p.packet_type packet_type) p e)

-- of any reader of a packet of a type: `answer` is what it gives by what stands there, and its own refusals have greater numbers than 5
pub passed_by : {A : Type 0} {lo hi : ℕ} (answer : Result Packet Refusal → A) (refusal-of : A) (s : List ℕ) (at packet_type : ℕ) (r : Refusal) → 5 < lo
    → ((q : Refusal) → answer (Err q) ≡ refusal-of → q ≡ r) → ((p : Packet) → answer (Ok p) ≡ refusal-of → Among lo hi r) → answer (packet_at s at packet_type) ≡ refusal-of → PassedOn s at r
passed_by answer refusal-of s at packet_type r l same own = go (packet_at s at packet_type) refl
  where
    go : (a : Result Packet Refusal) → packet_at s at packet_type ≡ a → answer a ≡ refusal-of → PassedOn s at r
    go (Err q) h e = type_passed s at packet_type r (h ∙ ap Err (same q e))
    go (Ok p) h e = let k = own p e in record { same = other r k l; none = k.2 }
