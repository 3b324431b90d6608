-- What is there by its number stands in the lent bytes, where it is said to.
use Prim.Native.Nat.{ℕ, zero, suc, ◌+◌, ◌-◌, ◌≤◌}
use mathlib.Core.Path.{◌≡◌, refl, sym, ◌∙◌, ap}
use mathlib.Core.Bool.{Bool, true, false}
use mathlib.Core.List.{List, [], ◌∷◌}
use native.Mathlib.Omega.{arith}
use lib.ListN.{length, take, drop, length-drop}
use lib.Seq.{length-take-le, take-take, drop-drop}
use lib.Dec.{leb}
use borrow.Author.Tests.{leb-true, leb-false}
use Rattle.std.specs.Prelude.{Result, Ok, Err, ⊤}
use Rattle.plate.specs.Choice.{pick}
use Rattle.plate.specs.Plate.{refusal}
use Rattle.plate.specs.declared.Refusal.{Refusal}
use Rattle.packet.specs.Packet.{packet_at, type_umf}
use Rattle.packet.specs.declared.Packet.{Packet}
use Rattle.packet.proofs.Laws.{whole, typed}
use Rattle.map_items.specs.Find.{Found, missing, found}
use Rattle.map_items.specs.declared.Part.{Part}
use Rattle.umf.specs.Split.{least_of, step_of, split_of, size_of}
use Rattle.umf.specs.Umf.{length_of, payload_of, is_opened, section_at, section_size, section_of, count_of, parts_of, umf_verdict, nth_from, nth_of, nth_in, Asked, refused, answered, if_accepted, if_whole, asked_at, place_of}
use Rattle.umf.specs.declared.Described.{Described}
use Rattle.umf.specs.declared.Step.{Step}
use Rattle.umf.specs.declared.Step.TheVariants.{More, Used, Over}
use Rattle.plate.specs.declared.Fault.TheVariants as fault
use Rattle.umf.proofs.Turns.{more}
use Rattle.umf.proofs.Sections.{within_section}
use Rattle.umf.proofs.Laws.{landed, nth_lands, nth_past, good_umf, payload_length}

-- a part of a part
pub inner : (m o n : ℕ) (l : List ℕ) → o + m ≤ n → take m (drop o (take n l)) ≡ take m (drop o l)
inner m zero n l h = take-take m n l (omega arith)
inner m (suc o) zero l h = absurd (omega arith)
inner m (suc o) (suc n) [] h = refl
inner m (suc o) (suc n) (x ∷ xs) h = inner m o n xs (omega arith)

-- in some bytes v that begin at place b: from q on, the bytes d
pub record Within (b : ℕ) (v : List ℕ) (q : ℕ) (d : List ℕ) : Type 0 where
  pub low : b ≤ q
  pub high : q + length d ≤ b + length v
  pub bytes : d ≡ take (length d) (drop (q - b) v)

-- what was split off a section stands in it, and has its fixed fields
nth_within : (k : Described) (n count b : ℕ) (s : List ℕ) (q : ℕ) (d : List ℕ) → nth_from b n (split_of k count s).list ≡ found q d
    → Within b s q d × (least_of k ≤ length d)
nth_within k n count b s q d e = go (leb count n) refl
  where
    o : ℕ
    o = size_of (split_of k n s).list

    at_step : (x : Step) → step_of k (drop o s) ≡ x → landed b o s x ≡ found q d → Within b s q d × (least_of k ≤ length d)
    at_step (More m) f g =
        let t = more k (drop o s) m f in
        let a : b + o ≡ q = cc in
        let v : take m (drop o s) ≡ d = cc in
        let l : length d ≡ m = ap length (sym v) ∙ length-take-le m (drop o s) t.most in
        let j : q - b ≡ o = omega arith in
        (record { low = omega arith; high = omega (arith, t.most, t.least, length-drop o s, within_section k n s); bytes = sym v ∙ rw (j, l) }, omega (arith, t.least))
    at_step Used f g = absurd (let z : ◌≡◌ {A = ℕ} 0 1 = cc in omega arith)
    at_step Over f g = absurd (let z : ◌≡◌ {A = ℕ} 0 1 = cc in omega arith)

    go : (c : Bool) → leb count n ≡ c → Within b s q d × (least_of k ≤ length d)
    go true f = absurd (let z = sym (nth_past k (step_of k s) count n b s (leb-true count n f)) ∙ e in let y : ◌≡◌ {A = ℕ} 0 1 = cc in omega arith)
    go false f = at_step (step_of k (drop o s)) refl (sym (nth_lands k n count b s (leb-false count n f)) ∙ e)

-- a part of bytes that are themselves a part
within_part : (c e n : ℕ) (w : List ℕ) (q : ℕ) (d : List ℕ) → e + n ≤ length w → Within (c + e) (take n (drop e w)) q d → Within c w q d
within_part c e n w q d h i =
    let l = length-take-le n (drop e w) (omega (arith, length-drop e w)) in
    let j : e + (q - (c + e)) ≡ q - c = omega (arith, i.low) in
    record {
      low = omega (arith, i.low);
      high = omega (arith, i.high);
      bytes = i.bytes ∙ inner (length d) (q - (c + e)) n (drop e w) (omega (arith, i.low, i.high)) ∙ rw (drop-drop, j);
    }

moved : (at : ℕ) (v : List ℕ) (q : ℕ) (d : List ℕ) → Within 0 v q d → Within (0 + at) v (at + q) d
moved at v q d i =
    let j : at + q - (0 + at) ≡ q - 0 = omega arith in
    record { low = omega arith; high = omega (arith, i.high); bytes = i.bytes ∙ rw j }

-- number n of a packet that is accepted
pub nth_stands : (k : Described) (n : ℕ) (p : List ℕ) (q : ℕ) (d : List ℕ) → umf_verdict p ≡ (Ok tt) → nth_in k n p ≡ found q d
    → Within 0 p q d × ((21 ≤ q) × (q + length d ≤ 21 + length_of p) × (least_of k ≤ length d))
unfolding nth_of parts_of payload_of
nth_stands k n p q d a = go (is_opened p) refl
  where
    go : (b : Bool) → is_opened p ≡ b → pick b (nth_of k n (payload_of p)) missing ≡ found q d → Within 0 p q d × ((21 ≤ q) × (q + length d ≤ 21 + length_of p) × (least_of k ≤ length d))
    go false o e = absurd (let z : ◌≡◌ {A = ℕ} 0 1 = cc in omega arith)
    go true o e =
        let g = good_umf p a in
        let y = payload_of p in
        let i = nth_within k n (count_of k y) (21 + section_at k y) (section_of k y) q d e in
        let j = within_part 21 (section_at k y) (section_size k y) y q d ((g.good o).each k).inside i.0 in
        (within_part 0 21 (length_of p) p q d g.holds j, (omega (arith, j.low), omega (arith, j.high, payload_length p g.holds), i.1))

-- what is asked for at a position and is there: its bytes are the lent ones from there on
pub record Stands (s : List ℕ) (at : ℕ) (k : Described) (n q m : ℕ) : Type 0 where
  pub it : asked_at s at k n ≡ answered (found q (take m (drop (at + q) s)))
  pub inside : at + q + m ≤ length s
  pub least : least_of k ≤ m
  pub size : length (take m (drop (at + q) s)) ≡ m

pub stands : (s : List ℕ) (at : ℕ) (k : Described) (n q m : ℕ) → place_of (asked_at s at k n) ≡ Ok (record { at = q; len = m }) → Stands s at k n q m
unfolding asked_at place_of
stands s at k n q m = go (packet_at s at type_umf) refl
  where
    given : (w : Packet) → packet_at s at type_umf ≡ Ok w → umf_verdict (take w.len (drop at s)) ≡ (Ok tt)
        → (x : Found) → nth_in k n (take w.len (drop at s)) ≡ x → place_of (answered x) ≡ Ok (record { at = q; len = m }) → Stands s at k n q m
    given w e a missing f g = absurd (let z : ◌≡◌ {A = ℕ} 0 1 = cc in omega arith)
    given w e a (found r d) f g =
        let y : ◌≡◌ {A = Part} (record { at = r; len = length d }) (record { at = q; len = m }) = cc in
        let b = ap (λ (v : Part). v.at) y in
        let l = ap (λ (v : Part). v.len) y in
        let t = whole s at w (typed s at type_umf w e).0 in
        let i = nth_stands k n (take w.len (drop at s)) r d a f in
        let j = within_part 0 at w.len s (at + r) d (omega (arith, t.within, t.least)) (moved at (take w.len (drop at s)) r d i.0) in
        let o : d ≡ take m (drop (at + q) s) = let z : at + r - 0 ≡ at + r = omega arith in j.bytes ∙ rw (z, l, b) in
        record {
          it = ap (λ (a : Result Packet Refusal). if_whole s at k n a) e ∙ ap (λ (v : Result ⊤ Refusal). if_accepted k n (take w.len (drop at s)) v) a ∙ ap answered f ∙ ap (λ (u : ℕ). answered (found u d)) b ∙ ap (λ (u : List ℕ). answered (found q u)) o;
          inside = omega (arith, j.high, b, l);
          least = omega (arith, i.1.2, l);
          size = sym (ap length o) ∙ l;
        }

    judged : (w : Packet) → packet_at s at type_umf ≡ Ok w → (v : Result ⊤ Refusal) → umf_verdict (take w.len (drop at s)) ≡ v → place_of (if_accepted k n (take w.len (drop at s)) v) ≡ Ok (record { at = q; len = m }) → Stands s at k n q m
    judged w e (Err r) a g = absurd (let z : ◌≡◌ {A = ℕ} 0 1 = cc in omega arith)
    judged w e (Ok _) a g = given w e a (nth_in k n (take w.len (drop at s))) refl g

    go : (a : Result Packet Refusal) → packet_at s at type_umf ≡ a → place_of (if_whole s at k n a) ≡ Ok (record { at = q; len = m }) → Stands s at k n q m
    go (Err r) e g = absurd (let z : ◌≡◌ {A = ℕ} 0 1 = cc in omega arith)
    go (Ok w) e g = judged w e (umf_verdict (take w.len (drop at s))) refl g

-- what gives the refusals on, and 16 for what is missing, gives the refusal that the place is given with
pub refused_by : {A : Type 0} (f : Asked → A) (g : Refusal → A) → ((r : Refusal) → f (refused r) ≡ g r) → f (answered missing) ≡ g (refusal fault.NotThere 0)
    → (x : Asked) (r : Refusal) → place_of x ≡ Err r → f x ≡ g r
unfolding place_of
refused_by f g a b (refused q) r e = let z : q ≡ r = cc in a q ∙ ap g z
refused_by f g a b (answered missing) r e = let z : refusal fault.NotThere 0 ≡ r = cc in b ∙ ap g z
refused_by f g a b (answered (found q d)) r e = absurd (let z : ◌≡◌ {A = ℕ} 0 1 = cc in omega arith)
