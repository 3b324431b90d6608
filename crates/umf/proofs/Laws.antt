-- A UMF packet judged, what its acceptance tells, and number n of a section.
use Prim.Native.Nat.{ℕ, zero, suc, ◌+◌, ◌-◌, ◌<◌, ◌≤◌}
use mathlib.Core.Path.{◌≡◌, refl, sym, ◌∙◌, ap}
use mathlib.Core.Logic.{◌⊎◌, inl, inr}
use mathlib.Core.Bool.{Bool, true, false}
use mathlib.Core.List.{List}
use native.Mathlib.Omega.{arith}
use native.Mathlib.Nat.{add-zero, add_assoc, add-sub_cancel_left}
use lib.ListN.{length, get_or, take, drop, length-drop}
use lib.Seq.{length-take-le, drop-drop}
use lib.Dec.{ltb}
use borrow.Author.Tests.{lt-ltb, le-ltb, eq-eqb, ne_eqb, ltb-false}
use Rattle.std.specs.Prelude.{Some, None, Result, Ok, Err, ⊤}
use Rattle.std.specs.Option.{ok_or}
use Rattle.plate.specs.Choice.{pick}
use Rattle.plate.specs.Plate.{refusal}
use Rattle.number.specs.Number.{be}
use Rattle.map_items.specs.Judge.{and_then}
use Rattle.map_items.specs.Find.{Found, missing, found, part_of}
use Rattle.umf.specs.Split.{step_of, walk, split_of, size_of}
use Rattle.umf.specs.Inside.{walked_of}
use Rattle.umf.specs.Umf.{length_of, payload_of, is_opened, section_at, section_size, parts_of, bad30, section_verdict, payload_verdict, umf_verdict, nth_from, answered, place_of}
use Rattle.umf.specs.declared.Described.{Described}
use Rattle.umf.specs.declared.Described.TheVariants.{Tracks, Segments, Users}
use Rattle.umf.specs.declared.Step.{Step}
use Rattle.umf.specs.declared.Step.TheVariants.{More, Used, Over}
use Rattle.umf.specs.declared.Walked.{Walked}
use Rattle.plate.specs.declared.Refusal.{Refusal}
use Rattle.plate.specs.declared.Fault.TheVariants as fault
use Rattle.umf.proofs.Turns.{more}
use Rattle.umf.proofs.Sections.{within_section}

module _ (p : List ℕ) where
  pub on_short : length p < 21 + be p 17 4 → bad30 16 ≡ umf_verdict p
  unfolding umf_verdict
  on_short h = rw (lt-ltb _ _ h)

  module _ (h : 21 + be p 17 4 ≤ length p) where
    pub on_closed : (get_or p 16 0 ≡ 3 → ⊥) → (Ok tt) ≡ umf_verdict p
    unfolding umf_verdict
    on_closed q = rw (le-ltb _ _ h, ne_eqb _ _ q)

    pub on_opened : get_or p 16 0 ≡ 3 → payload_verdict (payload_of p) ≡ umf_verdict p
    unfolding umf_verdict
    on_opened q = rw (le-ltb _ _ h, eq-eqb _ _ q)

-- what was accepted at the end of two choices passed both
passes : (b : Bool) (n : ℕ) (v : Result ⊤ Refusal) → pick b (bad30 n) v ≡ (Ok tt) → (b ≡ false) × (v ≡ (Ok tt))
passes true n v e = absurd (let z : ◌≡◌ {A = ℕ} 0 1 = cc in omega arith)
passes false n v e = (refl, e)

ends : (b : Bool) (n : ℕ) → pick b (Ok tt) (bad30 n) ≡ (Ok tt) → b ≡ true
ends true n e = refl
ends false n e = absurd (let z : ◌≡◌ {A = ℕ} 0 1 = cc in omega arith)

both : (v w : Result ⊤ Refusal) → and_then v w ≡ (Ok tt) → (v ≡ (Ok tt)) × (w ≡ (Ok tt))
both (Ok _) w e = (refl, e)
both (Err r) w e = absurd (let z : ◌≡◌ {A = ℕ} 0 1 = cc in omega arith)

-- a section that was accepted lies in the payload and has all that it is to have
pub record GoodSection (k : Described) (y : List ℕ) : Type 0 where
  pub inside : section_at k y + section_size k y ≤ length y
  pub whole : (parts_of k y).end ≡ true

good_section : (k : Described) (y : List ℕ) → section_verdict k y ≡ (Ok tt) → GoodSection k y
unfolding section_verdict
good_section k y e =
    let a = passes (ltb (length y) (section_at k y + section_size k y)) _ _ e in
    record { inside = ltb-false (length y) (section_at k y + section_size k y) a.0; whole = ends (parts_of k y).end _ a.1 }

pub record GoodPayload (y : List ℕ) : Type 0 where
  pub described : 104 ≤ length y
  pub each : (k : Described) → GoodSection k y

pub good_payload : (y : List ℕ) → payload_verdict y ≡ (Ok tt) → GoodPayload y
unfolding payload_verdict
good_payload y e =
    let a = passes (ltb (length y) 48) _ _ e in
    let b = passes (ltb (length y) 104) _ _ a.1 in
    let t = both (section_verdict Tracks y) _ b.1 in
    let m = both (section_verdict Segments y) (section_verdict Users y) t.1 in
    record { described = ltb-false (length y) 104 b.0; each = every t.0 m.0 m.1 }
  where
    every : section_verdict Tracks y ≡ (Ok tt) → section_verdict Segments y ≡ (Ok tt) → section_verdict Users y ≡ (Ok tt) → (k : Described) → GoodSection k y
    every a b c Tracks = good_section Tracks y a
    every a b c Segments = good_section Segments y b
    every a b c Users = good_section Users y c

-- what is in it is as long as it says
pub payload_length : (p : List ℕ) → 21 + length_of p ≤ length p → length (payload_of p) ≡ length_of p
unfolding payload_of
payload_length p h = length-take-le (length_of p) (drop 21 p) (omega (arith, length-drop 21 p))

-- a packet that was accepted holds its payload, and that of one that is opened is good
pub record GoodUmf (p : List ℕ) : Type 0 where
  pub holds : 21 + length_of p ≤ length p
  pub good : is_opened p ≡ true → GoodPayload (payload_of p)

pub good_umf : (p : List ℕ) → umf_verdict p ≡ (Ok tt) → GoodUmf p
unfolding umf_verdict
good_umf p e =
    let a = passes (ltb (length p) (21 + length_of p)) _ _ e in
    record { holds = ltb-false (length p) (21 + length_of p) a.0; good = λ o. good_payload (payload_of p) (rw o at a.1) }

-- number n of a walk stands where a walk past n ends, if there is one more
abbrev pub landed : ℕ → ℕ → List ℕ → Step → Found
landed b o d (More m) = found (b + o) (take m (drop o d))
landed b o d Used = missing
landed b o d Over = missing

pub nth_lands : (k : Described) (n count : ℕ) (b : ℕ) (d : List ℕ) → n < count
    → nth_from b n (split_of k count d).list ≡ landed b (size_of (split_of k n d).list) d (step_of k (drop (size_of (split_of k n d).list) d))
unfolding walk nth_from size_of
nth_lands k n zero b d h = absurd (omega arith)
nth_lands k zero (suc c) b d h = go (step_of k d)
  where
    go : (x : Step) → nth_from b 0 (walk k x (suc c) d).list ≡ landed b 0 d x
    go (More m) = rw (add-zero b)
    go Used = refl
    go Over = refl
nth_lands k (suc n) (suc c) b d h = go (step_of k d) refl (λ m. nth_lands k n c (b + m) (drop m d) (omega arith))
  where
    moved : (m o : ℕ) (x : Step) → landed (b + m) o (drop m d) x ≡ landed b (m + o) d x
    moved m o (More j) = rw (drop-drop o m d, add_assoc b m o)
    moved m o Used = refl
    moved m o Over = refl

    go : (x : Step) → step_of k d ≡ x
        → ((m : ℕ) → nth_from (b + m) n (split_of k c (drop m d)).list ≡ landed (b + m) (size_of (split_of k n (drop m d)).list) (drop m d) (step_of k (drop (size_of (split_of k n (drop m d)).list) (drop m d))))
        → nth_from b (suc n) (walk k x (suc c) d).list ≡ landed b (size_of (walk k x (suc n) d).list) d (step_of k (drop (size_of (walk k x (suc n) d).list) d))
    go (More m) e r =
        let o = size_of (split_of k n (drop m d)).list in
        let l = length-take-le m d (more k d m e).most in
        let f : drop o (drop m d) ≡ drop (m + o) d = drop-drop o m d in
        ap (λ (q : ℕ). nth_from (b + q) n (split_of k c (drop m d)).list) l
        ∙ r m
        ∙ moved m o (step_of k (drop o (drop m d)))
        ∙ ap (λ (u : List ℕ). landed b (m + o) d (step_of k u)) f
        ∙ sym (ap (λ (q : ℕ). landed b (q + o) d (step_of k (drop (q + o) d))) l)
    go Used e r = rw e
    go Over e r = rw e

-- past the number asked for there is none
pub nth_past : (k : Described) (x : Step) (count n b : ℕ) (d : List ℕ) → count ≤ n → nth_from b n (walk k x count d).list ≡ missing
unfolding walk nth_from
nth_past k x zero n b d h = refl
nth_past k Used (suc c) n b d h = refl
nth_past k Over (suc c) n b d h = refl
nth_past k (More m) (suc c) zero b d h = absurd (omega arith)
nth_past k (More m) (suc c) (suc n) b d h = nth_past k (step_of k (drop m d)) c n (b + length (take m d)) (drop m d) (omega arith)

-- a walk past n, as it was counted, and the step behind it
module _ (k : Described) (n count b : ℕ) (d : List ℕ) (h : n < count) (w : Walked) (e : w ≡ walked_of (split_of k n d)) where
  bytes_are_lem : w.bytes ≡ size_of (split_of k n d).list
  bytes_are_lem = ap (λ (v : Walked). v.bytes) e

  lands : nth_from b n (split_of k count d).list ≡ landed b w.bytes d (step_of k (drop w.bytes d))
  lands = rw bytes_are_lem (nth_lands k n count b d h)

  pub walked_in : w.bytes ≤ length d
  walked_in = omega (arith, bytes_are_lem, within_section k n d)

  pub at_more : (m : ℕ) → step_of k (drop w.bytes d) ≡ More m → Some (record { at = b + w.bytes; len = m }) ≡ part_of (nth_from b n (split_of k count d).list)
  at_more m f = sym (ap part_of lands ∙ rw (f, length-take-le m (drop w.bytes d) (more k (drop w.bytes d) m f).most))

  pub at_end : {x : Step} → x ≡ step_of k (drop w.bytes d) → (x ≡ Used) ⊎ (x ≡ Over) → None ≡ part_of (nth_from b n (split_of k count d).list)
  at_end f (inl e) = sym (ap part_of lands ∙ rw (sym f ∙ e))
  at_end f (inr e) = sym (ap part_of lands ∙ rw (sym f ∙ e))

-- the payload of an accepted packet that is opened, as the code cuts it out
module _ (p : List ℕ) (n : ℕ) (e : n ≡ be p 17 4) where
  pub cut_out : take (21 + n - 21) (drop 21 p) ≡ payload_of p
  unfolding payload_of
  cut_out = rw (add-sub_cancel_left, e)

  pub cut_good : umf_verdict p ≡ (Ok tt) → get_or p 16 0 ≡ 3 → GoodPayload (take (21 + n - 21) (drop 21 p))
  cut_good a o = rw cut_out ((good_umf p a).good (eq-eqb _ _ o))

-- an answer by place and length, of what is there or is missing
pub placed : (x : Found) → ok_or (part_of x) (refusal fault.NotThere 0) ≡ place_of (answered x)
unfolding place_of
placed missing = refl
placed (found p d) = refl
