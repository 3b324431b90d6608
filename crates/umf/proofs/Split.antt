-- A section taken apart and put together again.
use Prim.Native.Nat.{ℕ, zero, suc, ◌+◌, ◌<◌, ◌≤◌}
use mathlib.Core.Path.{◌≡◌, refl, sym, ◌∙◌, ap}
use mathlib.Core.Bool.{Bool, true, false}
use mathlib.Core.List.{List, [], ◌∷◌, ◌++◌, append_assoc, append-nil}
use native.Mathlib.Omega.{arith}
use lib.ListN.{length, get_or, take, drop, length-append, length-drop, take-append-drop}
use lib.Seq.{length-take-le, drop-drop, take-append_seam, drop-append_seam}
use lib.Dec.{eqb}
use borrow.Author.Tests.{le-leb, ne_eqb, eqb-true}
use Rattle.plate.specs.Choice.{pick, within}
use Rattle.number.specs.Number.{le}
use Rattle.map_items.proofs.Anywhere.{never}
use Rattle.umf.specs.Split.{least_of, stated_of, is_counted, step_of, walk, split_of, size_of}
use Rattle.umf.proofs.Statements.{Whole, AllWhole, join, SplitSays, PutTogether}
use Rattle.umf.specs.declared.Described.{Described}
use Rattle.umf.specs.declared.Described.TheVariants.{Tracks, Segments, Users}
use Rattle.umf.specs.declared.Step.{Step}
use Rattle.umf.specs.declared.Step.TheVariants.{More, Used, Over}
use Rattle.umf.proofs.Turns.{more}

front_byte : (s r : List ℕ) (i : ℕ) → i < length s → get_or (s ++ r) i 0 ≡ get_or s i 0
front_byte [] r i h = absurd (omega arith)
front_byte (b ∷ s) r zero h = refl
front_byte (b ∷ s) r (suc i) h = front_byte s r i (omega arith)

-- a number in front of other bytes
le-append : (s r : List ℕ) (at n : ℕ) → at + n ≤ length s → le (s ++ r) at n ≡ le s at n
unfolding le
le-append s r at zero h = refl
le-append s r at (suc n) h = rw (front_byte s r at (omega arith), le-append s r (at + 1) n (omega arith))

-- what is stated is stated in the fixed fields
stated_append : (k : Described) (d r : List ℕ) → least_of k ≤ length d → stated_of k (d ++ r) ≡ stated_of k d
unfolding least_of stated_of
stated_append Tracks d r h = refl
stated_append Segments d r h = le-append d r 0 2 (omega arith)
stated_append Users d r h = le-append d r 0 4 (omega arith)

least_some : (k : Described) → 1 ≤ least_of k
unfolding least_of
least_some Tracks = omega arith
least_some Segments = omega arith
least_some Users = omega arith

-- a whole one in front is the step
pub step_whole : (k : Described) (d r : List ℕ) → Whole k d → step_of k (d ++ r) ≡ More (length d)
unfolding step_of
step_whole k d r w =
    let l = least_some k in
    let n : length (d ++ r) ≡ length d + length r = length-append d r in
    let z : length (d ++ r) ≡ 0 → ⊥ = λ e. omega (arith, w.least) in
    let s : stated_of k (d ++ r) ≡ length d = stated_append k d r w.least ∙ w.stated in
    rw (s, ne_eqb _ _ z, le-leb _ _ w.least, le-leb (length d) (length (d ++ r)) (omega arith)) (none_used (is_counted k))
  where
    none_used : (b : Bool) → pick (pick b false false) Used (More (length d)) ≡ More (length d)
    none_used true = refl
    none_used false = refl

-- and what a step passes is whole
pub whole_step : (k : Described) (s : List ℕ) (m : ℕ) → step_of k s ≡ More m → Whole k (take m s)
whole_step k s m e =
    let f = more k s m e in
    let l = length-take-le m s f.most in
    let a = stated_append k (take m s) (drop m s) (omega (arith, f.least)) in
    record { stated = sym a ∙ ap (stated_of k) (take-append-drop m s) ∙ sym f.stated ∙ sym l; least = omega (arith, f.least) }

-- a walk is used up where nothing is left, and of user records alone
used_empty : (k : Described) (s : List ℕ) → step_of k s ≡ Used → length s ≡ 0
unfolding step_of
used_empty k s = go (is_counted k) (eqb (length s) 0) refl
  where
    rest : (b : Bool) → pick b (More (stated_of k s)) Over ≡ Used → ⊥
    rest true e = absurd (let z : ◌≡◌ {A = ℕ} 0 1 = cc in omega arith)
    rest false e = absurd (let z : ◌≡◌ {A = ℕ} 0 1 = cc in omega arith)

    go : (a b : Bool) → eqb (length s) 0 ≡ b → pick (pick a false b) Used (pick (within (least_of k) (length s) (stated_of k s)) (More (stated_of k s)) Over) ≡ Used → length s ≡ 0
    go true b f e = absurd (rest (within (least_of k) (length s) (stated_of k s)) e)
    go false true f e = eqb-true (length s) 0 f
    go false false f e = absurd (rest (within (least_of k) (length s) (stated_of k s)) e)

used_counted : (k : Described) (s : List ℕ) → step_of k s ≡ Used → is_counted k ≡ true → ⊥
unfolding step_of
used_counted k s e c = rest (within (least_of k) (length s) (stated_of k s)) (rw c at e)
  where
    rest : (b : Bool) → pick b (More (stated_of k s)) Over ≡ Used → ⊥
    rest true e = absurd (let z : ◌≡◌ {A = ℕ} 0 1 = cc in omega arith)
    rest false e = absurd (let z : ◌≡◌ {A = ℕ} 0 1 = cc in omega arith)

-- there are no more than bytes
pub few_whole : (k : Described) (ds : List (List ℕ)) → AllWhole k ds → length ds ≤ length (join ds)
unfolding AllWhole join
few_whole k [] w = omega arith
few_whole k (d ∷ ds) w = omega (arith, length-append d (join ds), few_whole k ds w.1, w.0.least, least_some k)

-- put together: n is the number of them, or for user records no less, and then nothing is behind
pub put : (k : Described) (ds : List (List ℕ)) (r : List ℕ) (n : ℕ) → AllWhole k ds → (is_counted k ≡ true → n ≡ length ds) → (is_counted k ≡ false → (length ds ≤ n) × (r ≡ []))
    → split_of k n (join ds ++ r) ≡ record { list = ds; end = true }
unfolding walk AllWhole join step_of
put k [] r zero w c u = refl
put k [] r (suc n) w c u = go (is_counted k) refl
  where
    go : (b : Bool) → is_counted k ≡ b → split_of k (suc n) r ≡ record { list = []; end = true }
    go true e = absurd (omega (arith, c e))
    go false e =
        let x : step_of k r ≡ Used = rw ((u e).1, e) in
        ap (λ (y : Step). walk k y (suc n) r) x
put k (d ∷ ds) r zero w c u = go (is_counted k) refl
  where
    go : (b : Bool) → is_counted k ≡ b → split_of k zero (join (d ∷ ds) ++ r) ≡ record { list = d ∷ ds; end = true }
    go true e = absurd (omega (arith, c e))
    go false e = absurd (omega (arith, (u e).0))
put k (d ∷ ds) r (suc n) w c u =
    let q = put k ds r n w.1 (λ e. omega (arith, c e)) (λ e. (omega (arith, (u e).0), (u e).1)) in
    let s : join (d ∷ ds) ++ r ≡ d ++ (join ds ++ r) = append_assoc d (join ds) r in
    rw s (ap (λ (y : Step). walk k y (suc n) (d ++ (join ds ++ r))) (step_whole k d (join ds ++ r) w.0) ∙ next (join ds ++ r) q)
  where
    next : (t : List ℕ) → split_of k n t ≡ record { list = ds; end = true } → walk k (More (length d)) (suc n) (d ++ t) ≡ record { list = d ∷ ds; end = true }
    next t q = rw (take-append_seam d t, drop-append_seam d t, q)

pub put_together : (k : Described) (ds : List (List ℕ)) → AllWhole k ds → PutTogether k ds
put_together k ds w =
    record {
      counted = λ c r. put k ds r (length ds) w (λ e. refl) (λ e. absurd (never (sym c ∙ e)));
      used = λ u n h. rw append-nil at (put k ds [] n w (λ e. absurd (never (sym e ∙ u))) (λ e. (h, refl)));
    }

-- nothing whole stands where a step does not pass
none_whole : (k : Described) (s : List ℕ) → ((m : ℕ) → step_of k s ≡ More m → ⊥) → (d r : List ℕ) → s ≡ d ++ r → Whole k d → ⊥
none_whole k s n d r e w = n (length d) (ap (step_of k) e ∙ step_whole k d r w)

-- what a walk tells, from its first step on
pub split_says : (k : Described) (n : ℕ) (s : List ℕ) → SplitSays k n s (split_of k n s)
unfolding walk AllWhole join size_of
split_says k zero s = record { each = tt; front = refl; counted = λ e c. refl; used = λ e c h. omega arith; stopped = λ e. never e }
split_says k (suc n) s = go (step_of k s) refl (split_says k n)
  where
    go : (x : Step) → step_of k s ≡ x → ((t : List ℕ) → SplitSays k n t (split_of k n t)) → SplitSays k (suc n) s (walk k x (suc n) s)
    go Used e r = record { each = tt; front = refl; counted = λ f c. absurd (used_counted k s e c); used = λ f c h. sym (used_empty k s e); stopped = λ f. never f }
    go Over e r = record { each = tt; front = refl; counted = λ f c. never (sym f); used = λ f c h. never (sym f); stopped = λ f. (omega arith, none_whole k s (λ m g. over_more (sym e ∙ g))) }
      where
        over_more : {m : ℕ} → Over ≡ More m → ⊥
        over_more g = absurd (let z : ◌≡◌ {A = ℕ} 0 1 = cc in omega arith)
    go (More m) e r =
        let f = more k s m e in
        let l = length-take-le m s f.most in
        let t = drop m s in
        let i = r t in
        let w = split_of k n t in
        let d : drop (m + size_of w.list) s ≡ drop (size_of w.list) t = sym (drop-drop (size_of w.list) m s) in
        record {
          each = (whole_step k s m e, i.each);
          front = sym (rw (l, d, append_assoc (take m s) (join w.list) (drop (size_of w.list) t), ← i.front) (take-append-drop m s));
          counted = λ u c. omega (arith, i.counted u c);
          used = λ u c h. omega (arith, l, i.used u c (omega (arith, length-drop m s, f.least, least_some k)), length-drop m s, f.most);
          stopped = λ u. (omega (arith, (i.stopped u).0), λ b c g v. (i.stopped u).1 b c (sym d ∙ ap (λ (q : ℕ). drop (q + size_of w.list) s) (sym l) ∙ g) v);
        }
