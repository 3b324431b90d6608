-- What the walker's definitions say: a step's answer is that of the header at its place alone, a refused step leaves the place, and a step behind a packet stays in the stream; so of many steps the last change nothing.
use Prim.Native.Nat.{ℕ, zero, suc, ◌+◌, ◌-◌, ◌≤◌, ◌*◌, ◌/◌, ◌<◌}
use mathlib.Core.Path.{◌≡◌, refl, sym, ap, ◌∙◌}
use mathlib.Core.List.{List}
use native.Mathlib.Omega.{arith}
use lib.ListN.{length, take, drop}
use Rattle.std.specs.Prelude.{Result, Ok, Err}
use Rattle.packet.specs.Packet.{header_at}
use Rattle.packet.specs.declared.Packet.{Packet}
use Rattle.packet.specs.Lacking.{Lacking}
use Rattle.packet.proofs.Laws.{whole, by_header}
use Rattle.packet.proofs.Torn.{lacking}
use Rattle.plate.specs.declared.Refusal.{Refusal}
use Rattle.walker.specs.Walk.{place_after, place_of, Stepped, walk_of}
use Rattle.walker.specs.Inside.{turns_of}
use mathlib.Core.Bool.{Bool, true, false}
use mathlib.Core.Logic.{◌⊎◌, inl, inr, ⊎_elim}
use native.Mathlib.Nat.{zero-add, suc-add}
use borrow.Author.Tests.{ltb-false}
use lib.Dec.{ltb}
use Rattle.plate.specs.Choice.{pick}
use Rattle.walker.specs.declared.Stop.{Stop}
use Rattle.walker.specs.declared.Walker.{Walker}

-- a refused step leaves the place, and so do all after it
pub refused_stays : (s : List ℕ) (at : ℕ) (r : Refusal) (n : ℕ) → header_at s at ≡ Err r → place_of s at n ≡ at
unfolding place_of place_after
refused_stays s at r zero e = refl
refused_stays s at r (suc n) e = rw (refused_stays s at r n e, e)

-- a step moves behind a whole packet: by 16 bytes at least, and not past the stream's end
pub moves_on : (s : List ℕ) (at : ℕ) (p : Packet) → header_at s at ≡ Ok p
    → (place_after at (header_at s at) ≡ at + p.len) × (at + 16 ≤ place_after at (header_at s at)) × (place_after at (header_at s at) ≤ length s)
unfolding place_after
moves_on s at p e = let g = whole s at p e in rw e (refl, omega (arith, g.least), omega (arith, g.within, g.least))

-- over the contract: two walkers at one place, over streams that have the same sixteen bytes of header there and as many bytes left, give the same answer and move alike;
-- so a step looks at no byte behind the header that it answers for
pub alone : (w v : Walker) (r t : Result Packet Refusal) (x y : Walker) → w.at ≡ v.at
    → take 16 (drop w.at w.stream.now) ≡ take 16 (drop w.at v.stream.now)
    → length w.stream.now - w.at ≡ length v.stream.now - w.at
    → Stepped w r x → Stepped v t y
    → (r ≡ t) × (x.at ≡ y.at)
unfolding Stepped
alone w v r t x y e f l g k =
    let a : header_at w.stream.now w.at ≡ header_at v.stream.now v.at = by_header w.stream.now v.stream.now w.at f l ∙ ap (header_at v.stream.now) e in
    let b : place_after w.at (header_at w.stream.now w.at) ≡ place_after v.at (header_at v.stream.now v.at) = rw (a, e) in
    (g.0 ∙ (a ∙ sym k.0), ap (λ (z : Walker). z.at) g.1 ∙ (b ∙ sym (ap (λ (z : Walker). z.at) k.1)))

-- over the contract: a refused step leaves the walker as it was
pub step_refused : (w : Walker) (r : Refusal) (v : Walker) → Stepped w (Err r) v → v ≡ w
unfolding Stepped place_after
step_refused w r v g = g.1 ∙ rw (← g.0)

-- of bytes that lack a refused step says what the header at its place does, and so does a walk that comes to a refusal
pub step_lacking : (w : Walker) (r : Refusal) (v : Walker) → Stepped w (Err r) v → Lacking w.stream.now w.at r
unfolding Stepped
step_lacking w r v g = lacking w.stream.now w.at r (sym g.0)

pub walk_lacking : (s : List ℕ) (at n : ℕ) (x : Stop) → x ≡ walk_of s at n → (x.answer ≡ header_at s x.at) × ((r : Refusal) → x.answer ≡ Err r → Lacking s x.at r)
unfolding walk_of
walk_lacking s at n x e =
    let there : x.at ≡ place_of s at n = ap (λ (y : Stop). y.at) e in
    let said : x.answer ≡ header_at s x.at = ap (λ (y : Stop). y.answer) e ∙ ap (header_at s) (sym there) in
    (said, λ r f. lacking s x.at r (sym said ∙ f))

-- ---- many steps
-- a step before step k that did not move
record Stuck (s : List ℕ) (at k : ℕ) : Type 0 where
  step : ℕ
  before : step < k
  stays : place_of s at (suc step) ≡ place_of s at step

-- k + 1 steps that all moved came 16 bytes further each, and stand in the stream
abbrev Moved : List ℕ → ℕ → ℕ → Type 0
Moved s at k = (at + 16 * suc k ≤ place_of s at (suc k)) × (place_of s at (suc k) ≤ length s)

refused_there : (s : List ℕ) (at k : ℕ) (r : Refusal) → header_at s (place_of s at k) ≡ Err r → place_of s at (suc k) ≡ place_of s at k
unfolding place_of place_after
refused_there s at k r e = rw e

next_place : (s : List ℕ) (at k : ℕ) → place_of s at (suc k) ≡ place_after (place_of s at k) (header_at s (place_of s at k))
unfolding place_of
next_place s at k = refl

one_step : (s : List ℕ) (at k : ℕ) → at + 16 * k ≤ place_of s at k → Stuck s at (suc k) ⊎ Moved s at k
one_step s at k h = go (header_at s (place_of s at k)) refl
  where
    go : (a : Result Packet Refusal) → header_at s (place_of s at k) ≡ a → Stuck s at (suc k) ⊎ Moved s at k
    go (Err r) e = inl (record { step = k; before = omega arith; stays = refused_there s at k r e })
    go (Ok p) e =
        let m = moves_on s (place_of s at k) p e in
        let n = next_place s at k in
        inr (omega (arith, m.1), omega (arith, m.2))

at_first : (s : List ℕ) (at : ℕ) → at + 16 * zero ≤ place_of s at zero
unfolding place_of
at_first s at = omega arith

all_steps : (s : List ℕ) (at k : ℕ) → Stuck s at (suc k) ⊎ Moved s at k
all_steps s at zero = one_step s at zero (at_first s at)
all_steps s at (suc k) =
    ⊎_elim (λ t. inl (record { step = t.step; before = omega (arith, t.before); stays = t.stays })) (λ m. one_step s at (suc k) m.0) (all_steps s at k)

-- one step of those that a stream has room for, and one more, is refused
far : (s : List ℕ) (at : ℕ) → Stuck s at (suc (length s / 16))
far s at = ⊎_elim (λ t. t) (λ m. absurd (omega (arith, m.0, m.1))) (all_steps s at (length s / 16))

-- one that did not move never does
stuck_on : (s : List ℕ) (at i j : ℕ) → place_of s at (suc i) ≡ place_of s at i → place_of s at (j + i) ≡ place_of s at i
stuck_on s at i zero e = rw zero-add
stuck_on s at i (suc j) e = rw (suc-add, next_place s at (j + i), stuck_on s at i j e) (sym (next_place s at i) ∙ e)

stuck_to : (s : List ℕ) (at k n : ℕ) (t : Stuck s at k) → k ≤ n → place_of s at n ≡ place_of s at t.step
stuck_to s at k n t h =
    let e : n - t.step + t.step ≡ n = omega (arith, t.before) in
    ap (place_of s at) (sym e) ∙ stuck_on s at t.step (n - t.step) t.stays

pub enough_turns : (s : List ℕ) (at n : ℕ) → place_of s at (turns_of (length s) n) ≡ place_of s at n
unfolding turns_of
enough_turns s at n = go (ltb n (length s / 16 + 1)) refl
  where
    go : (b : Bool) → ltb n (length s / 16 + 1) ≡ b → place_of s at (pick b n (length s / 16 + 1)) ≡ place_of s at n
    go true e = refl
    go false e =
        let h = ltb-false n (length s / 16 + 1) e in
        stuck_to s at (suc (length s / 16)) (length s / 16 + 1) (far s at) (omega arith) ∙ sym (stuck_to s at (suc (length s / 16)) n (far s at) (omega arith))
