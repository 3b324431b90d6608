use Prim.Native.Nat.{ℕ, ◌≤◌}
use mathlib.Core.Path.{◌≡◌, ◌∙◌, ap}
use mathlib.Core.List.{List, ◌++◌}
use borrow.Author.Rules.{rules}
use lib.ListN.{length, take, drop}
use lib.Seq.{length-take-le}
use Rattle.std.specs.Prelude.{Result}
use Rattle.map_answer.specs.declared.Track.{Track}
use Rattle.map.specs.declared.MapSays.{MapSays}
use Rattle.plate.specs.declared.Refusal.{Refusal}
use Rattle.map_records.specs.Fill.{records_at, answer_for, lent_after, Filled}
use Rattle.probe_records.specs.Lent.{afterwards, after_fill}
use Rattle.probe_records.proofs.lend.Goals as goal

-- what a call on the first n of the records left, with the others behind
reached : (xs : List Track) (n : ℕ) (s : List ℕ) (at : ℕ) (r : Result MapSays Refusal) (zs : List Track) → length (take n xs) ≡ n → Filled (take n xs) s at r zs → afterwards r (zs ++ drop n xs) ≡ after_fill xs n s at
unfolding Filled after_fill
reached xs n s at r zs e f =
    let is : r ≡ answer_for s at n = f.0 ∙ ap (λ (m : ℕ). answer_for s at m) e in
    let left : zs ≡ lent_after (records_at s at) (take n xs) (answer_for s at n) = f.1 ∙ ap (λ (m : ℕ). lent_after (records_at s at) (take n xs) (answer_for s at m)) e in
    λ i. afterwards (is i) (left i ++ drop n xs)

pub returns : goal.returns
returns c =
    let within : c.args.n ≤ length c.args.records = search rules in
    c.left.ensures ∙ reached _ _ _ _ _ _ (length-take-le c.args.n c.args.records within) c.fill-answer.ensures
