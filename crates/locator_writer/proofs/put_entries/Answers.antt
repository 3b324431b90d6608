use mathlib.Core.Path.{refl, ◌∙◌}
use Rattle.locator_writer.specs.Write.{entry_bytes}
use Rattle.locator_writer.proofs.Laws.{entry_more}
use Rattle.locator_writer.proofs.put_entries.Goals as goal

pub loop-k-init : goal.loop-k-init
unfolding entry_bytes
loop-k-init c = refl

pub loop-k-preserved : goal.loop-k-preserved
loop-k-preserved c = let a = c.args in c.put_le.ensures ∙ rw c.loop-k.invariant (entry_more a.out.now a.offsets.now a.at c.loop-k.k c.loop-k-test.true)
