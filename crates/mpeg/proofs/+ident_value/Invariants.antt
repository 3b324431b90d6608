use Prim.Native.Nat.{◌-◌}
use lib.ListN.{length}
use Rattle.mpeg.proofs.+ident_value.Given as goal

-- how many bytes are left
abbrev pub decreases-ident : goal.decreases-ident
decreases-ident l = length l.s.now - l.from

abbrev pub decreases-value : goal.decreases-value
decreases-value l = length l.s.now - l.label.value
