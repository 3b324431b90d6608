-- Any two outcomes that the contract of `gxf_map` allows are equal.
use mathlib.Core.Path.{sym, ◌∙◌}
use Rattle.plate.proofs.Outcome.{OneAnswer}
use Rattle.count_map.proofs.gxf_map.Kinds as kinds
use Rattle.count_map.proofs.gxf_map.Reads as reads

pub gxf_map_once : OneAnswer 1 kinds.ps kinds.r reads.Post
gxf_map_once κs a x y s t p q = p ∙ sym q
