-- Any two outcomes that a contract of this crate allows are equal.
use mathlib.Core.Path.{sym, ◌∙◌}
use Rattle.plate.proofs.Outcome.{OneAnswer}
use Rattle.probe_records.proofs.fill.Kinds as fill-kinds
use Rattle.probe_records.proofs.fill.Reads as fill-reads

pub fill_once : OneAnswer 1 fill-kinds.ps fill-kinds.r fill-reads.Post
fill_once κs a x y s t p q = p ∙ sym q
