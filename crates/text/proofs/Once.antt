-- Any two outcomes that the contract of `is_text` allows are equal.
use mathlib.Core.Path.{sym, ◌∙◌}
use Rattle.plate.proofs.Outcome.{OneAnswer}
use Rattle.text.proofs.is_text.Kinds as kinds
use Rattle.text.proofs.is_text.Reads as reads

pub is_text_once : OneAnswer 1 kinds.ps kinds.r reads.Post
is_text_once κs a x y s t p q = p ∙ sym q
