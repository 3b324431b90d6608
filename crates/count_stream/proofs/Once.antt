-- Any two outcomes that a contract of this crate allows are equal.
use mathlib.Core.Path.{sym, ◌∙◌}
use Rattle.plate.proofs.Outcome.{OneAnswer}
use Rattle.count_stream.proofs.gxf_check.Kinds as check-kinds
use Rattle.count_stream.proofs.gxf_check.Reads as check-reads
use Rattle.count_stream.proofs.gxf_lookup.Kinds as lookup-kinds
use Rattle.count_stream.proofs.gxf_lookup.Reads as lookup-reads

pub gxf_check_once : OneAnswer 1 check-kinds.ps check-kinds.r check-reads.Post
gxf_check_once κs a x y s t p q = p ∙ sym q

pub gxf_lookup_once : OneAnswer 1 lookup-kinds.ps lookup-kinds.r lookup-reads.Post
gxf_lookup_once κs a x y s t p q = p ∙ sym q
