-- Any two outcomes that a contract of this crate allows are equal.
use mathlib.Core.Path.{sym, ◌∙◌}
use Rattle.plate.proofs.Outcome.{OneAnswer}
use Rattle.control.proofs.gxf_header.Kinds as gxf-header-kinds
use Rattle.control.proofs.gxf_header.Reads as gxf-header-reads
use Rattle.control.proofs.gxf_position.Kinds as gxf-position-kinds
use Rattle.control.proofs.gxf_position.Reads as gxf-position-reads
use Rattle.control.proofs.gxf_seek.Kinds as gxf-seek-kinds
use Rattle.control.proofs.gxf_seek.Reads as gxf-seek-reads

pub gxf_header_once : OneAnswer 1 gxf-header-kinds.ps gxf-header-kinds.r gxf-header-reads.Post
gxf_header_once κs a x y s t p q = p ∙ sym q

pub gxf_position_once : OneAnswer 1 gxf-position-kinds.ps gxf-position-kinds.r gxf-position-reads.Post
gxf_position_once κs a x y s t p q = p ∙ sym q

pub gxf_seek_once : OneAnswer 1 gxf-seek-kinds.ps gxf-seek-kinds.r gxf-seek-reads.Post
gxf_seek_once κs a x y s t p q = p ∙ sym q
