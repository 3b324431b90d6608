-- Any two outcomes that a contract of this crate allows are equal: the answer, or what the buffer holds.
use mathlib.Core.Path.{◌≡◌, sym, ◌∙◌}
use contract.Lifetimes.{Lfts}
use borrow.Fn.Kinds.{ended_of, res_t, Dens}
use denote.Triple.Clauses.{AtExit}
use Rattle.plate.proofs.Outcome.{OneAnswer}
use Rattle.packet_writer.proofs.lacks_room.Kinds as lacks-room-kinds
use Rattle.packet_writer.proofs.lacks_room.Reads as lacks-room-reads
use Rattle.packet_writer.proofs.put_header.Kinds as put-header-kinds
use Rattle.packet_writer.proofs.put_header.Reads as put-header-reads

pub lacks_room_once : OneAnswer 0 lacks-room-kinds.ps lacks-room-kinds.r lacks-room-reads.Post
lacks_room_once κs a x y s t p q = p ∙ sym q

pub put_header_once : (κs : Lfts 1) (a : Dens κs put-header-kinds.ps) (x y : (res_t put-header-kinds.r κs).Denot)
    (s t : AtExit (ended_of 1 put-header-kinds.ps put-header-kinds.r) κs) → put-header-reads.Post κs a x s → put-header-reads.Post κs a y t → s.0.now ≡ t.0.now
put_header_once κs a x y s t p q = p ∙ sym q
