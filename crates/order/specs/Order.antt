-- The order of packets (RDD 14, clauses 5.1 and 5.2; 01, "Stream, seek, book"): one piece after another, with the type that the latest map lists under a media packet's ID, and whether bytes follow.
use Rattle.std.specs.Prelude.{ℕ, ◌+◌, Bool, true, false, not, eqb, leb, Result, Ok, Err}
use Rattle.packet.specs.Packet.{type_eos, type_flt, type_map, type_media, type_umf}
use Rattle.plate.specs.Choice.{pick}
use Rattle.plate.specs.Plate.{refusal}
use Rattle.media_type.specs.MediaType.{known_type}
use Rattle.piece.specs.declared.Piece.{Piece}
use Rattle.plate.specs.declared.Refusal.{Refusal}
use Rattle.order.specs.declared.Progress.{Progress}
use Rattle.order.specs.declared.Step.{Step}
use Rattle.order.specs.declared.Step.TheVariants.{Next, Ended}
use Rattle.plate.specs.declared.Fault.TheVariants as fault

-- before the first packet
abbrev pub started : Progress
started = record { count = 0; since_map = 0; flt = false; eos_due = false; umf = false }

-- 19: after an FLT that did not directly follow the first map only EOS may stand, and a second FLT nowhere
unfoldable pub misplaced : Bool → Bool → ℕ → Bool
misplaced eos_due flt packet_type = pick eos_due (not (eqb packet_type type_eos)) (pick flt (eqb packet_type type_flt) false)

-- 20: every packet that is no map counts, and the hundredth in a row is one too many
unfoldable pub overdue : ℕ → ℕ → Bool
overdue since_map packet_type = pick (eqb packet_type type_map) false (leb 99 since_map)

-- 22: a media packet of known type has another type than the latest map lists under its ID
unfoldable pub unmapped : ℕ → ℕ → ℕ → Bool
unmapped packet_type media_type listed = pick (eqb packet_type type_media) (pick (eqb media_type listed) false (known_type media_type)) false

unfoldable pub either_type : Bool → ℕ → ℕ → Bool
either_type flag packet_type wanted = pick flag true (eqb packet_type wanted)

-- an FLT that is not the second packet does not directly follow the first map: only EOS may follow it
unfoldable pub falls : ℕ → ℕ → Bool
falls count packet_type = pick (eqb packet_type type_flt) (not (eqb count 1)) false

-- the progress after a packet
unfoldable pub progress_after : Progress → ℕ → Progress
progress_after p packet_type =
    record {
      count = p.count + 1;
      since_map = pick (eqb packet_type type_map) 0 (p.since_map + 1);
      flt = either_type p.flt packet_type type_flt;
      eos_due = falls p.count packet_type;
      umf = either_type p.umf packet_type type_umf;
    }

-- at an EOS: 18 where bytes follow it, 21 where no UMF came before it, else the number of packets
unfoldable pub ending : Progress → ℕ → Bool → Result Step Refusal
ending p at more = pick more (Err (refusal fault.StreamEnd at)) (pick p.umf (Ok (Ended (p.count + 1))) (Err (refusal fault.NoUmf at)))

-- a packet at a position, of a type and a media type, with the type that the latest map lists under its ID, and whether bytes follow it: 19, 20, 22, then 18 and 21
abbrev pub step_as : Progress → ℕ → ℕ → ℕ → ℕ → Bool → Result Step Refusal
step_as p packet_type media_type at listed more =
    pick (misplaced p.eos_due p.flt packet_type) (Err (refusal fault.LocatorPlace at))
    (pick (overdue p.since_map packet_type) (Err (refusal fault.MapOverdue at))
    (pick (unmapped packet_type media_type listed) (Err (refusal fault.Unmapped at))
    (pick (eqb packet_type type_eos) (ending p at more) (Ok (Next (progress_after p packet_type))))))

-- the same of a piece
unfoldable pub step_of : Progress → Piece → ℕ → ℕ → Bool → Result Step Refusal
step_of p x at listed more = step_as p x.packet_type x.media_type at listed more
