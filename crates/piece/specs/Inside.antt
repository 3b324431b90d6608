-- What serves the code alone: the length of a media packet, by what its header says.
use Rattle.std.specs.Prelude.{ℕ, eqb, Option, Some, None, Result, Ok, Err}
use Rattle.plate.specs.Choice.{pick}
use Rattle.packet.specs.Packet.{type_media}
use Rattle.packet.specs.declared.Packet.{Packet}
use Rattle.plate.specs.declared.Refusal.{Refusal}

-- none where there is no whole packet, or one of another type
unfoldable pub media_len : Result Packet Refusal → Option ℕ
media_len (Err r) = None
media_len (Ok w) = pick (eqb w.packet_type type_media) (Some w.len) None
