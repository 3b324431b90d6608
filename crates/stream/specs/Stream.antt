-- A stream (RDD 14, clause 5; 01, "Stream, seek, book"): its packets, the check, and seek.
use Rattle.std.specs.Prelude.{ℕ, zero, suc, ◌+◌, Bool, true, false, List, [], ◌∷◌, length, get_or, take, drop, replicate, eqb, ltb, Option, Some, None, Result, Ok, Err, ok_or}
use Rattle.packet.specs.Packet.{type_eos, type_map, type_media}
use Rattle.plate.specs.Choice.{pick}
use Rattle.plate.specs.Ended.{Ended, none, in_front}
use Rattle.plate.specs.Plate.{refusal}
use Rattle.plate.specs.declared.Refusal.{Refusal}
use Rattle.media_type.specs.MediaType.{known_type}
use Rattle.field.specs.Field.{type_alone, carries_two, is_field}
use Rattle.map.specs.Map.{types_in}
use Rattle.piece.specs.Piece.{piece_at}
use Rattle.piece.specs.declared.Piece.{Piece}
use Rattle.order.specs.Order.{started, step_of}
use Rattle.order.specs.declared.Progress.{Progress}
use Rattle.order.specs.declared.Step.{Step}
use Rattle.order.specs.declared.Step.TheVariants as step
use Rattle.plate.specs.declared.Fault.TheVariants as fault

-- a packet of a stream: its offset, what it is, and by ID the marked types of the tracks that the latest map lists, its own if it is a map
pub record Placed : Type 0 where
  pub at : ℕ
  pub piece : Piece
  pub types : List ℕ

-- how the packets end: with an EOS, where no bytes are left, or at a packet whose header or content is refused, or that is first and no map
pub data End : Type 0 where
  closed : End
  runs_out : End
  stops : Refusal → End

abbrev pub Packets : Type 0
Packets = Ended Placed End

-- the latest map's marked types, once a packet has passed
abbrev pub types_after : List ℕ → ℕ → Piece → List ℕ → List ℕ
types_after s at x types = pick (eqb x.packet_type type_map) (types_in (take x.len (drop at s))) types

-- a packet, and what follows it: nothing where it is EOS
abbrev pub on_piece : List ℕ → ℕ → List ℕ → (List ℕ → ℕ → Packets) → Result Piece Refusal → Packets
on_piece s at types next (Err r) = none (stops r)
on_piece s at types next (Ok x) =
    in_front (record { at = at; piece = x; types = types_after s at x types })
    (pick (eqb x.packet_type type_eos) (none closed) (next (types_after s at x types) (at + x.len)))

-- the packets from an offset on, the first of the stream or not; f is more than the packets that can follow
unfoldable pub packets_from : List ℕ → ℕ → Bool → List ℕ → ℕ → Packets
packets_from s zero first types at = none runs_out
packets_from s (suc f) first types at =
    pick (ltb at (length s)) (on_piece s at types (λ now_types next. packets_from s f false now_types next) (piece_at s at first)) (none runs_out)

-- the packets of a stream, up to EOS, to the last byte, or to a packet that `piece_at` refuses
unfoldable pub packets : List ℕ → Packets
packets s = packets_from s (suc (length s)) true (replicate 64 0) 0

-- no bytes left: 17 at the start, 18 later
unfoldable pub ran_out : ℕ → ℕ → Refusal
ran_out count len = pick (eqb count 0) (refusal fault.NoMapFirst 0) (refusal fault.StreamEnd len)

-- the end of the packets, in a stream of n bytes, after some progress; an EOS ends the walk by its own step, so that nothing comes to `closed`
abbrev pub at_end : ℕ → Progress → End → Result ℕ Refusal
at_end n p closed = Err (ran_out p.count n)
at_end n p runs_out = Err (ran_out p.count n)
at_end n p (stops r) = Err r

abbrev pub on_step : (Progress → Result ℕ Refusal) → Result Step Refusal → Result ℕ Refusal
on_step next (Ok (step.Next p)) = next p
on_step next (Ok (step.Ended n)) = Ok n
on_step next (Err r) = Err r

-- the type under which an ID is listed, without the mark
abbrev pub type_for : List ℕ → ℕ → ℕ
type_for types id = type_alone (get_or types id 0)

-- a packet in the order of a stream of n bytes
abbrev pub step_at : ℕ → Progress → Placed → Result Step Refusal
step_at n p x = step_of p x.piece x.at (type_for x.types x.piece.track) (ltb (x.at + x.piece.len) n)

-- the first fault, in walk order, or the number of packets
unfoldable pub judge_packets : ℕ → Progress → List Placed → End → Result ℕ Refusal
judge_packets n p [] e = at_end n p e
judge_packets n p (x ∷ xs) e = on_step (λ q. judge_packets n q xs e) (step_at n p x)

unfoldable pub check_of : List ℕ → Result ℕ Refusal
check_of s = judge_packets (length s) started (packets s).list (packets s).end

-- a packet that carries two fields, or one, carries field F of track T if its type is known, its ID is T, and its number is F or, where it carries two, F − 1
unfoldable pub carries_as : Bool → ℕ → ℕ → Piece → Bool
carries_as two track field x =
    pick (eqb x.packet_type type_media) (pick (eqb x.track track) (pick (is_field two x.field field) (known_type x.media_type) false) false) false

-- a packet carries a field of a track, where a table gives its ID this marked type
abbrev pub carries_piece : ℕ → ℕ → ℕ → Piece → Bool
carries_piece track field byte x = carries_as (carries_two byte x.field) track field x

-- a packet of a stream carries a field of a track, by the latest map before it (clause 4.8; 02, §2)
abbrev pub carries : ℕ → ℕ → Placed → Bool
carries track field x = carries_piece track field (get_or x.types x.piece.track 0) x.piece

-- the offset of the first packet that carries
unfoldable pub first_of : ℕ → ℕ → List Placed → Option ℕ
first_of track field [] = None
first_of track field (x ∷ xs) = pick (carries track field x) (Some x.at) (first_of track field xs)

-- the check's refusal first; then the first carrier, or 16
abbrev pub or_not_there : Option ℕ → Result ℕ Refusal
or_not_there o = ok_or o (refusal fault.NotThere 0)

abbrev pub if_checked : Result ℕ Refusal → Result ℕ Refusal → Result ℕ Refusal
if_checked (Ok n) a = a
if_checked (Err r) a = Err r

unfoldable pub seek_of : List ℕ → ℕ → ℕ → Result ℕ Refusal
seek_of s track field = if_checked (check_of s) (or_not_there (first_of track field (packets s).list))
