-- What an outcome of a call is: an answer, or what is seen of it, that a function's contract allows on such arguments, as the checker reads the contract (`Reads.Post`).
use Rattle.std.specs.Prelude.{ℕ, ◌≡◌, List, Result}
use contract.Lifetimes.{Lfts}
use borrow.Fn.Kinds.{ParamKind, ResultKind, Out, ended_of, res_t, Dens}
use denote.Triple.Clauses.{AtExit}
use Rattle.packet.proofs.header.Kinds as header-kinds
use Rattle.packet.proofs.header.Reads as header-reads
use Rattle.packet.proofs.of_type.Kinds as of-type-kinds
use Rattle.packet.proofs.of_type.Reads as of-type-reads
use Rattle.walker.specs.declared.Stop.{Stop}
use Rattle.walker.proofs.walk.Kinds as walk-kinds
use Rattle.walker.proofs.walk.Reads as walk-reads
use Rattle.map.proofs.read.Kinds as map-kinds
use Rattle.map.proofs.read.Reads as map-reads
use Rattle.map.proofs.track.Kinds as track-kinds
use Rattle.map.proofs.track.Reads as track-reads
use Rattle.map_writer.proofs.write.Kinds as map-write-kinds
use Rattle.map_writer.proofs.write.Reads as map-write-reads
use Rattle.locator_writer.proofs.write.Kinds as locator-write-kinds
use Rattle.locator_writer.proofs.write.Reads as locator-write-reads
use Rattle.stream.proofs.check.Kinds as check-kinds
use Rattle.stream.proofs.check.Reads as check-reads
use Rattle.stream.proofs.seek.Kinds as seek-kinds
use Rattle.stream.proofs.seek.Reads as seek-reads
use Rattle.book.proofs.lookup.Kinds as lookup-kinds
use Rattle.book.proofs.lookup.Reads as lookup-reads
use Rattle.book_builder.proofs.build.Kinds as build-kinds
use Rattle.book_builder.proofs.build.Reads as build-reads
use Rattle.locator.proofs.read.Kinds as locator-kinds
use Rattle.locator.proofs.read.Reads as locator-reads
use Rattle.locator.proofs.position.Kinds as position-kinds
use Rattle.locator.proofs.position.Reads as position-reads
use Rattle.media.proofs.read.Kinds as media-kinds
use Rattle.media.proofs.read.Reads as media-reads
use Rattle.map_name.specs.declared.OfTwo.{OfTwo}
use Rattle.locator.specs.declared.Locator.{Locator}
use Rattle.map.specs.declared.MapSays.{MapSays}
use Rattle.map_answer.specs.declared.Track.{Track}
use Rattle.map_items.specs.declared.Part.{Part}
use Rattle.media.specs.declared.Media.{Media}
use Rattle.mpeg_parameter.specs.declared.Parameters.{Parameters as AllParameters}
use Rattle.packet.specs.declared.Packet.{Packet}
use Rattle.plate.specs.declared.Refusal.{Refusal}
use Rattle.map_name.proofs.name_place.Kinds as name-place-kinds
use Rattle.map_name.proofs.name_place.Reads as name-place-reads
use Rattle.map_name.proofs.name.Kinds as name-kinds
use Rattle.map_name.proofs.name.Reads as name-reads
use Rattle.map_name.proofs.name_place_of_two.Kinds as name-place-of-two-kinds
use Rattle.map_name.proofs.name_place_of_two.Reads as name-place-of-two-reads
use Rattle.map_name.proofs.name_of_two.Kinds as name-of-two-kinds
use Rattle.map_name.proofs.name_of_two.Reads as name-of-two-reads
use Rattle.mpeg.proofs.read.Kinds as mpeg-kinds
use Rattle.mpeg.proofs.read.Reads as mpeg-reads

-- of a function with n lifetimes, its parameters' kinds, its result's, and its contract: x is what is seen of an outcome that the contract allows on such arguments
pub record Allows (n : ℕ) (ps : List (ParamKind n)) (r : ResultKind n) (Post : Out n ps r) (A : Type 0) (On : (κs : Lfts n) → Dens κs ps → Type 0)
    (seen : (κs : Lfts n) → (res_t r κs).Denot → AtExit (ended_of n ps r) κs → A) (x : A) : Type 0 where
  pub lifetimes : Lfts n
  pub arguments : Dens lifetimes ps
  pub result : (res_t r lifetimes).Denot
  pub exit : AtExit (ended_of n ps r) lifetimes
  pub on : On lifetimes arguments
  pub post : Post lifetimes arguments result exit
  pub it : seen lifetimes result exit ≡ x

-- `packet::header` and `packet::of_type` at a position
abbrev pub Headers : List ℕ → ℕ → Result Packet Refusal → Type 0
Headers s at = Allows 1 header-kinds.ps header-kinds.r header-reads.Post (Result Packet Refusal) (λ κs a. (a.0.now ≡ s) × (a.1.0 ≡ at)) (λ κs x t. x)

abbrev pub OfType : List ℕ → ℕ → ℕ → Result Packet Refusal → Type 0
OfType s at type = Allows 1 of-type-kinds.ps of-type-kinds.r of-type-reads.Post (Result Packet Refusal) (λ κs a. (a.0.now ≡ s) × (a.1.0 ≡ at) × (a.1.1.0 ≡ type)) (λ κs x t. x)

-- `walker::walk` from a place, n steps
abbrev pub Walks : List ℕ → ℕ → ℕ → Stop → Type 0
Walks s at n = Allows 1 walk-kinds.ps walk-kinds.r walk-reads.Post Stop (λ κs a. (a.0.now ≡ s) × (a.1.0 ≡ at) × (a.1.1.0 ≡ n)) (λ κs x t. x)

-- `map::read` at a position, and `map::track` there, for the track of a number
abbrev pub ReadsMap : List ℕ → ℕ → Result MapSays Refusal → Type 0
ReadsMap s at = Allows 1 map-kinds.ps map-kinds.r map-reads.Post (Result MapSays Refusal) (λ κs a. (a.0.now ≡ s) × (a.1.0 ≡ at)) (λ κs x t. x)

abbrev pub ReadsTrack : List ℕ → ℕ → ℕ → Result Track Refusal → Type 0
ReadsTrack s at k = Allows 1 track-kinds.ps track-kinds.r track-reads.Post (Result Track Refusal) (λ κs a. (a.0.now ≡ s) × (a.1.0 ≡ at) × (a.1.1.0 ≡ k)) (λ κs x t. x)

-- `stream::check` on a stream
abbrev pub Checks : List ℕ → Result ℕ Refusal → Type 0
Checks s = Allows 1 check-kinds.ps check-kinds.r check-reads.Post (Result ℕ Refusal) (λ κs a. a.0.now ≡ s) (λ κs x t. x)

-- `stream::seek` in a stream, for a track and a field
abbrev pub Seeks : List ℕ → ℕ → ℕ → Result ℕ Refusal → Type 0
Seeks s track field = Allows 1 seek-kinds.ps seek-kinds.r seek-reads.Post (Result ℕ Refusal) (λ κs a. (a.0.now ≡ s) × (a.1.0 ≡ track) × (a.1.1.0 ≡ field)) (λ κs x t. x)

-- `book::lookup` in a book, for a track and a field
abbrev pub Looks : List ℕ → ℕ → ℕ → Result ℕ Refusal → Type 0
Looks s track field = Allows 1 lookup-kinds.ps lookup-kinds.r lookup-reads.Post (Result ℕ Refusal) (λ κs a. (a.0.now ≡ s) × (a.1.0 ≡ track) × (a.1.1.0 ≡ field)) (λ κs x t. x)

-- `locator::read` at a position
abbrev pub Tables : List ℕ → ℕ → Result Locator Refusal → Type 0
Tables s at = Allows 1 locator-kinds.ps locator-kinds.r locator-reads.Post (Result Locator Refusal) (λ κs a. (a.0.now ≡ s) × (a.1.0 ≡ at)) (λ κs x t. x)

-- `locator::position` at a position, for a distance
abbrev pub Positions : List ℕ → ℕ → ℕ → Result ℕ Refusal → Type 0
Positions s at d = Allows 1 position-kinds.ps position-kinds.r position-reads.Post (Result ℕ Refusal) (λ κs a. (a.0.now ≡ s) × (a.1.0 ≡ at) × (a.1.1.0 ≡ d)) (λ κs x t. x)

-- `media::read` at a position
abbrev pub Preambles : List ℕ → ℕ → Result Media Refusal → Type 0
Preambles s at = Allows 1 media-kinds.ps media-kinds.r media-reads.Post (Result Media Refusal) (λ κs a. (a.0.now ≡ s) × (a.1.0 ≡ at)) (λ κs x t. x)

-- `map_name::name_place` in a map, for a track
abbrev pub Places : List ℕ → ℕ → Result Part Refusal → Type 0
Places s id = Allows 1 name-place-kinds.ps name-place-kinds.r name-place-reads.Post (Result Part Refusal) (λ κs a. (a.0.now ≡ s) × (a.1.0 ≡ id)) (λ κs x t. x)

-- `map_name::name_place_of_two` in an opening and a closing map, for a track
abbrev pub PlacesOfTwo : List ℕ → List ℕ → ℕ → Result OfTwo Refusal → Type 0
PlacesOfTwo opening closing id = Allows 2 name-place-of-two-kinds.ps name-place-of-two-kinds.r name-place-of-two-reads.Post (Result OfTwo Refusal) (λ κs a. (a.0.now ≡ opening) × (a.1.0.now ≡ closing) × (a.1.1.0 ≡ id)) (λ κs x t. x)

-- `map_name::name` in a map, for a track: the bytes of the part
abbrev pub Names : List ℕ → ℕ → List ℕ → Type 0
Names s id = Allows 1 name-kinds.ps name-kinds.r name-reads.Post (List ℕ) (λ κs a. (a.0.now ≡ s) × (a.1.0 ≡ id)) (λ κs x t. x.now)

-- `map_name::name_of_two`: the bytes of the part
abbrev pub NamesOfTwo : List ℕ → List ℕ → ℕ → List ℕ → Type 0
NamesOfTwo opening closing id = Allows 1 name-of-two-kinds.ps name-of-two-kinds.r name-of-two-reads.Post (List ℕ) (λ κs a. (a.0.now ≡ opening) × (a.1.0.now ≡ closing) × (a.1.1.0 ≡ id)) (λ κs x t. x.now)

-- `mpeg::read` of a text
abbrev pub Parameters : List ℕ → Result AllParameters Refusal → Type 0
Parameters s = Allows 1 mpeg-kinds.ps mpeg-kinds.r mpeg-reads.Post (Result AllParameters Refusal) (λ κs a. a.0.now ≡ s) (λ κs x t. x)

-- what a call that is lent a buffer leaves: the answer, and what the buffer then holds. `book_builder::build` into a buffer, from a stream
abbrev pub BuildsInto : List ℕ → List ℕ → Result ℕ Refusal → List ℕ → Type 0
BuildsInto l s x o =
    Allows 2 build-kinds.ps build-kinds.r build-reads.Post ((Result ℕ Refusal) × List ℕ) (λ κs a. (a.0.now ≡ l) × (a.1.0.now ≡ s)) (λ κs x t. (x, t.0.now)) (x, o)

-- `map_writer::write` into a buffer at a place: the text, the material's words and the tracks' words
abbrev pub WritesMap : List ℕ → ℕ → List ℕ → List ℕ → List ℕ → Result ℕ Refusal → List ℕ → Type 0
WritesMap out at text ms ts x o =
    Allows 4 map-write-kinds.ps map-write-kinds.r map-write-reads.Post ((Result ℕ Refusal) × List ℕ)
    (λ κs a. (a.0.now ≡ out) × (a.1.0 ≡ at) × (a.1.1.0.now ≡ text) × (a.1.1.1.0.now ≡ ms) × (a.1.1.1.1.0.now ≡ ts)) (λ κs x t. (x, t.0.now)) (x, o)

-- `locator_writer::write` into a buffer at a place: the step and the entries
abbrev pub WritesLocator : List ℕ → ℕ → ℕ → List ℕ → Result ℕ Refusal → List ℕ → Type 0
WritesLocator out at step ns x o =
    Allows 2 locator-write-kinds.ps locator-write-kinds.r locator-write-reads.Post ((Result ℕ Refusal) × List ℕ)
    (λ κs a. (a.0.now ≡ out) × (a.1.0 ≡ at) × (a.1.1.0 ≡ step) × (a.1.1.1.0.now ≡ ns)) (λ κs x t. (x, t.0.now)) (x, o)

-- a name that is handed out, as the bytes of the part and where it begins in the memory that the lent maps stand in: `map_name::name` and `map_name::name_of_two`
abbrev pub HandsOut : List ℕ → ℕ × ℕ → ℕ → List ℕ → ℕ × ℕ → Type 0
HandsOut s at id v q =
    Allows 1 name-kinds.ps name-kinds.r name-reads.Post (List ℕ × (ℕ × ℕ)) (λ κs a. (a.0.now ≡ s) × (a.0.ref_ptr ≡ at) × (a.1.0 ≡ id)) (λ κs x t. (x.now, x.ref_ptr)) (v, q)

abbrev pub HandsOutOfTwo : List ℕ → ℕ × ℕ → List ℕ → ℕ × ℕ → ℕ → List ℕ → ℕ × ℕ → Type 0
HandsOutOfTwo m at n there id v q =
    Allows 1 name-of-two-kinds.ps name-of-two-kinds.r name-of-two-reads.Post (List ℕ × (ℕ × ℕ))
    (λ κs a. (a.0.now ≡ m) × (a.0.ref_ptr ≡ at) × (a.1.0.now ≡ n) × (a.1.0.ref_ptr ≡ there) × (a.1.1.0 ≡ id)) (λ κs x t. (x.now, x.ref_ptr)) (v, q)
