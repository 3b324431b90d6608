-- The walker (01, "Packets are also read one after another by a walker that remembers the stream and its place. A refused step leaves the place").
use Rattle.std.specs.Prelude.{ℕ, zero, suc, ◌+◌, ◌≡◌, List, Result, Ok, Err}
use Rattle.std.specs.Borrow.{Bor}
use Rattle.packet.specs.Packet.{header_at}
use Rattle.walker.specs.declared.Walker.{Walker}
use Rattle.walker.specs.declared.Stop.{Stop}
use Rattle.packet.specs.declared.Packet.{Packet}
use Rattle.plate.specs.declared.Refusal.{Refusal}

-- behind a whole packet; where it is refused, the place itself
unfoldable pub place_after : ℕ → Result Packet Refusal → ℕ
place_after at (Ok p) = at + p.len
place_after at (Err r) = at

-- the place after n steps from a place
unfoldable pub place_of : List ℕ → ℕ → ℕ → ℕ
place_of s at zero = at
place_of s at (suc n) = place_after (place_of s at n) (header_at s (place_of s at n))

-- a walker was made of a stream and a place
unfoldable pub Made : Bor (List ℕ) → ℕ → Walker → Type 0
Made s at w = w ≡ record { stream = s; at = at }

-- a walker w made a step: the answer is what stands at its place, the stream is the same, and it stands after that packet
unfoldable pub Stepped : Walker → Result Packet Refusal → Walker → Type 0
Stepped w r v =
    (r ≡ header_at w.stream.now w.at)
    × (v ≡ record { stream = w.stream; at = place_after w.at (header_at w.stream.now w.at) })

abbrev pub stop : ℕ → Result Packet Refusal → Stop
stop at a = record { at = at; answer = a }

-- the place after n steps, and what stands there
unfoldable pub walk_of : List ℕ → ℕ → ℕ → Stop
walk_of s at n = stop (place_of s at n) (header_at s (place_of s at n))
