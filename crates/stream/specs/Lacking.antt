-- What the bytes lacking say of a stream that is refused (02, §4): they are those of its torn packet, and more bytes behind the lent ones make them fewer.
use Rattle.std.specs.Prelude.{ℕ, ◌+◌, ◌-◌, ◌<◌, ◌≤◌, ◌≡◌, List, [], ◌∷◌, ◌++◌, length, get_or, take, Ok, Err}
use Rattle.plate.specs.Plate.{torn, number}
use Rattle.plate.specs.declared.Refusal.{Refusal}
use Rattle.packet.specs.Packet.{stated_at, header_at}
use Rattle.stream.specs.Stream.{Placed, stops, packets, check_of, seek_of}

-- what refuses streams: the check, or a seek for a track and a field
abbrev pub CheckRefuses : List ℕ → Refusal → Type 0
CheckRefuses s r = check_of s ≡ Err r

abbrev pub SeekRefuses : ℕ → ℕ → List ℕ → Refusal → Type 0
SeekRefuses track field s r = seek_of s track field ≡ Err r

-- how many bytes packets have together
abbrev pub bytes_of : List Placed → ℕ
bytes_of [] = 0
bytes_of (x ∷ xs) = x.piece.len + bytes_of xs

-- r is what a stream is refused with
pub record StreamLacking (Refuses : List ℕ → Refusal → Type 0) (s : List ℕ) (r : Refusal) : Type 0 where
  -- no number but 5 has any
  pub none : (number r ≡ 5 → ⊥) → r.lacking ≡ 0
  -- with 5 the stream's packets stop at a torn one, which begins behind the last whole one, and r is what its header is refused with
  pub torn_packet : number r ≡ 5 → ((packets s).end ≡ stops r) × (r.place ≡ bytes_of (packets s).list) × (header_at s r.place ≡ Err r)
  -- with so many bytes more, or further ones, whatever they are, that packet is whole
  pub whole : number r ≡ 5 → (t : List ℕ) → r.lacking ≤ length t → header_at (s ++ t) r.place ≡ Ok (record { packet_type = get_or s (r.place + 5) 0; len = stated_at s r.place })
  -- with exactly so many the stream is not refused with 5
  pub enough : number r ≡ 5 → (t : List ℕ) → length t ≡ r.lacking → (q : Refusal) → Refuses (s ++ t) q → number q ≡ 5 → ⊥
  -- with fewer it is refused with 5 at the same place, and the rest lacks: one byte where one fewer has come
  pub fewer : number r ≡ 5 → (t : List ℕ) → length t < r.lacking → Refuses (s ++ t) (torn r.place (r.lacking - length t))

-- the other way: of an accepted stream whose bytes end at k of a packet's own, behind its header, what was cut off of that packet lacks
abbrev pub StreamCutOff : (List ℕ → Refusal → Type 0) → Type 0
StreamCutOff Refuses =
    (s : List ℕ) (n : ℕ) → check_of s ≡ Ok n → (before : List Placed) (x : Placed) (after : List Placed) → (packets s).list ≡ before ++ (x ∷ after)
    → (k : ℕ) → 16 ≤ k → k < x.piece.len → Refuses (take (x.at + k) s) (torn x.at (x.piece.len - k))

-- and whatever the first packet's header is refused with, the stream is
abbrev pub StreamOpens : (List ℕ → Refusal → Type 0) → Type 0
StreamOpens Refuses = (s : List ℕ) (r : Refusal) → 1 ≤ length s → header_at s 0 ≡ Err r → Refuses s r
