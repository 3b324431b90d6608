-- What the parts of a filling call come to: the k-th record, the count, and the lent records after some turns.
use Prim.Native.Nat.{ℕ, zero, suc, ◌+◌, ◌≤◌, ◌<◌}
use mathlib.Core.Path.{◌≡◌, refl, sym, ap, ◌∙◌}
use mathlib.Core.Bool.{Bool, true, false}
use mathlib.Core.List.{List, [], ◌∷◌, ◌++◌, map as each}
use native.Mathlib.Numerals.{add-one}
use native.Mathlib.Omega.{arith}
use lib.ListN.{length, set, drop, length-map}
use lib.Dec.{ltb}
use borrow.Author.Tests.{ltb-false}
use Rattle.std.proofs.lemmas.Option.{none-some, same_Some}
use Rattle.std.specs.Prelude.{slice_get, Some, None, Result, Ok, Err, ⊤}
use Rattle.plate.specs.Choice.{pick}
use Rattle.plate.specs.Plate.{refusal}
use Rattle.packet.specs.Packet.{packet_at}
use Rattle.map_answer.specs.declared.Track.{Track}
use Rattle.map_tracks.specs.Tracks.{Placed, record_of, kth_of}
use Rattle.map.specs.Map.{listed_in, material_says, map_verdict, on_verdict, answer_of, map_from, map_at}
use Rattle.plate.specs.Part.{part}
use Rattle.map.specs.declared.MapSays.{MapSays}
use Rattle.packet.specs.declared.Packet.{Packet}
use Rattle.plate.specs.declared.Refusal.{Refusal}
use Rattle.plate.specs.declared.Fault.TheVariants as fault
use Rattle.map_records.specs.Fill.{records_from, records_at, with_room, answer_for, lent_after}
use Rattle.map_records.specs.Inside.{records_to_write}

-- the k-th listed track's record is the k-th of the records
pub kth_record : (k : ℕ) (xs : List Placed) → slice_get (each record_of xs) k ≡ kth_of k xs
unfolding kth_of
kth_record k [] = refl
kth_record zero (x ∷ xs) = refl
kth_record (suc k) (x ∷ xs) = kth_record k xs

-- there is no record past the last, and only there
pub beyond : (n : ℕ) (ts : List Track) → slice_get ts n ≡ None → length ts ≤ n
beyond n [] e = omega arith
beyond zero (t ∷ ts) e = absurd (none-some t (sym e))
beyond (suc n) (t ∷ ts) e = omega (arith, beyond n ts e)

-- the first n of ts in the place of the first n of ys
unfoldable pub up_to : ℕ → List Track → List Track → List Track
up_to zero ts ys = ys
up_to (suc n) [] ys = ys
up_to (suc n) (t ∷ ts) [] = []
up_to (suc n) (t ∷ ts) (y ∷ ys) = t ∷ up_to n ts ys

pub length_up_to : (n : ℕ) (ts ys : List Track) → length (up_to n ts ys) ≡ length ys
unfolding up_to
length_up_to zero ts ys = refl
length_up_to (suc n) [] ys = refl
length_up_to (suc n) (t ∷ ts) [] = refl
length_up_to (suc n) (t ∷ ts) (y ∷ ys) = ap suc (length_up_to n ts ys)

-- one record more
one_more : (n : ℕ) (ts ys : List Track) (x : Track) → slice_get ts n ≡ Some x → n < length ys → set (up_to n ts ys) n x ≡ up_to (suc n) ts ys
unfolding up_to
one_more n [] ys x e k = absurd (none-some x e)
one_more n (t ∷ ts) [] x e k = absurd (omega arith)
one_more zero (t ∷ ts) (y ∷ ys) x e k = ap (λ r. r ∷ ys) (sym (same_Some t x e))
one_more (suc n) (t ∷ ts) (y ∷ ys) x e k = ap {B = List Track} (λ r. t ∷ r) (one_more n ts ys x e (omega arith))

pub up_to_more : (n : ℕ) (ts ys : List Track) (x : Track) → slice_get ts n ≡ Some x → n < length ys → set (up_to n ts ys) n x ≡ up_to (n + 1) ts ys
up_to_more n ts ys x e k = rw add-one (one_more n ts ys x e k)

-- all of them
up_to_all : (ts ys : List Track) → length ts ≤ length ys → up_to (length ts) ts ys ≡ ts ++ drop (length ts) ys
unfolding up_to
up_to_all [] ys h = refl
up_to_all (t ∷ ts) [] h = absurd (omega arith)
up_to_all (t ∷ ts) (y ∷ ys) h = ap {B = List Track} (λ r. t ∷ r) (up_to_all ts ys (omega arith))

-- an accepted map's count is the number of its records
pub counted : (s : List ℕ) (at : ℕ) (m : MapSays) → map_at s at ≡ Ok m → m.count ≡ length (records_at s at)
unfolding map_at answer_of records_at
counted s at m = go (packet_at s at 0xBC)
  where
    in_packet : (p : List ℕ) (v : Result ⊤ Refusal) → on_verdict v (Ok (record { count = length (listed_in p); material = material_says p })) ≡ Ok m → m.count ≡ length (each record_of (listed_in p))
    in_packet p (Ok _) e = let c : m.count ≡ length (listed_in p) = cc in c ∙ sym (length-map (listed_in p) record_of)
    in_packet p (Err r) e = absurd (let z : ◌≡◌ {A = ℕ} 0 1 = cc in omega arith)

    go : (a : Result Packet Refusal) → map_from s at a ≡ Ok m → m.count ≡ length (records_from s at a)
    go (Err r) e = absurd (let z : ◌≡◌ {A = ℕ} 0 1 = cc in omega arith)
    go (Ok w) e = in_packet (part at (at + w.len) s) (map_verdict (part at (at + w.len) s)) e

module _ (s : List ℕ) (at : ℕ) (ys : List Track) where
  abbrev ts : List Track
  ts = records_at s at

  -- what a call writes: no more than is lent, no more than is listed; and the records after it are as its contract says
  pub record Writes (a : Result MapSays Refusal) : Type 0 where
    pub fits : records_to_write a ≤ length ys
    pub listed : records_to_write a ≤ length ts
    pub leaves : up_to (records_to_write a) ts ys ≡ lent_after ts ys a

  pub writes : Writes (answer_for s at (length ys))
  unfolding answer_for records_to_write lent_after up_to
  writes = go (map_at s at) refl
    where
      roomy : (m : MapSays) → m.count ≡ length ts → (b : Bool) → ltb (length ys) m.count ≡ b → Writes (pick b (Err (refusal fault.Room 0)) (Ok m))
      roomy m c true e = record { fits = omega arith; listed = omega arith; leaves = refl }
      roomy m c false e =
          let h : m.count ≤ length ys = ltb-false (length ys) m.count e in
          record { fits = h; listed = omega arith; leaves = rw c (up_to_all ts ys (omega arith)) }

      go : (a : Result MapSays Refusal) → map_at s at ≡ a → Writes (with_room (length ys) a)
      go (Err r) e = record { fits = omega arith; listed = omega arith; leaves = refl }
      go (Ok m) e = roomy m (counted s at m e) (ltb (length ys) m.count) refl
