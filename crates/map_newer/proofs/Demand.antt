-- The proof of demand 3: specs/Demand.antt has the statements.
use Prim.Native.Nat.{ℕ}
use mathlib.Core.Path.{◌≡◌, sym, ◌∙◌, ap}
use mathlib.Core.List.{List, [], ◌∷◌}
use Rattle.number.proofs.Bytes.{AllBytes, one_by_one, bytes_join}
use Rattle.map_items.specs.Items.{Item, items_bytes}
use Rattle.map.specs.Encode.{MapParts, encode}
use Rattle.map.specs.Map.{layout_of}
use Rattle.map.specs.Parts.{parts_of}
use Rattle.map.proofs.Encoded.{Fit, parts_of_encoded}
use Rattle.map.proofs.ViewOfParts.{view_of_parts_lem, view_encoded}
use Rattle.map_newer.specs.Known.{Clean, Kept}
use Rattle.map_newer.specs.Strike.{struck, strike, Boundary, set_in_parts, set_in}
use Rattle.map_newer.specs.Demand.{Accepted, Alike, There, Unknown, Room, Padded, Demand}
use Rattle.map_newer.proofs.Known.{struck_clean, struck_kept}
use Rattle.map_newer.proofs.Only.{only_one}
use Rattle.map_newer.proofs.Padded.{encoded_padded}
use Rattle.map_newer.proofs.Parts.{struck_good, struck_fit, struck_said, struck_again, struck_set, set_parts_good, struck_parts_bytes, set_parts_bytes, encoded_accepted, fit_parts, good_parts, byte_parts, set_fit, room_asked}

module _ (m : List ℕ) (h : Accepted m) where
  rest_fit : Fit (struck (parts_of m))
  rest_fit = struck_fit (parts_of m) (fit_parts m h)

  pub remainder_accepted : Accepted (strike m)
  unfolding strike
  remainder_accepted = encoded_accepted (struck (parts_of m)) rest_fit (struck_good (parts_of m) (good_parts m h)) (struck_parts_bytes (parts_of m) (byte_parts m h))

  -- both show what the parts say
  pub remainder_alike : Alike m (strike m)
  unfolding strike
  remainder_alike = view_of_parts_lem m ∙ sym (struck_said (parts_of m) (good_parts m h)) ∙ sym (view_encoded (struck (parts_of m)) rest_fit)

  -- the remainder's parts are the struck parts
  pub remainder_parts : parts_of (strike m) ≡ struck (parts_of m)
  unfolding strike
  remainder_parts = parts_of_encoded (struck (parts_of m)) rest_fit

  -- with the fewest zeros
  pub remainder_padded : Padded (strike m) (layout_of (strike m))
  unfolding strike
  remainder_padded = encoded_padded (struck (parts_of m)) rest_fit

  pub remainder_clean : Clean (parts_of (strike m))
  remainder_clean = rw remainder_parts (struck_clean (parts_of m))

  pub remainder_kept : Kept (parts_of m) (parts_of (strike m))
  remainder_kept = rw remainder_parts (struck_kept (parts_of m))

  pub strike_twice : strike (strike m) ≡ strike m
  unfolding strike
  strike_twice = ap (λ (p : MapParts). encode (struck p)) remainder_parts ∙ ap encode (struck_again (parts_of m))

pub same_alike : (m n : List ℕ) → Accepted m → Accepted n → strike m ≡ strike n → Alike m n
same_alike m n h k e = remainder_alike m h ∙ rw e (sym (remainder_alike n k))

-- an item as its bytes
item_bytes : (b : Boundary) (i : Item) → Unknown b i → AllBytes (items_bytes (i ∷ []))
unfolding items_bytes
item_bytes b i u = (u.tag, (u.long, bytes_join i.value [] (one_by_one i.value (λ n. record { fits = u.bytes n })) tt))

module _ (m : List ℕ) (h : Accepted m) (b : Boundary) (i : Item) (there : There b m) where
  module _ (u : Unknown b i) (room : Room b i m) where
    set_accepted : Accepted (set_in b i m)
    unfolding set_in
    set_accepted =
        encoded_accepted (set_in_parts b i (parts_of m)) (set_fit m h b i there room) (set_parts_good b i (parts_of m) u.unknown (good_parts m h))
        (set_parts_bytes b i (parts_of m) (item_bytes b i u) (byte_parts m h))

    -- the two have the same remainder
    pub set_struck : strike (set_in b i m) ≡ strike m
    unfolding strike set_in
    set_struck = rw (parts_of_encoded (set_in_parts b i (parts_of m)) (set_fit m h b i there room), struck_set b i (parts_of m) u.unknown)

    pub set_in_alike : Accepted (set_in b i m) × Alike m (set_in b i m)
    set_in_alike = (set_accepted, same_alike m (set_in b i m) h set_accepted (sym set_struck))

  pub set_parts : Room b i m → parts_of (set_in b i m) ≡ set_in_parts b i (parts_of m)
  unfolding set_in
  set_parts room = parts_of_encoded (set_in_parts b i (parts_of m)) (set_fit m h b i there room)

  pub set_padded : Room b i m → Padded (set_in b i m) (layout_of (set_in b i m))
  unfolding set_in
  set_padded room = encoded_padded (set_in_parts b i (parts_of m)) (set_fit m h b i there room)

  pub room_needed : (n : List ℕ) → Accepted n → parts_of n ≡ set_in_parts b i (parts_of m) → Room b i m
  room_needed n k e = room_asked m h b i there (rw e at (fit_parts n k))

pub demand : Demand
demand =
    record {
      accepted = remainder_accepted;
      rest = remainder_parts;
      tight = remainder_padded;
      only = only_one;
      clean = remainder_clean;
      kept = remainder_kept;
      one_answer = remainder_alike;
      same_remainder = same_alike;
      set_in_lem = set_in_alike;
      set_tight = set_padded;
      set_there = set_parts;
      no_more = room_needed;
      twice = strike_twice;
    }
