-- The proof of demand 3 through the name functions: specs/Names.antt has the statements.
use Prim.Native.Nat.{ℕ, ◌+◌, ◌-◌, ◌≤◌}
use mathlib.Core.Path.{◌≡◌, refl, sym, ◌∙◌, ap}
use mathlib.Core.List.{List, [], ◌++◌, append-nil}
use native.Mathlib.Omega.{arith}
use lib.ListN.{length, take, drop, length-drop}
use lib.Seq.{take-append_seam, take-append-le, drop-append-le, take-take}
use Rattle.std.specs.Prelude.{Option, Some, None, Result, Ok, Err}
use Rattle.map_tracks.specs.Tracks.{id_of}
use Rattle.map.specs.Map.{listed_in}
use Rattle.map.specs.View.{held_at, track_view_in, view_in}
use Rattle.map.proofs.Within.{packet_there}
use Rattle.map_name.specs.Name.{opened_of, unended, name_from, name_in, or_not_there, name_at, name_bytes, or_else, name_of_two_at, two_bytes}
use Rattle.map_name.specs.declared.OfTwo.{OfTwo}
use Rattle.map_name.specs.declared.OfTwo.TheVariants as two
use Rattle.map_answer.specs.declared.Track.{Track}
use Rattle.map_items.specs.declared.Part.{Part}
use Rattle.plate.specs.declared.Refusal.{Refusal}
use Rattle.map_name.proofs.Laws.{place_within, opening_within, closing_within}
use Rattle.map_newer.specs.Strike.{strike, set_in}
use Rattle.map_newer.specs.Demand.{Accepted}
use Rattle.map_newer.specs.Functions.{IdOutcomeView, view_of_id_outcome, of_id}
use Rattle.map_newer.specs.Names.{PlaceGives, PartGives, TwoGives, TwoPartGives, TwoOutcomeView, view_of_two_part, NameOutcomeView, named, view_of_name_outcome, held_name, name_of, view_of_part, view_of_two_outcome, two_of, NameAnswers, Names}
use Rattle.map_newer.proofs.Parts.{accepted_verdict, accepted_header}
use Rattle.map_newer.proofs.Demand.{remainder_accepted, remainder_alike, set_in_alike}
use Rattle.map_newer.proofs.Functions.{id_seen_lem}

-- a name's bytes without its 00
unended_seen : (m : List ℕ) (x : Option Part) → view_of_name_outcome m (or_not_there (unended x)) ≡ held_name (held_at m x)
unfolding unended
unended_seen m None = refl
unended_seen m (Some q) = ap named (sym (take-take (q.len - 1) q.len (drop q.at m) (omega arith)))

name_seen : (m : List ℕ) (k : Option Track) → view_of_name_outcome m (or_not_there (name_from k)) ≡ name_of (view_of_id_outcome m k)
unfolding track_view_in
name_seen m None = refl
name_seen m (Some t) = unended_seen m t.name

two_seen : (m n : List ℕ) (x y : Option Part) → view_of_two_outcome m n (or_else x y) ≡ two_of (view_of_name_outcome n (or_not_there x)) (view_of_name_outcome m (or_not_there y))
two_seen m n (Some q) (Some a) = refl
two_seen m n (Some q) None = refl
two_seen m n None (Some q) = refl
two_seen m n None None = refl

-- bytes that lie in front are the same with more behind them
in_front_lem : (m after : List ℕ) (q n : ℕ) → q + n ≤ length m → take n (drop q (m ++ after)) ≡ take n (drop q m)
in_front_lem m after q n h =
    ap (λ (s : List ℕ). take n s) (drop-append-le q m after (omega arith)) ∙ take-append-le n (drop q m) after (omega (arith, length-drop q m))

module _ (m : List ℕ) (h : Accepted m) where
  opened_there : (after : List ℕ) → opened_of (m ++ after) ≡ Ok (length m)
  unfolding opened_of
  opened_there after = rw (packet_there [] m after (accepted_header m h), take-append_seam m after, accepted_verdict m h)

  name_there : (after : List ℕ) (id : ℕ) → name_at (m ++ after) id ≡ or_not_there (name_in m id)
  unfolding name_at
  name_there after id = rw (opened_there after, take-append_seam m after)

  name_shown : (id : ℕ) → view_of_name_outcome m (or_not_there (name_in m id)) ≡ name_of (of_id id (view_in m).tracks)
  unfolding name_in view_in
  name_shown id = name_seen m (id_of id (listed_in m)) ∙ ap (λ (k : IdOutcomeView). name_of k) (id_seen_lem m id (listed_in m))

  part_there : (after : List ℕ) (id : ℕ) → name_bytes (m ++ after) (name_at (m ++ after) id) ≡ view_of_part (view_of_name_outcome m (or_not_there (name_in m id)))
  part_there after id = rw (name_there after id) (go (or_not_there (name_in m id)) (rw (append-nil m) at (name_there [] id)))
    where
      go : (a : Result Part Refusal) → name_at m id ≡ a → name_bytes (m ++ after) a ≡ view_of_part (view_of_name_outcome m a)
      go (Ok q) e = in_front_lem m after q.at q.len (place_within m id q.at q.len e)
      go (Err r) e = refl

  pub name_answers : NameAnswers m (view_in m)
  name_answers = record { place = place; part = whole }
    where
      place : (id : ℕ) (x : Result Part Refusal) → PlaceGives m id x → view_of_name_outcome m x ≡ name_of (of_id id (view_in m).tracks)
      place id x g =
          let e : x ≡ name_at (m ++ g.after) id = rw (← g.bytes, ← g.track) g.post in
          ap (λ (a : Result Part Refusal). view_of_name_outcome m a) (e ∙ name_there g.after id) ∙ name_shown id

      whole : (id : ℕ) (v : List ℕ) → PartGives m id v → v ≡ view_of_part (name_of (of_id id (view_in m).tracks))
      whole id v g =
          let e : v ≡ name_bytes (m ++ g.after) (name_at (m ++ g.after) id) = g.holds ∙ rw (← g.bytes, ← g.track) g.post.0 in
          e ∙ part_there g.after id ∙ ap (λ (s : NameOutcomeView). view_of_part s) (name_shown id)

-- of two maps
two_there : (p q : List ℕ) → Accepted p → Accepted q → (a b : List ℕ) (id : ℕ) → name_of_two_at (p ++ a) (q ++ b) id ≡ or_else (name_in q id) (name_in p id)
unfolding name_of_two_at
two_there p q h k a b id = rw (opened_there p h a, opened_there q k b, take-append_seam p a, take-append_seam q b)

two_shown : (p q : List ℕ) → Accepted p → Accepted q → (id : ℕ)
    → view_of_two_outcome p q (or_else (name_in q id) (name_in p id)) ≡ two_of (name_of (of_id id (view_in q).tracks)) (name_of (of_id id (view_in p).tracks))
two_shown p q h k id = rw (← name_shown p h id, ← name_shown q k id) (two_seen p q (name_in q id) (name_in p id))

two_answers : (p q : List ℕ) → Accepted p → Accepted q → (id : ℕ) (x : Result OfTwo Refusal) → TwoGives p q id x
    → view_of_two_outcome p q x ≡ two_of (name_of (of_id id (view_in q).tracks)) (name_of (of_id id (view_in p).tracks))
two_answers p q h k id x g =
    let e : x ≡ name_of_two_at (p ++ g.after_opening) (q ++ g.after_closing) id = rw (← g.opening, ← g.closing, ← g.track) g.post in
    ap (λ (y : Result OfTwo Refusal). view_of_two_outcome p q y) (e ∙ two_there p q h k g.after_opening g.after_closing id)
    ∙ two_shown p q h k id

-- the part that is handed out lies in one of the two maps
two_part_there : (p q : List ℕ) → Accepted p → Accepted q → (a b : List ℕ) (id : ℕ)
    → two_bytes (p ++ a) (q ++ b) (name_of_two_at (p ++ a) (q ++ b) id) ≡ view_of_two_part (view_of_two_outcome p q (or_else (name_in q id) (name_in p id)))
two_part_there p q h k a b id = rw (two_there p q h k a b id) (go (or_else (name_in q id) (name_in p id)) (rw (append-nil p, append-nil q) at (two_there p q h k [] [] id)))
  where
    go : (x : Result OfTwo Refusal) → name_of_two_at p q id ≡ x → two_bytes (p ++ a) (q ++ b) x ≡ view_of_two_part (view_of_two_outcome p q x)
    go (Ok (two.Opening i)) e = in_front_lem p a i.at i.len (opening_within p q id i.at i.len e)
    go (Ok (two.Closing i)) e = in_front_lem q b i.at i.len (closing_within p q id i.at i.len e)
    go (Err r) e = refl

two_parts : (p q : List ℕ) → Accepted p → Accepted q → (id : ℕ) (v : List ℕ) → TwoPartGives p q id v
    → v ≡ view_of_two_part (two_of (name_of (of_id id (view_in q).tracks)) (name_of (of_id id (view_in p).tracks)))
two_parts p q h k id v g =
    let e : v ≡ two_bytes (p ++ g.after_opening) (q ++ g.after_closing) (name_of_two_at (p ++ g.after_opening) (q ++ g.after_closing) id) = g.holds ∙ rw (← g.opening, ← g.closing, ← g.track) g.post.0 in
    e ∙ two_part_there p q h k g.after_opening g.after_closing id
    ∙ ap (λ (s : TwoOutcomeView). view_of_two_part s) (two_shown p q h k id)

pub names : Names
names =
    record {
      one_answer = λ m h. (name_answers m h, rw (remainder_alike m h) (name_answers (strike m) (remainder_accepted m h)));
      set_in_lem = λ m h b i there u room. let s = set_in_alike m h b i there u room in rw s.1 (name_answers (set_in b i m) s.0);
      of_two = λ m n p q h k e f id x g. rw (e, f) (two_answers p q h k id x g);
      part_of_two = λ m n p q h k e f id v g. rw (e, f) (two_parts p q h k id v g);
    }
