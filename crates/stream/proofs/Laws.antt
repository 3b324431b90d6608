-- One pass over a stream, a packet at a time: what is left to do from an offset on is the whole answer.
use Prim.Native.Nat.{ℕ, zero, suc, ◌+◌, ◌-◌, ◌<◌, ◌≤◌}
use mathlib.Core.Path.{◌≡◌, refl, sym, ◌∙◌, ap}
use mathlib.Core.List.{List}
use mathlib.Core.Bool.{Bool, true, false}
use native.Mathlib.Omega.{arith}
use lib.ListN.{length, get_or, take, drop, replicate}
use lib.Dec.{eqb, ltb}
use borrow.Author.Tests.{lt-ltb, le-ltb, ne_eqb}
use Rattle.std.specs.Prelude.{Option, Some, None, Result, Ok, Err, is_some}
use Rattle.plate.specs.Choice.{pick}
use Rattle.plate.specs.Ended.{none, in_front}
use Rattle.plate.specs.declared.Refusal.{Refusal}
use Rattle.piece.specs.Piece.{piece_at}
use Rattle.piece.specs.declared.Piece.{Piece}
use Rattle.piece.proofs.Laws.{told}
use Rattle.order.specs.Order.{started, progress_after, step_of}
use Rattle.order.specs.declared.Progress.{Progress}
use Rattle.order.specs.declared.Step.TheVariants as step
use Rattle.order.proofs.Laws.{step_next, step_next_any, step_ended}
use Rattle.stream.specs.Stream.{Packets, runs_out, closed, types_after, on_piece, packets_from, packets, ran_out, on_step, type_for, step_at, judge_packets, check_of, carries_piece, first_of, or_not_there, if_checked, seek_of}
use Rattle.stream.specs.Inside.{or_first, first_here, collect, run_of}
use Rattle.stream.specs.declared.Pass.{Pass}

-- what the packets from an offset on come to, after some progress and a first carrier
abbrev comes_to : List ℕ → ℕ → ℕ → Progress → Option ℕ → Packets → Result Pass Refusal
comes_to s track field p found ps = collect (judge_packets (length s) p ps.list ps.end) (or_first found (first_of track field ps.list))

pub record Left (s : List ℕ) (track field at : ℕ) (p : Progress) (types : List ℕ) (found : Option ℕ) : Type 0 where
  pub fuel : ℕ
  pub enough : length s - at < fuel
  pub same : run_of s track field ≡ comes_to s track field p found (packets_from s fuel (eqb p.count 0) types at)

pub begin : (s : List ℕ) (track field : ℕ) → Left s track field 0 started (replicate 64 0) None
unfolding run_of check_of packets
begin s track field = record { fuel = suc (length s); enough = omega arith; same = refl }

-- the packets from an offset on: one and the rest, or none where the bytes run out
pub turn : (s : List ℕ) (f : ℕ) (first : Bool) (types : List ℕ) (at : ℕ) → zero < f → at < length s
    → packets_from s f first types at ≡ on_piece s at types (λ now_types next. packets_from s (f - 1) false now_types next) (piece_at s at first)
unfolding packets_from
turn s zero first types at h l = absurd (omega arith)
turn s (suc f) first types at h l = let e : suc f - 1 ≡ f = omega arith in rw (e, lt-ltb at (length s) l)

pub out : (s : List ℕ) (f : ℕ) (first : Bool) (types : List ℕ) (at : ℕ) → length s ≤ at → packets_from s f first types at ≡ none runs_out
unfolding packets_from
out s zero first types at h = refl
out s (suc f) first types at h = rw (le-ltb at (length s) h)

-- any fuel over the bytes left is enough
pub fuel : (s : List ℕ) (f g : ℕ) (first : Bool) (types : List ℕ) (at : ℕ) → length s - at < f → length s - at < g → packets_from s f first types at ≡ packets_from s g first types at
unfolding packets_from
fuel s zero g first types at h k = absurd (omega arith)
fuel s (suc f) zero first types at h k = absurd (omega arith)
fuel s (suc f) (suc g) first types at h k = step (λ ts o l m. fuel s f g false ts o l m) (ltb at (length s)) (piece_at s at first) refl
  where
    step : ((ts : List ℕ) (o : ℕ) → length s - o < f → length s - o < g → packets_from s f false ts o ≡ packets_from s g false ts o) → (b : Bool) (a : Result Piece Refusal) → piece_at s at first ≡ a
        → pick b (on_piece s at types (λ ts o. packets_from s f false ts o) a) (none runs_out) ≡ pick b (on_piece s at types (λ ts o. packets_from s g false ts o) a) (none runs_out)
    step next false a e = refl
    step next true (Err r) e = refl
    step next true (Ok x) e =
        let w = told s at first x e in
        ap (λ (ps : Packets). in_front (record { at = at; piece = x; types = types_after s at x types }) (pick (eqb x.packet_type 0xFB) (none closed) ps))
        (next (types_after s at x types) (at + x.len) (omega (arith, w.cut.least, w.cut.within)) (omega (arith, w.cut.least, w.cut.within)))

-- what packets come to in a stream of n bytes, after some progress
abbrev pub judged : ℕ → Progress → Packets → Result ℕ Refusal
judged n p ps = judge_packets n p ps.list ps.end

-- a packet of s that passes, passes in other bytes z too that have it there, and what z comes to is what it comes to behind it
pub onward : (s z : List ℕ) (g : ℕ) (first : Bool) (types : List ℕ) (at : ℕ) (p : Progress) (x : Piece) (q : Progress) → zero < g → at < length z
    → piece_at z at first ≡ Ok x → take x.len (drop at z) ≡ take x.len (drop at s)
    → step_at (length s) p (record { at = at; piece = x; types = types_after s at x types }) ≡ Ok (step.Next q)
    → judged (length z) p (packets_from z g first types at) ≡ judged (length z) q (packets_from z (g - 1) false (types_after s at x types) (at + x.len))
unfolding judge_packets
onward s z g first types at p x q h l w same k =
    let n = step_next p x at (type_for (types_after s at x types) x.track) (ltb (at + x.len) (length s)) q k in
    let again = step_next_any p x at (type_for (types_after s at x types) x.track) (ltb (at + x.len) (length s)) q k (ltb (at + x.len) (length z)) in
    ap (judged (length z) p) (turn z g first types at h l) ∙ rw (w, same, again, n.0)

-- a first carrier so far, this packet, and what follows
first_assoc : (found : Option ℕ) (b : Bool) (at : ℕ) (later : Option ℕ) → or_first found (pick b (Some at) later) ≡ or_first (or_first found (pick b (Some at) None)) later
first_assoc (Some o) b at later = refl
first_assoc None true at later = refl
first_assoc None false at later = refl

pub first_alone : (found : Option ℕ) → or_first found None ≡ found
first_alone (Some o) = refl
first_alone None = refl

-- a later one counts where there was none, and only there
pub none_yet : (found later : Option ℕ) → is_some found ≡ false → or_first found later ≡ later
none_yet (Some o) later e = absurd (let z : ◌≡◌ {A = ℕ} 0 1 = cc in omega arith)
none_yet None later e = refl

pub one_already : (found later : Option ℕ) → is_some found ≡ true → or_first found later ≡ found
one_already (Some o) later e = refl
one_already None later e = absurd (let z : ◌≡◌ {A = ℕ} 0 1 = cc in omega arith)

module _ (s : List ℕ) (track field at : ℕ) (p : Progress) (types : List ℕ) (found : Option ℕ) (l : Left s track field at p types found) where
  pub on_out : length s ≤ at → Err (ran_out p.count (length s)) ≡ run_of s track field
  unfolding judge_packets
  on_out h = sym (l.same ∙ rw (out s l.fuel (eqb p.count 0) types at h))

  module _ (h : at < length s) where
    now_turn : run_of s track field
        ≡ comes_to s track field p found (on_piece s at types (λ now_types next. packets_from s (l.fuel - 1) false now_types next) (piece_at s at (eqb p.count 0)))
    now_turn = l.same ∙ rw (turn s l.fuel (eqb p.count 0) types at (omega (arith, l.enough)) h)

    pub on_refused : (r : Refusal) → piece_at s at (eqb p.count 0) ≡ Err r → Err r ≡ run_of s track field
    unfolding judge_packets
    on_refused r e = sym (now_turn ∙ rw e)

    module _ (x : Piece) (e : piece_at s at (eqb p.count 0) ≡ Ok x) (now_types : List ℕ) (t : now_types ≡ types_after s at x types) where
      abbrev rest : Packets
      rest = pick (eqb x.packet_type 0xFB) (none closed) (packets_from s (l.fuel - 1) false now_types (at + x.len))

      turned : run_of s track field
          ≡ collect (on_step (λ q. judge_packets (length s) q rest.list rest.end) (step_of p x at (type_for now_types x.track) (ltb (at + x.len) (length s))))
          (or_first found (pick (carries_piece track field (get_or now_types x.track 0) x) (Some at) (first_of track field rest.list)))
      unfolding judge_packets first_of
      turned = now_turn ∙ rw (e, ← t)

      pub on_step_refused : (r : Refusal) → step_of p x at (type_for now_types x.track) (ltb (at + x.len) (length s)) ≡ Err r → Err r ≡ run_of s track field
      on_step_refused r f = sym (turned ∙ rw f)

      pub on_ended : (n : ℕ) → step_of p x at (type_for now_types x.track) (ltb (at + x.len) (length s)) ≡ Ok (step.Ended n)
          → Ok (record { count = n; first = or_first found (first_here track field (get_or now_types x.track 0) x at) }) ≡ run_of s track field
      unfolding first_of
      on_ended n f = sym (turned ∙ rw (f, step_ended p x at (type_for now_types x.track) (ltb (at + x.len) (length s)) n f))

      pub on_next : (q : Progress) → step_of p x at (type_for now_types x.track) (ltb (at + x.len) (length s)) ≡ Ok (step.Next q)
          → Left s track field (at + x.len) q now_types (or_first found (first_here track field (get_or now_types x.track 0) x at))
      unfolding progress_after
      on_next q f =
          let n = step_next p x at (type_for now_types x.track) (ltb (at + x.len) (length s)) q f in
          let w = told s at (eqb p.count 0) x e in
          let k : eqb q.count 0 ≡ false = rw (← n.1) (ne_eqb (p.count + 1) 0 (λ z. omega arith)) in
          record {
            fuel = l.fuel - 1;
            enough = omega (arith, l.enough, w.cut.least, w.cut.within);
            same = turned ∙ rw (f, n.0, k, first_assoc found (carries_piece track field (get_or now_types x.track 0) x) at (first_of track field (packets_from s (l.fuel - 1) false now_types (at + x.len)).list));
          }

-- a step adds one packet, and one since the latest map at most
pub next_bounds : (p : Progress) (x : Piece) (at listed : ℕ) (more : Bool) (q : Progress) → step_of p x at listed more ≡ Ok (step.Next q)
    → (q.count ≡ p.count + 1) × (q.since_map ≤ p.since_map + 1)
unfolding progress_after
next_bounds p x at listed more q f =
    let n = (step_next p x at listed more q f).1 in
    (sym (ap (λ (r : Progress). r.count) n), rw (ap (λ (r : Progress). r.since_map) (sym n)) (go (eqb x.packet_type 0xBC)))
  where
    go : (b : Bool) → pick b 0 (p.since_map + 1) ≤ p.since_map + 1
    go true = omega arith
    go false = omega arith

-- what one pass says of check and seek
module _ (s : List ℕ) (track field : ℕ) where
  pub check_passed : (w : Pass) → run_of s track field ≡ Ok w → Ok w.count ≡ check_of s
  unfolding run_of
  check_passed w = go (check_of s)
    where
      go : (a : Result ℕ Refusal) → collect a (first_of track field (packets s).list) ≡ Ok w → Ok w.count ≡ a
      go (Ok n) e = let b : record { count = n; first = first_of track field (packets s).list } ≡ w = cc in ap Ok (sym (ap (λ (x : Pass). x.count) b))
      go (Err r) e = absurd (let z : ◌≡◌ {A = ℕ} 0 1 = cc in omega arith)

  pub check_refused : (r : Refusal) → run_of s track field ≡ Err r → Err r ≡ check_of s
  unfolding run_of
  check_refused r = go (check_of s)
    where
      go : (a : Result ℕ Refusal) → collect a (first_of track field (packets s).list) ≡ Err r → Err r ≡ a
      go (Ok n) e = absurd (let z : ◌≡◌ {A = ℕ} 0 1 = cc in omega arith)
      go (Err q) e = cc

  pub seek_refused : (r : Refusal) → run_of s track field ≡ Err r → Err r ≡ seek_of s track field
  unfolding seek_of
  seek_refused r e = rw (← check_refused r e)

  pub seek_passed : (w : Pass) → run_of s track field ≡ Ok w → or_not_there w.first ≡ seek_of s track field
  unfolding run_of seek_of
  seek_passed w = go (check_of s)
    where
      go : (a : Result ℕ Refusal) → collect a (first_of track field (packets s).list) ≡ Ok w → or_not_there w.first ≡ if_checked a (or_not_there (first_of track field (packets s).list))
      go (Ok n) e =
          let b : record { count = n; first = first_of track field (packets s).list } ≡ w = cc in
          sym (ap (λ (x : Pass). or_not_there x.first) b)
      go (Err r) e = absurd (let z : ◌≡◌ {A = ℕ} 0 1 = cc in omega arith)
