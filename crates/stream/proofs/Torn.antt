-- A stream whose check gives 5: its packets stop at a torn one, and with more bytes behind the lent ones the check comes to that packet again.
use Prim.Native.Nat.{ℕ, zero, suc, ◌+◌, ◌-◌, ◌<◌}
use mathlib.Core.Path.{◌≡◌, refl, sym, ◌∙◌, ap, subst}
use mathlib.Core.Bool.{Bool, true, false}
use mathlib.Core.List.{List, [], ◌++◌}
use native.Mathlib.Omega.{arith}
use lib.ListN.{length, get_or, replicate, length-append}
use lib.Dec.{ltb, eqb}
use borrow.Author.Tests.{ltb-true}
use Rattle.std.specs.Prelude.{Option, Some, None, Result, Ok, Err}
use Rattle.plate.specs.Choice.{pick}
use Rattle.plate.specs.Ended.{none, in_front}
use Rattle.plate.specs.Plate.{refusal, torn, number}
use Rattle.plate.specs.declared.Refusal.{Refusal}
use Rattle.plate.proofs.Numbers.{other}
use Rattle.number.specs.Number.{be}
use Rattle.packet.specs.Packet.{header_at}
use Rattle.packet.specs.declared.Packet.{Packet}
use Rattle.packet.proofs.Torn as header
use Rattle.piece.specs.Piece.{piece_at}
use Rattle.piece.specs.declared.Piece.{Piece}
use Rattle.piece.proofs.Laws.{told, cut_before, piece_before}
use Rattle.piece.proofs.Numbers.{torn_piece}
use Rattle.order.specs.Order.{started, step_of}
use Rattle.order.specs.declared.Progress.{Progress}
use Rattle.order.specs.declared.Step.{Step}
use Rattle.order.specs.declared.Step.TheVariants as step
use Rattle.plate.specs.declared.Fault.TheVariants as fault
use Rattle.order.proofs.Laws.{step_next}
use Rattle.order.proofs.Numbers.{OfStep, step_numbers}
use Rattle.stream.specs.Stream.{Packets, runs_out, closed, stops, types_after, on_piece, packets_from, packets, ran_out, on_step, type_for, step_at, judge_packets, check_of, first_of, or_not_there, if_checked, seek_of}
use Rattle.stream.specs.Lacking.{CheckRefuses, SeekRefuses, bytes_of, StreamLacking, StreamOpens}
use Rattle.stream.proofs.Laws.{turn, out, judged, onward}
use Rattle.stream.proofs.Numbers.{in_one, OfCheck, out_numbers, check_numbers, OfSeek, seek_numbers}
use Rattle.stream.proofs.Sought.{refused_alike}

-- the packets ps of s, from an offset on, stop at a torn one, and what s with t behind it comes to is what it comes to from there on
record Comes (s t : List ℕ) (r : Refusal) (at : ℕ) (ps : Packets) (whole : Result ℕ Refusal) : Type 0 where
  ends : ps.end ≡ stops r
  behind : r.place ≡ at + bytes_of ps.list
  header : header_at s r.place ≡ Err r
  inside : r.place < length s
  first : Bool
  types : List ℕ
  progress : Progress
  fuel : ℕ
  enough : length (s ++ t) - r.place < fuel
  same : whole ≡ judged (length (s ++ t)) progress (packets_from (s ++ t) fuel first types r.place)

-- where bytes run out, and at a packet's step, it is not 5
not_out : {X : Type 0} (r : Refusal) → number r ≡ 5 → (count n : ℕ) → ◌≡◌ {A = Result ℕ Refusal} (Err (ran_out count n)) (Err r) → X
not_out r five count n e = let q : ran_out count n ≡ r = cc in other (ran_out count n) (out_numbers count n) (omega arith) (ap (λ (x : Refusal). (number x)) q ∙ five)

not_step : {X : Type 0} (r : Refusal) → number r ≡ 5 → (p : Progress) (x : Piece) (at listed : ℕ) (more : Bool) → step_of p x at listed more ≡ Err r → X
not_step r five p x at listed more e = other r (subst OfStep e (step_numbers p x at listed more)) (omega arith) five

module _ (s t : List ℕ) (r : Refusal) (five : number r ≡ 5) where
  -- one packet before those that come to it
  later : (at : ℕ) (first : Bool) (types : List ℕ) (p : Progress) (g : ℕ) (x : Piece) (q : Progress) → length (s ++ t) - at < g → at < length s → piece_at s at first ≡ Ok x
      → step_at (length s) p (record { at = at; piece = x; types = types_after s at x types }) ≡ Ok (step.Next q)
      → (ps : Packets) → Comes s t r (at + x.len) ps (judged (length (s ++ t)) q (packets_from (s ++ t) (g - 1) false (types_after s at x types) (at + x.len)))
      → Comes s t r at (in_front (record { at = at; piece = x; types = types_after s at x types }) ps) (judged (length (s ++ t)) p (packets_from (s ++ t) g first types at))
  later at first types p g x q h l w k ps c =
      record {
        ends = c.ends;
        behind = omega (arith, c.behind);
        header = c.header;
        inside = c.inside;
        first = c.first;
        types = c.types;
        progress = c.progress;
        fuel = c.fuel;
        enough = c.enough;
        same =
            onward s (s ++ t) g first types at p x q (omega arith) (omega (arith, length-append s t)) (piece_before s t at first x w) (cut_before s t at x.len (told s at first x w).cut.within) k
            ∙ c.same;
      }

  -- from an offset on, with fuel f for the packets of s
  abbrev Rest : ℕ → Type 0
  Rest f = (g : ℕ) (first : Bool) (types : List ℕ) (at : ℕ) (p : Progress) → length (s ++ t) - at < g → judged (length s) p (packets_from s f first types at) ≡ Err r
      → Comes s t r at (packets_from s f first types at) (judged (length (s ++ t)) p (packets_from (s ++ t) g first types at))

  module _ (f : ℕ) (rest : Rest f) (g : ℕ) (first : Bool) (types : List ℕ) (at : ℕ) (p : Progress) (h : length (s ++ t) - at < g) where
    abbrev behind : Piece → Packets
    behind x = pick (eqb x.packet_type 0xFB) (none closed) (packets_from s f false (types_after s at x types) (at + x.len))

    on_step_lem : at < length s → (x : Piece) → piece_at s at first ≡ Ok x → (a : Result Step Refusal) → step_at (length s) p (record { at = at; piece = x; types = types_after s at x types }) ≡ a
        → on_step (λ q. judged (length s) q (behind x)) a ≡ Err r
        → Comes s t r at (in_front (record { at = at; piece = x; types = types_after s at x types }) (behind x)) (judged (length (s ++ t)) p (packets_from (s ++ t) g first types at))
    on_step_lem l x w (Err q) k e = not_step r five p x at (type_for (types_after s at x types) x.track) (ltb (at + x.len) (length s)) (k ∙ ap Err cc)
    on_step_lem l x w (Ok (step.Ended n)) k e = absurd (let z : ◌≡◌ {A = ℕ} 0 1 = cc in omega arith)
    on_step_lem l x w (Ok (step.Next q)) k e =
        let n = step_next p x at (type_for (types_after s at x types) x.track) (ltb (at + x.len) (length s)) q k in
        let b = told s at first x w in
        rw n.0
        (later at first types p g x q h l w k (packets_from s f false (types_after s at x types) (at + x.len))
        (rest (g - 1) false (types_after s at x types) (at + x.len) q (omega (arith, b.cut.least, b.cut.within, length-append s t)) (rw n.0 at e)))

    on_piece_lem : at < length s → (a : Result Piece Refusal) → piece_at s at first ≡ a
        → judged (length s) p (on_piece s at types (λ now_types next. packets_from s f false now_types next) a) ≡ Err r
        → Comes s t r at (on_piece s at types (λ now_types next. packets_from s f false now_types next) a) (judged (length (s ++ t)) p (packets_from (s ++ t) g first types at))
    unfolding judge_packets
    on_piece_lem l (Err q) w e =
        let z : q ≡ r = cc in
        let y = torn_piece s at first r (w ∙ ap Err z) five in
        let o : r.place ≡ at = ap (λ (x : Refusal). x.place) (header.torn_there r five s at y).it in
        record {
          ends = ap stops z;
          behind = omega arith;
          header = ap (header_at s) o ∙ y;
          inside = omega arith;
          first = first;
          types = types;
          progress = p;
          fuel = g;
          enough = omega arith;
          same = ap (λ (k : ℕ). judged (length (s ++ t)) p (packets_from (s ++ t) g first types k)) (sym o);
        }
    on_piece_lem l (Ok x) w e = on_step_lem l x w (step_at (length s) p (record { at = at; piece = x; types = types_after s at x types })) refl e

    on_bytes_lem : (b : Bool) → ltb at (length s) ≡ b
        → judged (length s) p (pick b (on_piece s at types (λ now_types next. packets_from s f false now_types next) (piece_at s at first)) (none runs_out)) ≡ Err r
        → Comes s t r at (pick b (on_piece s at types (λ now_types next. packets_from s f false now_types next) (piece_at s at first)) (none runs_out)) (judged (length (s ++ t)) p (packets_from (s ++ t) g first types at))
    unfolding judge_packets
    on_bytes_lem true l e = on_piece_lem (ltb-true at (length s) l) (piece_at s at first) refl e
    on_bytes_lem false l e = not_out r five p.count (length s) e

  comes : (f : ℕ) → Rest f
  unfolding packets_from judge_packets
  comes zero g first types at p h e = not_out r five p.count (length s) e
  comes (suc f) g first types at p h e = on_bytes_lem f (comes f) g first types at p h (ltb at (length s)) refl e

  -- the check comes to the torn packet
  check_comes : check_of s ≡ Err r → Comes s t r 0 (packets s) (check_of (s ++ t))
  unfolding check_of packets
  check_comes e = comes (suc (length s)) (suc (length (s ++ t))) true (replicate 64 0) 0 started (omega arith) e

  module _ (e : check_of s ≡ Err r) where
    at_packet : check_of (s ++ t)
        ≡ judged (length (s ++ t)) (check_comes e).progress
        (on_piece (s ++ t) r.place (check_comes e).types (λ now_types next. packets_from (s ++ t) ((check_comes e).fuel - 1) false now_types next) (piece_at (s ++ t) r.place (check_comes e).first))
    at_packet =
        let c = check_comes e in
        c.same
        ∙ ap (judged (length (s ++ t)) c.progress) (turn (s ++ t) c.fuel c.first c.types r.place (omega (arith, c.enough)) (omega (arith, c.inside, length-append s t)))

    -- which is torn still, with fewer bytes than it lacks
    check_fewer : length t < r.lacking → check_of (s ++ t) ≡ Err (torn r.place (r.lacking - length t))
    unfolding judge_packets piece_at
    check_fewer h = at_packet ∙ rw ((header.lacking s r.place r (check_comes e).header).fewer five t h)

    -- and with those that it lacks is whole, and the last
    check_enough : length t ≡ r.lacking → (q : Refusal) → check_of (s ++ t) ≡ Err q → number q ≡ 5 → ⊥
    unfolding judge_packets
    check_enough h q f five-again = on_piece_lem (piece_at (s ++ t) r.place c.first) refl (sym at_packet ∙ f)
      where
        c : Comes s t r 0 (packets s) (check_of (s ++ t))
        c = check_comes e

        w : Packet
        w = record { packet_type = get_or s (r.place + 5) 0; len = be s (r.place + 6) 4 }

        there : header_at (s ++ t) r.place ≡ Ok w
        there = (header.lacking s r.place r c.header).enough five t (omega arith)

        last : r.place + w.len ≡ length (s ++ t)
        last = let g = header.torn_there r five s r.place c.header in omega (arith, g.longer, g.header, ap (λ (x : Refusal). x.lacking) g.it, length-append s t)

        ended : (b : Bool) (p : Progress) → judged (length (s ++ t)) p (pick b (none closed) (none runs_out)) ≡ Err q → ⊥
        ended true p g = not_out q five-again p.count (length (s ++ t)) g
        ended false p g = not_out q five-again p.count (length (s ++ t)) g

        on_step_lem : (x : Piece) (types : List ℕ) (b : Bool) (a : Result Step Refusal) → step_at (length (s ++ t)) c.progress (record { at = r.place; piece = x; types = types }) ≡ a
            → on_step (λ p. judged (length (s ++ t)) p (pick b (none closed) (none runs_out))) a ≡ Err q → ⊥
        on_step_lem x types b (Err z) k g =
            not_step q five-again c.progress x r.place (type_for types x.track) (ltb (r.place + x.len) (length (s ++ t))) (k ∙ ap Err cc)
        on_step_lem x types b (Ok (step.Ended n)) k g = let z : ◌≡◌ {A = ℕ} 0 1 = cc in omega arith
        on_step_lem x types b (Ok (step.Next p)) k g = ended b p g

        on_piece_lem : (a : Result Piece Refusal) → piece_at (s ++ t) r.place c.first ≡ a
            → judged (length (s ++ t)) c.progress (on_piece (s ++ t) r.place c.types (λ now_types next. packets_from (s ++ t) (c.fuel - 1) false now_types next) a) ≡ Err q → ⊥
        on_piece_lem (Err z) k g =
            let y = torn_piece (s ++ t) r.place c.first q (k ∙ ap Err cc) five-again in
            let u : Ok w ≡ Err q = sym there ∙ y in
            (let z : ◌≡◌ {A = ℕ} 0 1 = cc in omega arith)
        on_piece_lem (Ok x) k g =
            let b = told (s ++ t) r.place c.first x k in
            let i : Ok b.head ≡ Ok w = sym b.header ∙ there in
            let j : b.head ≡ w = cc in
            let n : r.place + x.len ≡ length (s ++ t) = omega (arith, b.lens, ap (λ (y : Packet). y.len) j, last) in
            let types : List ℕ = types_after (s ++ t) r.place x c.types in
            let o : packets_from (s ++ t) (c.fuel - 1) false types (r.place + x.len) ≡ none runs_out = out (s ++ t) (c.fuel - 1) false types (r.place + x.len) (omega arith) in
            on_step_lem x types (eqb x.packet_type 0xFB) (step_at (length (s ++ t)) c.progress (record { at = r.place; piece = x; types = types })) refl (rw o at g)

-- of all that refuses a stream with 5 exactly where the check does
pub lacking_of : (Refuses : List ℕ → Refusal → Type 0) → ((z : List ℕ) (q : Refusal) → CheckRefuses z q → Refuses z q) → ((z : List ℕ) (q : Refusal) → Refuses z q → number q ≡ 5 → CheckRefuses z q)
    → (s : List ℕ) (r : Refusal) → Refuses s r → ((number r ≡ 5 → ⊥) → r.lacking ≡ 0) → StreamLacking Refuses s r
lacking_of Refuses to back s r e n =
    record {
      none = n;
      torn_packet = λ five. let c = check_comes s [] r five (back s r e five) in (c.ends, omega (arith, c.behind), c.header);
      whole = λ five t h. (header.lacking s r.place r (check_comes s [] r five (back s r e five)).header).enough five t h;
      enough = λ five t h q f again. check_enough s t r five (back s r e five) h q (back (s ++ t) q f again) again;
      fewer = λ five t h. subst (λ (k : ℕ). Refuses (s ++ t) (torn r.place k)) (omega arith) (to (s ++ t) _ (check_fewer s t r five (back s r e five) h));
    }

pub check_lacking : (s : List ℕ) (r : Refusal) → CheckRefuses s r → StreamLacking CheckRefuses s r
check_lacking s r e = lacking_of CheckRefuses (λ z q f. f) (λ z q f five. f) s r e (in_one r (subst OfCheck e (check_numbers s))).2

pub seek_lacking : (track field : ℕ) (s : List ℕ) (r : Refusal) → SeekRefuses track field s r → StreamLacking (SeekRefuses track field) s r
unfolding seek_of
seek_lacking track field s r e = lacking_of (SeekRefuses track field) (λ z q f. refused_alike track field z q f) (λ z q f five. go q five (check_of z) (first_of track field (packets z).list) f) s r e (subst OfSeek e (seek_numbers s track field)).2
  where
    go : (q : Refusal) → number q ≡ 5 → (a : Result ℕ Refusal) (o : Option ℕ) → if_checked a (or_not_there o) ≡ Err q → a ≡ Err q
    go q five (Err r) o f = ap Err cc
    go q five (Ok n) (Some o) f = absurd (let z : ◌≡◌ {A = ℕ} 0 1 = cc in omega arith)
    go q five (Ok n) None f = let z : refusal fault.NotThere 0 ≡ q = cc in absurd (omega (arith, ap (λ (x : Refusal). (number x)) z))

-- what the first packet's header is refused with, the check is
pub check_opens : StreamOpens CheckRefuses
unfolding check_of packets judge_packets piece_at
check_opens s r h e = ap (judged (length s) started) (turn s (suc (length s)) true (replicate 64 0) 0 (omega arith) (omega arith)) ∙ rw e

pub seek_opens : (track field : ℕ) → StreamOpens (SeekRefuses track field)
seek_opens track field s r h e = refused_alike track field s r (check_opens s r h e)
