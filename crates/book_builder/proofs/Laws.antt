-- A walk over a stream's packets, one at a time: the entries so far and those of the packets left are all of them.
use Prim.Native.Nat.{ℕ, suc, ◌+◌, ◌-◌, ◌*◌, ◌<◌, ◌≤◌}
use mathlib.Core.Path.{◌≡◌, refl, ◌∙◌, ap}
use mathlib.Core.Bool.{Bool, true, false}
use mathlib.Core.List.{List, [], ◌∷◌, ◌++◌, append_assoc, append-nil}
use native.Mathlib.Omega.{arith}
use lib.ListN.{length, get_or, set, replicate, length-append}
use native.Mathlib.Nat.{zero-add}
use lib.Seq.{sets, sets-eq}
use lib.Dec.{eqb, ltb}
use borrow.Author.Tests.{lt-ltb, le-ltb, ltb-true, ltb-false}
use Rattle.std.specs.Prelude.{Result, Ok, Err}
use Rattle.plate.specs.Choice.{pick}
use Rattle.plate.specs.Ended.{none, in_front}
use Rattle.plate.specs.Plate.{refusal}
use Rattle.plate.specs.declared.Refusal.{Refusal}
use Rattle.number.specs.Number.{le_bytes}
use Rattle.number.proofs.Laws.{length-le_bytes}
use Rattle.number.proofs.Stores.{sets_append}
use Rattle.piece.specs.Piece.{piece_at}
use Rattle.piece.specs.declared.Piece.{Piece}
use Rattle.piece.proofs.Laws.{Told, told}
use Rattle.order.specs.Order.{started, misplaced, overdue, unmapped, progress_after, ending, step_of}
use Rattle.order.specs.declared.Progress.{Progress}
use Rattle.order.specs.declared.Step.{Step}
use Rattle.order.specs.declared.Step.TheVariants as step
use Rattle.stream.specs.Stream.{Placed, Packets, closed, types_after, on_piece, packets_from, packets, on_step, type_for, step_at, judge_packets, check_of}
use Rattle.stream.proofs.Laws.{turn, out}
use Rattle.book.specs.Book.{record_bytes, book_bytes}
use Rattle.book.specs.declared.Entry.{Entry}
use Rattle.plate.specs.declared.Fault.TheVariants as fault
use Rattle.book.proofs.Coding.{length-bytes}
use Rattle.book_builder.specs.BookBuilder.{recorded, entry_of, entries_here, entries_of, entries_in, build_answer, built_in}
use Rattle.book_builder.specs.Inside.{Accepted}
use Rattle.piece.specs.Seen.{Seeable, seen_at}
use Rattle.book_builder.proofs.Seen.{seen}

-- the packets from here on pass, after some progress
pub record Passing (s : List ℕ) (ps : Packets) : Type 0 where
  pub progress : Progress
  pub packets : ℕ
  pub judged : judge_packets (length s) progress ps.list ps.end ≡ Ok packets

-- a stream does not end where bytes follow
no_end : (p : Progress) (x : Piece) (at listed n : ℕ) → step_of p x at listed true ≡ Ok (step.Ended n) → ⊥
unfolding step_of ending
no_end p x at listed n = go (misplaced p.eos_due p.flt x.packet_type) (overdue p.since_map x.packet_type) (unmapped x.packet_type x.media_type listed) (eqb x.packet_type 0xFB)
  where
    go : (a b d f : Bool)
        → pick a (Err (refusal fault.LocatorPlace at))
        (pick b (Err (refusal fault.MapOverdue at)) (pick d (Err (refusal fault.Unmapped at)) (pick f (Err (refusal fault.StreamEnd at)) (Ok (step.Next (progress_after p x.packet_type)))))) ≡ Ok (step.Ended n)
        → ⊥
    go true b d f e = let z : ◌≡◌ {A = ℕ} 0 1 = cc in absurd (omega arith)
    go false true d f e = let z : ◌≡◌ {A = ℕ} 0 1 = cc in absurd (omega arith)
    go false false true f e = let z : ◌≡◌ {A = ℕ} 0 1 = cc in absurd (omega arith)
    go false false false true e = let z : ◌≡◌ {A = ℕ} 0 1 = cc in absurd (omega arith)
    go false false false false e = let z : ◌≡◌ {A = ℕ} 0 1 = cc in absurd (omega arith)

-- of packets that pass, the first is whole, and where bytes follow it the rest pass
passing_whole : (s : List ℕ) (at : ℕ) (types : List ℕ) (next : List ℕ → ℕ → Packets) (a : Result Piece Refusal) → Passing s (on_piece s at types next a) → (r : Refusal) → a ≡ Err r → ⊥
unfolding judge_packets
passing_whole s at types next a p r e = let j : Err r ≡ Ok p.packets = rw e at p.judged in let z : ◌≡◌ {A = ℕ} 0 1 = cc in absurd (omega arith)

passing_next : (s : List ℕ) (x : Placed) (ps : Packets) → Passing s (in_front x ps) → x.at + x.piece.len < length s → Passing s ps
unfolding judge_packets
passing_next s x ps p h = go (step_at (length s) p.progress x) refl p.judged
  where
    go : (t : Result Step Refusal) → step_at (length s) p.progress x ≡ t → on_step (λ q. judge_packets (length s) q ps.list ps.end) t ≡ Ok p.packets → Passing s ps
    go (Ok (step.Next q)) e j = record { progress = q; packets = p.packets; judged = j }
    go (Err r) e j = absurd (let z : ◌≡◌ {A = ℕ} 0 1 = cc in omega arith)
    go (Ok (step.Ended n)) e j = absurd (no_end p.progress x.piece x.at (type_for x.types x.piece.track) n (rw (lt-ltb (x.at + x.piece.len) (length s) h) at e))

closed_fails : (s : List ℕ) → Passing s (none closed) → ⊥
unfolding judge_packets
closed_fails s p = let j = p.judged in let z : ◌≡◌ {A = ℕ} 0 1 = cc in absurd (omega arith)

-- the entries done, and what is left to do from an offset on, with the latest map's type bytes
pub record Left (s : List ℕ) (at : ℕ) (types : List ℕ) (done : List Entry) : Type 0 where
  pub first : Bool
  pub fuel : ℕ
  pub enough : length s - at < fuel
  pub same : entries_in s ≡ done ++ entries_of (packets_from s fuel first types at).list
  pub passes : at < length s → Passing s (packets_from s fuel first types at)

begin : (s : List ℕ) → Accepted s → Left s 0 (replicate 64 0) []
unfolding entries_in packets check_of
begin s a =
    record {
      first = true;
      fuel = suc (length s);
      enough = omega arith;
      same = refl;
      passes = λ _. record { progress = started; packets = a.count; judged = a.passes };
    }

module _ (s : List ℕ) (at : ℕ) (types : List ℕ) (done : List Entry) (l : Left s at types done) where
  pub all_out : length s ≤ at → entries_in s ≡ done
  unfolding entries_of
  all_out h = l.same ∙ rw (out s l.fuel l.first types at h, append-nil)

  module _ (h : at < length s) where
    now_turn : packets_from s l.fuel l.first types at ≡ on_piece s at types (λ now_types next. packets_from s (l.fuel - 1) false now_types next) (piece_at s at l.first)
    now_turn = turn s l.fuel l.first types at (omega (arith, l.enough)) h

    -- the packet here, as its bytes say
    abbrev x : Piece
    x = seen_at s at

    whole_here : (piece_at s at l.first ≡ Ok x) × Seeable s at
    whole_here = go (piece_at s at l.first) refl
      where
        go : (a : Result Piece Refusal) → piece_at s at l.first ≡ a → (piece_at s at l.first ≡ Ok x) × Seeable s at
        go (Ok y) e = let w = seen s at l.first y e in (e ∙ ap Ok w.is, w.can)
        go (Err r) e = absurd (passing_whole s at types (λ now_types next. packets_from s (l.fuel - 1) false now_types next) (piece_at s at l.first) (rw now_turn at (l.passes h)) r e)

    pub can_see : Seeable s at
    can_see = whole_here.1

    pub is_told : Told s at x
    is_told = told s at l.first x whole_here.0

    abbrev rest : Packets
    rest = pick (eqb x.packet_type 0xFB) (none closed) (packets_from s (l.fuel - 1) false (types_after s at x types) (at + x.len))

    here : packets_from s l.fuel l.first types at ≡ in_front (record { at = at; piece = x; types = types_after s at x types }) rest
    here = now_turn ∙ rw whole_here.0

    -- the type bytes behind it, and its entries
    abbrev now_types : List ℕ
    now_types = types_after s at x types

    abbrev entries : List Entry
    entries = entries_here at (get_or now_types x.track 0) x

    turned : entries_in s ≡ done ++ entries ++ entries_of rest.list
    unfolding entries_of
    turned = l.same ∙ rw (here, append_assoc)

    -- the entries of a packet that has passed are among all
    pub among : length (done ++ entries) ≤ length (entries_in s)
    among = rw turned (omega (arith, length-append (done ++ entries) (entries_of rest.list)))

    rest_passes : at + x.len < length s → Passing s rest
    rest_passes k = passing_next s (record { at = at; piece = x; types = types_after s at x types }) rest (rw here at (l.passes h)) k

    -- EOS is the last packet, and its end the stream's
    last : eqb x.packet_type 0xFB ≡ true → length s ≤ at + x.len
    last e = go (ltb (at + x.len) (length s)) refl
      where
        go : (b : Bool) → ltb (at + x.len) (length s) ≡ b → length s ≤ at + x.len
        go true q = absurd (closed_fails s (rw e at (rest_passes (ltb-true (at + x.len) (length s) q))))
        go false q = ltb-false (at + x.len) (length s) q

    pub next : Left s (at + x.len) now_types (done ++ entries)
    next = go (eqb x.packet_type 0xFB) refl
      where
        go : (b : Bool) → eqb x.packet_type 0xFB ≡ b → Left s (at + x.len) now_types (done ++ entries)
        go true e =
            record {
              first = false;
              fuel = l.fuel - 1;
              enough = omega (arith, l.enough, is_told.cut.least, is_told.cut.within);
              same = turned ∙ rw (e, out s (l.fuel - 1) false now_types (at + x.len) (last e));
              passes = λ k. absurd (omega (arith, last e, k));
            }
        go false e =
            record {
              first = false;
              fuel = l.fuel - 1;
              enough = omega (arith, l.enough, is_told.cut.least, is_told.cut.within);
              same = turned ∙ rw e;
              passes = λ k. rw e at (rest_passes k);
            }

-- a packet has one record at most
pub one_here : (x : Piece) → pick (recorded x) 1 0 ≤ 1
one_here x = go (recorded x)
  where
    go : (b : Bool) → pick b 1 0 ≤ 1
    go true = omega arith
    go false = omega arith

module _ (at byte : ℕ) (x : Piece) where
  -- whatever its type byte
  pub many_here : length (entries_here at byte x) ≡ pick (recorded x) 1 0
  unfolding entries_here
  many_here = go (recorded x)
    where
      go : (b : Bool) → length (pick b (entry_of at byte x ∷ []) []) ≡ pick b 1 0
      go true = refl
      go false = refl

  pub here_one : recorded x ≡ true → entries_here at byte x ≡ entry_of at byte x ∷ []
  unfolding entries_here
  here_one e = rw e

  pub here_none : recorded x ≡ false → entries_here at byte x ≡ []
  unfolding entries_here
  here_none e = rw e

-- a count under way
pub record Counting (s : List ℕ) (at n : ℕ) : Type 0 where
  pub types : List ℕ
  pub done : List Entry
  pub many : n ≡ length done
  pub left : Left s at types done

pub count_begin : (s : List ℕ) → Accepted s → Counting s 0 0
count_begin s a = record { types = replicate 64 0; done = []; many = refl; left = begin s a }

module _ (s : List ℕ) (at n : ℕ) (l : Counting s at n) where
  pub count_out : length s ≤ at → n ≡ length (entries_in s)
  count_out h = rw (all_out s at l.types l.done l.left h) l.many

  pub count_next : at < length s → (k : ℕ) → k ≡ pick (recorded (seen_at s at)) 1 0 → Counting s (at + (seen_at s at).len) (n + k)
  count_next h k t =
      let now_types = types_after s at (seen_at s at) l.types in
      let byte = get_or now_types (seen_at s at).track 0 in
      record {
        types = now_types;
        done = l.done ++ entries_here at byte (seen_at s at);
        many = omega (arith, length-append l.done (entries_here at byte (seen_at s at)), many_here at byte (seen_at s at), l.many);
        left = next s at l.types l.done l.left h;
      }

-- a record, byte by byte
pub record_over : (l : List ℕ) (to : ℕ) (e : Entry)
    → sets (sets (set (set (set (set l to 0x47) (to + 1) 0x58) (to + 2) e.track) (to + 3) e.media_type) (to + 4) (le_bytes 4 e.field)) (to + 8) (le_bytes 8 e.at)
    ≡ sets l to (record_bytes e)
unfolding record_bytes
record_over l to e =
    let a : to + 1 ≡ suc to = omega arith in
    let b : to + 2 ≡ suc (suc to) = omega arith in
    let d : to + 3 ≡ suc (suc (suc to)) = omega arith in
    let g : to + 4 ≡ suc (suc (suc (suc to))) = omega arith in
    let h : to + 8 ≡ suc (suc (suc (suc to))) + length (le_bytes 4 e.field) = omega (arith, length-le_bytes 4 e.field) in
    rw (h, g, d, b, a) (sets_append (le_bytes 4 e.field) _ (suc (suc (suc (suc to)))) (le_bytes 8 e.at))

pub bytes_one : (e : Entry) → book_bytes (e ∷ []) ≡ record_bytes e
unfolding book_bytes
bytes_one e = append-nil (record_bytes e)

-- bytes of entries one after another
pub bytes_append : (a b : List Entry) → book_bytes (a ++ b) ≡ book_bytes a ++ book_bytes b
unfolding book_bytes
bytes_append [] b = refl
bytes_append (x ∷ a) b = rw (bytes_append a b, append_assoc)

-- a writing under way: the buffer it began with, and what the buffer holds now
pub record Writing (s : List ℕ) (at to : ℕ) (types old now-out : List ℕ) : Type 0 where
  pub done : List Entry
  pub place : to ≡ 16 * length done
  pub left : Left s at types done
  pub same : now-out ≡ sets old 0 (book_bytes done)

pub write_begin : (s l : List ℕ) → Accepted s → Writing s 0 0 (replicate 64 0) l l
unfolding book_bytes
write_begin s l a = record { done = []; place = refl; left = begin s a; same = refl }

module _ (s : List ℕ) (at to : ℕ) (types old now-out : List ℕ) (l : Writing s at to types old now-out) where
  pub write_out : length s ≤ at → now-out ≡ sets old 0 (book_bytes (entries_in s))
  write_out h = rw (all_out s at types l.done l.left h) l.same

  module _ (h : at < length s) (later : List ℕ) (turn : later ≡ types_after s at (seen_at s at) types) where
    abbrev written : List Entry
    written = entries_here at (get_or later (seen_at s at).track 0) (seen_at s at)

    all_among : length (l.done ++ written) ≤ length (entries_in s)
    all_among = rw turn (among s at types l.done l.left h)

    pub write_room : to + 16 * length written ≤ 16 * length (entries_in s)
    write_room = omega (arith, all_among, length-append l.done written, l.place)

    pub write_next : (new : List ℕ) → new ≡ sets now-out to (book_bytes written) → (k : ℕ) → k ≡ to + 16 * length written → Writing s (at + (seen_at s at).len) k later old new
    write_next new q k t =
        let a : to ≡ 0 + length (book_bytes l.done) = omega (arith, length-bytes l.done, l.place) in
        record {
          done = l.done ++ written;
          place = omega (arith, length-append l.done written, l.place);
          left = rw turn (next s at types l.done l.left h);
          same = q ∙ rw (l.same, a, sets_append (book_bytes l.done) old 0 (book_bytes written), bytes_append l.done written);
        }

-- the answer and the buffer, by the check and the room
module _ (l s : List ℕ) where
  pub build_refused : (r : Refusal) → check_of s ≡ Err r → (Err r ≡ build_answer l s) × (l ≡ built_in l s)
  unfolding built_in build_answer
  build_refused r e = rw e (refl, refl)

  pub build_small : (k : ℕ) → check_of s ≡ Ok k → length l < 16 * length (entries_in s) → (Err (refusal fault.Room 0) ≡ build_answer l s) × (l ≡ built_in l s)
  unfolding built_in build_answer
  build_small k e h = rw (e, lt-ltb (length l) (16 * length (entries_in s)) h) (refl, refl)

  pub build_done : (k : ℕ) → check_of s ≡ Ok k → 16 * length (entries_in s) ≤ length l → (n : ℕ) → n ≡ length (entries_in s)
      → (new : List ℕ) → new ≡ sets l 0 (book_bytes (entries_in s)) → (Ok n ≡ build_answer l s) × (new ≡ built_in l s)
  unfolding built_in build_answer
  build_done k e h n q new o =
      let w = sets-eq (book_bytes (entries_in s)) l 0 (omega (arith, length-bytes (entries_in s))) in
      rw (e, le-ltb (length l) (16 * length (entries_in s)) h) (ap Ok q, o ∙ rw zero-add at w)
