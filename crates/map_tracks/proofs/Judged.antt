-- The judge of a track section, a turn at a time: what is left to do from a place on is the whole answer.
use Prim.Native.Nat.{ℕ, suc, ◌+◌, ◌-◌, ◌<◌, ◌≤◌}
use mathlib.Core.Path.{◌≡◌, refl, sym, ◌∙◌}
use mathlib.Core.List.{List, [], ◌∷◌}
use mathlib.Core.Bool.{Bool, true, false}
use native.Mathlib.Omega.{arith}
use native.Mathlib.Nat.{add-zero}
use lib.ListN.{length, get_or, take, drop}
use lib.Dec.{ltb}
use borrow.Author.Tests.{lt-ltb, le-ltb, ltb-true, ltb-false}
use Rattle.std.specs.Prelude.{Result, Ok, Err, ⊤}
use Rattle.plate.specs.Choice.{pick}
use Rattle.number.specs.Number.{be}
use Rattle.map_items.specs.Judge.{bad, and_then, has}
use Rattle.plate.specs.declared.Refusal.{Refusal}
use Rattle.map_tracks.specs.declared.Seen.{Seen}
use Rattle.plate.specs.declared.Fault.TheVariants as fault
use Rattle.map_tracks.specs.Inside.{holds, Empty, Adds}
use Rattle.map_tracks.specs.Tracks.{Descriptions, split_tracks, tracks_of, on_bytes, track_verdict, end_verdict, judge_tracks, tracks_verdict}
use Rattle.map_tracks.proofs.Split.{items_length, split_done, split_short, split_over, split_track}

-- the set holds the IDs seen
abbrev pub Held : Seen → List ℕ → Type 0
Held seen ids = (k : ℕ) → 0xC0 ≤ k → k < 256 → holds seen k ≡ has k ids

abbrev judge_from : List ℕ → ℕ → Descriptions → Result ⊤ Refusal
judge_from ids p ds = judge_tracks ids p ds.list ds.end

pub record Left (s : List ℕ) (base : ℕ) (seen : Seen) (at : ℕ) : Type 0 where
  pub fuel : ℕ
  pub enough : length s - at < fuel
  pub ids : List ℕ
  pub held : Held seen ids
  pub same : tracks_verdict s base ≡ judge_from ids (base + at) (split_tracks fuel (drop at s))

pub start : (s : List ℕ) (base : ℕ) (seen : Seen) → Empty seen → Left s base seen 0
unfolding tracks_verdict tracks_of has
start s base seen e = record { fuel = suc (length s); enough = omega arith; ids = []; held = e; same = rw add-zero }

module _ (s : List ℕ) (base : ℕ) (seen : Seen) (at : ℕ) (l : Left s base seen at) where
  pub on_done : length s ≤ at → (Ok tt) ≡ tracks_verdict s base
  unfolding judge_tracks end_verdict
  on_done h = sym (l.same ∙ rw (split_done s at l.fuel (omega (arith, l.enough)) h))

  pub on_short : at < length s → length s - at < 4 → bad fault.Overhang (base + at) ≡ tracks_verdict s base
  unfolding judge_tracks end_verdict
  on_short h k = sym (l.same ∙ rw (split_short s at l.fuel (omega (arith, l.enough)) h k))

  module _ (h : 4 ≤ length s - at) where
    abbrev rest : ℕ → Result ⊤ Refusal
    rest n =
        pick (has (get_or s (at + 1) 0) l.ids) (bad fault.Twice (base + at))
        (and_then (track_verdict (get_or s at 0) (take n (drop (at + 4) s)) (base + (at + 4)))
        (judge_from (get_or s (at + 1) 0 ∷ l.ids) (base + (at + 4 + n)) (split_tracks (l.fuel - 1) (drop (at + 4 + n) s))))

    -- a header at a place: its bytes first, then its length
    module _ (n : ℕ) (e : n ≡ be s (at + 2) 2) where
      turn_over : length s - at - 4 < n → tracks_verdict s base ≡ on_bytes (get_or s at 0) (get_or s (at + 1) 0) (base + at) (bad fault.Overhang (base + at))
      unfolding judge_tracks end_verdict
      turn_over k = l.same ∙ rw (split_over s at l.fuel (omega (arith, l.enough)) n h e k)

      turn : n ≤ length s - at - 4 → tracks_verdict s base ≡ on_bytes (get_or s at 0) (get_or s (at + 1) 0) (base + at) (rest n)
      unfolding judge_tracks
      turn k =
          let a : base + at + 4 + n ≡ base + (at + 4 + n) = omega arith in
          let b : base + at + 4 ≡ base + (at + 4) = omega arith in
          l.same ∙ rw (split_track s at l.fuel (omega (arith, l.enough)) n h e k, items_length s at n k, a, b)

    -- by its bytes, whatever its length
    either : {A : Type 0} (n : ℕ) → (length s - at - 4 < n → A) → (n ≤ length s - at - 4 → A) → A
    either {A} n f g = go (ltb (length s - at - 4) n) refl
      where
        go : (b : Bool) → ltb (length s - at - 4) n ≡ b → A
        go true q = f (ltb-true _ _ q)
        go false q = g (ltb-false _ _ q)

    pub on_type : get_or s at 0 < 0x80 → bad fault.TypeOrId (base + at) ≡ tracks_verdict s base
    on_type k =
        either (be s (at + 2) 2)
        (λ m. sym (turn_over (be s (at + 2) 2) refl m ∙ simp (lt-ltb _ _ k)))
        (λ m. sym (turn (be s (at + 2) 2) refl m ∙ simp (lt-ltb _ _ k)))

    module _ (k : 0x80 ≤ get_or s at 0) where
      pub on_id : get_or s (at + 1) 0 < 0xC0 → bad fault.TypeOrId (base + at) ≡ tracks_verdict s base
      on_id j =
          either (be s (at + 2) 2)
          (λ m. sym (turn_over (be s (at + 2) 2) refl m ∙ simp (le-ltb _ _ k, lt-ltb _ _ j)))
          (λ m. sym (turn (be s (at + 2) 2) refl m ∙ simp (le-ltb _ _ k, lt-ltb _ _ j)))

      module _ (j : 0xC0 ≤ get_or s (at + 1) 0) (n : ℕ) (e : n ≡ be s (at + 2) 2) where
        pub on_over : length s - at - 4 < n → bad fault.Overhang (base + at) ≡ tracks_verdict s base
        on_over m = sym (turn_over n e m ∙ simp (le-ltb _ _ k, le-ltb _ _ j))

        module _ (m : n ≤ length s - at - 4) (u : get_or s (at + 1) 0 < 256) where
          turned : tracks_verdict s base ≡ rest n
          turned = turn n e m ∙ simp (le-ltb _ _ k, le-ltb _ _ j)

          pub on_twice : holds seen (get_or s (at + 1) 0) ≡ true → bad fault.Twice (base + at) ≡ tracks_verdict s base
          on_twice y = sym (turned ∙ simp (sym (l.held _ j u) ∙ y))

          module _ (y : holds seen (get_or s (at + 1) 0) ≡ false) where
            judged : tracks_verdict s base
                ≡ and_then (track_verdict (get_or s at 0) (take n (drop (at + 4) s)) (base + (at + 4)))
                (judge_from (get_or s (at + 1) 0 ∷ l.ids) (base + (at + 4 + n)) (split_tracks (l.fuel - 1) (drop (at + 4 + n) s)))
            judged = turned ∙ simp (sym (l.held _ j u) ∙ y)

            pub on_refused : (r : Refusal) → track_verdict (get_or s at 0) (take n (drop (at + 4) s)) (base + (at + 4)) ≡ Err r → Err r ≡ tracks_verdict s base
            on_refused r v = sym (judged ∙ rw v)

            pub on_next : (next : Seen) → track_verdict (get_or s at 0) (take n (drop (at + 4) s)) (base + (at + 4)) ≡ (Ok tt) → Adds seen (get_or s (at + 1) 0) next
                → Left s base next (at + 4 + n)
            unfolding has
            on_next next v w =
                record {
                  fuel = l.fuel - 1;
                  enough = omega (arith, l.enough);
                  ids = get_or s (at + 1) 0 ∷ l.ids;
                  held = λ i a b. w i a b ∙ rw (l.held i a b);
                  same = judged ∙ rw v;
                }
