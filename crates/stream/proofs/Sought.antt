-- What seek promises: the first packet that carries a field of a track, 16 exactly when none does, and the check's refusal first.
use Prim.Native.Nat.{ℕ, ◌≤◌, ◌^◌}
use mathlib.Core.Path.{◌≡◌, refl, ◌∙◌, ap}
use mathlib.Core.List.{List, [], ◌∷◌, ◌++◌}
use mathlib.Core.Bool.{Bool, true, false}
use native.Mathlib.Omega.{arith}
use Rattle.std.specs.Prelude.{Option, Some, None, Result, Ok, Err}
use Rattle.plate.specs.Choice.{pick}
use Rattle.plate.specs.Plate.{refusal}
use Rattle.plate.specs.declared.Refusal.{Refusal}
use Rattle.plate.specs.declared.Fault.TheVariants as fault
use Rattle.stream.specs.Stream.{Placed, packets, check_of, carries, first_of, or_not_there, if_checked, seek_of}
use Rattle.stream.specs.Sought.{NoneCarries, First}

module _ (track field : ℕ) where
  -- one packet more in front, which does not carry
  more : (offset : ℕ) (x : Placed) (xs : List Placed) → carries track field x ≡ false → First track field offset xs → First track field offset (x ∷ xs)
  more offset x xs n f =
      record { earlier = x ∷ f.earlier; it = f.it; later = f.later; all = ap (λ (l : List Placed). x ∷ l) f.all; stands = f.stands; carrier = f.carrier; none = (n, f.none) }

  first_found : (xs : List Placed) (o : ℕ) → first_of track field xs ≡ Some o → First track field o xs
  unfolding first_of
  first_found [] o e = absurd (let z : ◌≡◌ {A = ℕ} 0 1 = cc in omega arith)
  first_found (x ∷ xs) o e = go (carries track field x) refl e (first_found xs o)
    where
      go : (b : Bool) → carries track field x ≡ b → pick b (Some x.at) (first_of track field xs) ≡ Some o
          → (first_of track field xs ≡ Some o → First track field o xs) → First track field o (x ∷ xs)
      go true q e rest = record { earlier = []; it = x; later = xs; all = refl; stands = cc; carrier = q; none = tt }
      go false q e rest = more o x xs q (rest e)

  first_missing : (xs : List Placed) → first_of track field xs ≡ None → NoneCarries track field xs
  unfolding first_of
  first_missing [] e = tt
  first_missing (x ∷ xs) e = go (carries track field x) refl e (first_missing xs)
    where
      go : (b : Bool) → carries track field x ≡ b → pick b (Some x.at) (first_of track field xs) ≡ None
          → (first_of track field xs ≡ None → NoneCarries track field xs) → NoneCarries track field (x ∷ xs)
      go true q e rest = absurd (let z : ◌≡◌ {A = ℕ} 0 1 = cc in omega arith)
      go false q e rest = (q, rest e)

  none_missing : (xs : List Placed) → NoneCarries track field xs → first_of track field xs ≡ None
  unfolding first_of
  none_missing [] n = refl
  none_missing (x ∷ xs) n = rw n.0 (none_missing xs n.1)

  found_first : (ys : List Placed) (x : Placed) (zs : List Placed) → NoneCarries track field ys → carries track field x ≡ true → first_of track field (ys ++ (x ∷ zs)) ≡ Some x.at
  unfolding first_of
  found_first [] x zs n c = rw c
  found_first (y ∷ ys) x zs n c = rw n.0 (found_first ys x zs n.1 c)

  module _ (s : List ℕ) where
    -- a stream that the check refuses is refused by seek with the same refusal: number, place and bytes lacking
    pub refused_alike : (r : Refusal) → check_of s ≡ Err r → seek_of s track field ≡ Err r
    unfolding seek_of
    refused_alike r e = rw e

    -- an answer's offset is that of a packet of the stream that carries the field, and none before it does
    pub answer_carries : (o : ℕ) → seek_of s track field ≡ Ok o → First track field o (packets s).list
    unfolding seek_of
    answer_carries o = go (check_of s) (first_of track field (packets s).list) refl
      where
        go : (a : Result ℕ Refusal) (f : Option ℕ) → first_of track field (packets s).list ≡ f → if_checked a (or_not_there f) ≡ Ok o → First track field o (packets s).list
        go (Err r) f q e = absurd (let z : ◌≡◌ {A = ℕ} 0 1 = cc in omega arith)
        go (Ok n) (Some p) q e = first_found (packets s).list o (q ∙ ap Some cc)
        go (Ok n) None q e = absurd (let z : ◌≡◌ {A = ℕ} 0 1 = cc in omega arith)

    module _ (n : ℕ) (accepted : check_of s ≡ Ok n) where
      -- the first packet of an accepted stream that carries the field is the answer, however far it lies
      pub carrier_answers : (o : ℕ) → First track field o (packets s).list → seek_of s track field ≡ Ok o
      unfolding seek_of
      carrier_answers o f =
          rw (accepted, f.all, found_first f.earlier f.it f.later f.none f.carrier) (ap Ok f.stands)

      -- beyond 4 GiB as before
      pub far_carrier_answers : (o : ℕ) → 2 ^ 32 ≤ o → First track field o (packets s).list → seek_of s track field ≡ Ok o
      far_carrier_answers o h f = carrier_answers o f

      -- 16 exactly when none carries
      pub none_is_16 : NoneCarries track field (packets s).list → seek_of s track field ≡ Err (refusal fault.NotThere 0)
      unfolding seek_of
      none_is_16 h = rw (accepted, none_missing (packets s).list h)

      pub refused_is_none : (r : Refusal) → seek_of s track field ≡ Err r → NoneCarries track field (packets s).list
      unfolding seek_of
      refused_is_none r e = go (first_of track field (packets s).list) refl (rw accepted at e)
        where
          go : (f : Option ℕ) → first_of track field (packets s).list ≡ f → or_not_there f ≡ Err r → NoneCarries track field (packets s).list
          go (Some o) q e = absurd (let z : ◌≡◌ {A = ℕ} 0 1 = cc in omega arith)
          go None q e = first_missing (packets s).list q
