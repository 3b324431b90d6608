-- A name that is found lies within the lent map.
use Prim.Native.Nat.{ℕ, ◌+◌, ◌-◌, ◌≤◌}
use mathlib.Core.Path.{◌≡◌, refl, ap, subst}
use mathlib.Core.List.{List}
use native.Mathlib.Omega.{arith}
use lib.ListN.{length, take, length-take}
use Rattle.std.specs.Prelude.{Option, Some, None, Result, Ok, Err, ⊤}
use Rattle.packet.specs.Packet.{packet_at}
use Rattle.packet.proofs.Laws.{typed, whole}
use Rattle.map_tracks.specs.Tracks.{id_of}
use Rattle.map.specs.Map.{map_verdict, listed_in}
use Rattle.map_items.proofs.Same.{same_part}
use Rattle.map.proofs.Laws.{name_within}
use Rattle.map_name.specs.Name.{if_accepted, if_whole, opened_of, unended, name_from, name_in, or_not_there, in_opened, name_at, or_else, in_two, name_of_two_at}
use Rattle.map_name.specs.declared.OfTwo.{OfTwo}
use Rattle.map_name.specs.declared.OfTwo.TheVariants as two
use Rattle.map_answer.specs.declared.Track.{Track}
use Rattle.map_items.specs.declared.Part.{Part}
use Rattle.packet.specs.declared.Packet.{Packet}
use Rattle.plate.specs.declared.Refusal.{Refusal}

-- a packet of the asked type at the start of bytes is no longer than they
pub packet_within : (s : List ℕ) (n : ℕ) → ((w : _) → packet_at s 0 0xBC ≡ Ok w → w.len ≡ n → n ≤ length s)
packet_within s n w e f = let t = typed s 0 0xBC w e in let g = whole s 0 w t.0 in omega (arith, g.within)

pub opened_within : (s : List ℕ) (n : ℕ) → opened_of s ≡ Ok n → n ≤ length s
unfolding opened_of
opened_within s n = go (packet_at s 0 0xBC) refl
  where
    go : (a : Result Packet Refusal) → packet_at s 0 0xBC ≡ a → if_whole s a ≡ Ok n → n ≤ length s
    go (Err r) q e = absurd (let z : ◌≡◌ {A = ℕ} 0 1 = cc in omega arith)
    go (Ok w) q e = by (map_verdict (take w.len s)) e
      where
        by : (v : Result ⊤ Refusal) → if_accepted w.len v ≡ Ok n → n ≤ length s
        by (Ok _) e = packet_within s n w q cc
        by (Err r) e = absurd (let z : ◌≡◌ {A = ℕ} 0 1 = cc in omega arith)

name_in_within : (p : List ℕ) (id q m : ℕ) → name_in p id ≡ Some (record { at = q; len = m }) → q + m ≤ length p
unfolding name_in unended
name_in_within p id q m = go (id_of id (listed_in p)) refl
  where
    go : (k : Option Track) → id_of id (listed_in p) ≡ k → name_from k ≡ Some (record { at = q; len = m }) → q + m ≤ length p
    go None f e = absurd (let z : ◌≡◌ {A = ℕ} 0 1 = cc in omega arith)
    go (Some t) f e = by t.name refl e
      where
        by : (x : Option Part) → t.name ≡ x → unended x ≡ Some (record { at = q; len = m }) → q + m ≤ length p
        by None g e = absurd (let z : ◌≡◌ {A = ℕ} 0 1 = cc in omega arith)
        by (Some n) g e =
            let same = same_part n.at (n.len - 1) q m e in
            omega (arith, same.0, same.1, name_within p id t n.at n.len f g)

-- of the map packet at the start of lent bytes
in_front_lem : (s : List ℕ) (n id q m : ℕ) → name_in (take n s) id ≡ Some (record { at = q; len = m }) → q + m ≤ length s
in_front_lem s n id q m e = let a = name_in_within (take n s) id q m e in omega (arith, length-take n s)

pub place_within : (s : List ℕ) (id q m : ℕ) → name_at s id ≡ Ok (record { at = q; len = m }) → q + m ≤ length s
unfolding name_at
place_within s id q m = go (opened_of s)
  where
    go : (o : Result ℕ Refusal) → in_opened s id o ≡ Ok (record { at = q; len = m }) → q + m ≤ length s
    go (Err r) e = absurd (let z : ◌≡◌ {A = ℕ} 0 1 = cc in omega arith)
    go (Ok n) e = by (name_in (take n s) id) refl e
      where
        by : (x : Option Part) → name_in (take n s) id ≡ x → or_not_there x ≡ Ok (record { at = q; len = m }) → q + m ≤ length s
        by None f e = absurd (let z : ◌≡◌ {A = ℕ} 0 1 = cc in omega arith)
        by (Some a) f e =
            let same : a ≡ record { at = q; len = m } = cc in
            omega (arith, ap (λ (x : Part). x.at) same, ap (λ (x : Part). x.len) same, in_front_lem s n id a.at a.len f)

-- of two: where a name is said to stand, it does
abbrev Inside : ℕ → ℕ → Result OfTwo Refusal → Type 0
Inside la lb (Ok (two.Opening q)) = q.at + q.len ≤ la
Inside la lb (Ok (two.Closing q)) = q.at + q.len ≤ lb
Inside la lb (Err r) = Unit

module _ (a b : List ℕ) (id : ℕ) where
  inside : Inside (length a) (length b) (name_of_two_at a b id)
  unfolding name_of_two_at
  inside = go (opened_of a) (opened_of b)
    where
      go : (o p : Result ℕ Refusal) → Inside (length a) (length b) (in_two a b id o p)
      go (Err r) p = tt
      go (Ok k) (Err r) = tt
      go (Ok k) (Ok n) = by (name_in (take n b) id) (name_in (take k a) id) refl refl
        where
          by : (x y : Option Part) → name_in (take n b) id ≡ x → name_in (take k a) id ≡ y → Inside (length a) (length b) (or_else x y)
          by (Some q) y f g = in_front_lem b n id q.at q.len f
          by None (Some q) f g = in_front_lem a k id q.at q.len g
          by None None f g = tt

  pub closing_within : (q m : ℕ) → name_of_two_at a b id ≡ Ok (two.Closing (record { at = q; len = m })) → q + m ≤ length b
  closing_within q m e = subst (Inside (length a) (length b)) e inside

  pub opening_within : (q m : ℕ) → name_of_two_at a b id ≡ Ok (two.Opening (record { at = q; len = m })) → q + m ≤ length a
  opening_within q m e = subst (Inside (length a) (length b)) e inside
