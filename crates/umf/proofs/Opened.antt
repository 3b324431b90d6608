-- What an accepted UMF has in its place, and that who has it is accepted.
use Prim.Native.Nat.{ℕ, ◌+◌, ◌-◌, ◌≤◌}
use mathlib.Core.Path.{◌≡◌, refl, sym, ◌∙◌, ap}
use mathlib.Core.Bool.{true, false}
use mathlib.Core.List.{List}
use native.Mathlib.Omega.{arith}
use lib.ListN.{length, take, drop, length-drop, length-append}
use lib.Seq.{length-take-le, drop-length}
use borrow.Author.Tests.{le-ltb, eq-eqb, ne_eqb}
use Rattle.std.specs.Prelude.{Ok}
use Rattle.map_items.specs.Find.{missing, found}
use Rattle.umf.specs.Split.{least_of, is_counted, Parts, split_of, size_of}
use Rattle.umf.specs.Umf.{flag_of, length_of, payload_of, section_at, section_size, section_of, count_of, parts_of, section_verdict, payload_verdict, umf_verdict, nth_in}
use Rattle.umf.proofs.Statements.{join, Laid, Opened, UmfLaws}
use Rattle.umf.specs.declared.Described.{Described}
use Rattle.umf.specs.declared.Described.TheVariants.{Tracks, Segments, Users}
use Rattle.umf.proofs.Split.{split_says, put_together, put, few_whole}
use Rattle.umf.proofs.Laws.{GoodSection, GoodUmf, good_umf, payload_length, on_closed, on_opened}
use Rattle.umf.proofs.Stands.{nth_stands}

-- no user section has more records than bytes
users_many : (k : Described) (y : List ℕ) → is_counted k ≡ false → count_of k y ≡ section_size k y
unfolding is_counted count_of
users_many Tracks y e = absurd (let z : ◌≡◌ {A = ℕ} 0 1 = cc in omega arith)
users_many Segments y e = absurd (let z : ◌≡◌ {A = ℕ} 0 1 = cc in omega arith)
users_many Users y e = refl

-- a section that lies in its payload is as long as it says
section_length : (k : Described) (y : List ℕ) → section_at k y + section_size k y ≤ length y → length (section_of k y) ≡ section_size k y
section_length k y h = length-take-le (section_size k y) (drop (section_at k y) y) (omega (arith, length-drop (section_at k y) y))

-- a good section holds what is read of it
pub holds : (k : Described) (y : List ℕ) → GoodSection k y → Laid k y (parts_of k y).list
unfolding parts_of
holds k y g =
    let s = section_of k y in
    let i = split_says k (count_of k y) s in
    let l = section_length k y g.inside in
    record {
      inside = g.inside;
      each = i.each;
      behind = drop (size_of (split_of k (count_of k y) s).list) s;
      bytes = i.front;
      counted = λ c. sym (i.counted g.whole c);
      used = λ u. rw (i.used g.whole u (omega (arith, users_many k y u))) (drop-length s);
    }

-- who holds it is read so, and accepted
pub laid : (k : Described) (y : List ℕ) (ds : List (List ℕ)) → Laid k y ds → (parts_of k y ≡ record { list = ds; end = true }) × (section_verdict k y ≡ (Ok tt))
unfolding parts_of section_verdict
laid k y ds h = (parts, rw (le-ltb _ _ h.inside, ap (λ (w : Parts). w.end) parts))
  where
    few : is_counted k ≡ false → length ds ≤ count_of k y
    few u = omega (arith, users_many k y u, section_length k y h.inside, ap length h.bytes, length-append (join ds) h.behind, few_whole k ds h.each)

    parts : split_of k (count_of k y) (section_of k y) ≡ record { list = ds; end = true }
    parts = rw h.bytes (put k ds h.behind (count_of k y) h.each h.counted (λ u. (few u, h.used u)))

accepts : (p : List ℕ) → flag_of p ≡ 3 → 21 + length_of p ≤ length p → 104 ≤ length_of p → ((k : Described) → section_verdict k (payload_of p) ≡ (Ok tt)) → umf_verdict p ≡ (Ok tt)
unfolding payload_verdict
accepts p f h l s =
    let z = payload_length p h in
    sym (on_opened p h f) ∙ rw (le-ltb (length (payload_of p)) 48 (omega arith), le-ltb (length (payload_of p)) 104 (omega arith), s Tracks, s Segments, s Users)

closed_none : (p : List ℕ) → (flag_of p ≡ 3 → ⊥) → (k : Described) (n : ℕ) → nth_in k n p ≡ missing
closed_none p f k n = rw (ne_eqb _ _ f)

-- what is found by its number stands in an opened payload
stand : (k : Described) (n : ℕ) (p : List ℕ) (q : ℕ) (d : List ℕ) → umf_verdict p ≡ (Ok tt) → nth_in k n p ≡ found q d
    → (21 ≤ q) × (q + length d ≤ 21 + length_of p) × (d ≡ take (length d) (drop q p)) × (least_of k ≤ length d)
stand k n p q d a e =
    let i = nth_stands k n p q d a e in
    let z : q - 0 ≡ q = omega arith in
    (omega (arith, i.1.0), omega (arith, i.1.1), i.0.bytes ∙ rw z, i.1.2)

pub umf_laws : UmfLaws
umf_laws =
    record {
      split = split_says;
      put = put_together;
      has = λ p a f. opened p a f (good_umf p a);
      laid = laid;
      accepts = accepts;
      stands = stand;
      closed = λ p q f g l h i.
          let z : flag_of q ≡ 3 → ⊥ = λ e. f (sym g ∙ e) in
          (sym (on_closed p h f), sym (on_closed q (omega (arith, l)) z), λ k n. (closed_none p f k n, closed_none q z k n));
    }
  where
    opened : (p : List ℕ) → umf_verdict p ≡ (Ok tt) → flag_of p ≡ 3 → GoodUmf p → Opened p
    opened p a f g =
        let y = g.good (eq-eqb _ _ f) in
        let z = payload_length p g.holds in
        record { flag = f; payload = g.holds; described = omega (arith, y.described); size = z; sections = λ k. holds k (payload_of p) (y.each k) }
