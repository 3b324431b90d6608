-- What any outcome of a call is, by its contract: the definition's answer, and the definition's buffer; and that the contract allows that one. Those of check, seek, look-up, locator, media, names and auxiliary text are in Given.antt.
use Prim.Native.Nat.{ℕ}
use mathlib.Core.Path.{◌≡◌, refl, sym, ◌∙◌, ap}
use mathlib.Core.List.{List, []}
use Rattle.std.specs.Prelude.{Result}
use Rattle.packet.specs.Packet.{header_at, packet_at}
use Rattle.walker.specs.Walk.{walk_of}
use Rattle.walker.specs.declared.Stop.{Stop}
use Rattle.map.specs.declared.MapSays.{MapSays}
use Rattle.map_answer.specs.declared.Track.{Track}
use Rattle.packet.specs.declared.Packet.{Packet}
use Rattle.plate.specs.declared.Refusal.{Refusal}
use Rattle.map.specs.Map.{map_at, track_at}
use Rattle.book_builder.specs.BookBuilder.{build_answer, built_in}
use Rattle.map_writer.specs.Write.{map_written_answer, map_written_in}
use Rattle.locator_writer.specs.Write.{locator_answer, locator_written_in}
use Rattle.map_name.specs.Name.{name_at, name_bytes, place_in, name_of_two_at, two_bytes, place_of_two}
use Rattle.paper_readings.specs.Calls.{Headers, OfType, Walks, ReadsMap, ReadsTrack, BuildsInto, WritesMap, WritesLocator, HandsOut, HandsOutOfTwo}
use Rattle.paper_readings.proofs.Given.{lent, lent_out}

pub header_is : (s : List ℕ) (at : ℕ) (x : Result Packet Refusal) → Headers s at x → x ≡ header_at s at
header_is s at x g = sym g.it ∙ g.post ∙ rw (g.on.0, g.on.1)

pub of_type_is : (s : List ℕ) (at type : ℕ) (x : Result Packet Refusal) → OfType s at type x → x ≡ packet_at s at type
of_type_is s at type x g = sym g.it ∙ g.post ∙ rw (g.on.0, g.on.1, g.on.2)

pub walk_is : (s : List ℕ) (at n : ℕ) (x : Stop) → Walks s at n x → x ≡ walk_of s at n
walk_is s at n x g = sym g.it ∙ g.post ∙ rw (g.on.0, g.on.1, g.on.2)

pub map_is : (s : List ℕ) (at : ℕ) (x : Result MapSays Refusal) → ReadsMap s at x → x ≡ map_at s at
map_is s at x g = sym g.it ∙ g.post ∙ rw (g.on.0, g.on.1)

pub track_is : (s : List ℕ) (at k : ℕ) (x : Result Track Refusal) → ReadsTrack s at k x → x ≡ track_at s at k
track_is s at k x g = sym g.it ∙ g.post ∙ rw (g.on.0, g.on.1, g.on.2)

pub built_is : (l s : List ℕ) (x : Result ℕ Refusal) (o : List ℕ) → BuildsInto l s x o → (x ≡ build_answer l s) × (o ≡ built_in l s)
built_is l s x o g =
    (sym (ap (λ (p : (Result ℕ Refusal) × List ℕ). p.0) g.it) ∙ g.post.0 ∙ rw (g.on.0, g.on.1), sym (ap (λ (p : (Result ℕ Refusal) × List ℕ). p.1) g.it) ∙ g.post.1 ∙ rw (g.on.0, g.on.1))

pub map_written_is : (out : List ℕ) (at : ℕ) (text ms ts : List ℕ) (x : Result ℕ Refusal) (o : List ℕ) → WritesMap out at text ms ts x o
    → (x ≡ map_written_answer out at text ms ts) × (o ≡ map_written_in out at text ms ts)
map_written_is out at text ms ts x o g = (
  sym (ap (λ (p : (Result ℕ Refusal) × List ℕ). p.0) g.it) ∙ g.post.0 ∙ rw (g.on.0, g.on.1, g.on.2, g.on.3, g.on.4),
  sym (ap (λ (p : (Result ℕ Refusal) × List ℕ). p.1) g.it) ∙ g.post.1 ∙ rw (g.on.0, g.on.1, g.on.2, g.on.3, g.on.4),
)

pub locator_written_is : (out : List ℕ) (at step : ℕ) (ns : List ℕ) (x : Result ℕ Refusal) (o : List ℕ) → WritesLocator out at step ns x o
    → (x ≡ locator_answer out at step ns) × (o ≡ locator_written_in out at step ns)
locator_written_is out at step ns x o g = (
  sym (ap (λ (p : (Result ℕ Refusal) × List ℕ). p.0) g.it) ∙ g.post.0 ∙ rw (g.on.0, g.on.1, g.on.2, g.on.3),
  sym (ap (λ (p : (Result ℕ Refusal) × List ℕ). p.1) g.it) ∙ g.post.1 ∙ rw (g.on.0, g.on.1, g.on.2, g.on.3),
)

pub handed_is : (s : List ℕ) (at : ℕ × ℕ) (id : ℕ) (v : List ℕ) (q : ℕ × ℕ) → HandsOut s at id v q → (v ≡ name_bytes s (name_at s id)) × (q ≡ place_in at (name_at s id))
handed_is s at id v q g =
    (sym (ap (λ (p : List ℕ × (ℕ × ℕ)). p.0) g.it) ∙ g.post.0 ∙ rw (g.on.0, g.on.2), sym (ap (λ (p : List ℕ × (ℕ × ℕ)). p.1) g.it) ∙ g.post.1 ∙ rw (g.on.0, g.on.1, g.on.2))

pub handed_of_two_is : (m : List ℕ) (at : ℕ × ℕ) (n : List ℕ) (there : ℕ × ℕ) (id : ℕ) (v : List ℕ) (q : ℕ × ℕ) → HandsOutOfTwo m at n there id v q
    → (v ≡ two_bytes m n (name_of_two_at m n id)) × (q ≡ place_of_two at there (name_of_two_at m n id))
handed_of_two_is m at n there id v q g = (
  sym (ap (λ (p : List ℕ × (ℕ × ℕ)). p.0) g.it) ∙ g.post.0 ∙ rw (g.on.0, g.on.2, g.on.4),
  sym (ap (λ (p : List ℕ × (ℕ × ℕ)). p.1) g.it) ∙ g.post.1 ∙ rw (g.on.0, g.on.1, g.on.2, g.on.3, g.on.4),
)

pub header_gives : (s : List ℕ) (at : ℕ) → Headers s at (header_at s at)
header_gives s at = record { lifetimes = ([], tt); arguments = (lent s, (at, tt)); result = header_at s at; exit = (lent s, (at, tt)); on = (refl, refl); post = refl; it = refl }

pub of_type_gives : (s : List ℕ) (at type : ℕ) → OfType s at type (packet_at s at type)
of_type_gives s at type =
    record { lifetimes = ([], tt); arguments = (lent s, (at, (type, tt))); result = packet_at s at type; exit = (lent s, (at, (type, tt))); on = (refl, refl, refl); post = refl; it = refl }

pub walk_gives : (s : List ℕ) (at n : ℕ) → Walks s at n (walk_of s at n)
walk_gives s at n = record { lifetimes = ([], tt); arguments = (lent s, (at, (n, tt))); result = walk_of s at n; exit = (lent s, (at, (n, tt))); on = (refl, refl, refl); post = refl; it = refl }

pub map_gives : (s : List ℕ) (at : ℕ) → ReadsMap s at (map_at s at)
map_gives s at = record { lifetimes = ([], tt); arguments = (lent s, (at, tt)); result = map_at s at; exit = (lent s, (at, tt)); on = (refl, refl); post = refl; it = refl }

pub track_gives : (s : List ℕ) (at k : ℕ) → ReadsTrack s at k (track_at s at k)
track_gives s at k = record { lifetimes = ([], tt); arguments = (lent s, (at, (k, tt))); result = track_at s at k; exit = (lent s, (at, (k, tt))); on = (refl, refl, refl); post = refl; it = refl }

pub built_gives : (l s : List ℕ) → BuildsInto l s (build_answer l s) (built_in l s)
built_gives l s =
    record { lifetimes = ([], ([], tt)); arguments = (lent_out l, (lent s, tt)); result = build_answer l s; exit = (lent_out (built_in l s), (lent s, tt)); on = (refl, refl); post = (refl, refl); it = refl }

pub map_written_gives : (out : List ℕ) (at : ℕ) (text ms ts : List ℕ) → WritesMap out at text ms ts (map_written_answer out at text ms ts) (map_written_in out at text ms ts)
map_written_gives out at text ms ts =
    record {
      lifetimes = ([], ([], ([], ([], tt))));
      arguments = (lent_out out, (at, (lent text, (lent ms, (lent ts, tt)))));
      result = map_written_answer out at text ms ts;
      exit = (lent_out (map_written_in out at text ms ts), (at, (lent text, (lent ms, (lent ts, tt)))));
      on = (refl, refl, refl, refl, refl);
      post = (refl, refl);
      it = refl;
    }

pub locator_written_gives : (out : List ℕ) (at step : ℕ) (ns : List ℕ) → WritesLocator out at step ns (locator_answer out at step ns) (locator_written_in out at step ns)
locator_written_gives out at step ns =
    record {
      lifetimes = ([], ([], tt));
      arguments = (lent_out out, (at, (step, (lent ns, tt))));
      result = locator_answer out at step ns;
      exit = (lent_out (locator_written_in out at step ns), (at, (step, (lent ns, tt))));
      on = (refl, refl, refl, refl);
      post = (refl, refl);
      it = refl;
    }
