-- Wrong forms, from the theorems of map_tracks, map, map_newer, stream, map_writer and paper_readings.
use Prim.Native.Nat.{ℕ, ◌+◌, ◌-◌}
use mathlib.Core.Path.{◌≡◌, refl, sym, ◌∙◌, ap, subst}
use mathlib.Core.List.{List}
use native.Mathlib.Omega.{arith}
use lib.ListN.{length, take}
use Rattle.std.specs.Prelude.{Result, Ok, Err, ⊤}
use Rattle.plate.specs.Plate.{number}
use Rattle.plate.specs.Part.{part}
use Rattle.plate.specs.declared.Refusal.{Refusal}
use Rattle.packet.specs.Packet.{type_map, packet_at}
use Rattle.packet.specs.declared.Packet.{Packet}
use Rattle.packet.proofs.Numbers.{OfHeader, packet_numbers}
use Rattle.map_answer.specs.declared.Track.{Track}
use Rattle.map.specs.Map.{map_verdict, listed_in, material_says, on_verdict, answer_of, track_in, map_from, map_at, track_at}
use Rattle.map.specs.declared.MapSays.{MapSays}
use Rattle.map_tracks.proofs.WrongForm.{judged_29}
use Rattle.map.proofs.WrongForm.{wrong_form_lem}
use Rattle.map_records.specs.Fill.{answer_for, lent_after, Filled}
use Rattle.map_name.specs.Name.{if_accepted, if_whole, opened_of, name_at, name_of_two_at}
use Rattle.map_newer.proofs.Tracks.{struck_form, set_form}
use Rattle.map_newer.proofs.WrongForm.{stays_wrong}
use Rattle.stream.proofs.WrongForm.{check_number, check_29, map_there, first_map}
use Rattle.map_writer.proofs.Packet.{faulty, wrong_formed}
use Rattle.map_writer.proofs.WrongForm.{writer_form}
use Rattle.paper_readings.proofs.Forms.{forms_agree, given_agree}
use Rattle.paper_readings.proofs.Given.{check_is, place_is, place_of_two_is}
use Rattle.paper_readings.proofs.Calls.{map_is, track_is, map_written_is}
use Rattle.promises.specs.WrongForms.{MapRefused, WrongForms}

-- the definitions of the readers, on a map that is refused
map_refused : (s : List ℕ) (at : ℕ) (r : Refusal) → MapRefused s at r → map_at s at ≡ Err r
unfolding map_at answer_of
map_refused s at r m = rw (m.there, m.verdict)

track_refused : (s : List ℕ) (at k : ℕ) (r : Refusal) → MapRefused s at r → track_at s at k ≡ Err r
unfolding track_at track_in
track_refused s at k r m = rw (m.there, m.verdict)

fill_refused : (s : List ℕ) (at : ℕ) (r : Refusal) → MapRefused s at r → (ys zs : List Track) (x : Result MapSays Refusal) → Filled ys s at x zs → (x ≡ Err r) × (zs ≡ ys)
unfolding Filled answer_for lent_after
fill_refused s at r m ys zs x f = let e = map_refused s at r m in (f.0 ∙ rw e, f.1 ∙ rw e)

-- a map at the start of the lent bytes is opened by as many of them as it has
whole_front : (n : ℕ) (s : List ℕ) → part 0 (0 + n) s ≡ take n s
whole_front n s = ap (λ (k : ℕ). take k s) (let e : 0 + n - 0 ≡ n = omega arith in e)

opened_refused : (s : List ℕ) (r : Refusal) → MapRefused s 0 r → opened_of s ≡ Err r
unfolding opened_of
opened_refused s r m = rw (m.there, ← whole_front m.whole.len s, m.verdict)

opened_said : (s : List ℕ) (m : MapSays) → map_at s 0 ≡ Ok m → (n : ℕ) × (opened_of s ≡ Ok n)
unfolding map_at answer_of opened_of
opened_said s m = go (packet_at s 0 type_map)
  where
    on : (n : ℕ) (v : Result ⊤ Refusal) (a : Result MapSays Refusal) → on_verdict v a ≡ Ok m → (k : ℕ) × (if_accepted n v ≡ Ok k)
    on n (Ok _) a e = (n, refl)
    on n (Err q) a e = absurd (let z : ◌≡◌ {A = ℕ} 0 1 = cc in omega arith)

    go : (a : Result Packet Refusal) → map_from s 0 a ≡ Ok m → (k : ℕ) × (if_whole s a ≡ Ok k)
    go (Err q) e = absurd (let z : ◌≡◌ {A = ℕ} 0 1 = cc in omega arith)
    go (Ok w) e = on w.len (map_verdict (take w.len s)) _ (rw (whole_front w.len s) at e)

name_refused : (s : List ℕ) (id : ℕ) (r : Refusal) → MapRefused s 0 r → name_at s id ≡ Err r
unfolding name_at
name_refused s id r m = rw (opened_refused s r m)

opening_refused : (a b : List ℕ) (id : ℕ) (r : Refusal) → MapRefused a 0 r → name_of_two_at a b id ≡ Err r
unfolding name_of_two_at
opening_refused a b id r m = rw (opened_refused a r m)

closing_refused : (a b : List ℕ) (id : ℕ) (m : MapSays) → map_at a 0 ≡ Ok m → (r : Refusal) → MapRefused b 0 r → name_of_two_at a b id ≡ Err r
unfolding name_of_two_at
closing_refused a b id m e r n = rw ((opened_said a m e).1, opened_refused b r n)

-- 29 is no header's
only : (s : List ℕ) (at : ℕ) (r : Refusal) → map_at s at ≡ Err r → number r ≡ 29 → MapRefused s at r
unfolding map_at answer_of
only s at r e n = go (packet_at s at type_map) refl e
  where
    on : (w : Packet) → packet_at s at type_map ≡ Ok w → (v : Result ⊤ Refusal) → map_verdict (part at (at + w.len) s) ≡ v
        → on_verdict v (Ok (record { count = length (listed_in (part at (at + w.len) s)); material = material_says (part at (at + w.len) s) })) ≡ Err r → MapRefused s at r
    on w h (Ok _) v e = absurd (let z : ◌≡◌ {A = ℕ} 0 1 = cc in omega arith)
    on w h (Err q) v e = let z : q ≡ r = cc in record { whole = w; there = h; verdict = v ∙ ap Err z }

    go : (a : Result Packet Refusal) → packet_at s at type_map ≡ a → map_from s at a ≡ Err r → MapRefused s at r
    go (Err q) h e =
        let z : q ≡ r = cc in
        let b = subst (OfHeader 6) h (packet_numbers s at type_map) in
        absurd (let k : number q ≡ 29 = ap (λ (x : Refusal). (number x)) z ∙ n in omega (arith, b.1))
    go (Ok w) h e = on w h (map_verdict (part at (at + w.len) s)) refl e

pub wrong_forms : WrongForms
wrong_forms =
    record {
      tracks = judged_29;
      map = wrong_form_lem;
      read_so = forms_agree;
      given_so = given_agree;
      read = λ s at r m x g. map_is s at x g ∙ map_refused s at r m;
      track = λ s at k r m x g. track_is s at k x g ∙ track_refused s at k r m;
      fill = fill_refused;
      name = λ s id r m x g. place_is s id x g ∙ name_refused s id r m;
      opening = λ a b id r m x g. place_of_two_is a b id x g ∙ opening_refused a b id r m;
      closing = λ a b id m e r n x g. place_of_two_is a b id x g ∙ closing_refused a b id m e r n;
      read_only = λ s at r g n. only s at r (sym (map_is s at _ g)) n;
      check = λ s r g n. check_29 s r (sym (check_is s _ g)) n;
      check_there = λ s at len e h own v x g. check_is s x g ∙ map_there s at len e h own v;
      check_first = λ s len r h v x g. check_is s x g ∙ first_map s len r h v;
      check_numbers = λ s r g. check_number s r (sym (check_is s _ g));
      writer = writer_form;
      writes_other = λ out at text ms ts f h x o g. let e = map_written_is out at text ms ts x o g in let w = faulty out at text ms ts f h in (e.0 ∙ w.0, e.1 ∙ w.1);
      writes_none = λ out at text ms ts f n x o g. let e = map_written_is out at text ms ts x o g in let w = wrong_formed out at text ms ts f n in (e.0 ∙ w.0, e.1 ∙ w.1);
      struck = struck_form;
      set_in_lem = set_form;
      stays = stays_wrong;
    }
