-- The writer's 29: where it stands in the order, and that the reader would give it too.
use Prim.Native.Nat.{ℕ, zero, suc, ◌+◌, ◌-◌, ◌/◌}
use mathlib.Core.Path.{◌≡◌, refl, sym, ◌∙◌, ap}
use mathlib.Core.Bool.{Bool, true, false}
use mathlib.Core.List.{List, [], ◌∷◌, map}
use native.Mathlib.Omega.{arith}
use native.Mathlib.Nat.{add-sub_cancel_left}
use lib.ListN.{length}
use Rattle.std.specs.Prelude.{Result, Ok, Err, ⊤, None}
use Rattle.plate.specs.Plate.{number}
use Rattle.plate.specs.Choice.{pick}
use Rattle.plate.specs.declared.Refusal.{Refusal}
use Rattle.media_type.specs.MediaType.{mpeg_type, wrong_form}
use Rattle.map_items.specs.Items.{Item, section_of, items_bytes}
use Rattle.map_items.specs.Find.{Found, missing, found, find}
use Rattle.map_items.specs.Judge.{bad}
use Rattle.map_items.specs.declared.Section.TheVariants as section
use Rattle.plate.specs.declared.Fault.TheVariants as fault
use Rattle.map_items.proofs.Anywhere.{never, not_accepted, verdict_bytes}
use Rattle.map_items.proofs.Split.{section_bytes_lem}
use Rattle.map_tracks.specs.Tracks.{Description, over, track_over, judge_tracks}
use Rattle.map_tracks.specs.WrongForm.{Otherwise, behind}
use Rattle.map_tracks.proofs.Form.{on_wrong, over_anywhere, refused_wrong}
use Rattle.map_tracks.proofs.WrongForm.{to_form}
use Rattle.map.specs.Encode.{described}
use Rattle.map.specs.Map.{map_verdict}
use Rattle.map.proofs.Encoded.{verdict_of_encoded}
use Rattle.map.proofs.Parts.{good_encoded}
use Rattle.map_given.specs.Given.{track_at, tracks_from, tracks_given}
use Rattle.map_given.specs.Faults.{slots_fault, given, null_name, own_fault, tracks_fault, id_fault, ids_fault, fault_of, given_wrong, any_wrong}
use Rattle.map_given.proofs.Laws.{none_graver}
use Rattle.map_given.proofs.Numbers.{fault_named, not_29}
use Rattle.map_given.proofs.Clean.{Clean, clean, tracks_clean, own_known, not_barred, hidden_none, id_fresh}
use Rattle.map_writer.specs.Write.{items_of, parts_of_track, parts_given, map_packet, map_written_answer}
use Rattle.map_writer.specs.WrongForm.{WriterForm}
use Rattle.map_writer.proofs.ViewGiven.{given_found, null_is}
use Rattle.map_writer.proofs.Judged.{material_good, track_good, form_good, Same, none_same, same_more, parts_good}
use Rattle.map_writer.proofs.Packet.{faulty, wrong_formed}
use Rattle.map_writer.proofs.RoundTrip.{fit}
use Rattle.map_writer.proofs.Largest.{refused_as}

-- a track that is given the wrong form, and has no other fault, does not pass at its end
module _ (text ts : List ℕ) (at : ℕ) (o : own_fault (track_at ts at) ≡ None) (h : slots_fault text (track_at ts at).slots ≡ None) (g : given_wrong (track_at ts at) ≡ true) where
  -- its name is not null, as that would bar either form
  not_null : null_name (track_at ts at).slots ≡ false
  unfolding given_wrong wrong_form
  not_null = go (null_name (track_at ts at).slots) refl
    where
      go : (b : Bool) → null_name (track_at ts at).slots ≡ b → b ≡ false
      go false e = refl
      go true e =
          let n = hidden_none (track_at ts at).slots (not_barred (track_at ts at) o) e in
          absurd (either (mpeg_type (track_at ts at).media_type) n.0 n.2 g)
        where
          either : (m : Bool) → given 0x4D (track_at ts at).slots ≡ false → given 0x4F (track_at ts at).slots ≡ false → given (pick m 0x4D 0x4F) (track_at ts at).slots ≡ true → ⊥
          either true a b k = never (sym k ∙ a)
          either false a b k = never (sym k ∙ b)

  not_over : track_over (0x80 + (track_at ts at).media_type) (items_of text (track_at ts at).slots) 0 ≡ (Ok tt) → ⊥
  unfolding given_wrong
  not_over e = go (find (wrong_form (track_at ts at).media_type) 0 (items_of text (track_at ts at).slots)) refl
    where
      same : 0x80 + (track_at ts at).media_type - 0x80 ≡ (track_at ts at).media_type
      same = add-sub_cancel_left 0x80 (track_at ts at).media_type

      go : (x : Found) → find (wrong_form (track_at ts at).media_type) 0 (items_of text (track_at ts at).slots) ≡ x → ⊥
      go missing f = given_found text ts 7 (at + 2) 0x4C (wrong_form (track_at ts at).media_type) 0 g f
      go (found q v) f =
          not_accepted fault.WrongForm (q - 2)
          (on_wrong (0x80 + (track_at ts at).media_type) (items_of text (track_at ts at).slots) 0 (rw same (own_known (track_at ts at) o)) (null_is text ts at o h ∙ not_null) q (length v) (rw (same, f) refl) ∙ e)

-- a track put together from items that does not pass at its end, whatever its place, and one that does
module _ (ids : List ℕ) (p : ℕ) (d : Description) (ds : List Description) (o : Otherwise ids p d) (is : List Item) (l : (section_of d.items).list ≡ is) where
  wrong_here : (track_over d.type_byte is 0 ≡ (Ok tt) → ⊥) → (q : ℕ) × (judge_tracks ids p (d ∷ ds) over ≡ bad fault.WrongForm q)
  wrong_here h = go (track_over d.type_byte (section_of d.items).list (p + 4)) refl
    where
      go : (v : Result ⊤ Refusal) → track_over d.type_byte (section_of d.items).list (p + 4) ≡ v → (q : ℕ) × (judge_tracks ids p (d ∷ ds) over ≡ bad fault.WrongForm q)
      go (Ok _) e = absurd (h (over_anywhere d.type_byte is (p + 4) 0 (rw l at e)))
      go (Err r) e = (r.place, to_form ids p d ds over o ∙ rw e (ap Err (refused_wrong p d o.items r e).0))

  right_here : track_over d.type_byte is (p + 4) ≡ (Ok tt) → judge_tracks ids p (d ∷ ds) over ≡ judge_tracks (d.id ∷ ids) (behind p d) ds over
  right_here h = to_form ids p d ds over o ∙ rw (l, h)

-- ---- the tracks of an input without another fault
module _ (text ts : List ℕ) where
  passes : (at p : ℕ) (ids marked : List ℕ) → Same ids marked → own_fault (track_at ts at) ≡ None → slots_fault text (track_at ts at).slots ≡ None → id_fault ids (track_at ts at).id ≡ None
      → Otherwise marked p (described (parts_of_track text (track_at ts at)))
  unfolding described
  passes at p ids marked f o h i =
      record {
        type_byte = omega arith;
        id = omega arith;
        fresh = f (track_at ts at).id ∙ id_fresh ids (track_at ts at).id i;
        items = rw (verdict_bytes section.Track (items_of text (track_at ts at).slots) (p + 4), track_good text ts at (p + 4) o h);
      }

  items_are : (at : ℕ) → (section_of (described (parts_of_track text (track_at ts at))).items).list ≡ items_of text (track_at ts at).slots
  unfolding described
  items_are at = rw (section_bytes_lem (items_of text (track_at ts at).slots))

  judged_wrong : (n at p : ℕ) (ids marked : List ℕ) → Same ids marked → tracks_fault text (tracks_from n ts at) ≡ None → ids_fault ids (tracks_from n ts at) ≡ None
      → any_wrong (tracks_from n ts at) ≡ true → (q : ℕ) × (judge_tracks marked p (map described (map (parts_of_track text) (tracks_from n ts at))) over ≡ bad fault.WrongForm q)
  unfolding tracks_from ids_fault any_wrong described
  judged_wrong zero at p ids marked f h k w = never (sym w)
  judged_wrong (suc n) at p ids marked f h k w =
      let t = track_at ts at in
      let c = tracks_clean text t (tracks_from n ts (at + 23)) h in
      let i = none_graver (id_fault ids t.id) (ids_fault (t.id ∷ ids) (tracks_from n ts (at + 23))) k in
      let d = described (parts_of_track text t) in
      let ds = map described (map (parts_of_track text) (tracks_from n ts (at + 23))) in
      let o = passes at p ids marked f c.0 c.1 i.0 in
      let is = items_of text t.slots in
      go (given_wrong t) refl w
      (λ g. wrong_here marked p d ds o is (items_are at) (not_over text ts at c.0 c.1 g))
      (λ g m. let l = judged_wrong n (at + 23) (behind p d) (t.id ∷ ids) ((0xC0 + t.id) ∷ marked) (same_more ids marked t.id f) c.2 i.1 m in
      (l.0, right_here marked p d ds o is (items_are at) (form_good text ts at (p + 4) g) ∙ l.1))
    where
      go : {X : Type 0} (b : Bool) → given_wrong (track_at ts at) ≡ b → pick b true (any_wrong (tracks_from n ts (at + 23))) ≡ true
          → (given_wrong (track_at ts at) ≡ true → X) → (given_wrong (track_at ts at) ≡ false → any_wrong (tracks_from n ts (at + 23)) ≡ true → X) → X
      go true e h wrong right = wrong e
      go false e h wrong right = right e h

-- ---- the packet
module _ (text ms ts : List ℕ) (e : fault_of text ms ts ≡ None) where
  c : Clean text ms ts
  c = clean text ms ts e

  verdict_is : map_verdict (map_packet text ms ts) ≡ judge_tracks [] (22 + length (items_bytes (parts_given text ms ts).material)) (map described (parts_given text ms ts).tracks) over
  unfolding map_packet parts_given
  verdict_is = verdict_of_encoded (parts_given text ms ts) (fit [] 0 text ms ts 0 c) ∙ rw (material_good text ms 20 c.material)

  refused_there : any_wrong (tracks_given ts) ≡ true → (q : ℕ) × (map_verdict (map_packet text ms ts) ≡ bad fault.WrongForm q)
  unfolding parts_given
  refused_there w =
      let j = judged_wrong text ts (length ts / 23) 0 (22 + length (items_bytes (parts_given text ms ts).material)) [] [] (λ x. none_same x) c.tracks c.ids w in
      (j.0, verdict_is ∙ j.1)

  accepted_there : any_wrong (tracks_given ts) ≡ false → map_verdict (map_packet text ms ts) ≡ (Ok tt)
  unfolding map_packet
  accepted_there w = good_encoded (parts_given text ms ts) (fit [] 0 text ms ts 0 c) (parts_good text ms ts c w)

only : (out : List ℕ) (at : ℕ) (text ms ts : List ℕ) (r : Refusal) → map_written_answer out at text ms ts ≡ Err r → number r ≡ 29 → (fault_of text ms ts ≡ None) × (any_wrong (tracks_given ts) ≡ true)
only out at text ms ts r e n =
    refused_as out at text ms ts r e
    (λ f p q. absurd (not_29 f (rw p at (fault_named text ms ts)) (ap (λ (x : Refusal). (number x)) q ∙ n)))
    (λ f w q. (f, w))
    (λ f w q. absurd (let z : ◌≡◌ {A = ℕ} 13 29 = ap (λ (x : Refusal). (number x)) q ∙ n in omega arith))

pub writer_form : WriterForm
writer_form =
    record {
      after = λ out at text ms ts f e. (faulty out at text ms ts f e).0;
      given = λ out at text ms ts f w. (wrong_formed out at text ms ts f w).0;
      only = only;
      refused_there = refused_there;
      accepted_there = accepted_there;
    }
