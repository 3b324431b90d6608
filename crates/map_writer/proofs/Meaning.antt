-- A code that is told means the number that was given.
use Prim.Native.Nat.{ℕ, zero, suc, ◌+◌, ◌-◌}
use mathlib.Core.Path.{◌≡◌, refl}
use mathlib.Core.Bool.{Bool, true, false}
use mathlib.Core.List.{List, map}
use native.Mathlib.Omega.{arith}
use borrow.Author.Tests.{lt-ltb, eqb-true}
use lib.Dec.{ltb, eqb}
use lib.IntN.{pos, negsuc}
use Rattle.std.specs.Prelude.{None}
use Rattle.plate.specs.Choice.{pick}
use Rattle.map_items.specs.Judge.{has}
use Rattle.map_answer.specs.Answer.{allowed, nothing, number, meaning_of}
use Rattle.map_answer.specs.declared.Code.TheVariants as code
use Rattle.map.specs.View.{TrackView}
use Rattle.map_given.specs.declared.Slot.{Slot}
use Rattle.map_given.specs.Given.{slot_at, track_at, tracks_from}
use Rattle.map_given.specs.Faults.{is_text, is_eight, is_code, code_fits, fits, slot_fault, tracks_fault}
use Rattle.map_given.proofs.Laws.{allowed_over}
use Rattle.map_given.proofs.Clean.{present_fits, slot_of, tracks_clean}
use Rattle.map_writer.specs.ViewGiven.{code_given, track_view_given, track_views_given}
use Rattle.map_writer.specs.Meaning.{signed_word, meant, Codes, codes_given}

-- the code of a slot without fault: −1, −2, or a value of Table 6, which is small
pub code_meant : (text : List ℕ) (s : Slot) → slot_fault text s ≡ None → is_text s.tag ≡ false → is_eight s.tag ≡ false → is_code s.tag ≡ true → meaning_of (code_given s) ≡ meant s
unfolding code_given meant signed_word meaning_of fits code_fits
code_meant text s h f g c = go (eqb s.mark 1) refl
  where
    word : (x : Bool) → eqb s.first 0xFFFFFFFFFFFFFFFF ≡ x → (y : Bool) → eqb s.first 0xFFFFFFFFFFFFFFFE ≡ y → pick x true (pick y true (allowed s.tag s.first)) ≡ true
        → meaning_of (pick x code.NotApplicable (pick y code.NotAvailable (code.Is s.first)))
        ≡ number (pick (ltb s.first 0x8000000000000000) (pos s.first) (negsuc (0xFFFFFFFFFFFFFFFF - s.first)))
    word true p y q a = rw (eqb-true s.first 0xFFFFFFFFFFFFFFFF p)
    word false p true q a = rw (eqb-true s.first 0xFFFFFFFFFFFFFFFE q)
    word false p false q a = let l = allowed_over s.tag s.first a in simp (lt-ltb s.first 0x8000000000000000 (omega arith))

    go : (b : Bool) → eqb s.mark 1 ≡ b
        → meaning_of (pick b (pick (eqb s.first 0xFFFFFFFFFFFFFFFF) code.NotApplicable (pick (eqb s.first 0xFFFFFFFFFFFFFFFE) code.NotAvailable (code.Is s.first))) code.Absent)
        ≡ pick b (number (pick (ltb s.first 0x8000000000000000) (pos s.first) (negsuc (0xFFFFFFFFFFFFFFFF - s.first)))) nothing
    go true e =
        word (eqb s.first 0xFFFFFFFFFFFFFFFF) refl (eqb s.first 0xFFFFFFFFFFFFFFFE) refl (rw (f, g, c) at (present_fits text s (eqb-true s.mark 1 e) h))
    go false e = refl

-- the codes of a track that is shown
unfoldable pub codes_shown : TrackView → Codes
codes_shown t = record { rate = meaning_of t.rate; lines = meaning_of t.lines; fields = meaning_of t.fields }

pub codes_told : (text ts : List ℕ) (n at : ℕ) → tracks_fault text (tracks_from n ts at) ≡ None → map codes_shown (track_views_given n text ts at) ≡ codes_given n ts at
unfolding tracks_from track_views_given codes_given codes_shown track_view_given is_text is_eight is_code has
codes_told text ts zero at h = refl
codes_told text ts (suc n) at h =
    let c = tracks_clean text (track_at ts at) (tracks_from n ts (at + 23)) h in
    rw (
      code_meant text (slot_at ts (at + 14) 0x50) (slot_of text ts 4 7 (at + 2) 0x4C 0x50 (at + 14) (omega arith) refl (omega arith) c.1) refl refl refl,
      code_meant text (slot_at ts (at + 17) 0x51) (slot_of text ts 5 7 (at + 2) 0x4C 0x51 (at + 17) (omega arith) refl (omega arith) c.1) refl refl refl,
      code_meant text (slot_at ts (at + 20) 0x52) (slot_of text ts 6 7 (at + 2) 0x4C 0x52 (at + 20) (omega arith) refl (omega arith) c.1) refl refl refl,
      codes_told text ts n (at + 23) c.2,
    )
