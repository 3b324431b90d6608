-- The judge of a section (RDD 14, Tables 4 and 6; 01, "Map"): the first fault in walk order, at an item 8, 9, 11, 10.
use Rattle.std.specs.Prelude.{ℕ, ◌+◌, Bool, true, false, List, [], ◌∷◌, length, eqb, Option, Some, None, Result, Ok, Err, ⊤}
use Rattle.plate.specs.Choice.{pick, within}
use Rattle.plate.specs.Plate.{refusal}
use Rattle.text.specs.Text.{text_ok}
use Rattle.map_items.specs.Items.{Item, Parts, section_of, items_size}
use Rattle.map_items.specs.declared.Section.{Section}
use Rattle.map_items.specs.declared.Section.TheVariants.{Material, Track}
use Rattle.map_items.specs.declared.Form.{Form}
use Rattle.map_items.specs.declared.Form.TheVariants.{Text, Sized, Unknown}
use Rattle.plate.specs.declared.Refusal.{Refusal}
use Rattle.plate.specs.declared.Fault.{Fault}
use Rattle.plate.specs.declared.Fault.TheVariants as fault

abbrev pub bad : Fault → ℕ → Result ⊤ Refusal
bad f p = Err (refusal f p)

-- the first fault of two parts of a walk
abbrev pub and_then : Result ⊤ Refusal → Result ⊤ Refusal → Result ⊤ Refusal
and_then (Ok _) v = v
and_then (Err r) v = Err r

-- Table 4: 40 a string, 41 to 45 four bytes. Table 6: 4C and 4F strings, 4D eight bytes, 4E and 50 to 52 four. Other tags are unknown there
unfoldable pub form_of : Section → ℕ → Form
form_of Material t = pick (eqb t 0x40) Text (pick (within 0x41 0x45 t) (Sized 4) Unknown)
form_of Track t =
    pick (eqb t 0x4C) Text
    (pick (eqb t 0x4D) (Sized 8)
    (pick (eqb t 0x4E) (Sized 4)
    (pick (eqb t 0x4F) Text
    (pick (within 0x50 0x52 t) (Sized 4) Unknown))))

unfoldable pub is_known : Form → Bool
is_known Text = true
is_known (Sized n) = true
is_known Unknown = false

-- an item's fault by itself, if it has one: 9 for a size, 11 for bad text
unfoldable pub fault_of : Form → List ℕ → Option Fault
fault_of Text v = pick (text_ok v) None (Some fault.Text)
fault_of (Sized n) v = pick (eqb (length v) n) None (Some fault.ItemSize)
fault_of Unknown v = None

-- a fault at place p, or what else there is
abbrev pub or_bad : Option Fault → ℕ → Result ⊤ Refusal → Result ⊤ Refusal
or_bad (Some f) p v = bad f p
or_bad None p v = v

-- the tag that counts for 10: 4D and 4F may not stand in one track, so 4F counts as 4D
unfoldable pub counts_as : ℕ → ℕ
counts_as t = pick (eqb t 0x4F) 0x4D t

unfoldable pub has : ℕ → List ℕ → Bool
has n [] = false
has n (m ∷ ms) = pick (eqb n m) true (has n ms)

-- an item at place p, after known items that count as the tags seen; next says what follows, with the tags seen then
abbrev pub on_item : Section → List ℕ → ℕ → Item → (List ℕ → Result ⊤ Refusal) → Result ⊤ Refusal
on_item section seen p i next =
    or_bad (fault_of (form_of section i.tag) i.value) p
    (pick (is_known (form_of section i.tag))
    (pick (has (counts_as i.tag) seen) (bad fault.Twice p) (next (counts_as i.tag ∷ seen)))
    (next seen))

-- the first fault of items from place p on
unfoldable pub judge_items : Section → List ℕ → ℕ → List Item → Result ⊤ Refusal
judge_items section seen p [] = Ok tt
judge_items section seen p (i ∷ is) = on_item section seen p i (λ now-seen. judge_items section now-seen (p + 2 + length i.value) is)

-- 8 at the item that passes the section, if one does
abbrev pub ending : ℕ → Parts → Result ⊤ Refusal
ending p s = pick s.end (Ok tt) (bad fault.Overhang (p + items_size s.list))

abbrev pub judge_parts : Section → List ℕ → ℕ → Parts → Result ⊤ Refusal
judge_parts section seen p s = and_then (judge_items section seen p s.list) (ending p s)

-- a section's bytes from place p on
unfoldable pub verdict_of : Section → List ℕ → ℕ → Result ⊤ Refusal
verdict_of section s p = judge_parts section [] p (section_of s)
