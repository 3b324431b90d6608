-- What the codes of a track mean, given and read (RDD 14, Table 6: INT32): a given word is a signed number of 64 bits.
use Rattle.std.specs.Prelude.{ℕ, zero, suc, ◌+◌, ◌-◌, List, [], ◌∷◌, ltb, eqb, ℤ, pos, negsuc}
use Rattle.plate.specs.Choice.{pick}
use Rattle.map_answer.specs.Answer.{Meaning, nothing, number, meaning_of}
use Rattle.map_answer.specs.declared.Track.{Track}
use Rattle.map_given.specs.declared.Slot.{Slot}
use Rattle.map_given.specs.Given.{slot_at}

-- two's complement: `negsuc n` is −(n + 1)
unfoldable pub signed_word : ℕ → ℤ
signed_word w = pick (ltb w 0x8000000000000000) (pos w) (negsuc (0xFFFFFFFFFFFFFFFF - w))

-- a present slot's number; an absent one is none
unfoldable pub meant : Slot → Meaning
meant s = pick (eqb s.mark 1) (number (signed_word s.first)) nothing

pub record Codes : Type 0 where
  pub rate : Meaning
  pub lines : Meaning
  pub fields : Meaning

-- of n given tracks, from a word on: the slots of 50, 51 and 52
unfoldable pub codes_given : ℕ → List ℕ → ℕ → List Codes
codes_given zero ts at = []
codes_given (suc n) ts at =
    record { rate = meant (slot_at ts (at + 14) 0x50); lines = meant (slot_at ts (at + 17) 0x51); fields = meant (slot_at ts (at + 20) 0x52) } ∷ codes_given n ts (at + 23)

-- of a record that a reader gave
unfoldable pub codes_read : Track → Codes
codes_read t = record { rate = meaning_of t.rate; lines = meaning_of t.lines; fields = meaning_of t.fields }
