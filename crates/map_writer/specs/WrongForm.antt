-- The map writer's 29 (02, §12): where it stands in the order, and that writer and reader agree on it. Proved in proofs/WrongForm.antt.
use Rattle.std.specs.Prelude.{ℕ, ◌≡◌, true, false, List, Some, None, Ok, Err}
use Rattle.plate.specs.Plate.{number}
use Rattle.plate.specs.declared.Refusal.{Refusal}
use Rattle.plate.specs.declared.Fault.{Fault}
use Rattle.plate.specs.declared.Fault.TheVariants as fault
use Rattle.map_items.specs.Judge.{bad}
use Rattle.map.specs.Map.{map_verdict}
use Rattle.packet_writer.specs.Write.{refused}
use Rattle.map_given.specs.Given.{tracks_given}
use Rattle.map_given.specs.Faults.{fault_of, any_wrong}
use Rattle.map_writer.specs.Write.{map_packet, map_written_answer}

pub record WriterForm : Type 0 where
  -- 24, 11 or 10 goes first, whatever form is given; then 29, whatever room there is
  pub after : (out : List ℕ) (at : ℕ) (text ms ts : List ℕ) (f : Fault) → fault_of text ms ts ≡ Some f → map_written_answer out at text ms ts ≡ refused f
  pub given : (out : List ℕ) (at : ℕ) (text ms ts : List ℕ) → fault_of text ms ts ≡ None → any_wrong (tracks_given ts) ≡ true → map_written_answer out at text ms ts ≡ refused fault.WrongForm
  -- and 29 is given only so
  pub only : (out : List ℕ) (at : ℕ) (text ms ts : List ℕ) (r : Refusal) → map_written_answer out at text ms ts ≡ Err r → number r ≡ 29 → (fault_of text ms ts ≡ None) × (any_wrong (tracks_given ts) ≡ true)
  -- of an input without another fault: where the writer gives 29 the reader would refuse the packet with 29, and where it does not the reader would accept it
  pub refused_there : (text ms ts : List ℕ) → fault_of text ms ts ≡ None → any_wrong (tracks_given ts) ≡ true → (q : ℕ) × (map_verdict (map_packet text ms ts) ≡ bad fault.WrongForm q)
  pub accepted_there : (text ms ts : List ℕ) → fault_of text ms ts ≡ None → any_wrong (tracks_given ts) ≡ false → map_verdict (map_packet text ms ts) ≡ (Ok tt)
