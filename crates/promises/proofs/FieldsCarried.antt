-- Odd fields, from the theorems of field, map_answer, map, stream, book and book_builder.
use mathlib.Core.Path.{sym, subst, ◌∙◌}
use Rattle.std.specs.Prelude.{Result, ℕ}
use Rattle.field.proofs.Marks.{known_marks}
use Rattle.map_answer.proofs.Meaning.{one_alone}
use Rattle.map.proofs.Table.{table}
use Rattle.stream.specs.OddFields.{AnswersBy}
use Rattle.stream.proofs.OddFields.{odd_fields}
use Rattle.stream.proofs.Sought.{none_is_16}
use Rattle.book.proofs.Marked.{marked}
use Rattle.book_builder.proofs.OddFields.{book_marks}
use Rattle.paper_readings.proofs.Given.{check_is, seek_is}
use Rattle.paper_readings.proofs.OddFields.{odd_readings}
use Rattle.promises.specs.FieldsCarried.{FieldsCarried}
use Rattle.plate.specs.declared.Refusal.{Refusal}

pub fields_carried : FieldsCarried
fields_carried =
    record {
      codes = one_alone;
      marks = known_marks;
      table = table;
      carried = odd_fields;
      book = marked;
      built = book_marks;
      read_so = odd_readings;
      above = λ s n c m x l t e f k v a g.
          subst (λ (y : Result ℕ Refusal). AnswersBy y x.at) (sym (seek_is s _ _ a g)) (odd_fields.above s n (sym (check_is s _ c)) m x l t e f k v);
      still = λ s n c track field before x after e h a g.
          subst (λ (y : Result ℕ Refusal). AnswersBy y x.at) (sym (seek_is s track field a g)) (odd_fields.still s n (sym (check_is s _ c)) track field before x after e h);
      even_before = λ s track field e a g. seek_is s track field a g ∙ odd_fields.even_before s track field e;
      as_before = λ s n track field a g. seek_is s track field a g ∙ odd_fields.as_before s n track field;
      wide = λ s b n c track field h a g. seek_is s track field a g ∙ none_is_16 track field s n (sym (check_is s _ c)) (odd_fields.narrow s b track field h);
    }
