-- Seek and book, from the theorems of stream, book_builder and agreement.
use mathlib.Core.Path.{sym, ◌∙◌}
use Rattle.stream.proofs.Counted.{check_counts}
use Rattle.stream.proofs.Sought.{answer_carries, carrier_answers, none_is_16, refused_is_none, refused_alike}
use Rattle.book_builder.proofs.Laws.{build_refused, build_small}
use Rattle.book_builder.proofs.Same.{answered, book_of_lem, many_of, beyond_stays, lookup_is_seek}
use Rattle.agreement.proofs.Contract.{never_two}
use Rattle.paper_readings.proofs.Given.{check_is, seek_is, lookup_is}
use Rattle.paper_readings.proofs.Calls.{built_is}
use Rattle.promises.specs.SeekAndBook.{SeekAndBook}

pub seek_and_book : SeekAndBook
seek_and_book =
    record {
      counts = λ s n c. check_counts s n (sym (check_is s _ c));
      first = λ s track field o g. answer_carries track field s o (sym (seek_is s track field _ g));
      found = λ s n c track field o f x g. seek_is s track field x g ∙ carrier_answers track field s n (sym (check_is s _ c)) o f;
      none = λ s n c track field h x g. seek_is s track field x g ∙ none_is_16 track field s n (sym (check_is s _ c)) h;
      refused = λ s n c track field r g. refused_is_none track field s n (sym (check_is s _ c)) r (sym (seek_is s track field _ g));
      unchecked = λ s r c track field x g. seek_is s track field x g ∙ refused_alike track field s r (sym (check_is s _ c));
      book = λ s b small l n o built track field y found z sought.
          let e = built_is l s _ o built in
          rw e.1 at (lookup_is _ track field y found) ∙ lookup_is_seek s (λ i. record { fits = b i }) small l n (sym e.0) track field ∙ sym (seek_is s track field z sought);
      records = λ l s n o built. let e = built_is l s _ o built in (many_of l s n (sym e.0), rw e.1 (book_of_lem l s n (sym e.0)));
      built = λ s k c l h x o g. (built_is l s x o g).0 ∙ answered l s k (sym (check_is s _ c)) h;
      no_room = λ s k c l h x o g. (built_is l s x o g).0 ∙ sym (build_small l s k (sym (check_is s _ c)) h).0;
      unbuilt = λ s r c l x o g. (built_is l s x o g).0 ∙ sym (build_refused l s r (sym (check_is s _ c))).0;
      beyond = λ l s n o built. let e = built_is l s _ o built in rw e.1 (beyond_stays l s n (sym e.0));
      never_two = never_two;
      one = λ κs a x t p n o g. p.0 ∙ rw (← (built_is a.0.now a.1.0.now _ o g).0);
    }
