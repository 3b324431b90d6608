-- Demand 2, seek and book: seek names the first media packet that carries track and field, and refuses exactly when none does; the seek book gives the same answer.
-- Which fields a packet carries is said in words in FieldsCarried.antt (02, §2). Proved in proofs/SeekAndBook.antt. That streams are accepted, fields found and books written is computed on a stream in paper_readings (`computed`), with what that shuts out (proofs/Given.antt).
use Rattle.std.specs.Prelude.{ℕ, ◌*◌, ◌^◌, ◌<◌, ◌≤◌, ◌≡◌, List, length, get_or, take, drop, Result, Ok, Err}
use contract.Lifetimes.{Lfts}
use borrow.Fn.Kinds.{ended_of, res_t, Dens}
use denote.Triple.Clauses.{AtExit}
use Rattle.plate.specs.Plate.{refusal}
use Rattle.plate.specs.declared.Refusal.{Refusal}
use Rattle.stream.specs.Stream.{packets}
use Rattle.stream.specs.Sought.{NoneCarries, First}
use Rattle.book.specs.Book.{book_bytes}
use Rattle.book_builder.specs.BookBuilder.{entries_in}
use Rattle.agreement.specs.declared.Agreement.TheVariants.{One, Two}
use Rattle.plate.specs.declared.Fault.TheVariants as fault
use Rattle.agreement.proofs.compare.Kinds as compare-kinds
use Rattle.agreement.proofs.compare.Reads as compare-reads
use Rattle.paper_readings.specs.Calls.{Checks, Seeks, Looks, BuildsInto}

pub record SeekAndBook : Type 0 where
  -- an accepted check's number is the number of the stream's packets
  pub counts : (s : List ℕ) (n : ℕ) → Checks s (Ok n) → length (packets s).list ≡ n
  -- an offset that seek gives is that of a packet which carries the field, and none before it does
  pub first : (s : List ℕ) (track field o : ℕ) → Seeks s track field (Ok o) → First track field o (packets s).list
  -- and of an accepted stream seek gives the first that there is, however far it lies
  pub found : (s : List ℕ) (n : ℕ) → Checks s (Ok n) → (track field o : ℕ) → First track field o (packets s).list → (x : Result ℕ Refusal) → Seeks s track field x → x ≡ Ok o
  -- it refuses exactly when none carries the field, with 16; of a stream that the check refuses, with the check's own refusal
  pub none : (s : List ℕ) (n : ℕ) → Checks s (Ok n) → (track field : ℕ) → NoneCarries track field (packets s).list → (x : Result ℕ Refusal) → Seeks s track field x → x ≡ Err (refusal fault.NotThere 0)
  pub refused : (s : List ℕ) (n : ℕ) → Checks s (Ok n) → (track field : ℕ) (r : Refusal) → Seeks s track field (Err r) → NoneCarries track field (packets s).list
  pub unchecked : (s : List ℕ) (r : Refusal) → Checks s (Err r) → (track field : ℕ) (x : Result ℕ Refusal) → Seeks s track field x → x ≡ Err r
  -- a book of n records that was built from lent bytes, each under 256 and fewer than 2^64, as every slice has them: look-up in it gives what seek gives in the stream, for every track and field; the bytes beyond it stay
  pub book : (s : List ℕ) → ((i : ℕ) → get_or s i 0 < 256) → length s < 2 ^ 64 → (l : List ℕ) (n : ℕ) (o : List ℕ) → BuildsInto l s (Ok n) o
      → (track field : ℕ) (y : Result ℕ Refusal) → Looks (take (16 * n) o) track field y → (z : Result ℕ Refusal) → Seeks s track field z → y ≡ z
  -- the builder's number is that of the stream's media packets of known type, and the book has one record for each, in order; 13 exactly where there is no room for them; else the check's own refusal
  pub records : (l s : List ℕ) (n : ℕ) (o : List ℕ) → BuildsInto l s (Ok n) o → (n ≡ length (entries_in s)) × (take (16 * n) o ≡ book_bytes (entries_in s))
  pub built : (s : List ℕ) (k : ℕ) → Checks s (Ok k) → (l : List ℕ) → 16 * length (entries_in s) ≤ length l → (x : Result ℕ Refusal) (o : List ℕ) → BuildsInto l s x o → x ≡ Ok (length (entries_in s))
  pub no_room : (s : List ℕ) (k : ℕ) → Checks s (Ok k) → (l : List ℕ) → length l < 16 * length (entries_in s) → (x : Result ℕ Refusal) (o : List ℕ) → BuildsInto l s x o → x ≡ Err (refusal fault.Room 0)
  pub unbuilt : (s : List ℕ) (r : Refusal) → Checks s (Err r) → (l : List ℕ) (x : Result ℕ Refusal) (o : List ℕ) → BuildsInto l s x o → x ≡ Err r
  pub beyond : (l s : List ℕ) (n : ℕ) (o : List ℕ) → BuildsInto l s (Ok n) o → drop (16 * n) o ≡ drop (16 * n) l
  -- and a program that builds, looks up and seeks never meets two answers, whatever it is lent; it meets one wherever the builder gives a number
  pub never_two : (κs : Lfts 2) (a : Dens κs compare-kinds.ps) (x : (res_t compare-kinds.r κs).Denot) (t : AtExit (ended_of 2 compare-kinds.ps compare-kinds.r) κs) → compare-reads.Post κs a x t → x ≡ Ok Two → ⊥
  pub one : (κs : Lfts 2) (a : Dens κs compare-kinds.ps) (x : (res_t compare-kinds.r κs).Denot) (t : AtExit (ended_of 2 compare-kinds.ps compare-kinds.r) κs) → compare-reads.Post κs a x t
      → (n : ℕ) (o : List ℕ) → BuildsInto a.0.now a.1.0.now (Ok n) o → x ≡ Ok One
