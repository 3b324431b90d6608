-- The same of the functions themselves, by their contracts: after `build`, any answer of `lookup` in the book and any answer of `seek` in the stream agree.
use Prim.Native.Nat.{ℕ, ◌*◌}
use mathlib.Core.Path.{◌≡◌, sym, ◌∙◌}
use mathlib.Core.List.{List}
use lib.ListN.{length, take}
use contract.Lifetimes.{Lfts}
use borrow.Fn.Kinds.{ended_of, res_t, Dens}
use borrow.Rule.Slice.Know.{Fit}
use borrow.Table.Referent.{rt_f, f_int}
use denote.Ref.{Bor}
use denote.Slice.{Room}
use denote.Triple.Clauses.{AtExit}
use mir.Syntax.{w8}
use Rattle.std.specs.Prelude.{Ok}
use Rattle.stream.specs.Stream.{seek_of}
use Rattle.book.specs.Book.{lookup_of}
use Rattle.stream.proofs.seek.Kinds as seek-kinds
use Rattle.stream.proofs.seek.Reads as seek-reads
use Rattle.book.proofs.lookup.Kinds as lookup-kinds
use Rattle.book.proofs.lookup.Reads as lookup-reads
use Rattle.book_builder.specs.BookBuilder.{built_in}
use Rattle.book_builder.proofs.build.Kinds as build-kinds
use Rattle.book_builder.proofs.build.Reads as build-reads
use Rattle.book_builder.proofs.Same.{lookup_is_seek}

-- what whoever lends a slice of bytes knows of it: by owning it, that it has room (the `Good` of its kind); by the checker's rule for what is read (`shared-slice-known`), that it holds bytes.
-- A denotation alone is any list, and does not tell; of other lists it would not hold (`bytes_needed` in paper_readings)
pub record Lent (x : Bor (List ℕ)) : Type 0 where
  pub room : Room (rt_f (f_int w8)) (length x.now)
  pub known : Fit (f_int w8) 0 x.now

-- a build of n records from a stream; a lookup in the first 16 n bytes of its buffer; a seek in the stream, of the same track and field
pub agree : (κs : Lfts 2) (a : Dens κs build-kinds.ps) (x : (res_t build-kinds.r κs).Denot) (t : AtExit (ended_of 2 build-kinds.ps build-kinds.r) κs) → build-reads.Post κs a x t
    → (n : ℕ) → x ≡ Ok n → Lent a.1.0
    → (ιs : Lfts 1) (b : Dens ιs lookup-kinds.ps) (y : (res_t lookup-kinds.r ιs).Denot) (u : AtExit (ended_of 1 lookup-kinds.ps lookup-kinds.r) ιs) → lookup-reads.Post ιs b y u
    → (νs : Lfts 1) (d : Dens νs seek-kinds.ps) (z : (res_t seek-kinds.r νs).Denot) (v : AtExit (ended_of 1 seek-kinds.ps seek-kinds.r) νs) → seek-reads.Post νs d z v
    → b.0.now ≡ take (16 * n) t.0.now → d.0.now ≡ a.1.0.now → d.1.0 ≡ b.1.0 → d.1.1.0 ≡ b.1.1.0
    → y ≡ z
agree κs a x t p n e lent ιs b y u q νs d z v o in-book in-stream track field =
    let f : y ≡ lookup_of (take (16 * n) (built_in a.0.now a.1.0.now)) b.1.0 b.1.1.0 = q ∙ rw (in-book, p.1) in
    let g : z ≡ seek_of a.1.0.now b.1.0 b.1.1.0 = o ∙ rw (in-stream, track, field) in
    f ∙ lookup_is_seek a.1.0.now lent.known lent.room.0 a.0.now n (sym p.0 ∙ e) b.1.0 b.1.1.0 ∙ sym g
