-- The layout's law: the decoder gives back what the encoder made, for entries whose numbers a record has room for.
use Prim.Native.Nat.{ℕ, zero, suc, ◌+◌, ◌-◌, ◌*◌, ◌^◌, ◌<◌}
use mathlib.Core.Path.{◌≡◌, refl, sym, ◌∙◌}
use mathlib.Core.Bool.{true}
use mathlib.Core.List.{List, [], ◌∷◌, ◌++◌, append_assoc, append-nil}
use native.Mathlib.Omega.{arith}
use native.Mathlib.Nat.{add-zero}
use lib.ListN.{length, get_or, length-append}
use lib.Seq.{get_or-append-add, drop-append_seam}
use borrow.Author.Tests.{lt-ltb, le-ltb}
use Rattle.number.specs.Number.{le, le_bytes}
use Rattle.number.proofs.Laws.{le-drop, le_back}
use Rattle.book.specs.Book.{record_bytes, book_bytes, record_at, holds, book_from, book_of, lookup_in, lookup_of}
use Rattle.book.specs.declared.Entry.{Entry}

-- a field number of 32 bits and an offset of 64
pub record Fit (e : Entry) : Type 0 where
  pub field : e.field < 256 ^ 4
  pub at : e.at < 256 ^ 8

unfoldable pub AllFit : List Entry → Type 0
AllFit [] = Unit
AllFit (e ∷ es) = Fit e × AllFit es

pub length_record : (e : Entry) → length (record_bytes e) ≡ 16
unfolding record_bytes le_bytes
length_record e = refl

pub length-bytes : (es : List Entry) → length (book_bytes es) ≡ 16 * length es
unfolding book_bytes
length-bytes [] = refl
length-bytes (e ∷ es) = length-append (record_bytes e) (book_bytes es) ∙ omega (arith, length_record e, length-bytes es)

le-after : (p s : List ℕ) (at n : ℕ) → le (p ++ s) (length p + at) n ≡ le s at n
le-after p s at n = sym (le-drop (length p) (p ++ s) at n) ∙ rw (drop-append_seam p s)

-- what stands behind other bytes
slot_after : (p s : List ℕ) → record_at (p ++ s) (length p) ≡ record_at s 0
unfolding record_at
slot_after p s =
    let a : length (p ++ s) - length p ≡ length s - 0 = omega (arith, length-append p s) in
    let b : get_or (p ++ s) (length p) 0 ≡ get_or s 0 0 = rw add-zero at (get_or-append-add p s 0 0) in
    rw (a, b, get_or-append-add p s 1 0, get_or-append-add p s 2 0, get_or-append-add p s 3 0, le-after p s 4 4, le-after p s 8 8)

slot_back : (e : Entry) (t : List ℕ) → Fit e → record_at (record_bytes e ++ t) 0 ≡ holds e
unfolding record_at record_bytes le_bytes
slot_back e t h =
    let a : le (record_bytes e ++ t) 4 4 ≡ e.field = le_back (0x47 ∷ 0x58 ∷ e.track ∷ e.media_type ∷ []) 4 e.field (le_bytes 8 e.at ++ t) h.field in
    let b : le (record_bytes e ++ t) 8 8 ≡ e.at = le_back (0x47 ∷ 0x58 ∷ e.track ∷ e.media_type ∷ le_bytes 4 e.field) 8 e.at t h.at in
    rw (le-ltb (length (record_bytes e ++ t) - 0) 16 (omega (arith, length-append (record_bytes e) t)), a, b)

back : (es : List Entry) (p : List ℕ) (f : ℕ) → AllFit es → length es < f → book_from (p ++ book_bytes es) f (length p) ≡ record { list = es; end = true }
unfolding book_bytes book_from AllFit
back es p zero h k = absurd (omega arith)
back [] p (suc f) h k = rw (append-nil, le-ltb (length p) (length p) (omega arith))
back (e ∷ es) p (suc f) h k =
    let a : length p < length (p ++ (record_bytes e ++ book_bytes es)) = omega (arith, length-append p (record_bytes e ++ book_bytes es), length-append (record_bytes e) (book_bytes es), length_record e) in
    let b : length (p ++ record_bytes e) ≡ length p + 16 = omega (arith, length-append p (record_bytes e), length_record e) in
    let i = rw (b, append_assoc) at (back es (p ++ record_bytes e) f h.1 (omega arith)) in
    rw (lt-ltb _ _ a, slot_after p (record_bytes e ++ book_bytes es), slot_back e (book_bytes es) h.0, i)

-- decoding what was encoded gives the entries
pub book_back : (es : List Entry) → AllFit es → book_of (book_bytes es) ≡ record { list = es; end = true }
unfolding book_of
book_back es h = back es [] (suc (length (book_bytes es))) h (omega (arith, length-bytes es))

-- lookup in encoded entries is lookup in the entries
pub lookup_back : (es : List Entry) (track field : ℕ) → AllFit es → lookup_of (book_bytes es) track field ≡ lookup_in (record { list = es; end = true }) track field
unfolding lookup_of
lookup_back es track field h = rw (book_back es h)
