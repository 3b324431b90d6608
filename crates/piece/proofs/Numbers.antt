-- Which numbers the refusal of a stream's packet can have: 1 to 5 of its header, 17, and 7 to 12, 14, 15 or 29 of its content; bytes lack with 5, the header's, alone.
use Prim.Native.Nat.{ℕ, ◌≤◌}
use mathlib.Core.Path.{◌≡◌, refl, sym, ◌∙◌, ap, subst}
use mathlib.Core.Bool.{Bool, true, false}
use mathlib.Core.List.{List}
use mathlib.Core.Logic.{◌⊎◌, inl, inr}
use native.Mathlib.Omega.{arith}
use lib.ListN.{length, take, drop}
use lib.Dec.{eqb}
use borrow.Author.Tests.{eqb-true}
use Rattle.std.specs.Prelude.{Result, Ok, Err, ⊤}
use Rattle.plate.specs.declared.Refusal.{Refusal}
use Rattle.plate.proofs.Numbers.{either, Among, wider, other}
use Rattle.plate.specs.Choice.{pick}
use Rattle.plate.specs.Plate.{refusal, number}
use Rattle.packet.specs.Packet.{type_map, type_flt, type_media, header_at}
use Rattle.packet.specs.declared.Packet.{Packet}
use Rattle.locator.specs.declared.Locator.{Locator}
use Rattle.media.specs.declared.Media.{Media}
use Rattle.piece.specs.declared.Piece.{Piece}
use Rattle.plate.specs.declared.Fault.TheVariants as fault
use Rattle.packet.proofs.Numbers.{OfHeader, header_numbers}
use Rattle.map.specs.Map.{map_verdict}
use Rattle.map.proofs.Numbers.{verdict_own}
use Rattle.locator.specs.Locator.{table_of}
use Rattle.locator.proofs.Numbers.{TableFault, OfTable, table_numbers}
use Rattle.media.specs.Media.{preamble_of}
use Rattle.media.proofs.Numbers.{OfMedia, preamble_numbers}
use Rattle.piece.specs.Piece.{moved, plain_piece, of_map, of_locator, of_media, content_of, opens, after_header, piece_at}

-- a content fault, or 17
abbrev pub WholeFault : Refusal → Type 0
WholeFault r = Among 7 12 r ⊎ (Among 14 15 r ⊎ (Among 17 17 r ⊎ Among 29 29 r))

abbrev pub PieceFault : Refusal → Type 0
PieceFault r = Among 1 5 r ⊎ WholeFault r

-- in one range
pub in_whole : (r : Refusal) → WholeFault r → Among 7 29 r
in_whole r (inl h) = wider 7 29 r (omega arith) (omega arith) h
in_whole r (inr (inl h)) = wider 7 29 r (omega arith) (omega arith) h
in_whole r (inr (inr (inl h))) = wider 7 29 r (omega arith) (omega arith) h
in_whole r (inr (inr (inr h))) = wider 7 29 r (omega arith) (omega arith) h

abbrev OfWhole : Result Piece Refusal → Type 0
OfWhole (Ok x) = Unit {0}
OfWhole (Err r) = WholeFault r

abbrev pub OfPiece : Result Piece Refusal → Type 0
OfPiece (Ok x) = Unit {0}
OfPiece (Err r) = PieceFault r

content_numbers : (p : List ℕ) (at packet_type : ℕ) → OfWhole (content_of p at packet_type)
unfolding content_of
content_numbers p at packet_type =
    either OfWhole (eqb packet_type 0xBF) (of_media_lem (preamble_of p 0) (preamble_numbers p 0))
    (either OfWhole (eqb packet_type 0xBC) (of_map_lem (map_verdict p) refl) (either OfWhole (eqb packet_type 0xFC) (of_locator_lem (table_of p) (table_numbers p)) tt))
  where
    of_media_lem : (a : Result Media Refusal) → OfMedia a → OfWhole (of_media at (length p) a)
    of_media_lem (Ok m) h = tt
    of_media_lem (Err r) h = inl (wider 7 12 (moved at r) (omega arith) (omega arith) h)

    in_map : (r : Refusal) → Among 7 12 r ⊎ Among 29 29 r → WholeFault (moved at r)
    in_map r (inl h) = inl h
    in_map r (inr h) = inr (inr (inr h))

    of_map_lem : (v : Result ⊤ Refusal) → map_verdict p ≡ v → OfWhole (of_map at (length p) v)
    of_map_lem (Ok _) h = tt
    of_map_lem (Err r) h = in_map r (verdict_own p r h)

    in_table : (r : Refusal) → TableFault r → WholeFault (moved at r)
    in_table r (inl h) = inl (wider 7 12 (moved at r) (omega arith) (omega arith) h)
    in_table r (inr h) = inr (inl h)

    of_locator_lem : (a : Result Locator Refusal) → OfTable a → OfWhole (of_locator at (length p) a)
    of_locator_lem (Ok t) h = tt
    of_locator_lem (Err r) h = in_table r h

-- of a packet whose header is whole: 17, or a content fault
whole_numbers : (s : List ℕ) (at : ℕ) (first : Bool) (w : Packet) → OfWhole (after_header s at first (Ok w))
whole_numbers s at first w =
    either OfWhole (opens first w.packet_type) (content_numbers (take w.len (drop at s)) at w.packet_type) (inr (inr (inl (omega arith, omega arith, λ n. refl))))

pub piece_numbers : (s : List ℕ) (at : ℕ) (first : Bool) → OfPiece (piece_at s at first)
unfolding piece_at
piece_numbers s at first = go (header_at s at) (header_numbers s at)
  where
    of_whole : (a : Result Piece Refusal) → OfWhole a → OfPiece a
    of_whole (Ok x) h = tt
    of_whole (Err r) h = inr h

    go : (a : Result Packet Refusal) → OfHeader 5 a → OfPiece (after_header s at first a)
    go (Err r) h = inl h
    go (Ok w) h = of_whole (after_header s at first (Ok w)) (whole_numbers s at first w)

-- a torn packet is what its header says
pub torn_piece : (s : List ℕ) (at : ℕ) (first : Bool) (r : Refusal) → piece_at s at first ≡ Err r → number r ≡ 5 → header_at s at ≡ Err r
unfolding piece_at
torn_piece s at first r = go (header_at s at) refl
  where
    go : (a : Result Packet Refusal) → header_at s at ≡ a → after_header s at first a ≡ Err r → number r ≡ 5 → header_at s at ≡ Err r
    go (Err q) h e five = h ∙ ap Err cc
    go (Ok w) h e five = other r (in_whole r (subst OfWhole e (whole_numbers s at first w))) (omega arith) five

-- 29 is a map's: the packet's header is whole, and its content is refused so at the place less the offset
pub record OfWrongForm (s : List ℕ) (at : ℕ) (r : Refusal) : Type 0 where
  pub len : ℕ
  pub header : header_at s at ≡ Ok (record { packet_type = type_map; len = len })
  pub own : Refusal
  pub verdict : map_verdict (take len (drop at s)) ≡ Err own
  pub place : r ≡ moved at own

pub wrong_form_piece : (s : List ℕ) (at : ℕ) (first : Bool) (r : Refusal) → piece_at s at first ≡ Err r → number r ≡ 29 → OfWrongForm s at r
unfolding piece_at content_of
wrong_form_piece s at first r = go (header_at s at) refl
  where
    no : {X : Type 0} {hi : ℕ} (q : Refusal) → hi ≤ 17 → Among 1 hi q → q ≡ r → number r ≡ 29 → X
    no q l h e n = absurd (let k : number q ≡ 29 = ap (λ (x : Refusal). (number x)) e ∙ n in omega (arith, h.1))

    of_map_lem : (w : Packet) → header_at s at ≡ Ok w → w.packet_type ≡ type_map → (v : Result ⊤ Refusal) → map_verdict (take w.len (drop at s)) ≡ v
        → of_map at (length (take w.len (drop at s))) v ≡ Err r → OfWrongForm s at r
    of_map_lem w h t (Ok _) f e = absurd (let z : ◌≡◌ {A = ℕ} 0 1 = cc in omega arith)
    of_map_lem w h t (Err q) f e =
        let z : moved at q ≡ r = cc in
        record { len = w.len; header = h ∙ ap (λ (k : ℕ). Ok (record { packet_type = k; len = w.len })) t; own = q; verdict = f; place = sym z }

    of_media_lem : (w : Packet) (a : Result Media Refusal) → OfMedia a → of_media at (length (take w.len (drop at s))) a ≡ Err r → number r ≡ 29 → OfWrongForm s at r
    of_media_lem w (Ok m) h e n = absurd (let z : ◌≡◌ {A = ℕ} 0 1 = cc in omega arith)
    of_media_lem w (Err q) h e n = let z : moved at q ≡ r = cc in no (moved at q) (omega arith) (wider 1 17 (moved at q) (omega arith) (omega arith) h) z n

    of_locator_lem : (w : Packet) (a : Result Locator Refusal) → OfTable a → of_locator at (length (take w.len (drop at s))) a ≡ Err r → number r ≡ 29 → OfWrongForm s at r
    of_locator_lem w (Ok t) h e n = absurd (let z : ◌≡◌ {A = ℕ} 0 1 = cc in omega arith)
    of_locator_lem w (Err q) (inl h) e n = let z : moved at q ≡ r = cc in no (moved at q) (omega arith) (wider 1 17 (moved at q) (omega arith) (omega arith) h) z n
    of_locator_lem w (Err q) (inr h) e n = let z : moved at q ≡ r = cc in no (moved at q) (omega arith) (wider 1 17 (moved at q) (omega arith) (omega arith) h) z n

    content : (w : Packet) → header_at s at ≡ Ok w → (a : Bool) → eqb w.packet_type type_media ≡ a → (b : Bool) → eqb w.packet_type type_map ≡ b → (c : Bool)
        → pick a (of_media at (length (take w.len (drop at s))) (preamble_of (take w.len (drop at s)) 0))
        (pick b (of_map at (length (take w.len (drop at s))) (map_verdict (take w.len (drop at s))))
        (pick c (of_locator at (length (take w.len (drop at s))) (table_of (take w.len (drop at s)))) (plain_piece w.packet_type (length (take w.len (drop at s)))))) ≡ Err r
        → number r ≡ 29 → OfWrongForm s at r
    content w h true k b l c e n = of_media_lem w (preamble_of (take w.len (drop at s)) 0) (preamble_numbers (take w.len (drop at s)) 0) e n
    content w h false k true l c e n = of_map_lem w h (eqb-true _ _ l) (map_verdict (take w.len (drop at s))) refl e
    content w h false k false l true e n = of_locator_lem w (table_of (take w.len (drop at s))) (table_numbers (take w.len (drop at s))) e n
    content w h false k false l false e n = absurd (let z : ◌≡◌ {A = ℕ} 0 1 = cc in omega arith)

    open_it : (w : Packet) → header_at s at ≡ Ok w → (b : Bool) → pick b (content_of (take w.len (drop at s)) at w.packet_type) (Err (refusal fault.NoMapFirst at)) ≡ Err r → number r ≡ 29 → OfWrongForm s at r
    open_it w h true e n = content w h (eqb w.packet_type type_media) refl (eqb w.packet_type type_map) refl (eqb w.packet_type type_flt) e n
    open_it w h false e n = let z : refusal fault.NoMapFirst at ≡ r = cc in absurd (let k : ◌≡◌ {A = ℕ} 17 29 = ap (λ (x : Refusal). (number x)) z ∙ n in omega arith)

    go : (a : Result Packet Refusal) → header_at s at ≡ a → after_header s at first a ≡ Err r → number r ≡ 29 → OfWrongForm s at r
    go (Err q) h e n = let z : q ≡ r = cc in no q (omega arith) (subst (OfHeader 5) h (header_numbers s at)) z n
    go (Ok w) h e n = open_it w h (opens first w.packet_type) e n
