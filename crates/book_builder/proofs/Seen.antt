-- A packet that `piece_at` finds whole is what its bytes say.
use Prim.Native.Nat.{ℕ, ◌+◌, ◌-◌, ◌≤◌}
use mathlib.Core.Path.{◌≡◌, refl, sym, ◌∙◌}
use mathlib.Core.Bool.{Bool, true, false}
use mathlib.Core.List.{List}
use native.Mathlib.Omega.{arith}
use lib.ListN.{length, get_or, take, drop}
use lib.Seq.{get_or-take, get_or-drop}
use lib.Dec.{ltb, eqb}
use borrow.Author.Tests.{ltb-false, eqb-true, eqb-false}
use Rattle.std.specs.Prelude.{Result, Ok, Err, ⊤}
use Rattle.plate.specs.Choice.{pick}
use Rattle.plate.specs.Plate.{refusal}
use Rattle.number.specs.Number.{be}
use Rattle.number.proofs.Laws.{be-take, be-drop}
use Rattle.packet.specs.Packet.{header_at}
use Rattle.packet.proofs.Laws.{whole}
use Rattle.packet.specs.declared.Packet.{Packet}
use Rattle.map.specs.Map.{map_verdict}
use Rattle.locator.specs.Locator.{table_of}
use Rattle.media.specs.Media.{preamble_of, fields_of}
use Rattle.media.specs.declared.Media.{Media}
use Rattle.piece.specs.Piece.{plain_piece, of_map, of_locator, of_media, content_of, opens, after_header, piece_at}
use Rattle.piece.specs.declared.Piece.{Piece}
use Rattle.locator.specs.declared.Locator.{Locator}
use Rattle.plate.specs.declared.Refusal.{Refusal}
use Rattle.plate.specs.declared.Fault.TheVariants as fault
use Rattle.piece.proofs.Laws.{cut}
use Rattle.piece.specs.Seen.{Seeable, seen_at}

media_seen : (p : List ℕ) (m : Media) → preamble_of p 0 ≡ Ok m → (fields_of p ≡ m) × (32 ≤ length p)
unfolding preamble_of
media_seen p m = go (ltb (length p - 16) 16) (ltb 63 (get_or p 17 0)) refl
  where
    go : (a b : Bool) → ltb (length p - 16) 16 ≡ a → pick a (Err (refusal fault.Overhang 16)) (pick b (Err (refusal fault.TypeOrId 0)) (Ok (fields_of p))) ≡ Ok m
        → (fields_of p ≡ m) × (32 ≤ length p)
    go true b q e = absurd (let z : ◌≡◌ {A = ℕ} 0 1 = cc in omega arith)
    go false true q e = absurd (let z : ◌≡◌ {A = ℕ} 0 1 = cc in omega arith)
    go false false q e = let h = ltb-false (length p - 16) 16 q in (cc, omega arith)

-- a media packet, and any other, of the bytes of a packet
abbrev media_piece : List ℕ → Piece
media_piece p = record { packet_type = 0xBF; len = length p; media_type = get_or p 16 0; track = get_or p 17 0; field = be p 18 4 }

abbrev other_piece : ℕ → List ℕ → Piece
other_piece packet_type p = record { packet_type = packet_type; len = length p; media_type = 0; track = 0; field = 0 }

-- what a packet's content tells: of a media packet its preamble is there
record Content (p : List ℕ) (packet_type : ℕ) (x : Piece) : Type 0 where
  of_media_lem : packet_type ≡ 0xBF → (x ≡ media_piece p) × (32 ≤ length p)
  of_other : (packet_type ≡ 0xBF → ⊥) → x ≡ other_piece packet_type p

content_seen : (p : List ℕ) (at packet_type : ℕ) (x : Piece) → content_of p at packet_type ≡ Ok x → Content p packet_type x
unfolding content_of
content_seen p at packet_type x = go (eqb packet_type 0xBF) (eqb packet_type 0xBC) (eqb packet_type 0xFC) refl refl refl
  where
    plain : (r : ℕ) → packet_type ≡ r → eqb packet_type 0xBF ≡ false → plain_piece r (length p) ≡ Ok x → Content p packet_type x
    plain r q n e =
        let a : other_piece r p ≡ x = cc in
        record { of_media_lem = λ z. absurd (eqb-false packet_type 0xBF n z); of_other = λ z. sym a ∙ rw q refl }

    of_map_lem : (v : Result ⊤ Refusal) → packet_type ≡ 0xBC → eqb packet_type 0xBF ≡ false → of_map at (length p) v ≡ Ok x → Content p packet_type x
    of_map_lem (Ok _) q n e = plain 0xBC q n e
    of_map_lem (Err r) q n e = absurd (let z : ◌≡◌ {A = ℕ} 0 1 = cc in omega arith)

    of_locator_lem : (v : Result Locator Refusal) → packet_type ≡ 0xFC → eqb packet_type 0xBF ≡ false → of_locator at (length p) v ≡ Ok x → Content p packet_type x
    of_locator_lem (Ok t) q n e = plain 0xFC q n e
    of_locator_lem (Err r) q n e = absurd (let z : ◌≡◌ {A = ℕ} 0 1 = cc in omega arith)

    of_media_lem : (v : Result Media Refusal) → preamble_of p 0 ≡ v → packet_type ≡ 0xBF → of_media at (length p) v ≡ Ok x → Content p packet_type x
    of_media_lem (Ok m) q k e =
        let w = media_seen p m q in
        let a : record { packet_type = 0xBF; len = length p; media_type = m.media_type; track = m.track; field = m.field } ≡ x = cc in
        record { of_media_lem = λ z. (sym a ∙ rw (← w.0) refl, w.1); of_other = λ z. absurd (z k) }
    of_media_lem (Err r) q k e = absurd (let z : ◌≡◌ {A = ℕ} 0 1 = cc in omega arith)

    go : (a b d : Bool) → eqb packet_type 0xBF ≡ a → eqb packet_type 0xBC ≡ b → eqb packet_type 0xFC ≡ d
        → pick a (of_media at (length p) (preamble_of p 0)) (pick b (of_map at (length p) (map_verdict p)) (pick d (of_locator at (length p) (table_of p)) (plain_piece packet_type (length p)))) ≡ Ok x
        → Content p packet_type x
    go true b d h i j e = of_media_lem (preamble_of p 0) refl (eqb-true packet_type 0xBF h) e
    go false true d h i j e = of_map_lem (map_verdict p) (eqb-true packet_type 0xBC i) h e
    go false false true h i j e = of_locator_lem (table_of p) (eqb-true packet_type 0xFC j) h e
    go false false false h i j e = plain packet_type refl h e

-- the packet, and that it can be seen
pub record Seen (s : List ℕ) (at : ℕ) (x : Piece) : Type 0 where
  pub is : x ≡ seen_at s at
  pub can : Seeable s at

module _ (s : List ℕ) (at : ℕ) (w : Packet) (q : header_at s at ≡ Ok w) (x : Piece) (t : Content (take w.len (drop at s)) w.packet_type x) where
  abbrev p : List ℕ
  p = take w.len (drop at s)

  by_bytes : Seen s at x
  unfolding seen_at
  by_bytes = go (eqb w.packet_type 0xBF) refl
    where
      go : (b : Bool) → eqb w.packet_type 0xBF ≡ b → Seen s at x
      go true r =
          let g = whole s at w q in
          let k = cut s at w q in
          let m = t.of_media_lem (eqb-true w.packet_type 0xBF r) in
          let a : length p ≡ be s (at + 6) 4 = k.long ∙ g.lens in
          let b : get_or p 16 0 ≡ get_or s (at + 16) 0 = get_or-take w.len (drop at s) 16 0 (omega (arith, k.long, m.1)) ∙ get_or-drop at s 16 0 in
          let d : get_or p 17 0 ≡ get_or s (at + 17) 0 = get_or-take w.len (drop at s) 17 0 (omega (arith, k.long, m.1)) ∙ get_or-drop at s 17 0 in
          let f : be p 18 4 ≡ be s (at + 18) 4 = be-take w.len (drop at s) 18 4 (omega (arith, k.long, m.1)) ∙ be-drop at s 18 4 in
          let h : eqb (get_or s (at + 5) 0) 0xBF ≡ true = rw (← g.kinds) r in
          record { is = m.0 ∙ rw (a, b, d, f, h); can = record { header = omega (arith, k.within, k.least); preamble = λ z. omega (arith, k.within, k.long, m.1) } }
      go false r =
          let g = whole s at w q in
          let k = cut s at w q in
          let o = t.of_other (eqb-false w.packet_type 0xBF r) in
          let a : length p ≡ be s (at + 6) 4 = k.long ∙ g.lens in
          let h : eqb (get_or s (at + 5) 0) 0xBF ≡ false = rw (← g.kinds) r in
          record { is = o ∙ rw (a, h, g.kinds); can = record { header = omega (arith, k.within, k.least); preamble = λ z. absurd (eqb-false (get_or s (at + 5) 0) 0xBF h z) } }

pub seen : (s : List ℕ) (at : ℕ) (first : Bool) (x : Piece) → piece_at s at first ≡ Ok x → Seen s at x
unfolding piece_at
seen s at first x = go (header_at s at) refl
  where
    go : (h : Result Packet Refusal) → header_at s at ≡ h → after_header s at first h ≡ Ok x → Seen s at x
    go (Err r) q e = absurd (let z : ◌≡◌ {A = ℕ} 0 1 = cc in omega arith)
    go (Ok w) q e = by (opens first w.packet_type) e
      where
        by : (b : Bool) → pick b (content_of (take w.len (drop at s)) at w.packet_type) (Err (refusal fault.NoMapFirst at)) ≡ Ok x → Seen s at x
        by true e = by_bytes s at w q x (content_seen (take w.len (drop at s)) at w.packet_type x e)
        by false e = absurd (let z : ◌≡◌ {A = ℕ} 0 1 = cc in omega arith)
