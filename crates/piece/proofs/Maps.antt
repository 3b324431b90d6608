-- A map packet that `piece_at` finds whole is an accepted map.
use Prim.Native.Nat.{ℕ}
use mathlib.Core.Path.{◌≡◌, refl, ap, ◌∙◌}
use mathlib.Core.Bool.{Bool, true, false}
use mathlib.Core.List.{List}
use native.Mathlib.Omega.{arith}
use lib.ListN.{length, take, drop}
use lib.Dec.{eqb}
use borrow.Author.Tests.{eqb-false}
use Rattle.std.specs.Prelude.{Result, Ok, Err, ⊤}
use Rattle.plate.specs.Choice.{pick}
use Rattle.plate.specs.Plate.{refusal}
use Rattle.packet.specs.Packet.{header_at}
use Rattle.map.specs.Map.{map_verdict}
use Rattle.locator.specs.Locator.{table_of}
use Rattle.media.specs.Media.{preamble_of}
use Rattle.piece.specs.Piece.{plain_piece, of_map, of_locator, of_media, content_of, opens, after_header, piece_at}
use Rattle.piece.specs.declared.Piece.{Piece}
use Rattle.locator.specs.declared.Locator.{Locator}
use Rattle.media.specs.declared.Media.{Media}
use Rattle.packet.specs.declared.Packet.{Packet}
use Rattle.plate.specs.declared.Refusal.{Refusal}
use Rattle.plate.specs.declared.Fault.TheVariants as fault
use Rattle.piece.proofs.Laws.{told}

content_accepted : (p : List ℕ) (at packet_type : ℕ) (x : Piece) → content_of p at packet_type ≡ Ok x → x.packet_type ≡ 0xBC → map_verdict p ≡ (Ok tt)
unfolding content_of
content_accepted p at packet_type x e k = go (eqb packet_type 0xBF) (eqb packet_type 0xBC) (eqb packet_type 0xFC) refl refl e
  where
    -- a packet of another type is none
    other : (r : ℕ) → plain_piece r (length p) ≡ Ok x → (r ≡ 0xBC → ⊥) → map_verdict p ≡ (Ok tt)
    other r e n =
        let a : record { packet_type = r; len = length p; media_type = 0; track = 0; field = 0 } ≡ x = cc in
        absurd (n (ap (λ (y : Piece). y.packet_type) a ∙ k))

    of_map_lem : (v : Result ⊤ Refusal) → map_verdict p ≡ v → of_map at (length p) v ≡ Ok x → map_verdict p ≡ (Ok tt)
    of_map_lem (Ok _) q e = q
    of_map_lem (Err r) q e = absurd (let z : ◌≡◌ {A = ℕ} 0 1 = cc in omega arith)

    of_locator_lem : (v : Result Locator Refusal) → of_locator at (length p) v ≡ Ok x → map_verdict p ≡ (Ok tt)
    of_locator_lem (Ok t) e = other 0xFC e (λ z. omega (arith, z))
    of_locator_lem (Err r) e = absurd (let z : ◌≡◌ {A = ℕ} 0 1 = cc in omega arith)

    of_media_lem : (v : Result Media Refusal) → of_media at (length p) v ≡ Ok x → map_verdict p ≡ (Ok tt)
    of_media_lem (Ok m) e =
        let a : record { packet_type = 0xBF; len = length p; media_type = m.media_type; track = m.track; field = m.field } ≡ x = cc in
        absurd (let z = ap (λ (y : Piece). y.packet_type) a in omega (arith, z, k))
    of_media_lem (Err r) e = absurd (let z : ◌≡◌ {A = ℕ} 0 1 = cc in omega arith)

    go : (t u v : Bool) → eqb packet_type 0xBC ≡ u → eqb packet_type 0xFC ≡ v
        → pick t (of_media at (length p) (preamble_of p 0)) (pick u (of_map at (length p) (map_verdict p)) (pick v (of_locator at (length p) (table_of p)) (plain_piece packet_type (length p)))) ≡ Ok x
        → map_verdict p ≡ (Ok tt)
    go true u v i j e = of_media_lem (preamble_of p 0) e
    go false true v i j e = of_map_lem (map_verdict p) refl e
    go false false true i j e = of_locator_lem (table_of p) e
    go false false false i j e = other packet_type e (eqb-false packet_type 0xBC i)

pub map_accepted : (s : List ℕ) (at : ℕ) (first : Bool) (x : Piece) → piece_at s at first ≡ Ok x → x.packet_type ≡ 0xBC → map_verdict (take x.len (drop at s)) ≡ (Ok tt)
unfolding piece_at
map_accepted s at first x e k = go (header_at s at) refl e
  where
    go : (h : Result Packet Refusal) → header_at s at ≡ h → after_header s at first h ≡ Ok x → map_verdict (take x.len (drop at s)) ≡ (Ok tt)
    go (Err r) q e = absurd (let z : ◌≡◌ {A = ℕ} 0 1 = cc in omega arith)
    go (Ok w) q f = by (opens first w.packet_type) f
      where
        same : x.len ≡ w.len
        same = let t = told s at first x e in let z : t.head ≡ w = cc in t.lens ∙ rw z

        by : (t : Bool) → pick t (content_of (take w.len (drop at s)) at w.packet_type) (Err (refusal fault.NoMapFirst at)) ≡ Ok x → map_verdict (take x.len (drop at s)) ≡ (Ok tt)
        by true f = rw same (content_accepted (take w.len (drop at s)) at w.packet_type x f k)
        by false f = absurd (let z : ◌≡◌ {A = ℕ} 0 1 = cc in omega arith)
