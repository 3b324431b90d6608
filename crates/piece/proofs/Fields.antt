-- The field number of a packet in bytes has 32 bits.
use Prim.Native.Nat.{ℕ, zero, suc, ◌+◌, ◌-◌, ◌^◌, ◌<◌}
use mathlib.Core.Path.{◌≡◌, refl, sym, ap}
use mathlib.Core.Bool.{Bool, true, false}
use mathlib.Core.List.{List, [], ◌∷◌}
use native.Mathlib.Omega.{arith}
use lib.ListN.{length, get_or, take, drop}
use lib.Seq.{get_or-drop}
use lib.Dec.{eqb, ltb}
use Rattle.std.specs.Prelude.{Result, Ok, Err, ⊤}
use Rattle.plate.specs.Choice.{pick}
use Rattle.plate.specs.Plate.{refusal}
use Rattle.number.proofs.Laws.{Bytes, be_lt}
use Rattle.packet.specs.Packet.{header_at}
use Rattle.map.specs.Map.{map_verdict}
use Rattle.locator.specs.Locator.{table_of}
use Rattle.media.specs.Media.{preamble_of, fields_of}
use Rattle.media.specs.declared.Media.{Media}
use Rattle.piece.specs.Piece.{plain_piece, of_map, of_locator, of_media, content_of, opens, after_header, piece_at}
use Rattle.piece.specs.declared.Piece.{Piece}
use Rattle.locator.specs.declared.Locator.{Locator}
use Rattle.packet.specs.declared.Packet.{Packet}
use Rattle.plate.specs.declared.Refusal.{Refusal}
use Rattle.plate.specs.declared.Fault.TheVariants as fault

-- a part of bytes is bytes
bytes_take : (n : ℕ) (s : List ℕ) → Bytes s → Bytes (take n s)
bytes_take zero s b i = record { fits = omega arith }
bytes_take (suc n) [] b i = record { fits = omega arith }
bytes_take (suc n) (x ∷ s) b zero = b zero
bytes_take (suc n) (x ∷ s) b (suc i) = bytes_take n s (λ j. b (suc j)) i

bytes_drop : (n : ℕ) (s : List ℕ) → Bytes s → Bytes (drop n s)
bytes_drop n s b i = rw (get_or-drop n s i 0) (b (n + i))

-- a field number has 32 bits
media_field : (p : List ℕ) (m : Media) → Bytes p → preamble_of p 0 ≡ Ok m → m.field < 256 ^ 4
unfolding preamble_of
media_field p m b = go (ltb (length p - 16) 16) (ltb 63 (get_or p 17 0))
  where
    go : (t u : Bool) → pick t (Err (refusal fault.Overhang 16)) (pick u (Err (refusal fault.TypeOrId 0)) (Ok (fields_of p))) ≡ Ok m → m.field < 256 ^ 4
    go true u e = absurd (let z : ◌≡◌ {A = ℕ} 0 1 = cc in omega arith)
    go false true e = absurd (let z : ◌≡◌ {A = ℕ} 0 1 = cc in omega arith)
    go false false e =
        let a : fields_of p ≡ m = cc in
        rw (sym (ap (λ (y : Media). y.field) a)) (be_lt p b 18 4)

content_field : (p : List ℕ) (at packet_type : ℕ) (x : Piece) → Bytes p → content_of p at packet_type ≡ Ok x → x.field < 256 ^ 4
unfolding content_of
content_field p at packet_type x b = go (eqb packet_type 0xBF) (eqb packet_type 0xBC) (eqb packet_type 0xFC)
  where
    plain : (packet_type : ℕ) → plain_piece packet_type (length p) ≡ Ok x → x.field < 256 ^ 4
    plain packet_type e =
        let a : record { packet_type = packet_type; len = length p; media_type = 0; track = 0; field = 0 } ≡ x = cc in
        rw (sym (ap (λ (y : Piece). y.field) a)) (omega arith)

    of_map_lem : (v : Result ⊤ Refusal) → of_map at (length p) v ≡ Ok x → x.field < 256 ^ 4
    of_map_lem (Ok _) e = plain 0xBC e
    of_map_lem (Err r) e = absurd (let z : ◌≡◌ {A = ℕ} 0 1 = cc in omega arith)

    of_locator_lem : (v : Result Locator Refusal) → of_locator at (length p) v ≡ Ok x → x.field < 256 ^ 4
    of_locator_lem (Ok t) e = plain 0xFC e
    of_locator_lem (Err r) e = absurd (let z : ◌≡◌ {A = ℕ} 0 1 = cc in omega arith)

    of_media_lem : (v : Result Media Refusal) → preamble_of p 0 ≡ v → of_media at (length p) v ≡ Ok x → x.field < 256 ^ 4
    of_media_lem (Ok m) q e =
        let a : record { packet_type = 0xBF; len = length p; media_type = m.media_type; track = m.track; field = m.field } ≡ x = cc in
        rw (sym (ap (λ (y : Piece). y.field) a)) (media_field p m b q)
    of_media_lem (Err r) q e = absurd (let z : ◌≡◌ {A = ℕ} 0 1 = cc in omega arith)

    go : (t u v : Bool)
        → pick t (of_media at (length p) (preamble_of p 0)) (pick u (of_map at (length p) (map_verdict p)) (pick v (of_locator at (length p) (table_of p)) (plain_piece packet_type (length p)))) ≡ Ok x
        → x.field < 256 ^ 4
    go true u v e = of_media_lem (preamble_of p 0) refl e
    go false true v e = of_map_lem (map_verdict p) e
    go false false true e = of_locator_lem (table_of p) e
    go false false false e = plain packet_type e

pub field_fits : (s : List ℕ) (at : ℕ) (first : Bool) (x : Piece) → Bytes s → piece_at s at first ≡ Ok x → x.field < 256 ^ 4
unfolding piece_at
field_fits s at first x b = go (header_at s at)
  where
    go : (h : Result Packet Refusal) → after_header s at first h ≡ Ok x → x.field < 256 ^ 4
    go (Err r) e = absurd (let z : ◌≡◌ {A = ℕ} 0 1 = cc in omega arith)
    go (Ok w) e = by (opens first w.packet_type) e
      where
        by : (t : Bool) → pick t (content_of (take w.len (drop at s)) at w.packet_type) (Err (refusal fault.NoMapFirst at)) ≡ Ok x → x.field < 256 ^ 4
        by true e = content_field (take w.len (drop at s)) at w.packet_type x (bytes_take w.len (drop at s) (bytes_drop at s b)) e
        by false e = absurd (let z : ◌≡◌ {A = ℕ} 0 1 = cc in omega arith)
