-- Places in small packets, and what a whole piece tells.
use Prim.Native.Nat.{ℕ, ◌+◌, ◌-◌, ◌*◌, ◌≤◌, ◌<◌}
use mathlib.Core.Path.{◌≡◌, refl, sym, ◌∙◌, ap}
use mathlib.Core.Bool.{Bool, true, false}
use mathlib.Core.List.{List, ◌++◌}
use native.Mathlib.Omega.{arith}
use lib.ListN.{length, get_or, take, drop, length-drop, take-append-drop}
use lib.Seq.{length-take-le, take-append-le, drop-append-le}
use lib.Dec.{ltb, eqb}
use borrow.Author.Tests.{ltb-false, eqb-true}
use Rattle.std.specs.Prelude.{Result, Ok, Err, ⊤, Some, None}
use Rattle.plate.specs.Choice.{pick}
use Rattle.plate.specs.Plate.{refusal}
use Rattle.plate.specs.declared.Refusal.{Refusal}
use Rattle.number.specs.Number.{le}
use Rattle.packet.specs.Packet.{header_at}
use Rattle.packet.proofs.Laws.{whole}
use Rattle.packet.proofs.Torn.{header_before, whole_within}
use Rattle.map.specs.Map.{map_verdict}
use Rattle.locator.specs.Locator.{table_of, no_table}
use Rattle.media.specs.Media.{preamble_of, fields_of}
use Rattle.piece.specs.Inside.{media_len}
use Rattle.piece.specs.Piece.{plain_piece, of_map, of_locator, of_media, content_of, opens, after_header, piece_at}
use Rattle.piece.specs.declared.Piece.{Piece}
use Rattle.locator.specs.declared.Locator.{Locator}
use Rattle.packet.specs.declared.Packet.{Packet}
use Rattle.media.specs.declared.Media.{Media}
use Rattle.plate.specs.declared.Fault.{Fault}
use Rattle.plate.specs.declared.Fault.TheVariants as fault
use Rattle.std.proofs.lemmas.Option.{none-some, same_Some}

place_of : (f : Fault) (p : ℕ) (r : Refusal) → refusal f p ≡ r → r.place ≡ p
place_of f p r e = sym (ap (λ (x : Refusal). x.place) e)

pub locator_place : (p : List ℕ) (r : Refusal) → table_of p ≡ Err r → r.place ≡ 16
unfolding table_of
locator_place p r = go (ltb (length p - 16) 8) (ltb 1000 (le p 20 4)) (eqb (le p 16 4) 0) (ltb (length p - 16) (8 + 4 * le p 20 4)) (record { step = le p 16 4; count = le p 20 4 })
  where
    no : (f : Fault) → no_table f ≡ Err r → r.place ≡ 16
    no f e = place_of f 16 r cc

    go : (a b d f : Bool) (t : Locator) → pick a (no_table fault.Overhang) (pick b (no_table fault.LocatorCount) (pick d (no_table fault.LocatorStep) (pick f (no_table fault.Overhang) (Ok t)))) ≡ Err r → r.place ≡ 16
    go true b d f t e = no fault.Overhang e
    go false true d f t e = no fault.LocatorCount e
    go false false true f t e = no fault.LocatorStep e
    go false false false true t e = no fault.Overhang e
    go false false false false t e = absurd (let z : ◌≡◌ {A = ℕ} 0 1 = cc in omega arith)

pub media_place : (p : List ℕ) (r : Refusal) → preamble_of p 0 ≡ Err r → r.place ≤ 16
unfolding preamble_of
media_place p r = go (ltb (length p - 16) 16) (ltb 63 (get_or p 17 0))
  where
    go : (a b : Bool) → pick a (Err (refusal fault.Overhang 16)) (pick b (Err (refusal fault.TypeOrId 0)) (Ok (fields_of p))) ≡ Err r → r.place ≤ 16
    go true b e = omega (arith, place_of fault.Overhang 16 r cc)
    go false true e = omega (arith, place_of fault.TypeOrId 0 r cc)
    go false false e = absurd (let z : ◌≡◌ {A = ℕ} 0 1 = cc in omega arith)

pub small_track : (p : List ℕ) (m : Media) → preamble_of p 0 ≡ Ok m → m.track < 64
unfolding preamble_of
small_track p m = go (ltb (length p - 16) 16) (ltb 63 (get_or p 17 0)) refl
  where
    go : (a b : Bool) → ltb 63 (get_or p 17 0) ≡ b → pick a (Err (refusal fault.Overhang 16)) (pick b (Err (refusal fault.TypeOrId 0)) (Ok (fields_of p))) ≡ Ok m → m.track < 64
    go true b q e = absurd (let z : ◌≡◌ {A = ℕ} 0 1 = cc in omega arith)
    go false true q e = absurd (let z : ◌≡◌ {A = ℕ} 0 1 = cc in omega arith)
    go false false q e =
        let a : fields_of p ≡ m = cc in
        omega (arith, ltb-false 63 (get_or p 17 0) q, ap (λ (y : Media). y.track) a)

-- a whole packet lies in the stream, and its bytes are as many as its length says
pub record Cut (s : List ℕ) (at n : ℕ) : Type 0 where
  pub within : at + n ≤ length s
  pub least : 16 ≤ n
  pub long : length (take n (drop at s)) ≡ n

pub cut : (s : List ℕ) (at : ℕ) (w : Packet) → header_at s at ≡ Ok w → Cut s at w.len
cut s at w e =
    let g = whole s at w e in
    record { within = omega (arith, g.within, g.least); least = g.least; long = length-take-le w.len (drop at s) (simp length-drop g.within) }

-- a media packet of n bytes stands there: it is no first packet, and what it is to a stream behind that is its content
pub record MediaThere (s : List ℕ) (at n : ℕ) : Type 0 where
  pub cut : Cut s at n
  pub opening : piece_at s at true ≡ Err (refusal fault.NoMapFirst at)
  pub same : piece_at s at false ≡ content_of (take n (drop at s)) at 0xBF

pub media_there : (s : List ℕ) (at n : ℕ) → Some n ≡ media_len (header_at s at) → MediaThere s at n
unfolding media_len piece_at opens
media_there s at n = go (header_at s at) refl
  where
    go : (h : Result Packet Refusal) → header_at s at ≡ h → Some n ≡ media_len h → MediaThere s at n
    go (Err r) q e = absurd (none-some n (sym e))
    go (Ok w) q e = by (eqb w.packet_type 0xBF) refl e
      where
        by : (b : Bool) → eqb w.packet_type 0xBF ≡ b → Some n ≡ pick b (Some w.len) None → MediaThere s at n
        by true t e = let m = eqb-true w.packet_type 0xBF t in let f = same_Some n w.len e in record { cut = rw f (cut s at w q); opening = rw (q, m); same = rw (q, m, f) }
        by false t e = absurd (none-some n (sym e))

-- what a piece tells of its packet: it has a header, it is as long as that says, and a track ID is 63 at most
pub record Told (s : List ℕ) (at : ℕ) (x : Piece) : Type 0 where
  pub head : Packet
  pub header : header_at s at ≡ Ok head
  pub lens : x.len ≡ head.len
  pub cut : Cut s at x.len
  pub track : x.track < 64

content_told : (p : List ℕ) (at packet_type : ℕ) (x : Piece) → content_of p at packet_type ≡ Ok x → (x.len ≡ length p) × (x.track < 64)
unfolding content_of
content_told p at packet_type x = go (eqb packet_type 0xBF) (eqb packet_type 0xBC) (eqb packet_type 0xFC)
  where
    plain : (packet_type : ℕ) → plain_piece packet_type (length p) ≡ Ok x → (x.len ≡ length p) × (x.track < 64)
    plain packet_type e =
        let a : record { packet_type = packet_type; len = length p; media_type = 0; track = 0; field = 0 } ≡ x = cc in
        (sym (ap (λ (y : Piece). y.len) a), omega (arith, ap (λ (y : Piece). y.track) a))

    of_map_lem : (v : Result ⊤ Refusal) → of_map at (length p) v ≡ Ok x → (x.len ≡ length p) × (x.track < 64)
    of_map_lem (Ok _) e = plain 0xBC e
    of_map_lem (Err r) e = absurd (let z : ◌≡◌ {A = ℕ} 0 1 = cc in omega arith)

    of_locator_lem : (v : Result Locator Refusal) → of_locator at (length p) v ≡ Ok x → (x.len ≡ length p) × (x.track < 64)
    of_locator_lem (Ok t) e = plain 0xFC e
    of_locator_lem (Err r) e = absurd (let z : ◌≡◌ {A = ℕ} 0 1 = cc in omega arith)

    of_media_lem : (v : Result Media Refusal) → preamble_of p 0 ≡ v → of_media at (length p) v ≡ Ok x → (x.len ≡ length p) × (x.track < 64)
    of_media_lem (Ok m) q e =
        let a : record { packet_type = 0xBF; len = length p; media_type = m.media_type; track = m.track; field = m.field } ≡ x = cc in
        (sym (ap (λ (y : Piece). y.len) a), omega (arith, ap (λ (y : Piece). y.track) a, small_track p m q))
    of_media_lem (Err r) q e = absurd (let z : ◌≡◌ {A = ℕ} 0 1 = cc in omega arith)

    go : (a b d : Bool)
        → pick a (of_media at (length p) (preamble_of p 0)) (pick b (of_map at (length p) (map_verdict p)) (pick d (of_locator at (length p) (table_of p)) (plain_piece packet_type (length p)))) ≡ Ok x
        → (x.len ≡ length p) × (x.track < 64)
    go true b d e = of_media_lem (preamble_of p 0) refl e
    go false true d e = of_map_lem (map_verdict p) e
    go false false true e = of_locator_lem (table_of p) e
    go false false false e = plain packet_type e

pub told : (s : List ℕ) (at : ℕ) (first : Bool) (x : Piece) → piece_at s at first ≡ Ok x → Told s at x
unfolding piece_at
told s at first x = go (header_at s at) refl
  where
    go : (h : Result Packet Refusal) → header_at s at ≡ h → after_header s at first h ≡ Ok x → Told s at x
    go (Err r) q e = absurd (let z : ◌≡◌ {A = ℕ} 0 1 = cc in omega arith)
    go (Ok w) q e = by (opens first w.packet_type) e
      where
        by : (b : Bool) → pick b (content_of (take w.len (drop at s)) at w.packet_type) (Err (refusal fault.NoMapFirst at)) ≡ Ok x → Told s at x
        by true e =
            let k = cut s at w q in
            let t = content_told (take w.len (drop at s)) at w.packet_type x e in
            let n : x.len ≡ w.len = t.0 ∙ k.long in
            record { head = w; header = q; lens = n; cut = rw n k; track = t.1 }
        by false e = absurd (let z : ◌≡◌ {A = ℕ} 0 1 = cc in omega arith)

-- bytes behind a packet that lies in the bytes change nothing of it
pub cut_before : (s t : List ℕ) (at n : ℕ) → at + n ≤ length s → take n (drop at (s ++ t)) ≡ take n (drop at s)
cut_before s t at n h = ap (λ (x : List ℕ). take n x) (drop-append-le at s t (omega arith)) ∙ take-append-le n (drop at s) t (omega (arith, length-drop at s))

pub piece_before : (s t : List ℕ) (at : ℕ) (first : Bool) (x : Piece) → piece_at s at first ≡ Ok x → piece_at (s ++ t) at first ≡ Ok x
unfolding piece_at
piece_before s t at first x = go (header_at s at) refl
  where
    go : (h : Result Packet Refusal) → header_at s at ≡ h → after_header s at first h ≡ Ok x → piece_at (s ++ t) at first ≡ Ok x
    go (Err r) q e = absurd (let z : ◌≡◌ {A = ℕ} 0 1 = cc in omega arith)
    go (Ok w) q e = rw (header_before s t at w q, cut_before s t at w.len (cut s at w q).within) e

-- and in a part of the bytes, up to c, a packet that ends within it is what it was
pub cut_within : (s : List ℕ) (at n c : ℕ) → at + n ≤ c → c ≤ length s → take n (drop at (take c s)) ≡ take n (drop at s)
cut_within s at n c h l =
    sym (cut_before (take c s) (drop c s) at n (omega (arith, length-take-le c s l))) ∙ ap (λ (z : List ℕ). take n (drop at z)) (take-append-drop c s)

pub piece_within : (s : List ℕ) (at : ℕ) (first : Bool) (x : Piece) → piece_at s at first ≡ Ok x → (c : ℕ) → at + x.len ≤ c → c ≤ length s → piece_at (take c s) at first ≡ Ok x
unfolding piece_at
piece_within s at first x e c h l =
    let b = told s at first x e in
    rw (whole_within s at b.head b.header c (omega (arith, b.cut.least)) l (omega (arith, b.lens)), cut_within s at b.head.len c (omega (arith, b.lens)) l) (rw b.header at e)
