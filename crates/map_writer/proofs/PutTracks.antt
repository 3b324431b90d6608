-- How the writer puts tracks together: one after another.
use Prim.Native.Nat.{ℕ, ◌+◌, ◌<◌, ◌≤◌}
use mathlib.Core.Path.{◌≡◌, refl, ◌∙◌}
use mathlib.Core.List.{List, [], ◌∷◌, ◌++◌, append_assoc, append-nil}
use native.Mathlib.Omega.{arith}
use lib.ListN.{length, length-append}
use lib.Seq.{sets}
use Rattle.std.specs.Prelude.{None}
use Rattle.number.specs.Number.{be_bytes}
use Rattle.number.proofs.Laws.{length-be_bytes}
use Rattle.number.proofs.Stores.{sets_append}
use Rattle.map_items.specs.Items.{items_bytes}
use Rattle.map_tracks.specs.Tracks as tracks
use Rattle.map.specs.Encode.{described}
use Rattle.map_given.specs.Given.{Given, track_at, tracks_given}
use Rattle.map_writer.specs.Inside.{slots_size, tracks_size, tracks_bytes}
use Rattle.map_given.specs.Faults.{slots_fault, own_fault, tracks_fault}
use Rattle.map_writer.specs.Write.{items_of}
use Rattle.map_given.proofs.Laws.{tracks_more, no_tracks}
use Rattle.map_writer.proofs.Laws.{tracks_size_turn}
use Rattle.map_writer.proofs.Puts.{slots_length}
use Rattle.map_given.proofs.Clean.{tracks_clean, Narrow, own_known}
use Rattle.media_type.proofs.Laws.{known_under}

-- a track: two bytes, the length and the items
pub track_bytes : (text : List ℕ) (t : Given) → slots_fault text t.slots ≡ None
    → tracks_bytes text (t ∷ []) ≡ (0x80 + t.media_type) ∷ (0xC0 + t.id) ∷ (be_bytes 2 (slots_size t.slots) ++ items_bytes (items_of text t.slots))
unfolding tracks_bytes tracks.descriptions_bytes described
track_bytes text t h = rw (slots_length text t.slots h, append-nil)

pub track_run : (l v : List ℕ) (pos k i n : ℕ) → sets (sets (sets l pos (k ∷ i ∷ [])) (pos + 2) (be_bytes 2 n)) (pos + 4) v ≡ sets l pos (k ∷ i ∷ (be_bytes 2 n ++ v))
unfolding be_bytes
track_run l v pos k i n = rw (sets_append (k ∷ i ∷ []) l pos (be_bytes 2 n)) (sets_append (k ∷ i ∷ be_bytes 2 n) l pos v)

pub track_length_lem : (text : List ℕ) (t : Given) → slots_fault text t.slots ≡ None → length (tracks_bytes text (t ∷ [])) ≡ 4 + slots_size t.slots
track_length_lem text t h =
    let n = slots_size t.slots in
    rw (track_bytes text t h) (omega (arith, length-append (be_bytes 2 n) (items_bytes (items_of text t.slots)), length-be_bytes 2 n, slots_length text t.slots h))

pub tracks_cons : (text : List ℕ) (t : Given) (ts : List Given) → tracks_bytes text (t ∷ ts) ≡ tracks_bytes text (t ∷ []) ++ tracks_bytes text ts
unfolding tracks_bytes tracks.descriptions_bytes
tracks_cons text t ts = simp (append-nil, append_assoc)

no_bytes : (text : List ℕ) → length (tracks_bytes text []) ≡ 0
unfolding tracks_bytes tracks.descriptions_bytes
no_bytes text = refl

pub tracks_length_lem : (text : List ℕ) (ts : List Given) → tracks_fault text ts ≡ None → length (tracks_bytes text ts) ≡ tracks_size ts
unfolding tracks_size
tracks_length_lem text [] h = no_bytes text
tracks_length_lem text (t ∷ ts) h =
    let c = tracks_clean text t ts h in
    rw (tracks_cons text t ts)
    (length-append (tracks_bytes text (t ∷ [])) (tracks_bytes text ts) ∙ omega (arith, track_length_lem text t c.1, tracks_length_lem text ts c.2))

-- the writing of tracks: what is left to do from here gives the whole
pub record TracksLeft (whole text : List ℕ) (size : ℕ) (out : List ℕ) (to : ℕ) (rest : List ℕ) : Type 0 where
  pub room : to + tracks_size (tracks_given rest) ≤ size
  pub clean : tracks_fault text (tracks_given rest) ≡ None
  pub narrow : Narrow (tracks_given rest)
  pub long : length out ≡ size
  pub same : sets out to (tracks_bytes text (tracks_given rest)) ≡ whole

module _ (whole text : List ℕ) (size : ℕ) (out : List ℕ) (to : ℕ) (x r : List ℕ) (h : length x ≡ 23) (l : TracksLeft whole text size out to (x ++ r)) where
  abbrev t : Given
  t = track_at x 0

  abbrev rest : List Given
  rest = tracks_given r

  pub track_clean : (own_fault t ≡ None) × (slots_fault text t.slots ≡ None) × (tracks_fault text rest ≡ None)
  track_clean = tracks_clean text t rest (rw (tracks_more x r h) at l.clean)

  pub track_narrow : (t.id < 64) × Narrow rest
  track_narrow = rw (tracks_more x r h) at l.narrow

  pub track_type : t.media_type < 128
  track_type = let k = known_under t.media_type (own_known t track_clean.0) in omega arith

  pub track_room : to + (4 + slots_size t.slots) + tracks_size rest ≤ size
  track_room = let m = l.room in omega (arith, tracks_size_turn x r h)

  pub tracks_turn : (now : List ℕ) → length now ≡ size → now ≡ sets out to (tracks_bytes text (t ∷ [])) → TracksLeft whole text size now (to + (4 + slots_size t.slots)) r
  tracks_turn now k e =
      record {
        room = track_room;
        clean = track_clean.2;
        narrow = track_narrow.1;
        long = k;
        same =
            rw (e, ← track_length_lem text t track_clean.1, sets_append (tracks_bytes text (t ∷ [])) out to (tracks_bytes text rest), ← tracks_cons text t rest, ← tracks_more x r h)
            l.same;
      }

pub tracks_done : (whole text : List ℕ) (size : ℕ) (out : List ℕ) (to : ℕ) (r : List ℕ) → length r < 23 → TracksLeft whole text size out to r → out ≡ whole
unfolding tracks_bytes tracks.descriptions_bytes
tracks_done whole text size out to r h l = rw (no_tracks r h) at l.same
