-- What contracts shut out, as the checker reads them (`Reads.Post`): a function with one of them neither refuses all nor gives one answer on all, and a builder does not leave every buffer as it was.
-- Each `-is` says what any outcome is that a contract allows on given arguments, and each `-gives` that there is one; `computed` and `pairs` have the answers. The like of `map::read` and `map::track` is in `map_newer`.
use Prim.Native.Nat.{ℕ}
use mathlib.Core.Path.{◌≡◌, refl, sym, ◌∙◌, ap}
use mathlib.Core.List.{List, [], ◌∷◌}
use native.Mathlib.Omega.{arith}
use denote.Ref.{Bor}
use denote.MutBor.{MutBor}
use Rattle.std.specs.Prelude.{Result, Ok, Err}
use Rattle.plate.specs.Plate.{refusal}
use Rattle.plate.specs.declared.Refusal.{Refusal}
use Rattle.stream.specs.Stream as stream
use Rattle.book.specs.Book as book
use Rattle.book_builder.specs.BookBuilder as builder
use Rattle.locator.specs.Locator as locator
use Rattle.media.specs.Media as media
use Rattle.map_name.specs.Name as name
use Rattle.map_name.specs.declared.OfTwo.{OfTwo}
use Rattle.mpeg.specs.Read as mpeg
use Rattle.mpeg_parameter.specs.declared.ParameterValue.{ParameterValue}
use Rattle.mpeg_parameter.specs.declared.ParameterValue.TheVariants as parameter-value
use Rattle.locator.specs.declared.Locator.{Locator}
use Rattle.map_items.specs.declared.Part.{Part}
use Rattle.media.specs.declared.Media.{Media}
use Rattle.mpeg_parameter.specs.declared.Parameters.{Parameters as AllParameters}
use Rattle.plate.specs.declared.Fault.TheVariants as fault
use Rattle.map.proofs.Samples.{M}
use Rattle.paper_readings.proofs.Streams.{unlent, computed, bytes_needed}
use Rattle.paper_readings.specs.Streams.{S, mute, B, room, carrying}
use Rattle.paper_readings.proofs.Pairs.{located, N, bare, other, pairs}
use Rattle.mpeg.proofs.Worked.{text}
use Rattle.book_builder.proofs.build.Kinds as build-kinds
use Rattle.book_builder.proofs.build.Reads as build-reads
use Rattle.paper_readings.specs.Calls.{Allows, Checks, Seeks, Looks, Tables, Positions, Preambles, Places, PlacesOfTwo, Names, NamesOfTwo, Parameters}

-- bytes as a slice lends them
abbrev pub lent : List ℕ → Bor (List ℕ)
lent s = record { ref_ptr = (0, 0); now = s }

-- and as one does that may be written to
abbrev pub lent_out : List ℕ → MutBor (List ℕ)
lent_out s = record { ref_ptr = (0, 0); ghost_name = 0; now = s }

abbrev first_byte : List ℕ → ℕ
first_byte [] = 0
first_byte (b ∷ s) = b

abbrev step_of : Result Locator Refusal → ℕ
step_of (Ok t) = t.step
step_of (Err r) = 0

abbrev field_of : Result Media Refusal → ℕ
field_of (Ok m) = m.field
field_of (Err r) = 0

abbrev whole_of : ParameterValue → ℕ
whole_of (parameter-value.Whole n) = n
whole_of (parameter-value.Rate x) = 0

abbrev ipg_of : Result AllParameters Refusal → ℕ
ipg_of (Ok p) = whole_of p.ipg
ipg_of (Err r) = 0

-- two readings of one thing
both : {A : Type 0} {x v w : A} → x ≡ v → x ≡ w → v ≡ w
both p q = sym p ∙ q

-- `stream::check` on a stream: none refuses all, and none gives one number of packets, or one refusal, on all
pub check_is : (s : List ℕ) (x : Result ℕ Refusal) → Checks s x → x ≡ stream.check_of s
check_is s x g = sym g.it ∙ g.post ∙ rw g.on

pub check_gives : (s : List ℕ) → Checks s (stream.check_of s)
check_gives s =
    record { lifetimes = ([], tt); arguments = (lent s, tt); result = stream.check_of s; exit = (lent s, tt); on = refl; post = refl; it = refl }

pub no_refusing_check : (r : Refusal) → Checks S (Err r) → ⊥
no_refusing_check r g = let e = check_is S (Err r) g ∙ computed.checked in let z : ◌≡◌ {A = ℕ} 0 1 = cc in omega arith

pub no_constant_check : (x : Result ℕ Refusal) → Checks S x → Checks mute x → ⊥
no_constant_check x g h = let e = both (check_is S x g ∙ computed.checked) (check_is mute x h ∙ computed.mute_checked) in let z : ◌≡◌ {A = ℕ} 5 3 = cc in omega arith

-- `stream::seek` for a track and a field: none refuses all, none gives one offset for all fields, and none finds all
pub seek_is : (s : List ℕ) (track field : ℕ) (x : Result ℕ Refusal) → Seeks s track field x → x ≡ stream.seek_of s track field
seek_is s track field x g = sym g.it ∙ g.post ∙ rw (g.on.0, g.on.1, g.on.2)

pub seek_gives : (s : List ℕ) (track field : ℕ) → Seeks s track field (stream.seek_of s track field)
seek_gives s track field =
    record { lifetimes = ([], tt); arguments = (lent s, (track, (field, tt))); result = stream.seek_of s track field; exit = (lent s, (track, (field, tt))); on = (refl, refl, refl); post = refl; it = refl }

pub no_refusing_seek : (r : Refusal) → Seeks S 1 0 (Err r) → ⊥
no_refusing_seek r g = let e = seek_is S 1 0 (Err r) g ∙ computed.field_0 in let z : ◌≡◌ {A = ℕ} 0 1 = cc in omega arith

pub no_constant_seek : (x : Result ℕ Refusal) → Seeks S 1 0 x → Seeks S 1 1 x → ⊥
no_constant_seek x g h = let e = both (seek_is S 1 0 x g ∙ computed.field_0) (seek_is S 1 1 x h ∙ computed.field_1) in let z : ◌≡◌ {A = ℕ} 60 92 = cc in omega arith

pub no_finding_seek : (o : ℕ) → Seeks S 1 2 (Ok o) → ⊥
no_finding_seek o g = let e = seek_is S 1 2 (Ok o) g ∙ computed.no_field in let z : ◌≡◌ {A = ℕ} 0 1 = cc in omega arith

-- `book::lookup` in a book: the same
pub lookup_is : (s : List ℕ) (track field : ℕ) (x : Result ℕ Refusal) → Looks s track field x → x ≡ book.lookup_of s track field
lookup_is s track field x g = sym g.it ∙ g.post ∙ rw (g.on.0, g.on.1, g.on.2)

pub lookup_gives : (s : List ℕ) (track field : ℕ) → Looks s track field (book.lookup_of s track field)
lookup_gives s track field =
    record { lifetimes = ([], tt); arguments = (lent s, (track, (field, tt))); result = book.lookup_of s track field; exit = (lent s, (track, (field, tt))); on = (refl, refl, refl); post = refl; it = refl }

pub no_refusing_lookup : (r : Refusal) → Looks B 1 0 (Err r) → ⊥
no_refusing_lookup r g = let e = lookup_is B 1 0 (Err r) g ∙ computed.record_0 in let z : ◌≡◌ {A = ℕ} 0 1 = cc in omega arith

pub no_constant_lookup : (x : Result ℕ Refusal) → Looks B 1 0 x → Looks B 1 1 x → ⊥
no_constant_lookup x g h = let e = both (lookup_is B 1 0 x g ∙ computed.record_0) (lookup_is B 1 1 x h ∙ computed.record_1) in let z : ◌≡◌ {A = ℕ} 60 92 = cc in omega arith

pub no_finding_lookup : (o : ℕ) → Looks B 1 2 (Ok o) → ⊥
no_finding_lookup o g = let e = lookup_is B 1 2 (Ok o) g ∙ computed.no_record in let z : ◌≡◌ {A = ℕ} 0 1 = cc in omega arith

-- `book_builder::build` from a stream into a buffer: its answer; none refuses all, and none gives one number of records on all
abbrev pub Builds : List ℕ → List ℕ → Result ℕ Refusal → Type 0
Builds l s = Allows 2 build-kinds.ps build-kinds.r build-reads.Post (Result ℕ Refusal) (λ κs a. (a.0.now ≡ l) × (a.1.0.now ≡ s)) (λ κs x t. x)

pub build_is : (l s : List ℕ) (x : Result ℕ Refusal) → Builds l s x → x ≡ builder.build_answer l s
build_is l s x g = sym g.it ∙ g.post.0 ∙ rw (g.on.0, g.on.1)

pub build_gives : (l s : List ℕ) → Builds l s (builder.build_answer l s)
build_gives l s =
    record { lifetimes = ([], ([], tt)); arguments = (lent_out l, (lent s, tt)); result = builder.build_answer l s; exit = (lent_out (builder.built_in l s), (lent s, tt)); on = (refl, refl); post = (refl, refl); it = refl }

pub no_refusing_build : (r : Refusal) → Builds (room 33) S (Err r) → ⊥
no_refusing_build r g = let e = build_is (room 33) S (Err r) g ∙ computed.two in let z : ◌≡◌ {A = ℕ} 0 1 = cc in omega arith

pub no_constant_build : (x : Result ℕ Refusal) → Builds (room 33) S x → Builds (room 33) mute x → ⊥
no_constant_build x g h = let e = both (build_is (room 33) S x g ∙ computed.two) (build_is (room 33) mute x h ∙ computed.none) in let z : ◌≡◌ {A = ℕ} 2 0 = cc in omega arith

-- and what the buffer holds then: none writes nothing, and none writes one book for all streams
abbrev pub LeavesBuilt : List ℕ → List ℕ → List ℕ → Type 0
LeavesBuilt l s = Allows 2 build-kinds.ps build-kinds.r build-reads.Post (List ℕ) (λ κs a. (a.0.now ≡ l) × (a.1.0.now ≡ s)) (λ κs x t. t.0.now)

pub left_is : (l s o : List ℕ) → LeavesBuilt l s o → o ≡ builder.built_in l s
left_is l s o g = sym g.it ∙ g.post.1 ∙ rw (g.on.0, g.on.1)

pub left_gives : (l s : List ℕ) → LeavesBuilt l s (builder.built_in l s)
left_gives l s =
    record { lifetimes = ([], ([], tt)); arguments = (lent_out l, (lent s, tt)); result = builder.build_answer l s; exit = (lent_out (builder.built_in l s), (lent s, tt)); on = (refl, refl); post = (refl, refl); it = refl }

pub no_idle_build : LeavesBuilt (room 33) S (room 33) → ⊥
no_idle_build g = let e = ap first_byte (left_is (room 33) S (room 33) g ∙ computed.written) in omega arith

pub no_constant_book : (o : List ℕ) → LeavesBuilt (room 33) S o → LeavesBuilt (room 33) mute o → ⊥
no_constant_book o g h = let e = ap first_byte (both (left_is (room 33) S o g ∙ computed.written) (left_is (room 33) mute o h ∙ computed.mute_written)) in omega arith

-- of a list that no slice lends the three contracts allow two answers, so `agree` of book_builder needs what it asks of the lent stream
pub two_without_bytes : Builds (room 16) unlent (Ok 1) × Looks (builder.built_in (room 16) unlent) 1 4294967296 (Err (refusal fault.NotThere 0)) × Seeks unlent 1 4294967296 (Ok 60)
two_without_bytes =
    (rw bytes_needed.0 at (build_gives (room 16) unlent), rw bytes_needed.1 at (lookup_gives (builder.built_in (room 16) unlent) 1 4294967296), rw bytes_needed.2 at (seek_gives unlent 1 4294967296))

-- `locator::read`: step and count of an FLT
pub table_is : (s : List ℕ) (at : ℕ) (x : Result Locator Refusal) → Tables s at x → x ≡ locator.table_at s at
table_is s at x g = sym g.it ∙ g.post ∙ rw (g.on.0, g.on.1)

pub table_gives : (s : List ℕ) (at : ℕ) → Tables s at (locator.table_at s at)
table_gives s at =
    record { lifetimes = ([], tt); arguments = (lent s, (at, tt)); result = locator.table_at s at; exit = (lent s, (at, tt)); on = (refl, refl); post = refl; it = refl }

pub no_refusing_table : (r : Refusal) → Tables (located 40 64) 0 (Err r) → ⊥
no_refusing_table r g = let e = table_is (located 40 64) 0 (Err r) g ∙ pairs.table_40 in let z : ◌≡◌ {A = ℕ} 0 1 = cc in omega arith

pub no_constant_table : (x : Result Locator Refusal) → Tables (located 40 64) 0 x → Tables (located 80 64) 0 x → ⊥
no_constant_table x g h = let e = ap step_of (both (table_is (located 40 64) 0 x g ∙ pairs.table_40) (table_is (located 80 64) 0 x h ∙ pairs.table_80)) in omega arith

-- `locator::position`: for a distance
pub position_is : (s : List ℕ) (at d : ℕ) (x : Result ℕ Refusal) → Positions s at d x → x ≡ locator.position_at s at d
position_is s at d x g = sym g.it ∙ g.post ∙ rw (g.on.0, g.on.1, g.on.2)

pub position_gives : (s : List ℕ) (at d : ℕ) → Positions s at d (locator.position_at s at d)
position_gives s at d =
    record { lifetimes = ([], tt); arguments = (lent s, (at, (d, tt))); result = locator.position_at s at d; exit = (lent s, (at, (d, tt))); on = (refl, refl, refl); post = refl; it = refl }

pub no_refusing_position : (r : Refusal) → Positions (located 40 64) 0 39 (Err r) → ⊥
no_refusing_position r g = let e = position_is (located 40 64) 0 39 (Err r) g ∙ pairs.position_64 in let z : ◌≡◌ {A = ℕ} 0 1 = cc in omega arith

pub no_constant_position : (x : Result ℕ Refusal) → Positions (located 40 64) 0 39 x → Positions (located 40 65) 0 39 x → ⊥
no_constant_position x g h = let e = both (position_is (located 40 64) 0 39 x g ∙ pairs.position_64) (position_is (located 40 65) 0 39 x h ∙ pairs.position_65) in let z : ◌≡◌ {A = ℕ} 65536 66560 = cc in omega arith

-- `media::read`: the preamble of a media packet
pub preamble_is : (s : List ℕ) (at : ℕ) (x : Result Media Refusal) → Preambles s at x → x ≡ media.preamble_at s at
preamble_is s at x g = sym g.it ∙ g.post ∙ rw (g.on.0, g.on.1)

pub preamble_gives : (s : List ℕ) (at : ℕ) → Preambles s at (media.preamble_at s at)
preamble_gives s at =
    record { lifetimes = ([], tt); arguments = (lent s, (at, tt)); result = media.preamble_at s at; exit = (lent s, (at, tt)); on = (refl, refl); post = refl; it = refl }

pub no_refusing_preamble : (r : Refusal) → Preambles (carrying 0) 0 (Err r) → ⊥
no_refusing_preamble r g = let e = preamble_is (carrying 0) 0 (Err r) g ∙ pairs.field_0 in let z : ◌≡◌ {A = ℕ} 0 1 = cc in omega arith

pub no_constant_preamble : (x : Result Media Refusal) → Preambles (carrying 0) 0 x → Preambles (carrying 1) 0 x → ⊥
no_constant_preamble x g h = let e = ap field_of (both (preamble_is (carrying 0) 0 x g ∙ pairs.field_0) (preamble_is (carrying 1) 0 x h ∙ pairs.field_1)) in omega arith

-- `map_name::name_place`: where a track's name stands
pub place_is : (s : List ℕ) (id : ℕ) (x : Result Part Refusal) → Places s id x → x ≡ name.name_at s id
place_is s id x g = sym g.it ∙ g.post ∙ rw (g.on.0, g.on.1)

pub place_gives : (s : List ℕ) (id : ℕ) → Places s id (name.name_at s id)
place_gives s id =
    record { lifetimes = ([], tt); arguments = (lent s, (id, tt)); result = name.name_at s id; exit = (lent s, (id, tt)); on = (refl, refl); post = refl; it = refl }

pub no_refusing_place : (r : Refusal) → Places M 1 (Err r) → ⊥
no_refusing_place r g = let e = place_is M 1 (Err r) g ∙ pairs.name_M in let z : ◌≡◌ {A = ℕ} 0 1 = cc in omega arith

pub no_constant_place : (x : Result Part Refusal) → Places M 1 x → Places N 1 x → ⊥
no_constant_place x g h = let e = both (place_is M 1 x g ∙ pairs.name_M) (place_is N 1 x h ∙ pairs.name_N) in let p : ◌≡◌ {A = Part} (record { at = 34; len = 2 }) (record { at = 28; len = 2 }) = cc in let z : ◌≡◌ {A = ℕ} 34 28 = ap (λ (y : Part). y.at) p in omega arith

-- `map_name::name_place_of_two`: where it stands in one of two maps
pub place_of_two_is : (opening closing : List ℕ) (id : ℕ) (x : Result OfTwo Refusal) → PlacesOfTwo opening closing id x → x ≡ name.name_of_two_at opening closing id
place_of_two_is opening closing id x g = sym g.it ∙ g.post ∙ rw (g.on.0, g.on.1, g.on.2)

pub place_of_two_gives : (opening closing : List ℕ) (id : ℕ) → PlacesOfTwo opening closing id (name.name_of_two_at opening closing id)
place_of_two_gives opening closing id =
    record { lifetimes = ([], ([], tt)); arguments = (lent opening, (lent closing, (id, tt))); result = name.name_of_two_at opening closing id; exit = (lent opening, (lent closing, (id, tt))); on = (refl, refl, refl); post = refl; it = refl }

pub no_refusing_place_of_two : (r : Refusal) → PlacesOfTwo M N 1 (Err r) → ⊥
no_refusing_place_of_two r g = let e = place_of_two_is M N 1 (Err r) g ∙ pairs.closing in let z : ◌≡◌ {A = ℕ} 0 1 = cc in omega arith

pub no_constant_place_of_two : (x : Result OfTwo Refusal) → PlacesOfTwo M N 1 x → PlacesOfTwo M bare 1 x → ⊥
no_constant_place_of_two x g h = let e = both (place_of_two_is M N 1 x g ∙ pairs.closing) (place_of_two_is M bare 1 x h ∙ pairs.opening) in let z : ◌≡◌ {A = ℕ} 0 1 = cc in omega arith

-- `map_name::name`: its bytes; none hands out nothing each time, and none one name
pub name_is : (s : List ℕ) (id : ℕ) (x : List ℕ) → Names s id x → x ≡ name.name_bytes s (name.name_at s id)
name_is s id x g = sym g.it ∙ g.post.0 ∙ rw (g.on.0, g.on.1)

pub name_gives : (s : List ℕ) (id : ℕ) → Names s id (name.name_bytes s (name.name_at s id))
name_gives s id =
    record { lifetimes = ([], tt); arguments = (lent s, (id, tt)); result = record { ref_ptr = name.place_in (0, 0) (name.name_at s id); now = name.name_bytes s (name.name_at s id) }; exit = (lent s, (id, tt)); on = (refl, refl); post = (refl, refl); it = refl }

pub no_empty_name : Names M 1 [] → ⊥
no_empty_name g = let e = ap first_byte (name_is M 1 [] g ∙ ap (name.name_bytes M) pairs.name_M) in omega arith

pub no_constant_name : (x : List ℕ) → Names M 1 x → Names N 1 x → ⊥
no_constant_name x g h =
    let e = ap first_byte (both (name_is M 1 x g ∙ ap (name.name_bytes M) pairs.name_M) (name_is N 1 x h ∙ ap (name.name_bytes N) pairs.name_N)) in
    omega arith

-- `map_name::name_of_two`: the same of two maps
pub name_of_two_is : (opening closing : List ℕ) (id : ℕ) (x : List ℕ) → NamesOfTwo opening closing id x → x ≡ name.two_bytes opening closing (name.name_of_two_at opening closing id)
name_of_two_is opening closing id x g = sym g.it ∙ g.post.0 ∙ rw (g.on.0, g.on.1, g.on.2)

pub name_of_two_gives : (opening closing : List ℕ) (id : ℕ) → NamesOfTwo opening closing id (name.two_bytes opening closing (name.name_of_two_at opening closing id))
name_of_two_gives opening closing id =
    record { lifetimes = ([], tt); arguments = (lent opening, (lent closing, (id, tt))); result = record { ref_ptr = name.place_of_two (0, 0) (0, 0) (name.name_of_two_at opening closing id); now = name.two_bytes opening closing (name.name_of_two_at opening closing id) }; exit = (lent opening, (lent closing, (id, tt))); on = (refl, refl, refl); post = (refl, refl); it = refl }

pub no_empty_name_of_two : NamesOfTwo M N 1 [] → ⊥
no_empty_name_of_two g = let e = ap first_byte (name_of_two_is M N 1 [] g ∙ ap (name.two_bytes M N) pairs.closing) in omega arith

pub no_constant_name_of_two : (x : List ℕ) → NamesOfTwo M N 1 x → NamesOfTwo M bare 1 x → ⊥
no_constant_name_of_two x g h =
    let e = ap first_byte (both (name_of_two_is M N 1 x g ∙ ap (name.two_bytes M N) pairs.closing) (name_of_two_is M bare 1 x h ∙ ap (name.two_bytes M bare) pairs.opening)) in
    omega arith

-- `mpeg::read`: the parameters of a text
pub parameters_is : (s : List ℕ) (x : Result AllParameters Refusal) → Parameters s x → x ≡ mpeg.read_of s
parameters_is s x g = sym g.it ∙ g.post ∙ rw g.on

pub parameters_gives : (s : List ℕ) → Parameters s (mpeg.read_of s)
parameters_gives s =
    record { lifetimes = ([], tt); arguments = (lent s, tt); result = mpeg.read_of s; exit = (lent s, tt); on = refl; post = refl; it = refl }

pub no_refusing_mpeg : (r : Refusal) → Parameters text (Err r) → ⊥
no_refusing_mpeg r g = let e = parameters_is text (Err r) g ∙ pairs.ipg_1 in let z : ◌≡◌ {A = ℕ} 0 1 = cc in omega arith

pub no_constant_mpeg : (x : Result AllParameters Refusal) → Parameters text x → Parameters other x → ⊥
no_constant_mpeg x g h = let e = ap ipg_of (both (parameters_is text x g ∙ pairs.ipg_1) (parameters_is other x h ∙ pairs.ipg_2)) in omega arith
