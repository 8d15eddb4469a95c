-- Laws of the merged set's bytes: those of a sector that an entry names, and which copy is taken. Rests on no axiom.
use Prim.Native.Nat.{ℕ, ◌+◌, ◌≤◌}
use mathlib.Core.Path.{◌≡◌, refl}
use mathlib.Core.Bool.{Bool, true, false, cond, not, ◌&&◌}
use mathlib.Core.List.{List, [], ◌∷◌, ◌++◌, append-nil, append_assoc}
use native.Mathlib.Omega.{arith}
use Rattle.std.specs.Int.{from_bool}
use lib.Dec.{eqb}
use lib.ListN.{length, drop, get_or, length-take, length-drop}
use lib.Seq.{length-take-le}
use Rattle.sectors.specs.Sector.{sector_size}
use Rattle.sectors.proofs.SectorCounts.{size_at_most_1024}
use Rattle.sets.specs.Set.{Sector, as_byte, sector_of, sector_bytes, set_bytes}
use Rattle.sets.specs.Held.{Held, Nothing, One, Twice}
use Rattle.sets.specs.machine.Index.{sector_at, end_of, shown}
use Rattle.sets.proofs.ShownLaws.{zero_shows_nothing, place_shows_one}
use Rattle.merge.specs.Merge.{better, taken, as_list}
use Rattle.merge.specs.machine.Tests.{takes_second}

-- a number of 1 or 0 is a sum's byte
pub byte_of_bool : (holds : Bool) → from_bool holds ≡ as_byte holds
byte_of_bool true = refl
byte_of_bool false = refl

-- ---- bytes

bytes_of_one : (s : Sector) → set_bytes (as_list (One s)) ≡ sector_bytes s
unfolding set_bytes
bytes_of_one s = append-nil (sector_bytes s)

pub bytes_of-append : (ss ts : List Sector) → set_bytes (ss ++ ts) ≡ set_bytes ss ++ set_bytes ts
unfolding set_bytes
bytes_of-append [] ts = refl
bytes_of-append (s ∷ ss) ts = rw (bytes_of-append ss ts, append_assoc)

pub sector_bytes-length
    : (set : List ℕ) (code : ℕ)
    → end_of set code ≤ length set
    → length (sector_bytes (sector_at set code)) ≡ 3 + sector_size (get_or set code 0)
unfolding sector_bytes sector_at sector_of
sector_bytes-length set code h =
    let room : sector_size (get_or set code 0) ≤ length (drop (code + 2) set) = rw length-drop (omega arith) in
    rw (length-take-le (sector_size (get_or set code 0)) (drop (code + 2) set) room) (omega arith)

-- ---- the copy taken

pub taken_is_one_of_them : (x y : Held) → taken x y ≡ cond (takes_second x y) y x
unfolding taken takes_second better
taken_is_one_of_them Nothing y = refl
taken_is_one_of_them (One a) Nothing = refl
taken_is_one_of_them (One a) (One b) = by a.holds b.holds
  where
    by : (t u : Bool) → One (cond t a (cond u b a)) ≡ cond (not t && u) (One b) (One a)
    by true u = refl
    by false true = refl
    by false false = refl
taken_is_one_of_them (One a) Twice = refl
taken_is_one_of_them Twice y = refl

-- what holds of either holds of what is taken
pub taken_keeps : (P : Held → Type 0) (x y : Held) → P x → P y → P (taken x y)
taken_keeps P x y p q =
    rw (taken_is_one_of_them x y) (elim (takes_second x y) as (λ t. P (cond t y x)) [ true ↦ q | false ↦ p ])

-- ---- what an entry shows, as bytes

pub bytes_of_entry
    : (set : List ℕ) (entry : ℕ)
    → (entry ≡ 0 → ⊥)
    → (entry ≡ 65535 → ⊥)
    → set_bytes (as_list (shown set entry)) ≡ sector_bytes (sector_at set entry)
bytes_of_entry set entry n m =
    rw (place_shows_one set entry n m) (bytes_of_one (sector_at set entry))

pub bytes_of_no_entry : (set : List ℕ) (entry : ℕ) → entry ≡ 0 → set_bytes (as_list (shown set entry)) ≡ []
unfolding set_bytes
bytes_of_no_entry set entry e = rw (zero_shows_nothing set entry e)

-- ---- what one number takes is at most 1,027 bytes

abbrev Short : Held → Type 0
Short h = length (set_bytes (as_list h)) ≤ 1027

sector_is_short : (set : List ℕ) (code : ℕ) → length (sector_bytes (sector_at set code)) ≤ 1027
unfolding sector_bytes sector_at sector_of
sector_is_short set code =
    rw (length-take (sector_size (get_or set code 0)) (drop (code + 2) set))
    (omega (arith, size_at_most_1024 (get_or set code 0)))

shown_is_short : (set : List ℕ) (entry : ℕ) → Short (shown set entry)
unfolding shown set_bytes
shown_is_short set entry = by (eqb entry 0) (eqb entry 65535)
  where
    by : (t u : Bool) → Short (cond t Nothing (cond u Twice (One (sector_at set entry))))
    by true u = omega arith
    by false true = omega arith
    by false false = rw bytes_of_one (sector_is_short set entry)

pub taken_is_short
    : (first second : List ℕ) (a b : ℕ)
    → length (set_bytes (as_list (taken (shown first a) (shown second b)))) ≤ 1027
taken_is_short first second a b = taken_keeps Short _ _ (shown_is_short first a) (shown_is_short second b)
