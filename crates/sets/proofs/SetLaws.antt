-- Laws of a set as bytes: how one sector and what follows it parse, on lists and at a place of a list. Rests on no
-- axiom.
use Prim.Native.Nat.{ℕ, zero, suc, ◌+◌, ◌-◌, ◌≤◌, ◌<◌}
use mathlib.Core.Path.{◌≡◌, refl}
use mathlib.Core.Bool.{cond, ◌||◌}
use mathlib.Core.List.{List, [], ◌∷◌}
use mathlib.Core.Option.{none, some}
use native.Mathlib.Omega.{arith}
use lib.Dec.{ltb}
use lib.ListN.{length, drop, get_or, length-drop}
use lib.Seq.{drop-cons, drop-drop}
use Rattle.sectors.specs.Sector.{sector_size}
use Rattle.sets.specs.Set.{sector_of, with_first, set_within, set_of}
use Rattle.sets.specs.machine.Index.{sector_at}

-- ---- on lists

-- how many sectors are allowed does not matter where there are as many as bytes
set_within_enough : (m n : ℕ) (bs : List ℕ) → length bs ≤ m → length bs ≤ n → set_within m bs ≡ set_within n bs
unfolding set_within
set_within_enough zero zero bs h k = refl
set_within_enough zero (suc n) [] h k = refl
set_within_enough zero (suc n) (b ∷ bs) h k = absurd (omega arith)
set_within_enough (suc m) zero [] h k = refl
set_within_enough (suc m) zero (b ∷ bs) h k = absurd (omega arith)
set_within_enough (suc m) (suc n) [] h k = refl
set_within_enough (suc m) (suc n) (a ∷ []) h k = refl
set_within_enough (suc m) (suc n) (a ∷ b ∷ []) h k = refl
set_within_enough (suc m) (suc n) (a ∷ b ∷ s ∷ rest) h k =
    let left : length (drop (sector_size b) rest) ≤ length rest = rw length-drop (omega arith) in
    rw (set_within_enough m n (drop (sector_size b) rest) (omega arith) (omega arith))

pub set_of_none : set_of [] ≡ some []
unfolding set_of set_within
set_of_none = refl

short_is_no_set : (bs : List ℕ) → 0 < length bs → length bs < 3 → set_of bs ≡ none
unfolding set_of set_within
short_is_no_set [] h k = absurd (omega arith)
short_is_no_set (a ∷ []) h k = refl
short_is_no_set (a ∷ b ∷ []) h k = refl
short_is_no_set (a ∷ b ∷ s ∷ rest) h k = absurd (omega arith)

-- three bytes or more: a misfit, or a sector and the set after it
pub set_of_sector
    : (number code sum : ℕ) (rest : List ℕ)
    → set_of (number ∷ code ∷ sum ∷ rest)
    ≡ cond (ltb 3 code || ltb (length rest) (sector_size code)) none
    (with_first (sector_of number code sum rest) (set_of (drop (sector_size code) rest)))
unfolding set_of set_within
set_of_sector number code sum rest =
    let left : length (drop (sector_size code) rest) ≤ length rest = rw length-drop (omega arith) in
    rw (set_within_enough
    (suc (suc (length rest))) (length (drop (sector_size code) rest)) (drop (sector_size code) rest) (omega arith)
    (omega arith))

-- ---- at a place of a list

module _ (set : List ℕ) (start : ℕ) where
  abbrev code : ℕ
  code = get_or set (start + 1) 0

  three_at
      : start + 3 ≤ length set
      → drop start set ≡ get_or set start 0 ∷ code ∷ get_or set (start + 2) 0 ∷ drop (start + 3) set
  three_at h =
      let one : start + 1 ≡ suc start = omega arith in
      let two : start + 2 ≡ suc (suc start) = omega arith in
      let three : start + 3 ≡ suc (suc (suc start)) = omega arith in
      rw (
        one,
        two,
        three,
        drop-cons set start 0 (omega arith),
        drop-cons set (suc start) 0 (omega arith),
        drop-cons set (suc (suc start)) 0 (omega arith),
      )

  sector_here
      : sector_of (get_or set start 0) code (get_or set (start + 2) 0) (drop (start + 3) set) ≡ sector_at set (start + 1)
  unfolding sector_at
  sector_here =
      let number : start + 1 - 1 ≡ start = omega arith in
      let sum : start + 1 + 1 ≡ start + 2 = omega arith in
      let data_at : start + 1 + 2 ≡ start + 3 = omega arith in
      rw (number, sum, data_at)

  -- what stands at the place, where there are three bytes
  pub set_from_place
      : start + 3 ≤ length set
      → set_of (drop start set)
      ≡ cond (ltb 3 code || ltb (length set - start - 3) (sector_size code)) none
      (with_first (sector_at set (start + 1)) (set_of (drop (start + 3 + sector_size code) set)))
  set_from_place h =
      let left : length (drop (start + 3) set) ≡ length set - start - 3 = rw length-drop (omega arith) in
      rw (three_at h, set_of_sector, left, sector_here, drop-drop (sector_size code) (start + 3) set)

  -- one or two bytes are no set
  pub short_end_is_no_set : start < length set → length set < start + 3 → set_of (drop start set) ≡ none
  short_end_is_no_set h k =
      short_is_no_set (drop start set) (rw length-drop (omega arith)) (rw length-drop (omega arith))
