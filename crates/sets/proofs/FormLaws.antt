-- Why reading and printing a set undo each other: both go sector by sector, and a sector's length code tells where it
-- ends. Rests on no axiom.
use Prim.Native.Nat.{ℕ, zero, suc, ◌≤◌}
use mathlib.Core.Path.{◌≡◌, refl, ap, ◌∙◌}
use mathlib.Core.Bool.{Bool, true, false, cond, not, ◌||◌, true≢false}
use mathlib.Core.List.{List, [], ◌∷◌, ◌++◌}
use mathlib.Core.Option.{Option, none, some}
use native.Mathlib.Omega.{arith}
use borrow.Author.Tests.{leb-true, eqb-true, eqb-false, ltb-false, le-ltb, le-leb, eq-eqb}
use lib.Dec.{eqb, ltb, leb}
use lib.ListN.{length, take, drop, length-append, take-append-drop}
use lib.Seq.{take_at, drop_at, length-take-le}
use Rattle.lists.specs.Place.{everywhere}
use Rattle.lists.proofs.BoolLaws.{both}
use Rattle.lists.proofs.PlaceLaws.{everywhere_of_none, everywhere_of_passing, everywhere_passes_at_first}
use Rattle.lists.proofs.PlaceLaws.{everywhere_in_rest}
use Rattle.sectors.specs.Sector.{sector_size}
use Rattle.sets.specs.Set.{Sector, as_byte, sector_bytes, set_bytes, sector_of, with_first, set_within, set_of, is_none}
use Rattle.sets.specs.Set.{or_empty, is_misfit_set, sectors_in}
use Rattle.sets.specs.Claims.{is_sector, Restates, end, same, yes, SetsAsBytes}
use Rattle.sets.proofs.SetLaws.{set_of_none, set_of_sector}

-- ---- printed, then read

yes_or_no : (b : Bool) → not (eqb (as_byte b) 0) ≡ b
yes_or_no true = refl
yes_or_no false = refl

pub print_then_read : (ss : List Sector) → everywhere is_sector ss ≡ true → set_of (set_bytes ss) ≡ some ss
unfolding set_bytes sector_bytes sector_of is_sector
print_then_read [] e = set_of_none
print_then_read (s ∷ ss) e =
    let fits =
    both (leb s.code 3) (eqb (length s.bytes) (sector_size s.code))
    (everywhere_passes_at_first is_sector s ss e) in
    let size : length s.bytes ≡ sector_size s.code = eqb-true _ _ fits.1 in
    let rest = set_bytes ss in
    let room : sector_size s.code ≤ length (s.bytes ++ rest) = rw (length-append s.bytes rest) (omega arith) in
    rw (
      set_of_sector,
      le-ltb 3 s.code (leb-true _ _ fits.0),
      le-ltb (length (s.bytes ++ rest)) (sector_size s.code) room,
      yes_or_no s.holds,
      take_at s.bytes rest (sector_size s.code) size,
      drop_at s.bytes rest (sector_size s.code) size,
      print_then_read ss (everywhere_in_rest is_sector s ss e),
    )

-- ---- read, then printed

restates_after : (bs : List ℕ) {new old : List ℕ} → Restates new old → Restates (bs ++ new) (bs ++ old)
restates_after [] r = r
restates_after (b ∷ bs) r = same (restates_after bs r)

sum_restates
    : (sum : ℕ) {new old : List ℕ} → Restates new old → Restates (as_byte (not (eqb sum 0)) ∷ new) (sum ∷ old)
sum_restates sum {new} {old} r = by (eqb sum 0) refl
  where
    by : (t : Bool) → eqb sum 0 ≡ t → Restates (as_byte (not t) ∷ new) (sum ∷ old)
    by true e = rw (eqb-true sum 0 e) (same r)
    by false e = yes (eqb-false sum 0 e) r

sector_restates
    : (a b s : ℕ) (rest : List ℕ) (ss : List Sector)
    → Restates (set_bytes ss) (drop (sector_size b) rest)
    → Restates (set_bytes (sector_of a b s rest ∷ ss)) (a ∷ b ∷ s ∷ rest)
unfolding set_bytes sector_bytes sector_of
sector_restates a b s rest ss r =
    same (same (sum_restates s
    (rw (take-append-drop (sector_size b) rest) at (restates_after (take (sector_size b) rest) r))))

module _
    (P : List Sector → List ℕ → Type 0) (at_end : P [] []) (at_sector
    : (a b s : ℕ) (rest : List ℕ) (ss : List Sector)
    → b ≤ 3
    → sector_size b ≤ length rest
    → P ss (drop (sector_size b) rest)
    → P (sector_of a b s rest ∷ ss) (a ∷ b ∷ s ∷ rest))
  where
    -- what holds of nothing, and of a sector more, holds of every set that was read
    read_within : (n : ℕ) (bs : List ℕ) → is_none (set_within n bs) ≡ false → P (or_empty (set_within n bs)) bs
    unfolding set_within
    read_within zero [] e = at_end
    read_within zero (b ∷ bs) e = absurd (true≢false e)
    read_within (suc n) [] e = at_end
    read_within (suc n) (a ∷ []) e = absurd (true≢false e)
    read_within (suc n) (a ∷ b ∷ []) e = absurd (true≢false e)
    read_within (suc n) (a ∷ b ∷ s ∷ rest) e =
        by (ltb 3 b) (ltb (length rest) (sector_size b)) (set_within n (drop (sector_size b) rest)) refl refl
        (read_within n (drop (sector_size b) rest)) e
      where
        by
            : (t u : Bool) (o : Option (List Sector))
            → ltb 3 b ≡ t
            → ltb (length rest) (sector_size b) ≡ u
            → (is_none o ≡ false → P (or_empty o) (drop (sector_size b) rest))
            → is_none (cond (t || u) none (with_first (sector_of a b s rest) o)) ≡ false
            → P (or_empty (cond (t || u) none (with_first (sector_of a b s rest) o))) (a ∷ b ∷ s ∷ rest)
        by true u o f g r h = absurd (true≢false h)
        by false true o f g r h = absurd (true≢false h)
        by false false none f g r h = absurd (true≢false h)
        by false false (some ss) f g r h = at_sector a b s rest ss (ltb-false _ _ f) (ltb-false _ _ g) (r refl)

    pub read_holds : (bs : List ℕ) (ss : List Sector) → set_of bs ≡ some ss → P ss bs
    unfolding set_of
    read_holds bs ss e = rw (ap or_empty e) at (read_within (length bs) bs (ap is_none e))

-- the sectors of a set that was read
some_of_it : (o : Option (List Sector)) → is_none o ≡ false → o ≡ some (or_empty o)
some_of_it none e = absurd (true≢false e)
some_of_it (some ss) e = refl

pub fits_is_some : (bs : List ℕ) → is_misfit_set bs ≡ false → set_of bs ≡ some (sectors_in bs)
unfolding is_misfit_set sectors_in
fits_is_some bs e = some_of_it (set_of bs) e

pub sectors_of_set
    : (bs : List ℕ) (ss : List Sector) → set_of bs ≡ some ss → (is_misfit_set bs ≡ false) × (sectors_in bs ≡ ss)
unfolding is_misfit_set sectors_in
sectors_of_set bs ss e = (ap is_none e, ap or_empty e)

-- a sector more at the front
pub bytes_of_first : (s : Sector) (ss : List Sector) → set_bytes (s ∷ ss) ≡ sector_bytes s ++ set_bytes ss
unfolding set_bytes
bytes_of_first s ss = refl

read_is_a_sector
    : (a b s : ℕ) (rest : List ℕ) → b ≤ 3 → sector_size b ≤ length rest → is_sector (sector_of a b s rest) ≡ true
unfolding is_sector sector_of
read_is_a_sector a b s rest h k = rw (le-leb b 3 h, eq-eqb _ _ (length-take-le (sector_size b) rest k))

pub sets_as_bytes : SetsAsBytes
unfolding set_bytes
sets_as_bytes =
    record {
      print_then_read = print_then_read;
      read_then_print =
          read_holds (λ ss bs. Restates (set_bytes ss) bs) end
          (λ a b s rest ss h k r. sector_restates a b s rest ss r);
      read_is_sectors =
          read_holds (λ ss bs. everywhere is_sector ss ≡ true) (everywhere_of_none is_sector) (λ a b s rest ss h k r.
          everywhere_of_passing is_sector (sector_of a b s rest) ss (read_is_a_sector a b s rest h k) ∙ r);
    }
