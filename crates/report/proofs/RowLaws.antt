-- The row of two lists joined is their rows added: counts and sums add, and least and greatest are taken over both; of
-- an empty list nothing comes in. Rests on no axiom.
use Prim.Native.Nat.{ℕ, ◌+◌, ◌≤◌, min, max}
use mathlib.Core.Path.{◌≡◌, refl, sym, ◌∙◌}
use mathlib.Core.Bool.{true, false}
use mathlib.Core.List.{List, [], ◌∷◌, ◌++◌, append-nil}
use mathlib.Mathlib.Data.Bool.Basic.{or-eq-false-eq-eq-false-and-eq-false}
use native.Mathlib.Nat.{add-zero, max-zero}
use native.Mathlib.Omega.{arith}
use borrow.Author.Tests.{eqb-true, eqb-false, eq-eqb, ne_eqb, ltb-false, le-ltb}
use lib.Dec.{eqb}
use lib.ListN.{length-append}
use Rattle.lists.specs.Sum.{sum_of}
use Rattle.lists.specs.Span.{least, greatest}
use Rattle.lists.proofs.SumLaws.{sum_of-append}
use Rattle.lists.proofs.SpanLaws.{least-append, greatest-append}
use Rattle.report.specs.Row.{Row, count_in, least_in, greatest_in, sum_in, row_of, no_row}
use Rattle.report.specs.Row.{add_row, largest, is_overlarge}

-- a row is empty or not
pub by_count : {P : Type 0} (row : Row) → (count_in row ≡ 0 → P) → ((count_in row ≡ 0 → ⊥) → P) → P
by_count {P} row empty other =
    (elim (eqb (count_in row) 0) as (λ t. eqb (count_in row) 0 ≡ t → P)
    [ true ↦ λ e. empty (eqb-true _ _ e) | false ↦ λ e. other (eqb-false _ _ e) ]) refl

-- ---- two rows added, by which of them are empty

module _ (a b : Row) where
  pub two_empty_rows : count_in a ≡ 0 → count_in b ≡ 0 → add_row a b ≡ no_row
  unfolding add_row
  two_empty_rows e f = rw (eq-eqb (count_in a) 0 e, eq-eqb (count_in b) 0 f)

  pub first_row_is_empty : count_in a ≡ 0 → (count_in b ≡ 0 → ⊥) → add_row a b ≡ b
  unfolding add_row
  first_row_is_empty e f = rw (eq-eqb (count_in a) 0 e, ne_eqb (count_in b) 0 f)

  pub second_row_is_empty : (count_in a ≡ 0 → ⊥) → count_in b ≡ 0 → add_row a b ≡ a
  unfolding add_row
  second_row_is_empty e f = rw (ne_eqb (count_in a) 0 e, eq-eqb (count_in b) 0 f)

  -- counts and sums added, the lesser and the greater
  abbrev pub both_added : Row
  both_added =
      (count_in a + count_in b)
      ∷ min (least_in a) (least_in b)
      ∷ max (greatest_in a) (greatest_in b)
      ∷ (sum_in a + sum_in b)
      ∷ []

  pub no_row_is_empty : (count_in a ≡ 0 → ⊥) → (count_in b ≡ 0 → ⊥) → add_row a b ≡ both_added
  unfolding add_row
  no_row_is_empty e f = rw (ne_eqb (count_in a) 0 e, ne_eqb (count_in b) 0 f)

-- ---- the rows of lists

pub row_of_none : row_of [] ≡ no_row
unfolding row_of least greatest sum_of
row_of_none = refl

pub row_of_one : (d : ℕ) → row_of (d ∷ []) ≡ (1 ∷ d ∷ d ∷ d ∷ [])
unfolding row_of least greatest sum_of
row_of_one d = rw (max-zero d, add-zero d)

pub row_of-append : (ds es : List ℕ) → row_of (ds ++ es) ≡ add_row (row_of ds) (row_of es)
unfolding row_of
row_of-append [] [] = row_of_none ∙ sym (two_empty_rows (row_of []) (row_of []) refl refl)
row_of-append [] (e ∷ es) = sym (first_row_is_empty (row_of []) (row_of (e ∷ es)) refl (λ h. omega arith))
row_of-append (d ∷ ds) [] =
    cc (append-nil (d ∷ ds), second_row_is_empty (row_of (d ∷ ds)) (row_of []) (λ h. omega arith) refl)
row_of-append (d ∷ ds) (e ∷ es) =
    rw (length-append, least-append, greatest-append, sum_of-append)
    (sym (no_row_is_empty (row_of (d ∷ ds)) (row_of (e ∷ es)) (λ h. omega arith) (λ h. omega arith)))

-- ---- rows that do not fit

pub row_fits : (row : Row) → count_in row ≤ largest → sum_in row ≤ largest → is_overlarge row ≡ false
unfolding is_overlarge
row_fits row count sum = rw (le-ltb, le-ltb)

pub fitting_row : (row : Row) → is_overlarge row ≡ false → (count_in row ≤ largest) × (sum_in row ≤ largest)
unfolding is_overlarge
fitting_row row fits =
    let both = (or-eq-false-eq-eq-false-and-eq-false _ _).0 fits in
    (ltb-false largest (count_in row) both.0, ltb-false largest (sum_in row) both.1)

pub fits_if_first_is_empty
    : (a b : Row) → count_in a ≡ 0 → count_in b ≤ largest → sum_in b ≤ largest → is_overlarge (add_row a b) ≡ false
fits_if_first_is_empty a b e count sum =
    by_count b (λ f. cc (two_empty_rows a b e f, row_fits no_row (omega arith) (omega arith)))
    (λ f. cc (first_row_is_empty a b e f, row_fits b count sum))
