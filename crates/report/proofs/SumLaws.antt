-- What the loops over the rows of a sum keep: a row that does not fit is found where it stands, and each turn adds the
-- next row. Rests on no axiom.
use Prim.Native.Nat.{ℕ, zero, suc, ◌+◌, ◌<◌, ◌≤◌}
use mathlib.Core.Path.{◌≡◌, refl, sym, ◌∙◌}
use mathlib.Core.Bool.{true, false}
use mathlib.Core.List.{[], ◌++◌}
use native.Mathlib.Numerals.{add-one}
use native.Mathlib.Omega.{arith}
use borrow.Author.Tests.{eq-eqb}
use lib.ListN.{length, set, take, drop, drop_of_length-le}
use lib.Seq.{drop-cons, take-suc, append_snoc, set_at, length-take-le}
use Rattle.lists.specs.Place.{anywhere}
use Rattle.lists.proofs.PlaceLaws.{anywhere_of_failing, lowest_of_none, below_lowest_fails}
use Rattle.refusal.proofs.AnswerLaws.{refuse_if_accepts}
use Rattle.report.specs.Row.{add_row, is_overlarge}
use Rattle.report.specs.Report.{Report, row_at, add_reports, add_rule, added, no_report}

pub row_of_sum : (a b : Report) (k : ℕ) → k < 5 → add_row (row_at a k) (row_at b k) ≡ row_at (add_reports a b) k
unfolding add_reports
row_of_sum a b zero h = refl
row_of_sum a b (suc zero) h = refl
row_of_sum a b (suc (suc zero)) h = refl
row_of_sum a b (suc (suc (suc zero))) h = refl
row_of_sum a b (suc (suc (suc (suc zero)))) h = refl
row_of_sum a b (suc (suc (suc (suc (suc k))))) h = absurd (omega arith)

module _ (a b : Report) where
  abbrev rows : Report
  rows = add_reports a b

  rows_of_sum : length rows ≡ 5
  unfolding add_reports
  rows_of_sum = refl

  -- ---- whether a row does not fit

  module _ (k : ℕ) (h : k < 5) where
    inside : k < length rows
    inside = rw rows_of_sum h

    pub overflows_here
        : is_overlarge (add_row (row_at a k) (row_at b k)) ≡ true → anywhere is_overlarge (drop k rows) ≡ true
    unfolding anywhere
    overflows_here e = rw (drop-cons rows k [] inside, sym (row_of_sum a b k h), e)

    pub fits_here
        : is_overlarge (add_row (row_at a k) (row_at b k)) ≡ false
        → anywhere is_overlarge (drop (k + 1) rows) ≡ anywhere is_overlarge (drop k rows)
    fits_here e =
        rw (add-one k, drop-cons rows k [] inside) (sym (anywhere_of_failing is_overlarge _ _ (cc (row_of_sum a b k h))))

    -- where the sum is accepted, each of its rows fits
    pub row_of_sum_fits : (add_rule a b).number ≡ 0 → is_overlarge (add_row (row_at a k) (row_at b k)) ≡ false
    unfolding add_rule
    row_of_sum_fits e =
        let nowhere = (refuse_if_accepts _ 3 0 _ e).0 in
        let none = lowest_of_none is_overlarge rows nowhere in
        let count = rows_of_sum in
        cc (row_of_sum a b k h, below_lowest_fails is_overlarge rows [] k (omega arith))

    -- ---- the rows so far

    pub next_row
        : set (take k rows ++ drop k no_report) k (add_row (row_at a k) (row_at b k))
        ≡ take (k + 1) rows ++ drop (k + 1) no_report
    next_row =
        rw (row_of_sum a b k h, add-one k, drop-cons no_report k [] h, take-suc rows k [] inside)
        (set_at (take k rows) _ _ _ k (length-take-le k rows (omega (arith, inside)))
        ∙ sym (append_snoc (take k rows) (row_at rows k) (drop (suc k) no_report)))

  pub fits_at_end : (k : ℕ) → 5 ≤ k → anywhere is_overlarge (drop k rows) ≡ false
  unfolding anywhere
  fits_at_end k h = rw (drop_of_length-le rows {i = k} (rw rows_of_sum h))

  pub rows_at_end : (k : ℕ) → k ≡ 5 → take k rows ++ drop k no_report ≡ rows
  unfolding add_reports
  rows_at_end k e = rw e

  -- ---- a sum whose rows fit

  pub sum_is_accepted
      : ((k : ℕ) → k < 5 → is_overlarge (add_row (row_at a k) (row_at b k)) ≡ false) → (add_rule a b).number ≡ 0
  unfolding add_rule add_reports anywhere
  sum_is_accepted fits =
      rw (fits 0 (omega arith), fits 1 (omega arith), fits 2 (omega arith), fits 3 (omega arith), fits 4 (omega arith))

  pub added_if_accepted : (add_rule a b).number ≡ 0 → added a b ≡ rows
  unfolding added
  added_if_accepted e = rw (eq-eqb _ 0 e)
