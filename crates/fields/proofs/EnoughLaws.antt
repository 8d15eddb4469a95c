-- The intervals that a field uses are the least number that gives the wanted bits, and give one more at most; cells
-- that give too few are all used. By induction on the intervals that are used, and on the cells. Rests on no axiom.
use Prim.Native.Nat.{ℕ, zero, suc, ◌+◌, ◌-◌, ◌*◌, ◌≤◌, ◌<◌}
use mathlib.Core.Path.{◌≡◌, refl, sym, ap, ◌∙◌}
use mathlib.Core.Bool.{Bool, true, false}
use mathlib.Core.List.{List, [], ◌∷◌, ◌++◌, map}
use native.Mathlib.Omega.{arith}
use lib.ListN.{length, take, length-append}
use Rattle.refusal.specs.Answer.{Answer, accepted, refuse_if}
use Rattle.timing.specs.declared.Class.{Class}
use Rattle.symbols.specs.Bits.{Bit}
use Rattle.symbols.specs.Reading.{given, last_after, read_from}
use Rattle.symbols.specs.declared.Cell.{Cell}
use Rattle.symbols.proofs.CellLaws.{given_at_most_two}
use Rattle.symbols.proofs.UnitLaws.{given_at_least_one}
use Rattle.intervals.proofs.CellLaws.{class_of_cell, cell_is_read}
use Rattle.fields.specs.Field.{wanted_after, cells_taken, stop_from}
use Rattle.fields.proofs.TakenLaws.{taken_one_more, stop_one_more, by_taking}

-- ---- the bits of the intervals that are used

pub record Enough (cs : List Class) (want : ℕ) (b : Bit) (xs : List Cell) : Type 0 where
  pub most : length xs ≤ length cs
  pub one_over : length (read_from b xs) ≤ want + 1
  pub none_for_none : length (read_from b xs) ≤ 2 * want
  pub enough : (k : ℕ) → (stop_from cs k want b).number ≡ 0 → want ≤ length (read_from b xs)
  pub fewer : (j : ℕ) → j < length xs → length (read_from b (take j xs)) < want

pub used_give_enough : (cs : List Class) (want : ℕ) (b : Bit) → Enough cs want b (cells_taken cs want b)
unfolding read_from
used_give_enough =
    by_taking _ (λ cs want b none fair.
    rw none (record {
      most = omega arith;
      one_over = omega arith;
      none_for_none = omega arith;
      enough = λ k e. omega (arith, fair k e);
      fewer = λ j h. absurd (omega arith);
    }))
    (λ c x read cs want b rest.
    let some = given_at_least_one b x in
    let few = given_at_most_two b x in
    let xs : List Cell = cells_taken cs (wanted_after (suc want) b x) (last_after b x) in
    let all = length-append (given b x) (read_from (last_after b x) xs) in
    rw (taken_one_more read cs want b) (record {
      most = omega (arith, rest.most);
      one_over = omega arith;
      none_for_none = omega arith;
      enough = λ k e. omega (arith, rest.enough (suc k) (rw (stop_one_more read cs want b k) at e));
      fewer = one_more b x want xs rest.fewer;
    }))
  where
    one_more
        : (b : Bit) (x : Cell) (want : ℕ) (xs : List Cell)
        → ((j : ℕ) → j < length xs → length (read_from (last_after b x) (take j xs)) < wanted_after (suc want) b x)
        → (i : ℕ)
        → i < length (x ∷ xs)
        → length (read_from b (take i (x ∷ xs))) < suc want
    one_more b x want xs fewer zero h = omega arith
    one_more b x want xs fewer (suc i) h =
        omega (arith, fewer i (omega arith), length-append (given b x) (read_from (last_after b x) (take i xs)))

-- ---- cells: those that are used, and the rest

-- cells as classes
abbrev pub classes_of_cells : List Cell → List Class
classes_of_cells xs = map class_of_cell xs

-- bits are wanted still
abbrev pub wanting : ℕ → Bool
wanting zero = false
wanting (suc want) = true

-- 11, short, where they are
abbrev pub short_by : ℕ → Answer
short_by want = refuse_if (wanting want) 11 0 (accepted 0)

pub record OfCells (xs : List Cell) (k want : ℕ) (b : Bit) (taken : List Cell) : Type 0 where
  pub rest : List Cell
  pub split : taken ++ rest ≡ xs
  pub stop : stop_from (classes_of_cells xs) k want b ≡ short_by (want - length (read_from b taken))
  pub same : short_by (want - length (read_from b taken)) ≡ short_by (want - length (read_from b xs))

pub used_of_cells
    : (xs : List Cell) (k want : ℕ) (b : Bit) → OfCells xs k want b (cells_taken (classes_of_cells xs) want b)
unfolding read_from cells_taken stop_from
used_of_cells [] k zero b = record { rest = []; split = refl; stop = refl; same = refl }
used_of_cells [] k (suc want) b =
    let all : suc want ≡ suc want - 0 = omega arith in
    record { rest = []; split = refl; stop = ap short_by all; same = refl }
used_of_cells (x ∷ xs) k zero b =
    let none : 0 - length (read_from b (x ∷ xs)) ≡ 0 = omega arith in
    record { rest = x ∷ xs; split = refl; stop = refl; same = sym (ap short_by none) }
used_of_cells (x ∷ xs) k (suc want) b =
    let cs = classes_of_cells xs in
    let more = used_of_cells xs (suc k) (wanted_after (suc want) b x) (last_after b x) in
    let taken = cells_taken cs (wanted_after (suc want) b x) (last_after b x) in
    rw (taken_one_more (cell_is_read x) cs want b) (record {
      rest = more.rest;
      split = ap (λ (ys : List Cell). x ∷ ys) more.split;
      stop = stop_one_more (cell_is_read x) cs want b k ∙ more.stop ∙ ap short_by (left taken);
      same = sym (ap short_by (left taken)) ∙ more.same ∙ ap short_by (left xs);
    })
  where
    left
        : (ys : List Cell)
        → wanted_after (suc want) b x - length (read_from (last_after b x) ys) ≡ suc want - length (read_from b (x ∷ ys))
    left ys = omega (arith, length-append (given b x) (read_from (last_after b x) ys))
