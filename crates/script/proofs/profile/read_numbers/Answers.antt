-- Why `script::read_numbers` stores the decimals of a line: those that are left fit the places left where all fit
-- all, and they come after those that are stored. Rests on no axiom.
use Prim.Native.Nat.{◌<◌}
use mathlib.Core.Path.{refl, sym, ◌∙◌}
use native.Mathlib.Omega.{arith}
use lib.ListN.{length, length-set}
use Rattle.text.proofs.DecimalLaws.{malformed_is_no_decimal, number_is_decimal}
use Rattle.script.proofs.FieldLaws.{field_ends_in_line, fields_next, fields_at_the_end}
use Rattle.script.proofs.NumberLaws.{fitting_without_place, fitting_at_malformed, fitting_after_number}
use Rattle.script.proofs.NumberLaws.{number_stored, no_numbers_read, all_numbers_read}
use Rattle.script.proofs.profile.read_numbers.Goals as goal

-- a place for the number is left
place_left : (c : goal.In-Some) → c.loop-at.k < length c.loop-at.numbers
place_left c = omega (arith, c.if-k-numbers.false, c.loop-at.invariant.1)

pub loop-at-init : goal.loop-at-init
loop-at-init c = (refl, omega arith, refl, refl)

pub returns-then-k-numbers : goal.returns-then-k-numbers
returns-then-k-numbers c =
    no_numbers_read (sym c.loop-at.invariant.2
    ∙ rw (fields_next _ _ _ c.loop-at-test.true refl)
    (fitting_without_place _ _ _ _ (omega (arith, c.loop-at.invariant.0, c.if-k-numbers.true))))

pub slice_bounds-parse_decimal-count : goal.slice_bounds-parse_decimal-count
slice_bounds-parse_decimal-count c = omega (arith, c.find-end.ensures)

pub slice_bounds-parse_decimal-start : goal.slice_bounds-parse_decimal-start
slice_bounds-parse_decimal-start c = omega (arith, c.find-end.ensures)

pub slice_bounds-parse_decimal-end : goal.slice_bounds-parse_decimal-end
slice_bounds-parse_decimal-end c = field_ends_in_line _ _ _ c.loop-at-test.true c.find-end.ensures

pub returns-in-None : goal.returns-in-None
returns-in-None c =
    no_numbers_read (sym c.loop-at.invariant.2
    ∙ rw (fields_next _ _ _ c.loop-at-test.true c.find-end.ensures) (fitting_at_malformed _ _ _ _
    (malformed_is_no_decimal _ (sym c.parse_decimal.ensures ∙ c.in-None.is))))

pub bounds-numbers-k : goal.bounds-numbers-k
bounds-numbers-k c = place_left c

pub loop-at-smaller : goal.loop-at-smaller
loop-at-smaller c = omega (arith, c.find-end.ensures, c.loop-at-test.true)

pub loop-at-preserved : goal.loop-at-preserved
loop-at-preserved c =
    let inv = c.loop-at.invariant in
    let next = fields_next _ _ _ c.loop-at-test.true c.find-end.ensures in
    let number =
    number_is_decimal _ _ (sym c.parse_decimal.ensures ∙ c.in-Some.is) in (
      simp length-set inv.0,
      simp length-set (omega (arith, place_left c)),
      sym (fitting_after_number _ _ _ _ number.0) ∙ (rw next at inv.2),
      number_stored _ _ _ _ _ (place_left c) number.1 ∙ (rw next at inv.3),
    )

pub returns : goal.returns
returns c =
    let none = fields_at_the_end c.args.line.now _ c.loop-at-test.false in
    all_numbers_read _ (rw none at c.loop-at.invariant.2) c.loop-at.invariant.0 (rw none at c.loop-at.invariant.3)
