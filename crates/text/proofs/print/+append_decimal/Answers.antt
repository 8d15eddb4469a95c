-- Why `text::append_decimal` stores the decimal: the last digit goes after those of the number without it, which is
-- less. Rests on no axiom.
use mathlib.Core.Path.{sym}
use native.Mathlib.Omega.{arith}
use Rattle.lists.proofs.StoreLaws.{stored_one, stored_one_more}
use Rattle.text.proofs.PrintLaws.{decimal_of_digit, decimal_of_more, decimal_length_of_digit}
use Rattle.text.proofs.PrintLaws.{decimal_length_of_more}
use Rattle.text.proofs.print.+append_decimal.Goals as goal

pub bounds-out-at : goal.bounds-out-at
bounds-out-at t c = omega (arith, decimal_length_of_digit _ c.if-n-lt10.true)

pub returns-then-n-lt10 : goal.returns-then-n-lt10
returns-then-n-lt10 t c = record {
  value = omega (arith, decimal_length_of_digit _ c.if-n-lt10.true);
  out_after = rw (decimal_of_digit _ c.if-n-lt10.true) (sym (stored_one _ _ _));
}

pub append_decimal-last-requires : goal.append_decimal-last-requires
append_decimal-last-requires t c = (omega arith, omega (arith, decimal_length_of_more _ c.if-n-lt10.false))

pub bounds-out-last : goal.bounds-out-last
bounds-out-last t c = omega (arith, decimal_length_of_more _ c.if-n-lt10.false)

pub overflow_add-result-2 : goal.overflow_add-result-2
overflow_add-result-2 t c = omega (arith, decimal_length_of_more _ c.if-n-lt10.false)

pub returns : goal.returns
returns t c =
    let call = c.append_decimal-last in
    record {
      value = omega (arith, decimal_length_of_more _ c.if-n-lt10.false);
      out_after = rw (call.ensures.out_after, decimal_of_more _ c.if-n-lt10.false) (stored_one_more _ _ _ _ _ call.ensures.value);
    }
