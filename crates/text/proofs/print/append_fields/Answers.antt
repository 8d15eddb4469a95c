-- Why `text::append_fields` stores numbers, each after a tab: what is left of the fields goes to the place reached.
-- Rests on no axiom.
use Prim.Native.Nat.{ℕ}
use mathlib.Core.Path.{refl, sym, ◌∙◌, ap}
use mathlib.Core.List.{List}
use native.Mathlib.Numerals.{add-one}
use native.Mathlib.Omega.{arith}
use lib.ListN.{length, length-set, drop_of_length-le}
use Rattle.lists.proofs.StoreLaws.{stored_none}
use Rattle.text.specs.Line.{fields_of}
use Rattle.text.proofs.LineLaws.{fields_length_next, fields_stored_next}
use Rattle.text.proofs.print.append_fields.Goals as goal

pub loop-number-init : goal.loop-number-init
loop-number-init c = (refl, refl, refl)

pub bounds-out-end : goal.bounds-out-end
bounds-out-end c = omega (arith, fields_length_next _ _ c.loop-number-test.true)

pub overflow_add-end : goal.overflow_add-end
overflow_add-end c = omega (arith, fields_length_next _ _ c.loop-number-test.true)

pub append_decimal-end-requires : goal.append_decimal-end-requires
append_decimal-end-requires c = simp length-set (omega (arith, fields_length_next _ _ c.loop-number-test.true))

pub loop-number-preserved : goal.loop-number-preserved
loop-number-preserved c =
    let call = c.append_decimal-end in (
      call.auto.out ∙ simp length-set c.loop-number.invariant.0,
      rw add-one (omega (arith, fields_length_next _ _ c.loop-number-test.true)),
      rw (add-one, call.ensures.out_after, call.ensures.value) (cc (fields_stored_next _ _ c.loop-number-test.true _ _)),
    )

pub shape_of-out : goal.shape_of-out
shape_of-out c = c.loop-number.invariant.0

pub returns : goal.returns
unfolding fields_of
returns c =
    let all = drop_of_length-le c.args.numbers.now c.loop-number-test.false in
    record {
      value = omega (arith, ap (λ (l : List ℕ). length (fields_of l)) all);
      out_after = sym (stored_none _ _) ∙ rw all at c.loop-number.invariant.2;
    }
