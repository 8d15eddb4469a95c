-- `register::feed` is the formula, and the formula is the eight bit steps. Rests on no axiom.
use native.Mathlib.Omega.{arith}
use lib.Bits.{and_mask}
use Rattle.register.proofs.FormulaLaws.{formula_is_fed}
use Rattle.register.proofs.feed.Goals as goal

pub returns : goal.returns
returns c = rw (and_mask c.args.byte 8) (formula_is_fed _ _ (omega arith) (omega arith))
