-- `register::feed_two` is the formula for two bytes, and that is both bytes' bit steps. Rests on no axiom.
use native.Mathlib.Omega.{arith}
use Rattle.register.proofs.FormulaLaws.{two_byte_formula_is_fed_twice}
use Rattle.register.proofs.feed_two.Goals as goal

pub returns : goal.returns
returns c =
    two_byte_formula_is_fed_twice c.args.register c.args.high c.args.low (omega arith) c.requires.0
    c.requires.1
