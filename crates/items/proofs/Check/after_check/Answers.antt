-- `Check::after_check` need not compute: a register's own two bytes leave 0, whatever it was.
use mathlib.Core.Path.{sym}
use native.Mathlib.Omega.{arith}
use Rattle.items.proofs.CheckLaws.{after_check_is_zero}
use Rattle.items.proofs.Check.after_check.Goals as goal

pub returns : goal.returns
returns c = sym (after_check_is_zero c.args.self (omega arith))
