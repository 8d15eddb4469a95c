-- Why `merge::check_numbers` answers `numbers_rule`: the indexes count the different numbers, and the lowest number at
-- odds is below 256 where there is one. Rests on no axiom.
use mathlib.Core.Path.{refl}
use native.Mathlib.Omega.{arith}
use borrow.Author.Tests.{le-ltb, lt-ltb}
use Rattle.merge.proofs.RuleLaws.{numbers_decide}
use Rattle.merge.proofs.check_numbers.Goals as goal

pub returns-then-count-gt32 : goal.returns-then-count-gt32
returns-then-count-gt32 c =
    let pre = c.requires in
    rw (lt-ltb 32 c.count_numbers-count.result (omega (arith, c.if-count-gt32.true))) at
    (numbers_decide _ _ _ _ _ _ pre.one pre.other c.count_numbers-count.ensures refl)

pub returns-in-Some : goal.returns-in-Some
returns-in-Some c =
    let pre = c.requires in
    let odds = c.in-Some.ensures in
    rw (le-ltb 32 c.count_numbers-count.result (omega (arith, c.if-count-gt32.false)), lt-ltb _ _ odds.number) at
    (numbers_decide _ _ _ _ _ _ pre.one pre.other c.count_numbers-count.ensures odds.lowest)

pub returns : goal.returns
returns c =
    let pre = c.requires in
    rw (le-ltb 32 c.count_numbers-count.result (omega (arith, c.if-count-gt32.false))) at
    (numbers_decide _ _ _ _ _ 256 pre.one pre.other c.count_numbers-count.ensures c.in_default.ensures.lowest)
