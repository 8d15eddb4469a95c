-- Why `Cursor::class_of` answers `class_in`: code and definition make the same tests in the same order, so the branch
-- that was taken is the case that holds. Rests on no axiom.
use Rattle.std.proofs.Common.{sym, arith}
use Rattle.timing.proofs.ClassLaws.{below_min_is_narrow, below_b23_is_two}
use Rattle.timing.proofs.ClassLaws.{below_b34_is_three, below_rpt_is_four, from_rpt_is_wide}
use Rattle.timing.proofs.cursor.Cursor.class_of.Goals as goal

pub returns-then-interval-self : goal.returns-then-interval-self
returns-then-interval-self c = sym (below_min_is_narrow _ _ (omega arith))

pub returns-then-interval-self-2 : goal.returns-then-interval-self-2
returns-then-interval-self-2 c = sym (below_b23_is_two _ _ (omega arith) (omega arith))

pub returns-then-interval-self-3 : goal.returns-then-interval-self-3
returns-then-interval-self-3 c = sym (below_b34_is_three _ _ (omega arith) (omega arith) (omega arith))

pub returns-then-interval-self-4 : goal.returns-then-interval-self-4
returns-then-interval-self-4 c = sym (below_rpt_is_four _ _ (omega arith) (omega arith) (omega arith) (omega arith))

pub returns : goal.returns
returns c = sym (from_rpt_is_wide _ _ (omega arith) (omega arith) (omega arith) (omega arith))
