-- Why `sets::index::sector_end` answers `end_rule`: it makes the same three tests in the same order. Rests on no
-- axiom.
use borrow.Author.Tests.{lt-ltb, le-ltb}
use Rattle.sets.specs.machine.Index.{end_rule}
use Rattle.sets.proofs.index.sector_end.Goals as goal

pub returns-then-left-lt3 : goal.returns-then-left-lt3
unfolding end_rule
returns-then-left-lt3 c = rw (lt-ltb _ _ c.if-left-lt3.true)

pub returns-then-code-gt3 : goal.returns-then-code-gt3
unfolding end_rule
returns-then-code-gt3 c = rw (le-ltb _ _ c.if-left-lt3.false, lt-ltb 3 _ c.if-code-gt3.true)

pub returns-then-left-size : goal.returns-then-left-size
unfolding end_rule
returns-then-left-size c =
    let size = c.sector_size-size.ensures in
    rw (
      le-ltb _ _ c.if-left-lt3.false,
      le-ltb _ _ c.if-code-gt3.false,
      lt-ltb _ _ (rw size at c.if-left-size.true),
    )

pub returns : goal.returns
unfolding end_rule
returns c =
    let size = c.sector_size-size.ensures in
    rw (
      size,
      le-ltb _ _ c.if-left-lt3.false,
      le-ltb _ _ c.if-code-gt3.false,
      le-ltb _ _ (rw size at c.if-left-size.false),
    )
