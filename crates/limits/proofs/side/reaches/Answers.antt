-- Why `side::reaches` answers `reaches`: the sums are made in 32 bits, so nothing wraps. Rests on no axiom.
use Rattle.limits.proofs.side.reaches.Goals as goal

pub returns-then-above : goal.returns-then-above
returns-then-above c = rw c.if-above.true

pub returns : goal.returns
returns c = rw c.if-above.false
