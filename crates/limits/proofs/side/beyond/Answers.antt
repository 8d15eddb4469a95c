-- Why `side::beyond` answers `beyond`: above the edge it is one less, 0 at 0. Rests on no axiom.
use Rattle.limits.proofs.side.beyond.Goals as goal

pub returns-then-s : goal.returns-then-s
returns-then-s c = rw (c.saturating_sub.ensures, c.edge_of-there.ensures, c.if-s.true)

pub returns : goal.returns
returns c = rw (c.edge_of-there.ensures, c.if-s.false)
