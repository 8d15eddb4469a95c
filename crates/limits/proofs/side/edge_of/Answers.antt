-- Why `side::edge_of` answers `edge_of`: both go by the edge, and the pair is the one after the kind. Rests on no axiom.
use Rattle.limits.proofs.side.edge_of.Goals as goal

pub returns-in-B23 : goal.returns-in-B23
returns-in-B23 c = rw (c.in-B23.is, c.bounds-pair.ensures)

pub returns-in-B34 : goal.returns-in-B34
returns-in-B34 c = rw (c.in-B34.is, c.bounds-pair.ensures)
