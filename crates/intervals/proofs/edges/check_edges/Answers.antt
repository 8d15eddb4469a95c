-- Why `edges::check_edges` answers `edge_rule`: a whole list is classed from its start. Rests on no axiom.
use Rattle.std.proofs.Common.{arith}
use Rattle.timing.proofs.ClassLaws.{classes_from_start}
use Rattle.timing.proofs.EdgeLaws.{accepted_ascends}
use Rattle.intervals.specs.Cells.{edge_rule}
use Rattle.intervals.proofs.edges.check_edges.Goals as goal

pub check_edges_from-requires : goal.check_edges_from-requires
check_edges_from-requires c =
    record {
      ascending = rw c.start.ensures (accepted_ascends _ c.requires.p_value);
      intervals_bound = omega (arith, c.requires.intervals_len_bound);
    }

pub returns : goal.returns
unfolding edge_rule
returns c = rw (classes_from_start, ← c.start.ensures) c.check_edges_from.ensures
