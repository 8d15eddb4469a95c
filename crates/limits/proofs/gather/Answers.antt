-- Why `gather` answers `gathered`: it pushes the sides in their order. Rests on no axiom.
use Rattle.limits.specs.machine.Search.{gathered_from, gathered}
use Rattle.limits.proofs.gather.Goals as goal

pub returns : goal.returns
unfolding gathered gathered_from
returns c =
    rw (
      c.push.ensures,
      c.push_both-b34_long.ensures,
      c.push_both-b34_short.ensures,
      c.push_both-b23_long.ensures,
      c.push_both-b23_short.ensures,
      c.push-min.ensures,
    )
