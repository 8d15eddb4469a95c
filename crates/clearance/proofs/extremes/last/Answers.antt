-- Why `extremes::last` is `last_of`: it makes the definition's test. Rests on no axiom.
use Rattle.std.proofs.Common.{◌<◌, ◌≤◌, le-ltb, lt-ltb}
use Rattle.clearance.specs.machine.Nearest.{turned, last_of}
use Rattle.clearance.proofs.extremes.last.Goals as goal

pub returns-then-turned : goal.returns-then-turned
unfolding last_of
returns-then-turned c =
    let args = c.args in
    let less : turned args.a < turned args.b =
    rw (← c.turned.ensures, ← c.turned-2.ensures) c.if-turned.true in
    rw (lt-ltb _ _ less)

pub returns : goal.returns
unfolding last_of
returns c =
    let args = c.args in
    let no_less : turned args.b ≤ turned args.a =
    rw (← c.turned.ensures, ← c.turned-2.ensures) c.if-turned.false in
    rw (le-ltb _ _ no_less)
