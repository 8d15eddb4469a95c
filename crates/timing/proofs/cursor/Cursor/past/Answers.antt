-- Why `Cursor::past` is `cursor_past`: an interval from Min up and below B23 is of class 2, and no other. Rests on no
-- axiom.
use Rattle.std.proofs.Common.{ap, ◌∙◌}
use Rattle.timing.specs.Class.{behind, cursor_past}
use Rattle.timing.proofs.EdgeLaws.{two_by_edges}
use Rattle.timing.proofs.cursor.Cursor.past.Goals as goal

pub returns : goal.returns
unfolding cursor_past
returns c =
    let args = c.args in
    c.behind.ensures ∙ ap (behind args.self) (two_by_edges args.self args.interval)
