-- Why `Cursor::behind` is `behind`: one field is set anew. Rests on no axiom.
use Rattle.timing.specs.Class.{behind}
use Rattle.timing.proofs.cursor.Cursor.behind.Goals.{then-two, else-two}
use Rattle.timing.proofs.cursor.Cursor.behind.Goals as goal

pub returns : goal.returns
unfolding behind
returns c =
    elim c.if-two.branch [
      | then-two w ↦ rw (w.next-is, w.if-two.true)
      | else-two w ↦ rw (w.next-is, w.if-two.false)
    ]
