-- `marks::after_part` answers for three marks what the definition computes, and otherwise what `after_run` does. Rests
-- on no axiom.
use Prim.Native.Nat.{ℕ, ◌+◌, ◌≤◌}
use mathlib.Core.List.{List}
use native.Mathlib.Omega.{arith}
use lib.ListN.{length}
use Rattle.items.proofs.CheckLaws.{after_three_marks_from}
use Rattle.items.proofs.marks.after_part.Goals as goal

pub returns-then-three_marks : goal.returns-then-three_marks
returns-then-three_marks c =
    let bytes : List ℕ = c.args.bytes.now in
    let inside : c.args.from + 3 ≤ length bytes = omega (arith, c.if-bytes-from-lt3.false, c.requires) in
    record {
      place = (omega arith, inside);
      state = after_three_marks_from c.args.start bytes c.args.from inside c.if-start.false
          (c.three_marks.ensures c.if-three_marks.true);
    }
