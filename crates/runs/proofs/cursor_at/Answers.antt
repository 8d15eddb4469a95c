-- Why `runs::cursor_at` stands where the classing does: from a sure place on it goes as the whole list's does.
-- Rests on no axiom.
use mathlib.Core.Path.{◌≡◌}
use mathlib.Core.Bool.{true, false}
use native.Mathlib.Omega.{arith}
use Rattle.timing.proofs.EdgeLaws.{either_ascends}
use Rattle.runs.proofs.RunLaws.{known_if_sure, known_after}
use Rattle.runs.proofs.cursor_at.Goals as goal

pub last_sure-sure-requires : goal.last_sure-sure-requires
last_sure-sure-requires c =
    record {
      ascending = rw c.after-short.ensures (either_ascends _ true c.requires.p_value);
      ascending_2 = rw c.after-long.ensures (either_ascends _ false c.requires.p_value);
      from_in_bounds = c.requires.from_in_bounds;
    }

pub loop-i-preserved : goal.loop-i-preserved
loop-i-preserved c =
    let inv = c.loop-i.invariant in
    (omega arith, λ p known. rw c.past-cursor.ensures (known_after p _ (omega arith) (inv.1 p known)))

pub returns : goal.returns
returns c =
    let looped = c.loop-i in
    let short = c.after-short.ensures in
    let sure = rw (short, c.after-long.ensures) at c.last_sure-sure.ensures in
    let here : looped.i ≡ c.args.from = omega (arith, c.loop-i-test.false, looped.invariant.0) in
    let known = looped.invariant.1 c.args.p (rw short (known_if_sure _ _ _ _ c.requires.from_in_bounds sure)) in
    rw here at known
