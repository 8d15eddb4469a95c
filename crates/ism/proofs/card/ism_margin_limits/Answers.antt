-- Why `ism_margin_limits` answers as `limits` does: it hands the profile over, and number, place and the limits that
-- are counted back. Rests on no axiom.
use Rattle.limits.proofs.GatherLaws.{front_of_table}
use Rattle.ism.proofs.card.ism_margin_limits.Goals as goal

pub returns : goal.returns
returns c =
    let held = c.margin_limits in
    let front = front_of_table _ held.result held.ensures.answer in
    rw (c.from-2.ensures, held.ensures.answer, held.ensures.limits, front, c.from.ensures)
