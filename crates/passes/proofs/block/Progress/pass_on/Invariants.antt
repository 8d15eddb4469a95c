use Rattle.std.proofs.Common.{◌≡◌, ◌+◌, ◌-◌, ◌<◌, ◌≤◌, length, take, drop}
use Rattle.lists.specs.Filled.{stored_at}
use Rattle.timing.specs.Class.{cursor_after}
use Rattle.passes.specs.machine.Blocks.{rest_from}
use Rattle.passes.proofs.BlockLaws.{Fair}
use Rattle.passes.proofs.block.Progress.pass_on.Given as goal

abbrev pub invariant-loop-done : goal.invariant-loop-done
invariant-loop-done l =
    let part = take l.end l.intervals in
    Fair part l.at
    × (l.first ≤ l.at.pass.reading.words)
    × (length l.out ≡ length l.initial.out)
    × ((rest_from l.most part l.at).end ≡ (rest_from l.most part l.initial.at).end)
    × (stored_at l.out (l.at.pass.reading.words - l.first) (rest_from l.most part l.at).words
    ≡ stored_at l.initial.out 0 (rest_from l.most part l.initial.at).words)
    × (l.at.pass.reading.words < l.most
    → cursor_after l.at.cursor (drop l.at.pass.used part) ≡ cursor_after l.initial.at.cursor (drop l.initial.at.pass.used part))

abbrev pub decreases-loop-done : goal.decreases-loop-done
decreases-loop-done l = l.most - l.at.pass.reading.words + (l.end - l.at.pass.used)
