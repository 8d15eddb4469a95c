-- `Check::after_bytes` is the definition's fold: what the bytes from k on make of the state, all make of the first.
use mathlib.Core.Path.{sym, ◌∙◌}
use Rattle.items.proofs.CheckLaws.{after_bytes_from_end}
use Rattle.items.proofs.Check.after_bytes.Goals as goal

pub returns : goal.returns
returns c =
    let head = c.loop-k in
    let bytes = c.args.bytes.now in
    sym (after_bytes_from_end head.check bytes head.k c.loop-k-test.false) ∙ head.invariant.1
