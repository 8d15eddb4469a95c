-- Why `look::look_on` looks on: its block is the next 128 intervals, or all that are left. Rests on no axiom.
use Rattle.std.proofs.Common.{◌≡◌, ℕ, ◌+◌, ◌-◌, ◌≤◌, min, List, length, take, drop, ◌∙◌, arith, length-drop, length-take-le}
use Rattle.passes.proofs.LookLaws.{looks_on}
use Rattle.passes.proofs.look.look_on.Goals as goal

-- the length of the block
block_count
    : (ds : List ℕ) (from n : ℕ)
    → n ≡ min 128 (length ds - from)
    → length (take (from + n - from) (drop from ds)) ≡ n
block_count ds from n many =
    length-take-le (from + n - from) (drop from ds) (rw (length-drop from ds) (omega (arith, many)))
    ∙ omega arith

pub returns : goal.returns
returns c =
    let from = c.args.at.used in
    let used = c.look_block.ensures.used in
    let cursor = c.look_block.ensures.cursor in
    let seen = c.look_block.ensures.seen in
    let ends : from + (from + c.min-n.result - from) ≤ length c.args.intervals.now =
    omega (arith, c.min-n.ensures, c.requires.used_in_bounds.0) in
    record {
      more = omega (arith, used, block_count c.args.intervals.now from _ c.min-n.ensures, c.min-n.ensures, c.requires.used_in_bounds.0);
      looking = λ p looking. looks_on p _ _ looking _ _ _ ends c.requires.used_in_bounds.1 used cursor seen;
    }
