-- Why `look::look_units` sees what a pass does: each block goes through the machine, or is seen to have no gap while
-- none is open. Rests on no axiom.
use Rattle.std.proofs.Common.{◌≡◌, ℕ, ◌+◌, ◌<◌, ◌^◌, ◌≤◌, Bool, true, false, List, ◌++◌, length, sym, ap, ◌∙◌, arith}
use mathlib.Core.Bool.{false≢true}
use Rattle.symbols.specs.machine.Step.{AllCells}
use Rattle.symbols.specs.machine.Gaps.{gaps_from}
use Rattle.symbols.specs.declared.Reading.{Reading}
use Rattle.shifts.specs.machine.Pass.{pass_from}
use Rattle.passes.specs.machine.Look.{Sees}
use Rattle.passes.specs.declared.look.Seen.{Seen}
use Rattle.passes.proofs.ScanLaws.{sum_range}
use Rattle.passes.proofs.LookLaws.{sees_through, sees_calm}
use Rattle.passes.proofs.look.look_units.Goals as goal

-- through the machine
through
    : (seen : Seen) (vs : List ℕ) (from most : ℕ)
    → AllCells vs
    → most < 2 ^ 32
    → (r : Reading) (clear : Bool)
    → r ≡ (pass_from most from seen.reading vs).end.reading
    → (clear ≡ true → (gaps_from seen.reading.held vs ≡ false) × (8 ≤ length vs))
    → (us : List ℕ)
    → Sees us seen
    → length us ≡ from
    → from + length vs ≤ most
    → Sees (us ++ vs) (record { reading = r; clear = clear })
through seen vs from most cells small r clear e calm us sees size room =
    sees_through us seen sees (omega (arith, size, room, small)) vs cells (omega (arith, size, room, small))
    most r clear (omega (arith, size, room)) small
    (e ∙ ap (λ (k : ℕ). (pass_from most k seen.reading vs).end.reading) (sym size)) calm

pub returns-then-units-lt-BLOCK : goal.returns-then-units-lt-BLOCK
returns-then-units-lt-BLOCK c =
    through c.args.seen _ _ _ c.requires.all_cells.0 c.ranges.most.fits _ false c.shift_on.ensures
    (λ h. absurd (false≢true h))

pub returns-then-tally : goal.returns-then-tally
returns-then-tally c =
    through c.args.seen _ _ _ c.requires.all_cells.0 c.ranges.most.fits _ false c.shift_on-then-tally.ensures
    (λ h. absurd (false≢true h))

pub move_on-requires : goal.move_on-requires
move_on-requires c =
    let long = c.if-units-lt-BLOCK.false in
    let sum = c.scan-tally.ensures.sum in
    (omega (arith, long), omega (arith, long, sum, (sum_range _ c.requires.all_cells.0).0))

pub returns-then-seen : goal.returns-then-seen
returns-then-seen c =
    λ us sees size room. let small = c.ranges.most.fits in
    let sum = c.scan-tally.ensures.sum in
    let gap = c.scan-tally.ensures.gap in
    sees_calm us _ sees (omega (arith, size, room, small)) _ c.requires.all_cells.0 (omega (arith, size, room, small))
    _ _ c.if-seen.true (sym gap ∙ c.if-tally.false)
    (omega (arith, c.if-units-lt-BLOCK.false)) sum c.move_on.ensures

pub returns : goal.returns
returns c =
    let sum = c.scan-tally.ensures.sum in
    let gap = c.scan-tally.ensures.gap in
    through c.args.seen _ _ _ c.requires.all_cells.0 c.ranges.most.fits _ true c.shift_on-2.ensures
    (λ _. (sym gap ∙ c.if-tally.false, omega (arith, c.if-units-lt-BLOCK.false)))
