-- Why `timing::lowest_unset` answers `unset_place`: the scan keeps what is still to be found; a number that is out ends
-- it at its place, and one that is inside moves it on. Rests on no axiom.
use Rattle.std.proofs.Common.{ℕ, Some, List, length, sym, ap, ◌∙◌, add-one, arith}
use Rattle.timing.specs.Numbers.{ranges}
use Rattle.timing.specs.declared.Range.{Range}
use Rattle.timing.proofs.RangeLaws.{unset_from, scan_ends_here, scan_goes_on, scan_finds_none}
use Rattle.timing.proofs.ProfileLaws.{scan_finds_lowest}
use Rattle.timing.proofs.rule.lowest_unset.Goals as goal

-- what an array is read as beyond its end
abbrev none : Range
none = record { low = 0; high = 0 }

pub returns-then-x-range : goal.returns-then-x-range
returns-then-x-range c =
    let found = c.numbers-numbers in
    let turn = c.loop-k in
    let same = ap length found.ensures in
    ap Some (add-one turn.k)
    ∙ sym (scan_ends_here ranges found.result none turn.k c.loop-k-test.true (omega arith) c.if-x-range.true)
    ∙ turn.invariant
    ∙ ap (λ (ns : List ℕ). unset_from ranges ns 0) found.ensures
    ∙ scan_finds_lowest c.args.p

pub loop-k-preserved : goal.loop-k-preserved
loop-k-preserved c =
    let found = c.numbers-numbers in
    let turn = c.loop-k in
    let same = ap length found.ensures in
    ap (unset_from ranges found.result) (add-one turn.k)
    ∙ sym (scan_goes_on ranges found.result none turn.k c.loop-k-test.true (omega arith) c.if-x-range.false)
    ∙ turn.invariant

pub returns : goal.returns
returns c =
    let found = c.numbers-numbers in
    sym (scan_finds_none ranges found.result c.loop-k.k c.loop-k-test.false)
    ∙ c.loop-k.invariant
    ∙ ap (λ (ns : List ℕ). unset_from ranges ns 0) found.ensures
    ∙ scan_finds_lowest c.args.p
