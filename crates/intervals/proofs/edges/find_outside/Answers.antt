-- Why `edges::find_outside` answers `inside_from`: the first interval that is no cell decides, and a cell is passed.
-- Rests on no axiom.
use Rattle.std.proofs.Common.{◌≡◌, suc, ◌+◌, sym, ◌∙◌, add-one, arith, drop_of_length-le, drop-cons}
use Rattle.intervals.specs.machine.Inside.{inside_from}
use Rattle.intervals.proofs.InsideLaws.{below_is_refused, above_is_refused, inside_is_passed}
use Rattle.intervals.proofs.edges.find_outside.Goals as goal

pub returns-then-interval-min : goal.returns-then-interval-min
returns-then-interval-min c =
    let here = drop-cons c.args.intervals.now c.loop-k.k 0 c.loop-k-test.true in
    sym (below_is_refused _ _ _ _ _ c.if-interval-min.true) ∙ rw here at c.loop-k.invariant

pub returns-then-rpt-interval : goal.returns-then-rpt-interval
returns-then-rpt-interval c =
    let here = drop-cons c.args.intervals.now c.loop-k.k 0 c.loop-k-test.true in
    sym (above_is_refused _ _ _ _ _ c.if-interval-min.false c.if-rpt-interval.true) ∙ rw here at c.loop-k.invariant

pub loop-k-preserved : goal.loop-k-preserved
loop-k-preserved c =
    let args = c.args in
    let k = c.loop-k.k in
    let more = c.loop-k-test.true in
    let here = drop-cons args.intervals.now k 0 more in
    let next : args.from + (k + 1) ≡ suc (args.from + k) = omega arith in
    rw (next, add-one k)
    (sym (inside_is_passed _ _ _ _ _ c.if-interval-min.false c.if-rpt-interval.false) ∙ rw here at c.loop-k.invariant)

pub returns : goal.returns
unfolding inside_from
returns c =
    let none = drop_of_length-le c.args.intervals.now {i = c.loop-k.k} c.loop-k-test.false in
    rw none at c.loop-k.invariant
