-- Why `edges::all_inside` tells whether all lie between: the greatest difference from the lower edge is below that of
-- the upper where each is. Rests on no axiom.
use Rattle.std.proofs.Common.{suc, ◌+◌, ◌-◌, ◌%◌, Bool, ◌&&◌, ltb, get_or, drop, sym, ap, ◌∙◌, add-one, arith, drop_of_length-le, drop-cons}
use mathlib.Core.Bool.{and-true, and_assoc}
use Rattle.lists.specs.Place.{everywhere}
use Rattle.intervals.specs.machine.Inside.{is_inside}
use Rattle.intervals.proofs.InsideLaws.{inside_by_difference, both_below}
use Rattle.intervals.proofs.edges.all_inside.Goals as goal

pub loop-interval-preserved : goal.loop-interval-preserved
unfolding everywhere
loop-interval-preserved c =
    let args = c.args in
    let ds = args.intervals.now in
    let k = c.loop-interval.interval-index in
    let most = c.loop-interval.most in
    let d = get_or ds k 0 in
    let past = (d + (65536 - args.min)) % 65536 in
    let width = args.rpt - args.min in
    let within = is_inside args.min args.rpt in
    let small = c.type_inv.intervals k in
    let here =
    inside_by_difference args.min args.rpt d past c.requires (omega arith) (omega arith) (omega (arith, small)) in
    rw (c.max-most.ensures, add-one)
    (ap (λ (t : Bool). t && everywhere within (drop (suc k) ds))
    (both_below most past width ∙ ap (λ (t : Bool). ltb most width && t) here)
    ∙ and_assoc (ltb most width) (within d) _
    ∙ rw (drop-cons ds k 0 c.loop-interval-test.true) at c.loop-interval.invariant)

pub returns : goal.returns
unfolding everywhere
returns c =
    let args = c.args in
    let none = drop_of_length-le args.intervals.now {i = c.loop-interval.interval-index} c.loop-interval-test.false in
    sym (and-true (ltb c.loop-interval.most (args.rpt - args.min))) ∙ rw none at c.loop-interval.invariant
