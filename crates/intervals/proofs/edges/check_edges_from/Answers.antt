-- Why `edges::check_edges_from` answers `edge_rule_from`: some that are all cells are passed, and what is left to look at
-- stays the same; Min and Rpt tell of all classes. Rests on no axiom.
use Rattle.std.proofs.Common.{◌+◌, ◌-◌, ◌≤◌, length, drop, sym, ◌∙◌, arith, length-drop, drop_of_length-le, take_all}
use Rattle.intervals.specs.machine.Inside.{inside_from}
use Rattle.intervals.proofs.InsideLaws.{some_inside_are_passed, edges_by_two}
use Rattle.intervals.proofs.edges.check_edges_from.Goals as goal

pub loop-k-preserved : goal.loop-k-preserved
loop-k-preserved c =
    let room : c.loop-k.k + c.min.result ≤ length c.args.intervals.now =
    omega (arith, c.min.ensures, c.loop-k-test.true) in
    let all = sym c.all_inside.ensures ∙ c.if-all_inside.true in
    (room, sym (some_inside_are_passed _ _ _ _ _ _ room all) ∙ c.loop-k.invariant.1)

pub returns-else-all_inside : goal.returns-else-all_inside
returns-else-all_inside c =
    let ds = c.args.intervals.now in
    let k = c.loop-k.k in
    let rest = take_all (length ds - k) (drop k ds) (rw (length-drop k ds) (omega arith)) in
    rw rest at c.find_outside.ensures ∙ c.loop-k.invariant.1 ∙ sym (edges_by_two _ ds _ c.requires.ascending)

pub returns : goal.returns
unfolding inside_from
returns c =
    let ds = c.args.intervals.now in
    let none = drop_of_length-le ds {i = c.loop-k.k} c.loop-k-test.false in
    rw none at c.loop-k.invariant.1 ∙ sym (edges_by_two _ ds _ c.requires.ascending)
