-- Why `units::fill_behind` stores the units behind another: the mask of an interval is its kind, which chooses for the
-- next one, and what is left to store stays the same from turn to turn. Rests on no axiom.
use Rattle.std.proofs.Common.{◌≡◌, ℕ, false, length, get_or, sym, ap, ◌∙◌, add-one, drop_of_length-le}
use Rattle.lists.proofs.StoreLaws.{stored_none, stored_over_all}
use Rattle.timing.specs.Class.{behind}
use Rattle.timing.specs.machine.Edges.{units_from}
use Rattle.timing.proofs.UnitsLaws.{units_none, units_count}
use Rattle.intervals.specs.machine.Either.{units_by}
use Rattle.intervals.proofs.FillBehindTurn.{begins, goes_on, long_enough, mask_here}
use Rattle.intervals.proofs.units.fill_behind.Goals as goal

pub loop-k-init : goal.loop-k-init
loop-k-init c = begins _ _ _ _ c.requires.intervals_value c.requires.kinds_value

pub loop-k-preserved : goal.loop-k-preserved
loop-k-preserved c =
    let filling = c.loop-k.invariant in
    let more = c.loop-k-test.true in
    let args = c.args in
    let long = long_enough args.c args.intervals.now args.kinds.now c.requires.kinds_value in
    let two = filling.two in
    let b34 = c.choose-b34.ensures two (mask_here _ _ _ _ long _ _ filling more) in
    rw add-one (goes_on _ _ _ _ long _ _ filling more _ (c.units_by.ensures
    ∙ ap (λ (b : ℕ). units_by (record { b23 = record { 0 = args.c.short.b23.0 }; b34 = record { 0 = b } })
    (get_or args.intervals.now c.loop-k.k 0)) b34))

pub returns : goal.returns
returns c =
    let filling = c.loop-k.invariant in
    let ds = c.args.intervals.now in
    let none = drop_of_length-le ds {i = c.loop-k.k} c.loop-k-test.false in
    let all = units_from (behind c.args.c false) ds in
    let room : length all ≡ length c.args.units.now = units_count _ ds ∙ sym c.requires.units_len in
    sym (stored_none _ _)
    ∙ rw (none, units_none) at filling.stored
    ∙ stored_over_all all c.args.units.now room
