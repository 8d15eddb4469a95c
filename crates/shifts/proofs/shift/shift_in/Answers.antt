-- Why `shift::shift_in` gives `pass_from` and stores its words: what is left to read and to store stays the same from
-- turn to turn. Rests on no axiom.
use Rattle.std.proofs.Common.{◌≡◌, length, ◌+◌, sym, ap, ◌∙◌, add_assoc, arith, drop_of_length-le, leb-true}
use Rattle.shifts.specs.machine.Pass.{pass_from}
use Rattle.shifts.proofs.PassLaws.{pass_ends, pass_is_full}
use Rattle.shifts.proofs.ShiftInTurn.{Shifting, begins, ends, turn_stays_open, turn_closes}
use Rattle.shifts.proofs.shift.shift_in.Goals.{then-is_whole+else-most-m, else-is_whole}
use Rattle.shifts.proofs.shift.shift_in.Goals as goal

-- a turn that closed a byte
closed_turn
    : (c : goal.Then-most-m)
    → let args = c.args in
    Shifting args.most args.from args.to args.start args.units.now args.out.now
    c.put.new.out c.close-m.result (c.loop-k.store_at + 1) (c.loop-k.k + 1)
closed_turn c =
    let turn = c.loop-k.invariant in
    turn_closes _ _ _ _ _ _ turn.0 turn.1 c.loop-k-test.true _ _ _ _
    c.shift-next.ensures
    (sym c.is_whole.ensures ∙ c.if-is_whole.true) c.word.ensures
    c.put.ensures c.close-m.ensures

pub loop-k-init : goal.loop-k-init
loop-k-init c = (begins _ _ _ _ _ _, c.requires.words_lt_most)

pub overflow_add-place : goal.overflow_add-place
overflow_add-place c =
    let within = c.loop-k.invariant.0.within in
    omega (arith, c.requires.units_bound.0)

pub word-requires : goal.word-requires
word-requires c = leb-true 17 _ (sym c.is_whole.ensures ∙ c.if-is_whole.true)

pub overflow_add-store_at : goal.overflow_add-store_at
overflow_add-store_at c = omega (arith, c.loop-k-test.true, c.loop-k.invariant.0.near, c.requires.units_bound.1)

pub close-m-requires : goal.close-m-requires
close-m-requires c =
    leb-true 17 _
    (sym c.is_whole.ensures ∙ c.if-is_whole.true)

pub overflow_add-result : goal.overflow_add-result
overflow_add-result c = omega (arith, c.loop-k-test.true, c.requires.units_bound.0)

pub shape_of-out-then-most-m : goal.shape_of-out-then-most-m
shape_of-out-then-most-m c = (closed_turn c).same_length

pub returns-then-most-m : goal.returns-then-most-m
returns-then-most-m c =
    let both = rw (← add_assoc) at (ends _ _ _ _ _ _ (closed_turn c) (pass_is_full _ _ _ _ c.if-most-m.true)) in
    record { end = both.0; output = both.1 }

pub loop-k-preserved : goal.loop-k-preserved
loop-k-preserved c =
    let turn = c.loop-k.invariant in
    let told = sym c.is_whole.ensures in
    elim c.if-is_whole.branch [
      | then-is_whole+else-most-m w ↦
          rw (w.out-is, w.m-is, w.store_at-is) (
            turn_closes _ _ _ _ _ _ turn.0 turn.1 c.loop-k-test.true _ _ _ _ c.shift-next.ensures
                (told ∙ w.if-is_whole.true) w.word.ensures w.put.ensures w.close-m.ensures,
            w.if-most-m.false,
          )
      | else-is_whole w ↦
          rw (w.out-is, w.m-is, w.store_at-is)
          (turn_stays_open _ _ _ _ _ _ turn.0 turn.1 c.loop-k-test.true _ c.shift-next.ensures
          (told ∙ w.if-is_whole.false))
    ]

pub overflow_add-result-2 : goal.overflow_add-result-2
overflow_add-result-2 c =
    let within = c.loop-k.invariant.0.within in
    omega (arith, c.requires.units_bound.0)

pub shape_of-out : goal.shape_of-out
shape_of-out c = c.loop-k.invariant.0.same_length

pub returns : goal.returns
returns c =
    let done : c.loop-k.k ≡ length c.args.units.now = omega (arith, c.loop-k.auto.k-end, c.loop-k-test.false) in
    let both = rw done at (ends _ _ _ _ _ _ c.loop-k.invariant.0
    (ap (pass_from _ _ _) (drop_of_length-le _ {i = c.loop-k.k} c.loop-k-test.false) ∙ pass_ends _ _ _)) in
    record { end = both.0; output = both.1 }
