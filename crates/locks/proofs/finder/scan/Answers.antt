-- Why `locks::finder::scan` answers `lock_from`: no turn passes over a lock, and the ways out are a lock and the end of
-- the list. Rests on no axiom.
use Prim.Native.Nat.{ℕ, ◌≤◌}
use mathlib.Core.Path.{refl, sym, ◌∙◌}
use mathlib.Core.Bool.{true}
use native.Mathlib.Omega.{arith}
use mathlib.Core.List.{List}
use Rattle.timing.specs.declared.cursor.Cursor.{Cursor}
use Rattle.timing.proofs.EdgeLaws.{either_ascends}
use Rattle.runs.specs.machine.Scan.{Following}
use Rattle.runs.proofs.RunLaws.{none_follow, more_follow, one_follows}
use Rattle.locks.proofs.ScanTurn.{search_starts, search_is_adrift, run_is_broken, run_begins_later, mark_is_found, mark_is_missed}
use Rattle.locks.proofs.finder.scan.Goals as goal

-- what follows in a run does so from any place on
later_follow
    : {short : Cursor} {ds : List ℕ} {low middle high : ℕ}
    → Following short ds low high
    → low ≤ middle
    → Following short ds middle high
later_follow follow h = record { each = λ j from to. follow.each j (omega arith) to }

pub scan-init : goal.scan-init
scan-init c = (omega arith, search_starts _ _)

pub overflow_add-k : goal.overflow_add-k
overflow_add-k c = omega (arith, c.scan.invariant.0)

pub loop-i-init : goal.loop-i-init
loop-i-init c = (refl, refl, c.scan.invariant.1.high, omega arith, none_follow)

pub meets_two-requires : goal.meets_two-requires
meets_two-requires c = rw c.after-short.ensures (either_ascends _ true c.requires)

pub loop-i-preserved : goal.loop-i-preserved
loop-i-preserved c =
    let inv = c.loop-i.invariant in (
      inv.0,
      inv.1,
      omega arith,
      omega arith,
      more_follow (one_follows _ (sym c.meets_two.ensures ∙ c.if-not-meets_two.false))
          (record { each = λ j from to. inv.4.each j (omega arith) to }),
    )

pub scan-preserved-then-not-meets_two : goal.scan-preserved-then-not-meets_two
scan-preserved-then-not-meets_two c =
    let inv = c.loop-i.invariant in
    let short = c.after-short.ensures in
    let other = rw short at (sym c.meets_two.ensures ∙ c.if-not-meets_two.true) in
    let follow = rw short at inv.4 in (
      omega arith,
      run_is_broken c.scan.invariant.1 (omega arith) _ (omega arith) (omega arith) other
          (record { each = λ j from to. follow.each j (omega arith) to }),
    )

pub next_two-begin-requires : goal.next_two-begin-requires
next_two-begin-requires c = record { p_value = c.requires; from_in_bounds = omega arith }

-- no place is past what a place can be
pub overflow_add-begin : goal.overflow_add-begin
overflow_add-begin c = omega (arith, c.next_two-begin.ensures.high, c.well_formed)

pub scan-preserved-then-first-begin : goal.scan-preserved-then-first-begin
scan-preserved-then-first-begin c =
    let inv = c.loop-i.invariant in
    let follow = later_follow {middle = c.scan.seen} (rw c.after-short.ensures at inv.4) (omega (arith, inv.1, inv.2)) in
    let next = rw inv.0 at c.next_two-begin.ensures in
    let high = next.high in
    let later = rw inv.0 at c.if-first-begin.true in
    rw c.max-seen.ensures (
      omega arith,
      run_begins_later c.scan.invariant.1 (omega arith) _ next follow later,
    )

pub pass_run-end-requires : goal.pass_run-end-requires
pass_run-end-requires c =
    record { ascending = rw c.after-short.ensures (either_ascends _ true c.requires); from_in_bounds = omega arith }

pub mark_ahead-requires : goal.mark_ahead-requires
mark_ahead-requires c = c.pass_run-end.ensures.passes.high

pub overflow_add-first : goal.overflow_add-first
overflow_add-first c = omega (arith, c.pass_run-end.ensures.passes.high)

pub overflow_add-seen : goal.overflow_add-seen
overflow_add-seen c = omega (arith, c.pass_run-end.ensures.passes.high)

pub scan-smaller : goal.scan-smaller
scan-smaller c = omega (arith, c.pass_run-end.ensures.passes.low)

pub scan-preserved : goal.scan-preserved
scan-preserved c =
    let inv = c.loop-i.invariant in
    let follow = later_follow {middle = c.scan.seen} (rw c.after-short.ensures at inv.4) (omega (arith, inv.1, inv.2)) in
    let same = inv.0 in
    let short = c.after-short.ensures in
    let passes = rw short at c.pass_run-end.ensures in
    let high = passes.passes.high in (
      omega arith,
      mark_is_missed c.scan.invariant.1 (omega arith) _ (rw same at c.next_two-begin.ensures)
          follow (rw same at c.if-first-begin.false) _ passes
          (rw short at (sym c.mark_ahead.ensures ∙ c.if-mark_ahead.false)),
    )

pub returns-then-intervals-k : goal.returns-then-intervals-k
returns-then-intervals-k c = search_is_adrift c.scan.invariant.1 c.if-intervals-k.true

pub returns-then-mark_ahead : goal.returns-then-mark_ahead
returns-then-mark_ahead c =
    let inv = c.loop-i.invariant in
    let follow = later_follow {middle = c.scan.seen} (rw c.after-short.ensures at inv.4) (omega (arith, inv.1, inv.2)) in
    let same = inv.0 in
    let short = c.after-short.ensures in
    mark_is_found c.scan.invariant.1 (omega arith) _ (rw same at c.next_two-begin.ensures)
    follow (rw same at c.if-first-begin.false) _ (rw short at c.pass_run-end.ensures)
    (rw short at (sym c.mark_ahead.ensures ∙ c.if-mark_ahead.true))
