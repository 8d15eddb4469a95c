-- Why `sets::alone::index_alone` answers `set_rule` and makes the index: the count of the sectors decides, or else the
-- lowest number that the index marks. Rests on no axiom.
use Rattle.std.proofs.Common.{rules}
use Prim.Native.Nat.{ℕ, ◌≤◌}
use mathlib.Core.Path.{◌≡◌, ◌∙◌}
use mathlib.Core.List.{List}
use borrow.Author.Tests.{lt-ltb}
use lib.Dec.{ltb}
use Rattle.lists.specs.Place.{lowest}
use Rattle.refusal.specs.Answer.{accepted, refuse_if}
use Rattle.refusal.specs.declared.Refusal.TheVariants.{TooManySectors}
use Rattle.sets.specs.Held.{numbers}
use Rattle.sets.specs.Alone.{set_rule}
use Rattle.sets.specs.machine.Index.{Indexed}
use Rattle.sets.proofs.TwiceLaws.{lowest_mark, marks_twice}
use Rattle.sets.proofs.SetRuleLaws.{Counts, misfit_decides, counted_set, crowd_decides, short_set}
use Rattle.sets.proofs.SetRuleLaws.{lowest_decides, refused_is_not_accepted}
use Rattle.sets.proofs.alone.index_alone.Goals as goal

decided
    : (set index : List ℕ) (count low : ℕ)
    → Counts set count
    → count ≤ 32
    → Indexed set index
    → low ≡ lowest (marks_twice index) numbers
    → refuse_if (ltb low 256) 17 low (accepted count) ≡ set_rule set
decided set index count low counts few indexed e =
    lowest_decides set count counts low few (e ∙ lowest_mark set index indexed)

pub returns-then-count-gt32 : goal.returns-then-count-gt32
returns-then-count-gt32 c =
    let counts = counted_set c.args.set.now c.in_ok-count.count c.in_ok-count.ensures in
    let refusal = crowd_decides _ _ counts c.if-count-gt32.true in
    record { answer = refusal; index = λ h. absurd (refused_is_not_accepted _ TooManySectors refusal h) }

pub index_set-span-requires : goal.index_set-span-requires
index_set-span-requires c =
    let counts = counted_set c.args.set.now c.in_ok-count.count c.in_ok-count.ensures in
    (counts.whole, short_set _ _ counts c.if-count-gt32.false, c.requires)

pub returns-in_err-count-clause-answer : goal.returns-in_err-count-clause-answer
returns-in_err-count-clause-answer c = search (rules, misfit_decides, refused_is_not_accepted)

pub returns-in_err-count-clause-index : goal.returns-in_err-count-clause-index
returns-in_err-count-clause-index c = search (rules, misfit_decides, refused_is_not_accepted)

pub returns-in-Some-clause-answer : goal.returns-in-Some-clause-answer
returns-in-Some-clause-answer c =
    let counts = counted_set c.args.set.now c.in_ok-count.count c.in_ok-count.ensures in
    let number = c.in-Some.ensures in
    rw (lt-ltb _ _ number.number) at
    (decided _ _ _ _ counts c.if-count-gt32.false c.index_set-span.ensures.indexed number.lowest)

pub returns-clause-answer : goal.returns-clause-answer
returns-clause-answer c =
    let counts = counted_set c.args.set.now c.in_ok-count.count c.in_ok-count.ensures in
    let none = c.in_default.ensures.lowest in
    rw (decided _ _ _ 256 counts c.if-count-gt32.false c.index_set-span.ensures.indexed none)
