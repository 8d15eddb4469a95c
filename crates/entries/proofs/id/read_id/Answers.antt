-- Why `id::read_id` answers `id_read`: what opens with FE reads, and its items say whether they identify. Rests on no
-- axiom.
use Prim.Native.Nat.{ℕ}
use mathlib.Core.Path.{sym, ap, ◌∙◌}
use mathlib.Core.Bool.{true, false}
use mathlib.Core.List.{List}
use Rattle.std.proofs.Common.{rules}
use Rattle.entries.specs.machine.Steps.{identified}
use Rattle.entries.proofs.OpeningLaws.{all_in_place, opened_means}
use Rattle.entries.proofs.IdLaws.{unopened_is_no_id, field_is_identified}
use Rattle.entries.proofs.id.read_id.Goals as goal

pub returns-in_err-used : goal.returns-in_err-used
returns-in_err-used c =
    let none = unopened_is_no_id _ _ (opened_means _ _ 10 _ _ (sym c.in_err-used.was ∙ c.read_opened.ensures.answer)) in
    search (rules, none)

pub returns-then-holds : goal.returns-then-holds
returns-then-holds c =
    let args = c.args in
    let (opens, reads) = opened_means _ _ 10 _ _ (sym c.in_ok-used.was ∙ c.read_opened.ensures.answer) in
    c.identify.ensures
    ∙ ap (λ (us : List ℕ). identified us c.in_ok-used.field-0.used)
    (c.read_opened.ensures.items opens ∙ all_in_place args.p args.intervals.now 10 reads.does)
    ∙ field_is_identified _ _ reads true c.if-holds.true

pub returns : goal.returns
returns c =
    let means = opened_means _ _ 10 _ _ (sym c.in_ok-used.was ∙ c.read_opened.ensures.answer) in
    field_is_identified _ _ means.1 false c.if-holds.false
