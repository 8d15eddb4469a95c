-- Why `merge::merge_checked` answers `checked_rule`: with both indexes made, the numbers decide, and then the room.
-- Rests on no axiom.
use Rattle.std.proofs.Common.{rules}
use mathlib.Core.Path.{refl, sym, ap}
use Rattle.refusal.specs.Answer.{Answer}
use Rattle.sets.proofs.ShortLaws.{set_is_short}
use Rattle.merge.specs.machine.Tests.{checked_rule}
use Rattle.merge.proofs.SettleLaws.{refusal_settles, acceptance_leaves}
use Rattle.merge.proofs.RuleLaws.{accepted_sets_fit}
use Rattle.merge.proofs.merge_checked.Goals as goal

pub index_set-one-requires : goal.index_set-one-requires
index_set-one-requires c =
    let rule = sym (ap (λ (a : Answer). a.number) c.requires) in
    let fits = (accepted_sets_fit _ _ rule).0 in
    (fits.whole, set_is_short _ fits.whole fits.few, refl)

pub index_set-other-requires : goal.index_set-other-requires
index_set-other-requires c =
    let rule = sym (ap (λ (a : Answer). a.number) c.requires) in
    let fits = (accepted_sets_fit _ _ rule).1 in
    (fits.whole, set_is_short _ fits.whole fits.few, refl)

pub returns-in_err-count : goal.returns-in_err-count
unfolding checked_rule
returns-in_err-count c = search (rules, refusal_settles)

pub returns : goal.returns
unfolding checked_rule
returns c = acceptance_leaves _ _ c.in_ok-count.count _ _ _ _ _ c.in_ok-count.ensures c.deliver.ensures
