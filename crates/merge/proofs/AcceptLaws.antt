-- What acceptance says of two sets, and that these facts are enough for it. Rests on no axiom.
use Prim.Native.Nat.{ℕ, ◌≤◌}
use mathlib.Core.Path.{◌≡◌, refl}
use mathlib.Core.Bool.{false}
use mathlib.Core.List.{List, []}
use native.Mathlib.Omega.{arith}
use borrow.Author.Tests.{le-ltb}
use Rattle.lists.specs.Place.{anywhere}
use Rattle.refusal.proofs.AnswerLaws.{first_refusal_accepts}
use Rattle.sets.specs.Set.{is_misfit_set, sectors_in, set_of, set_within}
use Rattle.sets.specs.Held.{numbers, how_many}
use Rattle.sets.proofs.SetRuleLaws.{Fits}
use Rattle.merge.specs.Merge.{in_either, is_crowded, at_odds_at}
use Rattle.merge.specs.Rule.{room_rule, merge_rule}
use Rattle.merge.specs.Claims.{Takes}
use Rattle.merge.specs.machine.Tests.{checked_rule}
use Rattle.merge.proofs.RuleLaws.{accepted_numbers, accepted_sets_fit}
use Rattle.merge.proofs.SettleLaws.{merge_rule_in_steps}

module _ (first second : List ℕ) where
  pub record Accepts : Type 0 where
    pub first_fits : Fits first
    pub second_fits : Fits second
    pub different : how_many (in_either (sectors_in first) (sectors_in second)) numbers ≤ 32
    pub peace : anywhere (at_odds_at (sectors_in first) (sectors_in second)) numbers ≡ false

  pub acceptance_says : (room : ℕ) → (merge_rule first second room).number ≡ 0 → Accepts
  unfolding checked_rule
  acceptance_says room e =
      let steps = first_refusal_accepts _ _ (rw (← merge_rule_in_steps first second room) at e) in
      let sets = accepted_sets_fit first second steps.0 in
      let both = accepted_numbers (sectors_in first) (sectors_in second) (first_refusal_accepts _ _ steps.1).0 in
      record { first_fits = sets.0; second_fits = sets.1; different = both.0; peace = both.1 }

  pub accepts_takes : Accepts → Takes first second
  unfolding merge_rule is_crowded room_rule
  accepts_takes a room h =
      rw (
        a.first_fits.whole,
        a.second_fits.whole,
        le-ltb 32 _ a.first_fits.few,
        le-ltb 32 _ a.second_fits.few,
        le-ltb 32 _ a.different,
        a.peace,
        le-ltb room _ h,
      )

pub empty_fits : Fits []
unfolding is_misfit_set sectors_in set_of set_within
empty_fits = record { whole = refl; few = omega arith }
