-- Why the trial profile tells about the five numbers: its windows are in range, so that what is out of range is one of
-- the five, at the same place, and its distances are theirs. Rests on no axiom.
use Rattle.std.specs.Prelude.{Option, Some, None, is_some, unwrap_or}
use Prim.Native.Nat.{ℕ, suc, ◌≤◌}
use mathlib.Core.Path.{◌≡◌, refl, ap, ◌∙◌}
use mathlib.Core.Bool.{Bool, true, false, cond, not, true≢false}
use mathlib.Core.List.{[], ◌∷◌}
use native.Mathlib.Omega.{arith}
use Rattle.lists.specs.Place.{anywhere, lowest, passed}
use Rattle.refusal.specs.Answer.{Answer, accepted, refused, refuse_if}
use Rattle.timing.specs.Numbers.{ranges}
use Rattle.timing.specs.Profile.{unset, swing, advance, delay, is_true, profile_rule, lowest_unset, unset_place, InRange}
use Rattle.timing.proofs.RangeLaws.{none_outside_all_inside}
use Rattle.best.specs.Best.{writing_numbers, unset_of, InRangeOf, swing_of, advance_of, delay_of}
use Rattle.best.specs.machine.Trial.{trial_of, lowest_unset_of}
use Rattle.best.specs.declared.Writing.{Writing}

pub swing_of_trial : (w : Writing) → swing (trial_of w) ≡ swing_of w
unfolding swing
swing_of_trial w = refl

pub advance_of_trial : (w : Writing) → advance (trial_of w) ≡ advance_of w
unfolding advance
advance_of_trial w = refl

pub delay_of_trial : (w : Writing) → delay (trial_of w) ≡ delay_of w
unfolding delay
delay_of_trial w = refl

pub trial_in_range : (w : Writing) → InRangeOf w → InRange (trial_of w)
trial_in_range w within =
    let some : 1 ≤ 1 = omega arith in
    let few : 1 ≤ 4095 = omega arith in
    let (t1, t1_most, (t0, t0_most, (early, early_most, (normal, normal_most, (late, late_most, _))))) = within in (
      t1,
      t1_most,
      (
        t0,
        t0_most,
        (
          early,
          early_most,
          (
            normal,
            normal_most,
            (
              late,
              late_most,
              (some, few, (some, few, (some, few, (some, few, (some, few, (some, few, tt)))))),
            ),
          ),
        ),
      ),
    )

-- six tests that fail add nothing
lowest_of_five
    : (a b c d e : Bool)
    → cond (anywhere passed (a ∷ b ∷ c ∷ d ∷ e ∷ false ∷ false ∷ false ∷ false ∷ false ∷ false ∷ []))
    (Some (suc (lowest passed (a ∷ b ∷ c ∷ d ∷ e ∷ false ∷ false ∷ false ∷ false ∷ false ∷ false ∷ [])))) None
    ≡ cond (anywhere passed (a ∷ b ∷ c ∷ d ∷ e ∷ [])) (Some (suc (lowest passed (a ∷ b ∷ c ∷ d ∷ e ∷ [])))) None
unfolding anywhere lowest
lowest_of_five true b c d e = refl
lowest_of_five false true c d e = refl
lowest_of_five false false true d e = refl
lowest_of_five false false false true e = refl
lowest_of_five false false false false true = refl
lowest_of_five false false false false false = refl

-- the trial profile's lowest number out of range is that of the five
pub unset_of_trial : (w : Writing) → unset_place (trial_of w) ≡ lowest_unset_of w
unfolding unset_place unset lowest_unset_of unset_of
unset_of_trial w = lowest_of_five _ _ _ _ _

place_or_none : (any : Bool) (place : ℕ) → cond any (suc place) 0 ≡ unwrap_or (cond any (Some (suc place)) None) 0
place_or_none true place = refl
place_or_none false place = refl

-- the same with 0 for none
pub lowest_of_trial : (w : Writing) → lowest_unset (trial_of w) ≡ unwrap_or (lowest_unset_of w) 0
unfolding lowest_unset unset_place
lowest_of_trial w =
    place_or_none _ _ ∙ ap (λ (o : Option ℕ). unwrap_or o 0) (unset_of_trial w)

some_is_not_none : {n : ℕ} → ◌≡◌ {A = Option ℕ} (Some n) None → ⊥
some_is_not_none e = true≢false (ap is_some e)

none_found : (any : Bool) (place : ℕ) → cond any (Some (suc place)) None ≡ None → any ≡ false
none_found true place e = absurd (some_is_not_none e)
none_found false place e = refl

pub none_unset : (w : Writing) → lowest_unset_of w ≡ None → anywhere passed (unset_of w) ≡ false
unfolding lowest_unset_of
none_unset w e = none_found _ _ e

pub in_range_of : (w : Writing) → anywhere passed (unset_of w) ≡ false → InRangeOf w
unfolding unset_of
in_range_of w e = none_outside_all_inside ranges (writing_numbers w) e

-- ---- the place that the profile's rule tells

abbrev number_in : Answer → ℕ
number_in a = a.number

abbrev place_in : Answer → ℕ
place_in a = a.place

by_number
    : (any true_one : Bool) (place n k : ℕ)
    → refused n k ≡ refuse_if any 1 (suc place) (refuse_if (not true_one) 2 0 (accepted 0))
    → (n ≡ 1 → Some k ≡ cond any (Some (suc place)) None) × ((n ≡ 1 → ⊥) → None ≡ cond any (Some (suc place)) None)
by_number true true_one place n k e = (λ _. ap (λ (a : Answer). Some a.place) e, λ other. absurd (other (ap number_in e)))
by_number false true place n k e =
    (λ one. absurd (let q : n ≡ 0 = ap number_in e in omega (arith, one, q)), λ other. refl)
by_number false false place n k e =
    (λ one. absurd (let q : n ≡ 2 = ap number_in e in omega (arith, one, q)), λ other. refl)

-- 1 tells the lowest; any other number, that none is out of range
pub place_of_unset
    : (w : Writing) (n k : ℕ)
    → refused n k ≡ profile_rule (trial_of w)
    → (n ≡ 1 → Some k ≡ lowest_unset_of w) × ((n ≡ 1 → ⊥) → None ≡ lowest_unset_of w)
unfolding profile_rule unset_place
place_of_unset w n k e =
    let told = by_number (anywhere passed (unset (trial_of w))) (is_true (trial_of w)) _ n k e in
    (λ one. told.0 one ∙ unset_of_trial w, λ other. told.1 other ∙ unset_of_trial w)

by_acceptance
    : (any true_one : Bool) (place : ℕ)
    → accepted 0 ≡ refuse_if any 1 (suc place) (refuse_if (not true_one) 2 0 (accepted 0))
    → None ≡ cond any (Some (suc place)) None
by_acceptance true true_one place e = absurd (let q : ◌≡◌ {A = ℕ} 0 1 = ap number_in e in omega (arith, q))
by_acceptance false true_one place e = refl

pub no_place_if_accepted : (w : Writing) → accepted 0 ≡ profile_rule (trial_of w) → None ≡ lowest_unset_of w
unfolding profile_rule unset_place
no_place_if_accepted w e =
    by_acceptance (anywhere passed (unset (trial_of w))) (is_true (trial_of w)) _ e ∙ unset_of_trial w
