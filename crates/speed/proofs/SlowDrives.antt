-- The claims on drives that run slow. Rests on no axiom.
use Prim.Native.Nat.{ℕ, ◌+◌, ◌-◌, ◌*◌, ◌<◌}
use mathlib.Core.Path.{◌≡◌, refl, sym, ap, ap₂, ◌∙◌}
use mathlib.Core.Bool.{Bool, true, false}
use mathlib.Core.List.{List, [], ◌∷◌}
use native.Mathlib.Nat.{mul-div_cancel}
use native.Mathlib.Omega.{arith}
use borrow.Author.Tests.{le-ltb, eq-eqb, eqb-true}
use lib.Dec.{eqb}
use lib.ListN.{length, drop}
use Rattle.refusal.specs.Answer.{Answer, first_refusal}
use Rattle.refusal.proofs.AnswerLaws.{first_refusal_accepts}
use Rattle.timing.specs.declared.Profile.{Profile}
use Rattle.timing.proofs.ProfileLaws.{kept}
use Rattle.locks.specs.Lock.{find_rule}
use Rattle.fields.specs.FieldRule.{field_output}
use Rattle.clearance.specs.Answers.{field_with_clearance}
use Rattle.pace.specs.Pace.{off_speed, pace_rule, corrected, corrected_from}
use Rattle.pace.proofs.CutLaws.{product_fits}
use Rattle.speed.specs.Speed.{s0, s1, nominal, speed_rule, corrected_at}
use Rattle.speed.specs.Reading.{reading_at, corrected_rule, corrected_reading}
use Rattle.speed.specs.Claims.{SameLock, NominalChangesNothing, WithinASixteenth}
use Rattle.speed.specs.Claims.{SpeedDropsOut, ProductsFit, SlowDrives}
use Rattle.speed.proofs.NearLaws.{near_speed, at_least, at_most}
use Rattle.speed.proofs.CutOffLaws.{cut_off_changes_nothing}
use Rattle.speed.proofs.ScaledLaws.{same_numbers}
use Rattle.speed.proofs.ReadLaws.{field_is_read, output_is}

-- ---- which lock

module _ (p : Profile) (ds : List ℕ) (start n room : ℕ) where
  refused_first : (a b : Answer) → (a.number ≡ 0 → ⊥) → first_refusal a b ≡ a
  refused_first a b h = split (eqb a.number 0) refl
    where
      split : (t : Bool) → eqb a.number 0 ≡ t → first_refusal a b ≡ a
      split true e = absurd (h (eqb-true _ _ e))
      split false e = rw e

  same_lock : SameLock p ds start n room
  unfolding corrected_rule corrected_reading reading_at
  same_lock =
      record {
        none = λ h. refused_first (find_rule p ds start) _ h;
        at_lock =
            λ lock found.
            let place : (find_rule p ds start).count ≡ lock = ap (λ (b : Answer). b.count) found in
            rw (place, found) (refl, refl);
        given =
            λ zero.
            let (finds, later) = first_refusal_accepts (find_rule p ds start) _ zero in
            (finds, rw (eq-eqb _ 0 zero) refl);
      }

-- ---- nominal speed

nominal_from : (full : ℕ) → 0 < full → (ds : List ℕ) → corrected_from full full full ds ≡ ds
unfolding corrected_from corrected
nominal_from full some [] = refl
nominal_from full some (d ∷ ds) = ap₂ ◌∷◌ (mul-div_cancel d some) (nominal_from full some ds)

nominal_is_on_speed : (full : ℕ) → (pace_rule full full full).number ≡ 0
unfolding pace_rule off_speed
nominal_is_on_speed full =
    let none : full - full + (full - full) ≡ 0 = omega arith in rw (none, le-ltb full (16 * 0) (omega arith))

nominal_at
    : (p : Profile) (ds : List ℕ) (lock : ℕ)
    → 0 < nominal p
    → s0 ds lock ≡ nominal p
    → s1 ds lock ≡ nominal p
    → corrected_at p ds lock ≡ drop lock ds
unfolding corrected_at
nominal_at p ds lock some even odd = rw (even, odd) (nominal_from (nominal p) some (drop lock ds))

nominal_changes_nothing : NominalChangesNothing
nominal_changes_nothing p ds lock n old accepts even odd =
    let some : 0 < nominal p = omega (arith, (kept p accepts).ranges) in
    let on_speed : (speed_rule p ds lock).number ≡ 0 = rw (even, odd) (nominal_is_on_speed (nominal p)) in
    let same : corrected_at p ds lock ≡ drop lock ds = nominal_at p ds lock some even odd in (
      field_is_read p ds lock n (length old) on_speed
          ∙ ap (λ (es : List ℕ). field_with_clearance p es n (length old)) same,
      sym (output_is p ds lock n old on_speed) ∙ ap (λ (es : List ℕ). field_output p es n old) same,
    )

-- ---- how far

within_a_sixteenth : WithinASixteenth
within_a_sixteenth p s accepts e =
    let t = p.t1.0 in
    let some : 0 < t = omega (arith, (kept p accepts).ranges) in
    let (high, low) = near_speed t s e in
    record {
      above = omega (arith, high);
      below = omega (arith, low);
      at_least = at_least t s e some;
      at_most = at_most t s e some;
    }

-- ---- speed drops out

speed_drops_out : SpeedDropsOut
speed_drops_out p a b some_a some_b ds es scaled lock n old on_speed also =
    let same = same_numbers a b some_a some_b p ds es scaled lock in
    record {
      numbers = same;
      field =
          field_is_read p es lock n (length old) also
          ∙ ap (λ (ns : List ℕ). field_with_clearance p ns n (length old)) same
          ∙ sym (field_is_read p ds lock n (length old) on_speed);
      output =
          sym (output_is p es lock n old also)
          ∙ ap (λ (ns : List ℕ). field_output p ns n old) same
          ∙ output_is p ds lock n old on_speed;
    }

products_fit : ProductsFit
products_fit p d accepts few = product_fits (nominal p) d (omega (arith, (kept p accepts).ranges)) few

pub slow_drives : SlowDrives
slow_drives =
    record {
      same_lock = same_lock;
      nominal_changes_nothing = nominal_changes_nothing;
      within_a_sixteenth = within_a_sixteenth;
      speed_drops_out = speed_drops_out;
      products_fit = products_fit;
      cut_off_changes_nothing = cut_off_changes_nothing;
    }
