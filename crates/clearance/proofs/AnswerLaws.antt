-- A refusal comes without a clearance and an acceptance with it; and what is accepted was accepted under a profile that
-- is, since the profile is the first thing that each operation tests. Rests on no axiom.
use Rattle.std.specs.Prelude.{Result, Ok, Err}
use Rattle.std.proofs.Common.{◌≡◌, ℕ, ◌≤◌, List, length, take, sym, ap, ◌∙◌}
use Rattle.refusal.specs.Answer.{Answer, counted_answer}
use Rattle.refusal.specs.declared.Refusal.{Refusal}
use Rattle.refusal.proofs.AnswerLaws.{number_is_not_zero, first_refusal_accepts}
use Rattle.timing.specs.Profile.{profile_rule}
use Rattle.timing.specs.declared.Profile.{Profile}
use Rattle.fields.specs.FieldRule.{FieldAnswer, field_answer, field_rule, field_reading}
use Rattle.fields.specs.declared.reader.Field.{Field}
use Rattle.fields.proofs.ReaderLaws.{answer_is_its_rule, used_is_within}
use Rattle.clearance.specs.Clearance.{least_clearance}
use Rattle.clearance.specs.Answers.{clear_answer, with_clearance, clear_field_answer, field_with_clearance}

-- ---- class and strip

module _ {rule : Answer} {counted : Result ℕ Refusal} (same : counted_answer counted ≡ rule) where
  pub refused_comes_without : (r : Refusal) (e : ℕ) → counted ≡ Err r → clear_answer (Err r) ≡ with_clearance rule e
  refused_comes_without r e is = rw (← same, is, number_is_not_zero r)

  pub counted_comes_with
      : (n e : ℕ)
      → counted ≡ Ok n
      → clear_answer (Ok (record { read = n; clearance = e })) ≡ with_clearance rule e
  counted_comes_with n e is = rw (← same, is)

  pub count_accepts : (n : ℕ) → counted ≡ Ok n → rule.number ≡ 0
  count_accepts n is = rw (← same, is)

-- ---- a field

module _
    (p : Profile) (ds : List ℕ) (n room : ℕ) {read : Result Field Refusal}
    (same : field_answer read ≡ field_reading p ds n room)
  where
    pub refused_field : (r : Refusal) → read ≡ Err r → clear_field_answer (Err r) ≡ field_with_clearance p ds n room
    unfolding field_with_clearance
    refused_field r is = rw (← same, is, number_is_not_zero r)

    pub field_accepts : (f : Field) → read ≡ Ok f → (profile_rule p).number ≡ 0
    unfolding field_reading field_rule
    field_accepts f is =
        (first_refusal_accepts (profile_rule p) _
        (sym (ap (λ (a : Answer). a.number) (answer_is_its_rule _ _ _))
        ∙ ap (λ (a : FieldAnswer). a.answer.number) (sym same ∙ ap field_answer is))).0

    -- it uses no more intervals than there are
    pub used_are_there : (f : Field) → read ≡ Ok f → f.used ≤ length ds
    used_are_there f is = rw (← same, is) at (used_is_within p ds n room)

    pub accepted_field
        : (f : Field) (e : ℕ)
        → read ≡ Ok f
        → e ≡ least_clearance p (take f.used ds)
        → clear_field_answer (Ok (record { read = f; clearance = e })) ≡ field_with_clearance p ds n room
    unfolding field_with_clearance
    accepted_field f e is least = rw (least, ← same, is)
