-- What is handed back beside an answer: zeros where it refuses, the report where it accepts. Rests on no axiom.
use Rattle.std.specs.Prelude.{Result, Ok, Err}
use Prim.Native.Nat.{ℕ, ◌≤◌}
use mathlib.Core.Path.{◌≡◌, sym}
use mathlib.Core.List.{List}
use lib.ListN.{length}
use borrow.Author.Tests.{eq-eqb, ne_eqb, ltb-false}
use Rattle.refusal.specs.Answer.{Answer}
use Rattle.refusal.specs.Answer.{verdict_answer}
use Rattle.refusal.specs.declared.Refusal.{Refusal}
use Rattle.refusal.proofs.AnswerLaws.{number_is_not_zero, verdict_accepts, first_refusal_accepts, refuse_if_accepts}
use Rattle.timing.specs.Profile.{profile_rule}
use Rattle.timing.specs.declared.Profile.{Profile}
use Rattle.report.specs.Report.{Report, no_report, if_accepted, report_rule}

module _ (v : Result (Unit {0}) Refusal) (rule : Answer) (report : Report) (e : verdict_answer v ≡ rule) where
  pub refused_gives_zeros : (r : Refusal) → v ≡ Err r → no_report ≡ if_accepted rule report
  refused_gives_zeros r q = rw (sym e, q, number_is_not_zero r)

  pub accepted_gives_report : v ≡ Ok tt → report ≡ if_accepted rule report
  accepted_gives_report q = rw (eq-eqb _ 0 (verdict_accepts v rule e q))

module _ (rule : Answer) (report : Report) where
  pub given_if_accepted : rule.number ≡ 0 → if_accepted rule report ≡ report
  given_if_accepted accepts = rw (eq-eqb _ 0 accepts)

  pub zeros_if_refused : (rule.number ≡ 0 → ⊥) → if_accepted rule report ≡ no_report
  zeros_if_refused refuses = rw (ne_eqb _ 0 refuses)

-- a list that has a report is not overlong
pub reported_list_is_short : (p : Profile) (ds : List ℕ) → (report_rule p ds).number ≡ 0 → length ds ≤ 51202
unfolding report_rule
reported_list_is_short p ds h =
    let later = (first_refusal_accepts (profile_rule p) _ h).1 in
    ltb-false 51202 (length ds) (refuse_if_accepts _ 3 0 _ later).0
