-- Why `margin_limits` answers as document 02 asks: the margin operation turns the profile away with 1 or 2, and its
-- number and one more is what the sides are asked about. Rests on no axiom.
use Rattle.std.specs.Prelude.{Result, Ok, Err, IsErrAnd, replicate}
use Rattle.refusal.specs.declared.Refusal.{Refusal}
use Prim.Native.Nat.{ℕ, ◌<◌}
use mathlib.Core.Path.{◌≡◌, refl, ◌∙◌}
use native.Mathlib.Omega.{arith}
use Rattle.refusal.specs.Answer.{accepted, refused}
use Rattle.refusal.specs.Table.{number_of, place_of}
use Rattle.refusal.proofs.AnswerLaws.{accepted_later}
use Rattle.timing.specs.Profile.{profile_rule}
use Rattle.timing.specs.declared.Profile.{Profile}
use Rattle.timing.proofs.ProfileLaws.{kept}
use Rattle.lengths.specs.Margin.{margin_of, margin_rule}
use Rattle.lengths.proofs.MarginLaws.{margin_leaves_room}
use Rattle.limits.specs.Limits.{limits_answer, limits_given}
use Rattle.limits.specs.machine.Search.{blank}
use Rattle.limits.specs.declared.Limits.{Limits}
use Rattle.limits.proofs.GatherLaws.{refused_as_margin, accepted_with_limits}
use Rattle.limits.proofs.margin_limits.Goals as goal

margin_is_short : (p : Profile) → (profile_rule p).number ≡ 0 → margin_of p < 1024
margin_is_short p ok =
    let k = kept p ok in let room = (margin_leaves_room k).above_min in let t1 = k.ranges.0 in omega (arith, room, t1)

-- where the margin operation accepts
true_profile
    : (p : Profile) (m : ℕ) → accepted m ≡ margin_rule p → ((profile_rule p).number ≡ 0) × (m ≡ margin_of p)
unfolding margin_rule
true_profile p m answer = accepted_later _ _ _ answer

-- a refusal that `?` hands on is that refusal, and hands back no limits
handed_on
    : (r : Result Limits Refusal) (e : Refusal)
    → IsErrAnd r (λ x. x ≡ e)
    → (limits_answer r ≡ refused (number_of e) (place_of e)) × (limits_given r ≡ replicate 10 blank)
handed_on (Err x) e h = rw h (refl, refl)
handed_on (Ok found) e h = absurd h

pub overflow_cast-m : goal.overflow_cast-m
overflow_cast-m c =
    let (ok, same) = true_profile _ _ c.in_ok-m.ensures in
    let short = margin_is_short _ ok in omega (arith, same, short)

pub overflow_add-m : goal.overflow_add-m
overflow_add-m c =
    let (ok, same) = true_profile _ _ c.in_ok-m.ensures in
    let short = margin_is_short _ ok in omega (arith, same, short)

pub gather-requires : goal.gather-requires
gather-requires c = (true_profile _ _ c.in_ok-m.ensures).0

pub returns-in_err-m : goal.returns-in_err-m
returns-in_err-m c =
    let told = handed_on _ _ c.from_residual.ensures.1 in
    let both = refused_as_margin _ _ c.in_err-m.ensures in
    record { answer = told.0 ∙ both.0; limits = told.1 ∙ both.1 }

pub returns : goal.returns
returns c =
    let (ok, same) = true_profile _ _ c.in_ok-m.ensures in
    let both = accepted_with_limits _ ok in
    record {
      answer = rw (c.gather.ensures, same) both.0;
      limits = rw (c.gather.ensures, same) both.1;
    }
