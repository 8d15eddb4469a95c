-- Why `strip::print_script` prints the script's text: the margin operation turns the profile away with 1 or 2, then
-- 512 written bytes are the limit, and the rest is the list's. Rests on no axiom.
use Rattle.std.specs.Prelude.{Result, Ok, Err}
use Rattle.refusal.specs.declared.Refusal.{Refusal}
use Prim.Native.Nat.{ℕ}
use mathlib.Core.Path.{◌≡◌, sym, ◌∙◌, ap}
use native.Mathlib.Omega.{arith}
use borrow.Author.Tests.{lt-ltb}
use Rattle.refusal.specs.Answer.{counted_answer}
use Rattle.refusal.proofs.AnswerLaws.{accepted_later, refused_earlier, number_is_not_zero}
use Rattle.timing.specs.Profile.{profile_rule}
use Rattle.timing.specs.declared.Profile.{Profile}
use Rattle.items.specs.Item.{written_bytes}
use Rattle.lengths.specs.Margin.{margin_of, margin_rule}
use Rattle.strip.specs.Program.{script_rule, script_text}
use Rattle.strip.proofs.print_script.Goals as goal

-- where the margin operation accepts
true_profile
    : (p : Profile) (r : Result ℕ Refusal) (margin : ℕ)
    → counted_answer r ≡ margin_rule p
    → r ≡ Ok margin
    → ((profile_rule p).number ≡ 0) × (margin ≡ margin_of p)
unfolding margin_rule
true_profile p r margin e h = accepted_later _ _ _ (sym (ap counted_answer h) ∙ e)

pub returns-then-written_bytes-gt-WRITTEN_BYTES : goal.returns-then-written_bytes-gt-WRITTEN_BYTES
unfolding script_text script_rule
returns-then-written_bytes-gt-WRITTEN_BYTES c =
    let items = c.args.items.now in
    rw (
      (true_profile _ _ _ c.margin.ensures c.in-Ok.is).0,
      lt-ltb 512 (written_bytes items)
          (omega (arith, c.written_bytes.ensures, c.if-written_bytes-gt-WRITTEN_BYTES.true)),
    ) c.refuse-then-written_bytes-gt-WRITTEN_BYTES.ensures

pub print_list-requires : goal.print_list-requires
print_list-requires c =
    record { profile_value = true_profile _ _ _ c.margin.ensures c.in-Ok.is; bound = (omega arith, c.requires) }

pub returns-in-Err : goal.returns-in-Err
unfolding margin_rule script_text script_rule
returns-in-Err c =
    let r = c.in-Err.refusal in
    let rule = sym (ap counted_answer c.in-Err.is) ∙ c.margin.ensures in
    let same = refused_earlier r (profile_rule c.args.profile) _ rule in
    rw (← same, number_is_not_zero r, number_is_not_zero r) c.refuse.ensures
