-- Laws of the merge's answer and output: an earlier rule that refuses settles them, and one that accepts leaves them
-- to the later; the steps in their order are the rule. Rests on no axiom.
use Prim.Native.Nat.{ℕ}
use mathlib.Core.Path.{◌≡◌, refl, sym}
use mathlib.Core.Bool.{Bool, true, false, ◌||◌}
use mathlib.Core.List.{List}
use lib.ListN.{length}
use lib.Dec.{ltb}
use Rattle.std.specs.Prelude.{Result, Ok, Err, IsErrAnd}
use Rattle.lists.specs.Place.{anywhere}
use Rattle.refusal.specs.Table.{number_of, place_of}
use Rattle.refusal.specs.Answer.{Answer, accepted, refused, refuse_if, first_refusal}
use Rattle.refusal.specs.declared.Refusal.{Refusal}
use Rattle.refusal.proofs.AnswerLaws.{number_is_not_zero, refusal_decides}
use Rattle.sets.specs.declared.SetSize.{SetSize}
use Rattle.sets.specs.Set.{sectors_in, is_misfit_set}
use Rattle.sets.specs.Held.{how_many, numbers}
use Rattle.merge.specs.Merge.{is_crowded, at_odds_at, in_either}
use Rattle.merge.specs.Rule.{merge_rule, MergeAnswer, merged_answer, merge_answer, merge_output}
use Rattle.merge.specs.machine.Tests.{sets_rule, numbers_rule, checked_rule, Settles}

-- a refusal that `?` hands on is that refusal, and nothing is stored
pub refusal_stores_nothing
    : (answer : Result SetSize Refusal) (r : Refusal)
    → IsErrAnd answer (λ e. e ≡ r)
    → merged_answer answer ≡ record { answer = refused (number_of r) (place_of r); stored = 0 }
refusal_stores_nothing (Err e) r h = rw h refl
refusal_stores_nothing (Ok size) r h = absurd h

module _ (first second : List ℕ) where
  -- ---- an earlier rule, then a later one

  pub refusal_settles
      : (r : Refusal) (earlier later : Answer) (old : List ℕ)
      → refused (number_of r) (place_of r) ≡ earlier
      → Settles first second
      (first_refusal earlier later) (record { answer = refused (number_of r) (place_of r); stored = 0 }) old old
  refusal_settles r earlier later old e =
      rw (sym (refusal_decides r earlier later e), number_is_not_zero r) (refl, refl)

  pub acceptance_leaves
      : (n : ℕ) (earlier later : Answer) (answer : MergeAnswer) (new old : List ℕ)
      → accepted n ≡ earlier
      → Settles first second later answer new old
      → Settles first second (first_refusal earlier later) answer new old
  acceptance_leaves n earlier later answer new old e s = rw (← e) s

-- ---- the whole

steps_are_the_rule
    : (t u v w : Bool) (p n : ℕ) (room : Answer)
    → first_refusal
    (refuse_if t 13 0 (refuse_if u 15 0 (accepted 0)))
    (first_refusal (refuse_if v 15 0 (refuse_if w 17 p (accepted n))) room)
    ≡ refuse_if t 13 0 (refuse_if (u || v) 15 0 (refuse_if w 17 p room))
steps_are_the_rule true u v w p n room = refl
steps_are_the_rule false true v w p n room = refl
steps_are_the_rule false false true w p n room = refl
steps_are_the_rule false false false true p n room = refl
steps_are_the_rule false false false false p n room = refl

pub merge_rule_in_steps
    : (first second : List ℕ) (room : ℕ)
    → first_refusal (sets_rule first second) (checked_rule (sectors_in first) (sectors_in second) room)
    ≡ merge_rule first second room
unfolding sets_rule checked_rule numbers_rule merge_rule is_crowded
merge_rule_in_steps first second room =
    steps_are_the_rule (is_misfit_set first || is_misfit_set second)
    (ltb 32 (length (sectors_in first)) || ltb 32 (length (sectors_in second)))
    (ltb 32 (how_many (in_either (sectors_in first) (sectors_in second)) numbers))
    (anywhere (at_odds_at (sectors_in first) (sectors_in second)) numbers) _ _ _

pub merge_settles
    : (first second : List ℕ) (answer : MergeAnswer) (new old : List ℕ)
    → Settles first second
    (first_refusal (sets_rule first second) (checked_rule (sectors_in first) (sectors_in second) (length old))) answer new
    old
    → (answer ≡ merge_answer first second (length old)) × (new ≡ merge_output first second old)
unfolding merge_answer merge_output
merge_settles first second answer new old s = rw merge_rule_in_steps at s
