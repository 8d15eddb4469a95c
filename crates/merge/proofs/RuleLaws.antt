-- Laws of the merge's tests in their order: each step of the code settles a part of the rule. Rests on no axiom.
use Prim.Native.Nat.{ℕ, ◌≤◌}
use mathlib.Core.Path.{◌≡◌, refl, sym, ap, ◌∙◌}
use mathlib.Core.Bool.{Bool, true, false, ◌||◌, true≢false}
use mathlib.Core.List.{List}
use mathlib.Core.Option.{Option, none, some}
use native.Mathlib.Nat.{zero-add}
use borrow.Author.Tests.{ltb-false}
use lib.Dec.{ltb}
use lib.ListN.{length}
use Rattle.lists.specs.Place.{anywhere, lowest}
use Rattle.refusal.specs.Table.{number_of, place_of}
use Rattle.refusal.specs.Answer.{Answer, accepted, refused, refuse_if, first_refusal}
use Rattle.refusal.specs.declared.Refusal.{Refusal}
use Rattle.refusal.proofs.AnswerLaws.{refusal_decides, refuse_if_accepts}
use Rattle.sets.specs.Set.{Sector, set_bytes, set_of, is_none, or_empty, is_misfit_set, sectors_in}
use Rattle.sets.specs.Held.{numbers, how_many}
use Rattle.sets.specs.machine.Index.{count_rule, Indexed}
use Rattle.sets.proofs.NumberLaws.{lowest_below_256}
use Rattle.sets.proofs.SetRuleLaws.{Fits}
use Rattle.merge.specs.Merge.{merged, in_either, at_odds_at}
use Rattle.merge.specs.Rule.{room_rule}
use Rattle.merge.specs.machine.Tests.{sets_rule, numbers_rule, entry_in_either}
use Rattle.merge.proofs.CountLaws.{entries_count_numbers}
use Rattle.merge.proofs.MergedLaws.{merged_count}

pub neither : (t u : Bool) → (t || u) ≡ false → (t ≡ false) × (u ≡ false)
neither true u h = absurd (true≢false h)
neither false u h = (refl, h)

-- ---- 13, and 15 for a set

-- two counts in their turn, then 15
abbrev pub counts_rule : Answer → Answer → Answer
counts_rule a b =
    first_refusal a (first_refusal b (refuse_if (ltb 32 a.count || ltb 32 b.count) 15 0 (accepted 0)))

module _ (first second : List ℕ) where
  pub counts_are_the_rule
      : counts_rule (count_rule 0 (set_of first)) (count_rule 0 (set_of second)) ≡ sets_rule first second
  unfolding sets_rule is_misfit_set sectors_in
  counts_are_the_rule = by (set_of first) (set_of second)
    where
      by
          : (o p : Option (List Sector))
          → counts_rule (count_rule 0 o) (count_rule 0 p)
          ≡ refuse_if (is_none o || is_none p) 13 0
          (refuse_if (ltb 32 (length (or_empty o)) || ltb 32 (length (or_empty p))) 15 0 (accepted 0))
      by none p = refl
      by (some ss) none = refl
      by (some ss) (some ts) = simp zero-add

  -- a set that cannot be counted decides in its turn
  pub first_misfit_decides
      : (r : Refusal)
      → refused (number_of r) (place_of r) ≡ count_rule 0 (set_of first)
      → refused (number_of r) (place_of r) ≡ sets_rule first second
  first_misfit_decides r e = refusal_decides r _ _ e ∙ counts_are_the_rule

  pub second_misfit_decides
      : (r : Refusal) (n : ℕ)
      → accepted n ≡ count_rule 0 (set_of first)
      → refused (number_of r) (place_of r) ≡ count_rule 0 (set_of second)
      → refused (number_of r) (place_of r) ≡ sets_rule first second
  second_misfit_decides r n e f =
      refusal_decides r _ _ f
      ∙ ap (λ (a : Answer). counts_rule a (count_rule 0 (set_of second))) e
      ∙ counts_are_the_rule

  pub accepted_sets_fit : (sets_rule first second).number ≡ 0 → Fits first × Fits second
  unfolding sets_rule
  accepted_sets_fit e =
      let fit = refuse_if_accepts (is_misfit_set first || is_misfit_set second) 12 0 _ e in
      let few = refuse_if_accepts _ 14 0 _ fit.1 in
      let fits = neither (is_misfit_set first) (is_misfit_set second) fit.0 in
      let fews = neither (ltb 32 (length (sectors_in first))) (ltb 32 (length (sectors_in second))) few.0 in (
        record { whole = fits.0; few = ltb-false _ _ fews.0 },
        record { whole = fits.1; few = ltb-false _ _ fews.1 },
      )

-- ---- 15 for different numbers, and 17

pub numbers_decide
    : (first second a b : List ℕ) (count low : ℕ)
    → Indexed first a
    → Indexed second b
    → count ≡ how_many (entry_in_either a b) numbers
    → low ≡ lowest (at_odds_at (sectors_in first) (sectors_in second)) numbers
    → refuse_if (ltb 32 count) 15 0 (refuse_if (ltb low 256) 17 low (accepted count))
    ≡ numbers_rule (sectors_in first) (sectors_in second)
unfolding numbers_rule
numbers_decide first second a b count low one other e f =
    rw (e, entries_count_numbers first second a b one other, f, lowest_below_256)

-- what acceptance says
pub accepted_numbers
    : (first second : List Sector)
    → (numbers_rule first second).number ≡ 0
    → (how_many (in_either first second) numbers ≤ 32)
    × (anywhere (at_odds_at first second) numbers ≡ false)
    × (numbers_rule first second ≡ accepted (length (merged first second)))
unfolding numbers_rule
accepted_numbers first second e =
    let crowd = refuse_if_accepts (ltb 32 (how_many (in_either first second) numbers)) 14 0 _ e in
    let odds = refuse_if_accepts (anywhere (at_odds_at first second) numbers) 16 _ _ crowd.1 in
    (ltb-false _ _ crowd.0, odds.0, rw (crowd.0, odds.0, merged_count first second odds.0))

-- the last test of the merge gives 9 alone
pub room_refuses_with_9
    : (first second : List Sector) (room n : ℕ) → (room_rule first second room).number ≡ n → (n ≡ 0 → ⊥) → n ≡ 9
unfolding room_rule
room_refuses_with_9 first second room n e there =
    by (ltb room (length (set_bytes (merged first second)))) e
  where
    by
        : (t : Bool)
        → (refuse_if t 9 0 (accepted (length (merged first second)))).number ≡ n
        → n ≡ 9
    by true q = sym q
    by false q = absurd (there (sym q))
