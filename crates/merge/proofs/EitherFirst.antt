-- Why the merge's answer and output do not depend on which pass came first, where no number of both sets has two
-- failed sums: its tests are the same either way round, and so is what is taken. Rests on no axiom.
use Prim.Native.Nat.{ℕ, ◌<◌}
use mathlib.Core.Path.{◌≡◌, refl, ap, ap₂, fun_ext}
use mathlib.Core.Bool.{Bool, true, false, ◌||◌, or_comm}
use mathlib.Core.List.{List}
use lib.Dec.{ltb, eqb}
use lib.ListN.{length}
use borrow.Author.Tests.{eqb-true}
use Rattle.lists.specs.Place.{anywhere}
use Rattle.refusal.specs.Answer.{Answer, refuse_if, settled}
use Rattle.sets.specs.Set.{Sector, is_misfit_set, sectors_in}
use Rattle.sets.specs.Held.{held_of, numbers, how_many}
use Rattle.sets.proofs.NumberLaws.{nowhere_at_number, lists_agree}
use Rattle.merge.specs.Merge.{as_list, taken_at, merged, in_either, is_crowded, is_there}
use Rattle.merge.specs.Merge.{at_odds_at}
use Rattle.merge.specs.Rule.{room_rule, merge_rule, storing}
use Rattle.merge.specs.Claims.{both_fail}
use Rattle.merge.proofs.HeldLaws.{held_has_number}
use Rattle.merge.proofs.SwapLaws.{odds_swap, taken_swaps}

module _ (ss ts : List Sector) where
  crowd_swaps : is_crowded ss ts ≡ is_crowded ts ss
  unfolding is_crowded in_either
  crowd_swaps =
      ap₂ ◌||◌ (or_comm (ltb 32 (length ss)) (ltb 32 (length ts)))
      (ap (λ (f : ℕ → Bool). ltb 32 (how_many f numbers)) (fun_ext (λ n.
      or_comm (is_there (held_of n ss)) (is_there (held_of n ts)))))

  odds_swap_at : at_odds_at ss ts ≡ at_odds_at ts ss
  unfolding at_odds_at
  odds_swap_at = fun_ext (λ n. odds_swap (held_of n ss) (held_of n ts))

  pub merged_swaps
      : ((n : ℕ) → n < 256 → both_fail (held_of n ss) (held_of n ts) ≡ false)
      → anywhere (at_odds_at ss ts) numbers ≡ false
      → merged ss ts ≡ merged ts ss
  unfolding merged taken_at at_odds_at
  merged_swaps good peace =
      lists_agree _ _ (λ n h.
      ap as_list (taken_swaps
      n (held_of n ss) (held_of n ts) (held_has_number n ss) (held_has_number n ts)
      (nowhere_at_number (at_odds_at ss ts) peace n h) (good n h)))

  room_swaps
      : (room : ℕ)
      → ((n : ℕ) → n < 256 → both_fail (held_of n ss) (held_of n ts) ≡ false)
      → anywhere (at_odds_at ss ts) numbers ≡ false
      → room_rule ss ts room ≡ room_rule ts ss room
  unfolding room_rule
  room_swaps room good peace = rw (merged_swaps good peace)

later_alike
    : (w : Bool) (p : ℕ) (one other : Answer) → (w ≡ false → one ≡ other) → refuse_if w 17 p one ≡ refuse_if w 17 p other
later_alike true p one other same = refl
later_alike false p one other same = same refl

pub rule_swaps
    : (first second : List ℕ) (room : ℕ)
    → ((n : ℕ) → n < 256 → both_fail (held_of n (sectors_in first)) (held_of n (sectors_in second)) ≡ false)
    → merge_rule first second room ≡ merge_rule second first room
unfolding merge_rule
rule_swaps first second room good =
    rw (
      or_comm (is_misfit_set second) (is_misfit_set first),
      crowd_swaps (sectors_in second) (sectors_in first),
      odds_swap_at (sectors_in second) (sectors_in first),
    )
    (ap (λ (a : Answer).
    refuse_if (is_misfit_set first || is_misfit_set second) 13 0
    (refuse_if (is_crowded (sectors_in first) (sectors_in second)) 15 0 a))
    (later_alike _ _ _ _ (room_swaps (sectors_in first) (sectors_in second) room good)))

-- after a refusal the bytes do not count
pub settles_alike
    : (a b : Answer) (m n old : List ℕ)
    → a ≡ b
    → (a.number ≡ 0 → m ≡ n)
    → (storing a (length m) ≡ storing b (length n)) × (settled a m old ≡ settled b n old)
settles_alike a b m n old e same = rw (← e) (by (eqb a.number 0) refl)
  where
    by
        : (t : Bool)
        → eqb a.number 0 ≡ t
        → (storing a (length m) ≡ storing a (length n)) × (settled a m old ≡ settled a n old)
    by true q = rw (same (eqb-true _ _ q)) (refl, refl)
    by false q = rw q (refl, refl)
