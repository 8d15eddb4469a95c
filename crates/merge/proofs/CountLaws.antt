-- How many different numbers two sets have, by their indexes. Rests on no axiom.
use Prim.Native.Nat.{ℕ}
use mathlib.Core.Path.{◌≡◌, refl, ap, ap₂, ◌∙◌}
use mathlib.Core.Bool.{Bool, true, false, cond, not, ◌||◌}
use mathlib.Core.List.{List}
use lib.Dec.{eqb}
use lib.ListN.{get_or}
use Rattle.sets.specs.Set.{sectors_in}
use Rattle.sets.specs.Held.{Nothing, One, Twice, numbers, how_many}
use Rattle.sets.specs.machine.Index.{sector_at, shown, Indexed}
use Rattle.sets.proofs.NumberLaws.{counts_agree}
use Rattle.merge.specs.Merge.{is_there, in_either}
use Rattle.merge.specs.machine.Tests.{entry_in_either}

shown_is_there : (set : List ℕ) (entry : ℕ) → not (eqb entry 0) ≡ is_there (shown set entry)
unfolding shown
shown_is_there set entry = by (eqb entry 0) (eqb entry 65535)
  where
    by : (t u : Bool) → not t ≡ is_there (cond t Nothing (cond u Twice (One (sector_at set entry))))
    by true u = refl
    by false true = refl
    by false false = refl

pub entries_count_numbers
    : (first second a b : List ℕ)
    → Indexed first a
    → Indexed second b
    → how_many (entry_in_either a b) numbers ≡ how_many (in_either (sectors_in first) (sectors_in second)) numbers
unfolding entry_in_either in_either
entries_count_numbers first second a b one other =
    counts_agree _ _ (λ n h.
    ap₂ ◌||◌ (shown_is_there first (get_or a n 0) ∙ ap is_there (one.shows n h))
    (shown_is_there second (get_or b n 0) ∙ ap is_there (other.shows n h)))
