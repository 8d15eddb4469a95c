-- The merged set merged again: the merge takes it, and with the empty set it gives it as it is. Rests on no axiom.
use Prim.Native.Nat.{ℕ, ◌≤◌, ◌<◌}
use mathlib.Core.Path.{◌≡◌, ap, ◌∙◌}
use mathlib.Core.Bool.{false, true}
use mathlib.Core.List.{List, flat_map}
use mathlib.Core.Option.{some}
use Rattle.lists.specs.Place.{everywhere}
use Rattle.sets.specs.Set.{Sector, set_of, is_none, is_misfit_set, sectors_in}
use Rattle.sets.specs.Held.{held_of, numbers, how_many}
use Rattle.sets.specs.Held.{is_twice}
use Rattle.sets.specs.Claims.{is_sector}
use Rattle.sets.proofs.NumberLaws.{lists_agree, counts_agree}
use Rattle.sets.proofs.SetRuleLaws.{Fits}
use Rattle.sets.proofs.FormLaws.{fits_is_some, sets_as_bytes}
use Rattle.merge.specs.Merge.{taken, as_list, taken_at, merged, is_there, in_either}
use Rattle.merge.specs.Rule.{result}
use Rattle.merge.proofs.HeldLaws.{held_of_merged, taken_once}
use Rattle.merge.proofs.AcceptLaws.{Accepts}
use Rattle.merge.proofs.MergedLaws.{taken_is_there, merged_is_sectors, merged_count, none_is_twice}

module _ (first second : List ℕ) (a : Accepts first second) where
  abbrev ss : List Sector
  ss = sectors_in first

  abbrev ts : List Sector
  ts = sectors_in second

  once : (n : ℕ) → n < 256 → (is_twice (held_of n ss) ≡ false) × (is_twice (held_of n ts) ≡ false)
  once = none_is_twice ss ts a.peace

  are_sectors : (bs : List ℕ) → Fits bs → everywhere is_sector (sectors_in bs) ≡ true
  are_sectors bs f = sets_as_bytes.read_is_sectors bs (sectors_in bs) (fits_is_some bs f.whole)

  reads_back : set_of (result first second) ≡ some (merged ss ts)
  reads_back =
      sets_as_bytes.print_then_read (merged ss ts)
      (merged_is_sectors ss ts (are_sectors first a.first_fits) (are_sectors second a.second_fits))

  pub fits_again : Fits (result first second)
  unfolding is_misfit_set sectors_in
  fits_again =
      record {
        whole = ap is_none reads_back;
        few = rw (reads_back, merged_count ss ts a.peace) a.different;
      }

  pub held_again : (n : ℕ) → n < 256 → held_of n (sectors_in (result first second)) ≡ taken (held_of n ss) (held_of n ts)
  unfolding sectors_in
  held_again n h = rw reads_back (held_of_merged ss ts n (once n h) h)

  pub once_again : (n : ℕ) → n < 256 → is_twice (held_of n (sectors_in (result first second))) ≡ false
  once_again n h = rw (held_again n h) (taken_once ss ts n (once n h))

  pub few_again : how_many (λ n. is_there (held_of n (sectors_in (result first second)))) numbers ≤ 32
  unfolding in_either
  few_again =
      rw (counts_agree _ (in_either ss ts) (λ n h. ap is_there (held_again n h) ∙ taken_is_there _ _)) a.different

  pub in_order_again : flat_map (λ n. as_list (held_of n (sectors_in (result first second)))) numbers ≡ merged ss ts
  unfolding merged taken_at
  in_order_again = lists_agree _ _ (λ n h. ap as_list (held_again n h))
