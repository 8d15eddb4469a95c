-- Laws of a table that is made by a rule: each entry is the rule at its place.
use Prim.Native.Nat.{ℕ, zero, suc, ◌+◌, ◌<◌}
use mathlib.Core.Path.{◌≡◌, sym, ap, ◌∙◌}
use native.Mathlib.Nat.{add-zero, add-suc, suc-add, zero-add, not-suc-le-zero, le_of_suc-le-suc}
use lib.ListN.{get_or}
use Rattle.lists.specs.Table.{tabulated}

module _ {A : Type 0} (rule : ℕ → A) where
  entry_from_is_rule : (k n i : ℕ) (d : A) → i < n → get_or (tabulated rule k n) i d ≡ rule (k + i)
  unfolding tabulated
  entry_from_is_rule k zero i d h = absurd (not-suc-le-zero h)
  entry_from_is_rule k (suc n) zero d h = ap rule (sym (add-zero k))
  entry_from_is_rule k (suc n) (suc i) d h =
      entry_from_is_rule (suc k) n i d (le_of_suc-le-suc h) ∙ ap rule (suc-add k i ∙ sym (add-suc k i))

  pub entry_is_rule : (n i : ℕ) (d : A) → i < n → get_or (tabulated rule 0 n) i d ≡ rule i
  entry_is_rule n i d h = entry_from_is_rule 0 n i d h ∙ ap rule (zero-add i)
