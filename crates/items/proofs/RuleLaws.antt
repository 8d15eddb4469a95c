-- The rule for a list by its tests: the counts first, then the lowest number that is no item; and what an accepted list
-- is. Rests on no axiom.
use Prim.Native.Nat.{ℕ, ◌≤◌, ◌<◌}
use mathlib.Core.Path.{◌≡◌, refl, sym, ap, ◌∙◌}
use mathlib.Core.Bool.{true, false, not, ◌&&◌, ◌||◌, or-true}
use mathlib.Mathlib.Data.Bool.Basic.{or-eq-false-eq-eq-false-and-eq-false}
use mathlib.Core.List.{List, [], ◌∷◌}
use lib.Dec.{ltb}
use lib.ListN.{length}
use borrow.Author.Tests.{lt-ltb, le-ltb, ltb-false}
use Rattle.lists.specs.Place.{anywhere, everywhere, lowest}
use Rattle.lists.proofs.PlaceLaws.{lowest_of_some}
use Rattle.refusal.specs.Answer.{accepted, refused, refuse_if}
use Rattle.refusal.proofs.AnswerLaws.{refuse_if_accepts}
use Rattle.items.specs.Item.{is_byte, is_item, is_foreign, written_bytes}
use Rattle.items.specs.Rule.{list_rule}
use Rattle.items.proofs.ItemLaws.{bytes_are_items, bytes_have_no_check}
use Rattle.items.proofs.WrittenLaws.{written_of_no_check, length_of_written}

-- a number that is no item stands where not all are items
foreign_is_no_item : (ns : List ℕ) → anywhere is_foreign ns ≡ not (everywhere is_item ns)
unfolding anywhere everywhere is_foreign
foreign_is_no_item [] = refl
foreign_is_no_item (n ∷ ns) =
    elim (is_item n) as (λ t. (not t || anywhere is_foreign ns) ≡ not (t && everywhere is_item ns))
    [ true ↦ foreign_is_no_item ns | false ↦ refl ]

module _ (ns : List ℕ) where
  pub rule_of_too_many : 6400 < length ns → refused 4 0 ≡ list_rule ns
  unfolding list_rule
  rule_of_too_many h = rw lt-ltb

  pub rule_of_too_many_bytes : (n : ℕ) → n ≡ written_bytes ns → 6400 < n → refused 4 0 ≡ list_rule ns
  unfolding list_rule
  rule_of_too_many_bytes n e h = rw (← e, lt-ltb 6400 n h, or-true)

  -- within both counts the items decide
  module _ (n : ℕ) (few : length ns ≤ 6400) (e : n ≡ written_bytes ns) (few_bytes : n ≤ 6400) where
    by_items : refuse_if (anywhere is_foreign ns) 3 (lowest is_foreign ns) (accepted 0) ≡ list_rule ns
    unfolding list_rule
    by_items = rw (← e, le-ltb 6400 (length ns) few, le-ltb 6400 n few_bytes)

    pub rule_of_items : everywhere is_item ns ≡ true → accepted 0 ≡ list_rule ns
    rule_of_items all = rw (foreign_is_no_item, all) at by_items

    pub rule_of_foreign : everywhere is_item ns ≡ false → (k : ℕ) → k ≡ lowest is_foreign ns → refused 3 k ≡ list_rule ns
    rule_of_foreign some k place = rw place (rw (foreign_is_no_item, some) at by_items)

  pub foreign_stands_within : everywhere is_item ns ≡ false → lowest is_foreign ns < length ns
  foreign_stands_within some = lowest_of_some is_foreign ns (foreign_is_no_item ns ∙ ap not some)

-- ---- accepted lists

pub record Listed (items : List ℕ) : Type 0 where
  pub few_items : length items ≤ 6400
  pub few_bytes : written_bytes items ≤ 6400
  pub none_foreign : anywhere is_foreign items ≡ false

pub listed : (items : List ℕ) → (list_rule items).number ≡ 0 → Listed items
unfolding list_rule
listed items h =
    let counts = refuse_if_accepts _ 3 0 _ h in
    let few = (or-eq-false-eq-eq-false-and-eq-false (ltb 6400 (length items)) _).0 counts.0 in
    let foreign = refuse_if_accepts _ 2 (lowest is_foreign items) _ counts.1 in
    record {
      few_items = ltb-false 6400 (length items) few.0;
      few_bytes = ltb-false 6400 (written_bytes items) few.1;
      none_foreign = foreign.0;
    }

-- every list of at most 6,400 data and mark bytes is accepted
pub bytes_are_listed : (ws : List ℕ) → everywhere is_byte ws ≡ true → length ws ≤ 6400 → list_rule ws ≡ accepted 0
unfolding list_rule
bytes_are_listed ws bytes few =
    let none = bytes_have_no_check ws bytes in
    let count = sym (length_of_written ws) ∙ ap length (written_of_no_check ws none) in
    rw (count, le-ltb 6400 (length ws) few, bytes_are_items ws bytes)
