-- Laws of reading: the pages of a set one after the other, and the tests in their order, each step of the code settling
-- a part of the rule. Rests on no axiom.
use Prim.Native.Nat.{ℕ, zero, suc, ◌+◌, ◌*◌, ◌≤◌, ◌<◌}
use mathlib.Core.Path.{◌≡◌, refl, sym, ap, ◌∙◌}
use mathlib.Core.Bool.{Bool, true, false, cond, ◌||◌, true≢false}
use mathlib.Core.List.{List, [], ◌∷◌, ◌++◌, map, flat_map}
use native.Mathlib.Omega.{arith}
use borrow.Author.Tests.{lt-ltb, le-ltb, ltb-false}
use lib.Dec.{eqb, ltb}
use lib.ListN.{length, set, drop, length-append, length-map, drop_of_length-le}
use Rattle.lists.specs.Filled.{stored_at}
use Rattle.lists.specs.Place.{anywhere, lowest}
use Rattle.lists.proofs.PlaceLaws.{lowest_of_none, lowest_of_some}
use Rattle.refusal.specs.Answer.{accepted, refused, refuse_if, first_refusal}
use Rattle.refusal.proofs.AnswerLaws.{first_refusal_passes}
use Rattle.timing.specs.Profile.{outside}
use Rattle.sets.specs.Set.{Sector, is_misfit_set, sectors_in}
use Rattle.sets.specs.Held.{numbers}
use Rattle.sets.specs.Alone.{is_twice_in, set_rule}
use Rattle.page.specs.Page.{page_numbers, dots_of}
use Rattle.page.specs.Reading.{lost_at, soiled_at, page_at, pages_in, dots_in, pages_rule, read_rule}
use Rattle.page.proofs.PageLaws.{pages_length, pages_from}

-- one store, and then the rest
pub stored_first : (l vs : List ℕ) (i v : ℕ) → stored_at (set l i v) (suc i) vs ≡ stored_at l i (v ∷ vs)
unfolding stored_at
stored_first l vs i v = refl

module _ (ss : List Sector) (pages : ℕ) where
  -- ---- one page after the other

  -- those after the first k
  unfoldable pub cells_after : ℕ → List ℕ
  cells_after k = flat_map (page_at ss) (drop k (page_numbers pages))

  unfoldable pub dots_after : ℕ → List ℕ
  dots_after k = map (λ n. dots_of (page_at ss n)) (drop k (page_numbers pages))

  pub all_cells : cells_after 0 ≡ pages_in ss pages
  unfolding cells_after pages_in
  all_cells = refl

  pub all_dots : dots_after 0 ≡ dots_in ss pages
  unfolding dots_after dots_in
  all_dots = refl

  pub cells_here : (k : ℕ) → k < pages → cells_after k ≡ page_at ss (suc k) ++ cells_after (suc k)
  unfolding cells_after flat_map
  cells_here k h = rw (pages_from pages k h)

  pub dots_here : (k : ℕ) → k < pages → dots_after k ≡ dots_of (page_at ss (suc k)) ∷ dots_after (suc k)
  unfolding dots_after
  dots_here k h = rw (pages_from pages k h)

  module _ (k : ℕ) (end : pages ≤ k) where
    no_pages : drop k (page_numbers pages) ≡ []
    no_pages =
        let all : length (page_numbers pages) ≤ k = rw (pages_length pages) end in
        drop_of_length-le (page_numbers pages) all

    pub cells_at_end : cells_after k ≡ []
    unfolding cells_after flat_map
    cells_at_end = rw no_pages

    pub dots_at_end : dots_after k ≡ []
    unfolding dots_after
    dots_at_end = rw no_pages

  size_after
      : ((k : ℕ) → k < pages → length (page_at ss (suc k)) ≡ 1000)
      → (left k : ℕ)
      → k + left ≡ pages
      → length (cells_after k) ≡ 1000 * left
  size_after each zero k e = ap length (cells_at_end k (omega arith))
  size_after each (suc left) k e =
      let rest = size_after each left (suc k) (omega arith) in
      let here = each k (omega arith) in
      ap length (cells_here k (omega arith))
      ∙ length-append (page_at ss (suc k)) (cells_after (suc k))
      ∙ omega (arith, rest, here)

  pub pages_size
      : ((k : ℕ) → k < pages → length (page_at ss (suc k)) ≡ 1000) → length (pages_in ss pages) ≡ 1000 * pages
  pages_size each = sym (ap length all_cells) ∙ size_after each pages 0 (omega arith)

  pub dots_count : length (dots_in ss pages) ≡ pages
  unfolding dots_in
  dots_count = length-map (page_numbers pages) (λ n. dots_of (page_at ss n)) ∙ pages_length pages

  -- ---- 19, 20, 9

  some_by_lowest
      : (test : ℕ → Bool) → lowest test (page_numbers pages) < pages → anywhere test (page_numbers pages) ≡ true
  some_by_lowest test h =
      (elim (anywhere test (page_numbers pages)) as
      (λ t. anywhere test (page_numbers pages) ≡ t → t ≡ true) [
        | true ↦ λ e. refl
        | false ↦ λ e.
            absurd (let last = lowest_of_none test (page_numbers pages) e ∙ pages_length pages in omega (arith, last, h))
      ]) refl

  pub none_by_lowest
      : (test : ℕ → Bool) → pages ≤ lowest test (page_numbers pages) → anywhere test (page_numbers pages) ≡ false
  none_by_lowest test h =
      (elim (anywhere test (page_numbers pages)) as
      (λ t. anywhere test (page_numbers pages) ≡ t → t ≡ false) [
        | true ↦ λ e.
            absurd (let first = rw (pages_length pages) at (lowest_of_some test (page_numbers pages) e) in
            omega (arith, first, h))
        | false ↦ λ e. refl
      ]) refl

  module _ (room : ℕ) where
    pub lost_decides
        : lowest (lost_at ss) (page_numbers pages) < pages
        → refused 19 (suc (lowest (lost_at ss) (page_numbers pages))) ≡ pages_rule ss pages room
    unfolding pages_rule
    lost_decides h = rw (some_by_lowest (lost_at ss) h)

    module _ (found : anywhere (lost_at ss) (page_numbers pages) ≡ false) where
      pub soil_decides
          : lowest (soiled_at ss) (page_numbers pages) < pages
          → refused 20 (suc (lowest (soiled_at ss) (page_numbers pages))) ≡ pages_rule ss pages room
      unfolding pages_rule
      soil_decides h = rw (found, some_by_lowest (soiled_at ss) h)

      module _ (clean : anywhere (soiled_at ss) (page_numbers pages) ≡ false) where
        pub room_decides : room < 1000 * pages → refused 9 0 ≡ pages_rule ss pages room
        unfolding pages_rule
        room_decides h = rw (found, clean, lt-ltb room (1000 * pages) h)

        pub pages_pass : 1000 * pages ≤ room → accepted pages ≡ pages_rule ss pages room
        unfolding pages_rule
        pages_pass h = rw (found, clean, le-ltb room (1000 * pages) h)

-- ---- the whole rule

module _ (set : List ℕ) (pages room : ℕ) where
  pub range_passes
      : 1 ≤ pages
      → pages ≤ 16
      → read_rule set pages room ≡ first_refusal (set_rule set) (pages_rule (sectors_in set) pages room)
  unfolding read_rule
  range_passes low high = rw (le-ltb pages 1 low, le-ltb 16 pages high)

  pub set_passes
      : 1 ≤ pages
      → pages ≤ 16
      → (set_rule set).number ≡ 0
      → read_rule set pages room ≡ pages_rule (sectors_in set) pages room
  set_passes low high h = range_passes low high ∙ first_refusal_passes (set_rule set) _ h

  counted_by_tests
      : (o t u w l s r : Bool) (a b c n : ℕ)
      → (o ≡ false → pages ≤ 16)
      → let rule =
      refuse_if o 12 0
      (first_refusal (refuse_if t 13 0 (refuse_if u 15 0 (refuse_if w 17 a (accepted n))))
      (refuse_if l 19 b (refuse_if s 20 c (refuse_if r 9 0 (accepted pages))))) in
      (1000 * rule.count ≡ cond (eqb rule.number 0) (1000 * pages) 0) × (rule.count ≤ 16)
  counted_by_tests true t u w l s r a b c n few = (refl, omega arith)
  counted_by_tests false true u w l s r a b c n few = (refl, omega arith)
  counted_by_tests false false true w l s r a b c n few = (refl, omega arith)
  counted_by_tests false false false true l s r a b c n few = (refl, omega arith)
  counted_by_tests false false false false true s r a b c n few = (refl, omega arith)
  counted_by_tests false false false false false true r a b c n few = (refl, omega arith)
  counted_by_tests false false false false false false true a b c n few = (refl, omega arith)
  counted_by_tests false false false false false false false a b c n few = (refl, few refl)

  at_most_16 : (t u : Bool) → ltb 16 pages ≡ u → (t || u) ≡ false → pages ≤ 16
  at_most_16 true u e h = absurd (true≢false h)
  at_most_16 false u e h = ltb-false 16 pages (e ∙ h)

  -- as many cells as there are on the pages that it counts, sixteen at most
  pub cells_counted
      : (1000 * (read_rule set pages room).count
      ≡ cond (eqb (read_rule set pages room).number 0) (1000 * pages) 0)
      × ((read_rule set pages room).count ≤ 16)
  unfolding read_rule set_rule pages_rule
  cells_counted =
      let ss = sectors_in set in
      counted_by_tests (outside 1 16 pages) (is_misfit_set set) (ltb 32 (length ss)) (anywhere (is_twice_in ss) numbers)
      (anywhere (lost_at ss) (page_numbers pages)) (anywhere (soiled_at ss) (page_numbers pages)) (ltb room (1000 * pages))
      (lowest (is_twice_in ss) numbers) (suc (lowest (lost_at ss) (page_numbers pages)))
      (suc (lowest (soiled_at ss) (page_numbers pages))) (length ss) (at_most_16 (ltb pages 1) (ltb 16 pages) refl)
