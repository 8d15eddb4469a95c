-- Laws over the numbers of the pages: what holds of no page, and of a page more, holds of all. Rests on no axiom.
use Prim.Native.Nat.{ℕ, zero, suc, ◌+◌, ◌≤◌}
use mathlib.Core.Path.{◌≡◌, refl, sym, ap, ap₂, ◌∙◌}
use mathlib.Core.Bool.{Bool, true, false}
use mathlib.Core.List.{List, [], ◌∷◌, ◌++◌, map, flat_map}
use native.Mathlib.Omega.{arith}
use borrow.Author.Tests.{ltb-false}
use lib.Dec.{ltb}
use Rattle.lists.specs.Place.{anywhere, lowest}
use Rattle.lists.specs.Table.{tabulated}
use Rattle.lists.proofs.PlaceLaws.{anywhere_of_none, anywhere_of_failing, anywhere_of_entry, lowest_of_none}
use Rattle.lists.proofs.PlaceLaws.{lowest_of_passing, lowest_of_failing}
use Rattle.timing.specs.Profile.{outside}
use Rattle.merge.proofs.RuleLaws.{neither}
use Rattle.page.specs.Page.{page_numbers}

module _ (pages : ℕ) where
  pub in_range : outside 1 16 pages ≡ false → (1 ≤ pages) × (pages ≤ 16)
  in_range e =
      let tests = neither (ltb pages 1) (ltb 16 pages) e in
      (ltb-false pages 1 tests.0, ltb-false 16 pages tests.1)

  pub each_page
      : (P : List ℕ → Type 0)
      → P []
      → ((n : ℕ) (ns : List ℕ) → 1 ≤ n → n ≤ pages → P ns → P (n ∷ ns))
      → P (page_numbers pages)
  unfolding page_numbers tabulated
  each_page P none more = from 0 pages (omega arith)
    where
      from : (k m : ℕ) → k + m ≡ pages → P (tabulated suc k m)
      from k zero h = none
      from k (suc m) h =
          more (suc k) (tabulated suc (suc k) m) (omega arith) (omega arith) (from (suc k) m (omega arith))

  -- a test that fails for each page
  pub nowhere_on_pages
      : (f : ℕ → Bool) → ((n : ℕ) → 1 ≤ n → n ≤ pages → f n ≡ false) → anywhere f (page_numbers pages) ≡ false
  nowhere_on_pages f never =
      each_page (λ ns. anywhere f ns ≡ false) (anywhere_of_none f)
      (λ n ns low high r. anywhere_of_failing f n ns (never n low high) ∙ r)

  -- ---- two functions that agree on each page

  pub pages_alike
      : {A : Type 0} (f g : ℕ → List A)
      → ((n : ℕ) → 1 ≤ n → n ≤ pages → f n ≡ g n)
      → flat_map f (page_numbers pages) ≡ flat_map g (page_numbers pages)
  unfolding flat_map
  pages_alike f g same =
      each_page (λ ns. flat_map f ns ≡ flat_map g ns) refl (λ n ns low high r. ap₂ ◌++◌ (same n low high) r)

  pub counts_alike
      : (f g : ℕ → ℕ)
      → ((n : ℕ) → 1 ≤ n → n ≤ pages → f n ≡ g n)
      → map f (page_numbers pages) ≡ map g (page_numbers pages)
  counts_alike f g same =
      each_page (λ ns. map f ns ≡ map g ns) refl (λ n ns low high r. ap₂ ◌∷◌ (same n low high) r)

  module _ (f g : ℕ → Bool) (same : (n : ℕ) → 1 ≤ n → n ≤ pages → f n ≡ g n) where
    pub anywhere_alike : anywhere f (page_numbers pages) ≡ anywhere g (page_numbers pages)
    anywhere_alike =
        each_page (λ ns. anywhere f ns ≡ anywhere g ns) (anywhere_of_none f ∙ sym (anywhere_of_none g)) more
      where
        more
            : (n : ℕ) (ns : List ℕ)
            → 1 ≤ n
            → n ≤ pages
            → anywhere f ns ≡ anywhere g ns
            → anywhere f (n ∷ ns) ≡ anywhere g (n ∷ ns)
        more n ns low high r =
            (elim (f n) as (λ t. f n ≡ t → anywhere f (n ∷ ns) ≡ anywhere g (n ∷ ns)) [
              | true ↦ λ e.
                  anywhere_of_entry f (n ∷ ns) 0 0 (omega arith) e
                  ∙ sym (anywhere_of_entry g (n ∷ ns) 0 0 (omega arith) (sym (same n low high) ∙ e))
              | false ↦ λ e.
                  anywhere_of_failing f n ns e ∙ r ∙ sym (anywhere_of_failing g n ns (sym (same n low high) ∙ e))
            ]) refl

    pub lowest_alike : lowest f (page_numbers pages) ≡ lowest g (page_numbers pages)
    lowest_alike =
        each_page (λ ns. lowest f ns ≡ lowest g ns)
        (lowest_of_none f [] (anywhere_of_none f) ∙ sym (lowest_of_none g [] (anywhere_of_none g))) more
      where
        more
            : (n : ℕ) (ns : List ℕ)
            → 1 ≤ n
            → n ≤ pages
            → lowest f ns ≡ lowest g ns
            → lowest f (n ∷ ns) ≡ lowest g (n ∷ ns)
        more n ns low high r =
            (elim (f n) as (λ t. f n ≡ t → lowest f (n ∷ ns) ≡ lowest g (n ∷ ns)) [
              | true ↦ λ e.
                  lowest_of_passing f n ns e ∙ sym (lowest_of_passing g n ns (sym (same n low high) ∙ e))
              | false ↦ λ e.
                  lowest_of_failing f n ns e
                  ∙ ap suc r
                  ∙ sym (lowest_of_failing g n ns (sym (same n low high) ∙ e))
            ]) refl
