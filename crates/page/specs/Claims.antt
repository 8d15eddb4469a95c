-- Document 02 (xiv): what holds of pages and their sectors. No lemmas here.
use Rattle.std.specs.Prelude.{ℕ, suc, ◌+◌, ◌*◌, ◌<◌, ◌≤◌, ◌≡◌, Bool, true, ◌||◌, List, [], ◌∷◌, map, eqb, length}
use Rattle.lists.specs.Filled.{filled}
use Rattle.lists.specs.Sum.{sum_of}
use Rattle.refusal.specs.Answer.{accepted, refused}
use Rattle.sets.specs.Set.{sectors_in}
use Rattle.sets.specs.Held.{One, held_of}
use Rattle.merge.specs.Rule.{merge_rule, result}
use Rattle.merge.specs.Claims.{Takes}
use Rattle.page.specs.Page.{page_cells, page_numbers, dots_of}
use Rattle.page.specs.Reading.{PagesAnswer, no_dots, pages_in, read_rule, read_answer, read_output}
use Rattle.page.specs.Making.{page_of, sector_of_page, made_set, stretch_set, make_rule}

-- the numbers of a set that the merge would not take
abbrev pub is_of_set : ℕ → Bool
is_of_set number = eqb number 13 || eqb number 15 || eqb number 17

-- the pages of a list of cells, read: their number, their cells, and the dots on each
abbrev pub read_whole : List ℕ → ℕ → PagesAnswer
read_whole cells pages =
    record {
      answer = accepted pages;
      stored = page_cells * pages;
      dots = filled (map (λ n. dots_of (page_of cells n)) (page_numbers pages)) no_dots;
    }

-- several sets merged, the first with what the others give
unfoldable pub merged_all : List (List ℕ) → List ℕ
merged_all [] = []
merged_all (set ∷ sets) = result set (merged_all sets)

-- the merge takes each of them with what the others give
abbrev pub AllTaken : List (List ℕ) → Type 0
AllTaken [] = Unit {0}
AllTaken (set ∷ sets) = Takes set (merged_all sets) × AllTaken sets

-- the pages behind the first k in stretches, so many in each
unfoldable pub stretch_sets : List ℕ → ℕ → List ℕ → List (List ℕ)
stretch_sets cells k [] = []
stretch_sets cells k (share ∷ shares) = stretch_set cells k share ∷ stretch_sets cells (k + share) shares

pub record PageLaws : Type 0 where
  -- pages that were made into sectors, read, are the same pages, with the same dots
  pub there_and_back
      : (cells old : List ℕ) (pages room : ℕ)
      → (make_rule cells pages room).number ≡ 0
      → page_cells * pages ≤ length old
      → (read_answer (made_set cells pages) pages (length old) ≡ read_whole cells pages)
      × (read_output (made_set cells pages) pages old ≡ filled cells old)
  -- what is read has in each sector 1 to p exactly that page and 24 bytes of 00, of code 3 with a sum that holds
  pub read_from_sectors
      : (set : List ℕ) (pages room k : ℕ)
      → (read_rule set pages room).number ≡ 0
      → k < pages
      → held_of (suc k) (sectors_in set) ≡ One (sector_of_page (suc k) (page_of (pages_in (sectors_in set) pages) (suc k)))
  -- 13, 15 and 17 exactly where the merge of the set with the empty one gives them, with its place
  pub as_the_merge
      : (set : List ℕ) (pages room other number place : ℕ)
      → 1 ≤ pages
      → pages ≤ 16
      → is_of_set number ≡ true
      → (read_rule set pages room ≡ refused number place → merge_rule set [] other ≡ refused number place)
      × (merge_rule set [] other ≡ refused number place → read_rule set pages room ≡ refused number place)
  -- a set and the result of that merge give the same pages
  pub merged_gives_the_same
      : (set old : List ℕ) (pages room : ℕ)
      → (merge_rule set [] room).number ≡ 0
      → (read_answer (result set []) pages (length old) ≡ read_answer set pages (length old))
      × (read_output (result set []) pages old ≡ read_output set pages old)
  -- pages made into sectors that stand on several tracks, in order, some on each: their sets merged are the set of all
  pub over_several_sets
      : (cells shares : List ℕ) (pages room : ℕ)
      → (make_rule cells pages room).number ≡ 0
      → sum_of shares ≡ pages
      → AllTaken (stretch_sets cells 0 shares) × (merged_all (stretch_sets cells 0 shares) ≡ made_set cells pages)
