-- Document 02 (xiv): pages from a set of sectors: 12, 13, 15, 17, 19, 20, 9. No lemmas here.
use Rattle.std.specs.Prelude.{ℕ, suc, ◌*◌, Bool, true, cond, not, ◌&&◌, eqb, ltb, length, replicate}
use mathlib.Core.List.{List, [], map, flat_map}
use Rattle.lists.specs.Place.{anywhere, lowest}
use Rattle.refusal.specs.Answer.{Answer, accepted, refuse_if, first_refusal, settled}
use Rattle.timing.specs.Profile.{outside}
use Rattle.sets.specs.Set.{Sector, sectors_in}
use Rattle.sets.specs.Held.{Held, Nothing, One, Twice, held_of}
use Rattle.sets.specs.Alone.{set_rule}
use Rattle.page.specs.Page.{page_cells, page_numbers, cells_in, is_soiled, dots_of}
use Rattle.page.specs.declared.reading.Pages.{Pages}

-- 19, lost page: missing, not of code 3, or whose sum fails. A number twice is turned away before
unfoldable pub is_lost : Held → Bool
is_lost Nothing = true
is_lost (One s) = not (eqb s.code 3 && s.holds)
is_lost Twice = true

-- the data of a sector that is there
abbrev pub data_in : Held → List ℕ
data_in Nothing = []
data_in (One s) = s.bytes
data_in Twice = []

module _ (ss : List Sector) where
  unfoldable pub lost_at : ℕ → Bool
  lost_at n = is_lost (held_of n ss)

  -- 20, soiled fill
  unfoldable pub soiled_at : ℕ → Bool
  soiled_at n = is_soiled (data_in (held_of n ss))

  -- the page of a number, from the sector so numbered
  unfoldable pub page_at : ℕ → List ℕ
  page_at n = cells_in (data_in (held_of n ss))

  -- pages 1 to p
  unfoldable pub pages_in : ℕ → List ℕ
  pages_in pages = flat_map page_at (page_numbers pages)

  -- and the number of raised dots on each
  unfoldable pub dots_in : ℕ → List ℕ
  dots_in pages = map (λ n. dots_of (page_at n)) (page_numbers pages)

  -- 19 with the lowest number, then 20 with the number, from 1, of the lowest page, then 9; else the number of pages
  unfoldable pub pages_rule : ℕ → ℕ → Answer
  pages_rule pages room =
      refuse_if (anywhere lost_at (page_numbers pages)) 19 (suc (lowest lost_at (page_numbers pages)))
      (refuse_if (anywhere soiled_at (page_numbers pages)) 20 (suc (lowest soiled_at (page_numbers pages)))
      (refuse_if (ltb room (page_cells * pages)) 9 0
      (accepted pages)))

-- 12 for a page count outside 1 to 16, then 13, 15 and 17 for a set that the merge would not take
unfoldable pub read_rule : List ℕ → ℕ → ℕ → Answer
read_rule set pages room =
    refuse_if (outside 1 16 pages) 12 0
    (first_refusal (set_rule set)
    (pages_rule (sectors_in set) pages room))

-- an answer with the number of cells stored and the dots of sixteen pages, 0 beyond those read: nothing but 0 on a
-- refusal
pub record PagesAnswer : Type 0 where
  pub answer : Answer
  pub stored : ℕ
  pub dots : List ℕ

-- the dots of no page
abbrev pub no_dots : List ℕ
no_dots = replicate 16 0

unfoldable pub read_answer : List ℕ → ℕ → ℕ → PagesAnswer
read_answer set pages room =
    record {
      answer = read_rule set pages room;
      stored = cond (eqb (read_rule set pages room).number 0) (page_cells * pages) 0;
      dots = settled (read_rule set pages room) (dots_in (sectors_in set) pages) no_dots;
    }

-- what the output holds afterwards
unfoldable pub read_output : List ℕ → ℕ → List ℕ → List ℕ
read_output set pages old = settled (read_rule set pages (length old)) (pages_in (sectors_in set) pages) old

-- as it is handed back, also through the C interface
abbrev pub handed_back : PagesAnswer → Pages
handed_back a =
    record {
      number = a.answer.number;
      place = a.answer.place;
      count = a.answer.count;
      used = a.stored;
      dots = a.dots;
    }
