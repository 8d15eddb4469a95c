-- Document 02, (xiv): the causes of reading pages from a set of sectors and of making them into one, in their turn. No
-- lemmas here.
use Rattle.std.specs.Prelude.{ℕ, suc, ◌*◌, ◌<◌, ◌≡◌, Bool, true, List, ◌⊎◌, length}
use Rattle.lists.specs.Place.{anywhere, lowest}
use Rattle.refusal.specs.Answer.{Answer}
use Rattle.sets.specs.Set.{is_misfit_set, sectors_in}
use Rattle.sets.specs.Held.{numbers}
use Rattle.sets.specs.Alone.{is_twice_in}
use Rattle.page.specs.Page.{page_cells, page_numbers}
use Rattle.page.specs.Reading.{PagesAnswer, lost_at, soiled_at}
use Rattle.page.specs.Making.{made_set}
use Rattle.demands.specs.Order.{Order, accept, turn, at0}

-- 12, miscount: the page count is outside 1 to 16
abbrev pub NotOneToSixteen : ℕ → Type 0
NotOneToSixteen pages = (pages < 1) ⊎ (16 < pages)

-- of pages 1 to p, one fails a test; the lowest such page
abbrev pub LowestPage : (ℕ → Bool) → ℕ → ℕ → Type 0
LowestPage test pages place =
    (anywhere test (page_numbers pages) ≡ true) × (place ≡ suc (lowest test (page_numbers pages)))

-- reading: 12, 13 (a list that is no set), 15 (above 32 sectors), 17 (a number twice; the lowest), 19 (missing, not of
-- code 3, or whose sum fails), 20 (the last 24 bytes are not all 00), 9
abbrev pub page_reader_order : List ℕ → ℕ → ℕ → Order
page_reader_order set pages room =
    turn 12 (at0 (NotOneToSixteen pages))
    (turn 13 (at0 (is_misfit_set set ≡ true))
    (turn 15 (at0 (32 < length (sectors_in set)))
    (turn 17 (λ place.
    (anywhere (is_twice_in (sectors_in set)) numbers ≡ true)
    × (place ≡ lowest (is_twice_in (sectors_in set)) numbers))
    (turn 19 (LowestPage (lost_at (sectors_in set)) pages)
    (turn 20 (LowestPage (soiled_at (sectors_in set)) pages)
    (turn 9 (at0 (room < page_cells * pages))
    accept))))))

-- making: 12, 13 (the cells are not 1,000 for each page), 9
abbrev pub page_maker_order : List ℕ → ℕ → ℕ → Order
page_maker_order cells pages room =
    turn 12 (at0 (NotOneToSixteen pages))
    (turn 13 (at0 (length cells ≡ page_cells * pages → ⊥))
    (turn 9 (at0 (room < length (made_set cells pages)))
    accept))

-- the reader's answer with the cells stored as its count, which is what the lent buffer goes by
abbrev pub counted_in_cells : PagesAnswer → Answer
counted_in_cells a = record { number = a.answer.number; place = a.answer.place; count = a.stored }
