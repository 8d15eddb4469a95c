-- Document 02 (xiv): pages into sectors: 12, 13, 9. No lemmas here.
use Rattle.std.specs.Prelude.{ℕ, suc, ◌-◌, ◌*◌, true, not, List, ◌++◌, map, eqb, ltb, length, take, drop, replicate}
use Rattle.std.specs.Prelude.{Result, Ok, Err}
use Rattle.lists.specs.Table.{tabulated}
use Rattle.refusal.specs.Table.{number_of, place_of}
use Rattle.refusal.specs.Answer.{Answer, accepted, refused, refuse_if, settled}
use Rattle.refusal.specs.declared.Refusal.{Refusal}
use Rattle.timing.specs.Profile.{outside}
use Rattle.sets.specs.declared.SetSize.{SetSize}
use Rattle.sets.specs.Set.{Sector, set_bytes}
use Rattle.merge.specs.Rule.{MergeAnswer, storing}
use Rattle.page.specs.Page.{page_cells, fill_bytes, page_numbers}

-- page n of a list of cells
unfoldable pub page_of : List ℕ → ℕ → List ℕ
page_of cells n = take page_cells (drop (page_cells * (n - 1)) cells)

-- the sector of a page: its number, code 3, a sum that holds, and the page with 24 bytes of 00 behind it
unfoldable pub sector_of_page : ℕ → List ℕ → Sector
sector_of_page n page = record { number = n; code = 3; holds = true; bytes = page ++ replicate fill_bytes 0x00 }

-- sectors 1 to p
unfoldable pub made_sectors : List ℕ → ℕ → List Sector
made_sectors cells pages = map (λ n. sector_of_page n (page_of cells n)) (page_numbers pages)

-- as a set
unfoldable pub made_set : List ℕ → ℕ → List ℕ
made_set cells pages = set_bytes (made_sectors cells pages)

-- a stretch of them: so many behind the first k
unfoldable pub stretch_set : List ℕ → ℕ → ℕ → List ℕ
stretch_set cells k pages = set_bytes (map (λ n. sector_of_page n (page_of cells n)) (tabulated suc k pages))

-- 12 for a page count outside 1 to 16, then 13 for another length, then 9; else the number of sectors
unfoldable pub make_rule : List ℕ → ℕ → ℕ → Answer
make_rule cells pages room =
    refuse_if (outside 1 16 pages) 12 0
    (refuse_if (not (eqb (length cells) (page_cells * pages))) 13 0
    (refuse_if (ltb room (length (made_set cells pages))) 9 0
    (accepted pages)))

-- with the number of bytes stored
unfoldable pub make_answer : List ℕ → ℕ → ℕ → MergeAnswer
make_answer cells pages room = storing (make_rule cells pages room) (length (made_set cells pages))

-- what the output holds afterwards
unfoldable pub make_output : List ℕ → ℕ → List ℕ → List ℕ
make_output cells pages old = settled (make_rule cells pages (length old)) (made_set cells pages) old

-- the answer as it is declared
abbrev pub made_answer : Result SetSize Refusal → MergeAnswer
made_answer (Ok size) = record { answer = accepted size.count; stored = size.bytes }
made_answer (Err r) = record { answer = refused (number_of r) (place_of r); stored = 0 }
