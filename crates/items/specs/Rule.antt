-- Document 01, "Turned-away numbers": when a list of items is accepted. No lemmas here.
use Rattle.std.specs.Prelude.{ℕ, ◌||◌, List, ltb, length}
use Rattle.lists.specs.Place.{anywhere, lowest}
use Rattle.refusal.specs.Answer.{Answer, accepted, refuse_if}
use Rattle.items.specs.Item.{is_foreign, written_bytes}

-- 4, overlong: over 6,400 items or written bytes; then 3, foreign: the lowest number that is no item
unfoldable pub list_rule : List ℕ → Answer
list_rule items =
    refuse_if (ltb 6400 (length items) || ltb 6400 (written_bytes items)) 4 0
    (refuse_if (anywhere is_foreign items) 3 (lowest is_foreign items)
    (accepted 0))
