-- Document 01, "Turned-away numbers", strip reader: 1, 2, 4 (intervals), the first of 5 or 6, 7, 4 (bytes), 8, 9. No
-- lemmas here.
use Rattle.std.specs.Prelude.{ℕ, List, ltb, length}
use Rattle.refusal.specs.Answer.{Answer, accepted, refuse_if, first_refusal, settled}
use Rattle.timing.specs.Profile.{profile_rule}
use Rattle.timing.specs.Class.{classes_of}
use Rattle.timing.specs.declared.Profile.{Profile}
use Rattle.symbols.specs.Strip.{strip_rule, strip_items}
use Rattle.intervals.specs.Cells.{edge_rule, cells_read}

-- the list that a stream reads as
unfoldable pub items_of_stream : Profile → List ℕ → List ℕ
items_of_stream p ds = strip_items (cells_read p ds)

-- what the strip reader answers for a stream and an output of `room` places; the count is the number of items
unfoldable pub read_rule : Profile → List ℕ → ℕ → Answer
read_rule p ds room =
    first_refusal (profile_rule p)
    (refuse_if (ltb 51202 (length ds)) 4 0
    (first_refusal (edge_rule (classes_of p ds))
    (first_refusal (strip_rule (cells_read p ds))
    (refuse_if (ltb room (length (items_of_stream p ds))) 9 0
    (accepted (length (items_of_stream p ds)))))))

-- what the output holds afterwards
unfoldable pub read_output : Profile → List ℕ → List ℕ → List ℕ
read_output p ds old = settled (read_rule p ds (length old)) (items_of_stream p ds) old
