-- Document 02, (xii): when a side is named, and the answer. No lemmas here. That the answer names exactly these sides,
-- and what its evidence is, is the claim of `demands/specs/HeldDown`.
use Rattle.std.specs.Prelude.{ℕ, ◌+◌, ◌<◌, ◌≡◌, Bool, true, false, List, [], ◌∷◌, length, get_or, take, replicate}
use Rattle.std.specs.Prelude.{Option, Some, None, Result, Ok, Err}
use Rattle.lists.specs.Filled.{filled}
use Rattle.refusal.specs.Answer.{Answer, accepted, refused, first_refusal}
use Rattle.refusal.specs.Table.{number_of, place_of}
use Rattle.refusal.specs.declared.Refusal.{Refusal}
use Rattle.timing.specs.Profile.{profile_rule}
use Rattle.timing.specs.declared.Profile.{Profile}
use Rattle.items.specs.Rule.{list_rule}
use Rattle.items.specs.Written.{written}
use Rattle.symbols.specs.Cells.{written_cells}
use Rattle.lengths.specs.Stream.{stream_of}
use Rattle.lengths.specs.Margin.{after_two, margin_of}
use Rattle.limits.specs.Sides.{sides, crosses}
use Rattle.limits.specs.machine.Search.{searched, limit_of, blank}
use Rattle.limits.specs.declared.side.Side.{Side}
use Rattle.limits.specs.declared.search.Evidence.{Evidence}
use Rattle.limits.specs.declared.Limit.{Limit}
use Rattle.limits.specs.declared.Limits.{Limits}

-- margin + 1
abbrev pub one_more : Profile → ℕ
one_more p = margin_of p + 1

-- the length at place k of a list's stream is on that side and crosses the edge if moved by margin + 1
pub record CrossesAt (p : Profile) (s : Side) (items : List ℕ) (k : ℕ) : Type 0 where
  pub in_stream : k < length (stream_of p items)
  pub crosses_edge
      : crosses p s (one_more p) (after_two (written_cells (written items)) k) (get_or (stream_of p items) k 0) ≡ true

-- some length written on that side, by some accepted list, crosses the edge if moved by margin + 1
pub record Named (p : Profile) (s : Side) : Type 0 where
  pub items : List ℕ
  pub accepted_list : (list_rule items).number ≡ 0
  pub place : ℕ
  pub there : CrossesAt p s items place

-- moved towards the edge by n: down from above it, up from below it
unfoldable pub MovedBy : Bool → ℕ → ℕ → ℕ → Type 0
MovedBy true n length moved = moved + n ≡ length
MovedBy false n length moved = moved ≡ length + n

-- the sides that the search finds, each with what it has seen
abbrev pub if_seen : Profile → Side → Option Evidence → List Limit → List Limit
if_seen p s None later = later
if_seen p s (Some shown) later = limit_of p s shown.item shown.interval ∷ later

unfoldable pub limits_from : Profile → ℕ → List Side → List Limit
limits_from p n [] = []
limits_from p n (s ∷ ss) = if_seen p s (searched p s n) (limits_from p n ss)

-- the sides that hold the margin down, in their order
unfoldable pub limits_of : Profile → List Limit
limits_of p = limits_from p (one_more p) sides

-- 1, 2, as for the margin; then the number of sides
unfoldable pub limits_rule : Profile → Answer
limits_rule p = first_refusal (profile_rule p) (accepted (length (limits_of p)))

-- the ten places that are handed back: as many limits as the count says, on a refusal none, then blank ones
unfoldable pub limits_table : Profile → List Limit
limits_table p = filled (take (limits_rule p).count (limits_of p)) (replicate 10 blank)

-- what the code answers, as the paper gives it
abbrev pub limits_answer : Result Limits Refusal → Answer
limits_answer (Ok found) = accepted found.count
limits_answer (Err r) = refused (number_of r) (place_of r)

-- and its ten places: blank ones on a refusal
abbrev pub limits_given : Result Limits Refusal → List Limit
limits_given (Ok found) = found.limits
limits_given (Err r) = replicate 10 blank
