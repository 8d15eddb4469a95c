-- The least and the greatest of a list span it. Rests on no axiom.
use Prim.Native.Nat.{ℕ}
use mathlib.Core.List.{List}
use Rattle.lists.specs.Span.{least, greatest}
use Rattle.lists.proofs.SpanLaws.{least_is_no_more, greatest_is_no_less, least_is_of_one, greatest_is_of_one}
use Rattle.report.specs.Claims.{Spanned}

pub spanned : (ds : List ℕ) → Spanned ds (least ds) (greatest ds)
spanned ds =
    record {
      none_below = least_is_no_more ds;
      none_above = greatest_is_no_less ds;
      low_is_there = least_is_of_one ds;
      high_is_there = greatest_is_of_one ds;
    }
