-- Machine, not meaning: laws tie it to Held (`proofs/SpanLaws`). No lemmas here.
-- Which numbers a loop over an index goes through: outside of its span an index has no entry.
use Rattle.std.specs.Prelude.{ℕ, ◌≤◌, ◌<◌, min, max, ◌≡◌, List, get_or}
use Rattle.sets.specs.declared.span.Span.{Span}
use Rattle.sets.specs.machine.Index.{Indexed}

pub record Spans (span : Span) (index : List ℕ) : Type 0 where
  pub below : (n : ℕ) → n < span.low → get_or index n 0 ≡ 0
  pub above : (n : ℕ) → span.high ≤ n → n < 256 → get_or index n 0 ≡ 0
  pub low_ends : span.low ≤ 256
  pub high_ends : span.high ≤ 256

-- the numbers of either
abbrev pub joined_span : Span → Span → Span
joined_span a b = record { low = min a.low b.low; high = max a.high b.high }

-- two sets with their indexes, and a span of the numbers of both
pub record Indexes (first a second b : List ℕ) (span : Span) : Type 0 where
  pub one : Indexed first a
  pub other : Indexed second b
  pub one_spans : Spans span a
  pub other_spans : Spans span b
