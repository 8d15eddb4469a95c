-- Laws of a span: it may be wider, and get an entry; and what a loop keeps at numbers that are not there holds from the
-- first number to the span, and from its end to the last number. Rests on no axiom.
use Prim.Native.Nat.{ℕ, zero, suc, ◌+◌, ◌-◌, ◌≤◌, ◌<◌}
use mathlib.Core.Path.{◌≡◌, refl, ◌∙◌}
use mathlib.Core.Bool.{Bool, false}
use mathlib.Core.List.{List}
use native.Mathlib.Nat.{add-zero, zero-add}
use native.Mathlib.Omega.{arith}
use lib.ListN.{drop, get_or, set as stored, replicate, get_or-replicate}
use lib.Seq.{get_or-set_other}
use Rattle.lists.specs.Place.{lowest}
use Rattle.sets.specs.Held.{numbers, how_many}
use Rattle.sets.specs.declared.span.Span.{Span}
use Rattle.sets.specs.machine.Index.{Indexed}
use Rattle.sets.specs.machine.Span.{Spans, joined_span, Indexes}
use Rattle.sets.proofs.NumberLaws.{numbers_from, numbers_end}

-- ---- how a span grows

pub fresh_spans : Spans (record { low = 256; high = 0 }) (replicate 256 0)
fresh_spans =
    record {
      below = λ n h. get_or-replicate {A = ℕ} 256 n 0 0 h;
      above = λ n k h. get_or-replicate {A = ℕ} 256 n 0 0 h;
      low_ends = omega arith;
      high_ends = omega arith;
    }

module _ (span : Span) (index : List ℕ) (spans : Spans span index) where
  pub wider_spans
      : (wide : Span) → wide.low ≤ span.low → span.high ≤ wide.high → wide.high ≤ 256 → Spans wide index
  wider_spans wide l h e =
      record {
        below = λ n k. spans.below n (omega arith);
        above = λ n k m. spans.above n (omega arith) m;
        low_ends = omega arith;
        high_ends = e;
      }

  pub entry_spans
      : (number entry : ℕ) → span.low ≤ number → number < span.high → Spans span (stored index number entry)
  entry_spans number entry l h =
      record {
        below = λ n k. get_or-set_other index number n entry 0 (λ q. omega arith) ∙ spans.below n k;
        above = λ n k m. get_or-set_other index number n entry 0 (λ q. omega arith) ∙ spans.above n k m;
        low_ends = spans.low_ends;
        high_ends = spans.high_ends;
      }

-- two sets with their own
pub both_indexed
    : {first a second b : List ℕ} {one other span : Span}
    → Indexed first a × Spans one a
    → Indexed second b × Spans other b
    → span ≡ joined_span one other
    → Indexes first a second b span
both_indexed {one = one} {other = other} f s e =
    rw e (record {
      one = f.0;
      other = s.0;
      one_spans = wider_spans _ _ f.1 (joined_span one other) (omega arith) (omega arith)
          (omega (arith, f.1.high_ends, s.1.high_ends));
      other_spans = wider_spans _ _ s.1 (joined_span one other) (omega arith) (omega arith)
          (omega (arith, f.1.high_ends, s.1.high_ends));
    })

-- ---- numbers that are not there

passed_over
    : (P : ℕ → Type 0) (m n : ℕ) → m ≤ n → ((k : ℕ) → m ≤ k → k < n → P k → P (k + 1)) → P m → P n
passed_over P m n order step start =
    let e : m + (n - m) ≡ n = omega arith in rw e at (from (n - m) (omega arith))
  where
    from : (d : ℕ) → m + d ≤ n → P (m + d)
    from zero h = rw (add-zero m) start
    from (suc d) h =
        let e : m + suc d ≡ m + d + 1 = omega arith in
        rw e (step (m + d) (omega arith) (omega arith) (from d (omega arith)))

module _ (span : Span) (a b : List ℕ) (one : Spans span a) (other : Spans span b) where
  module _
      (P : ℕ → Type 0) (kept : (n : ℕ) → n < 256 → get_or a n 0 ≡ 0 → get_or b n 0 ≡ 0 → P n → P (n + 1))
    where
      pub before_span : P 0 → P span.low
      before_span =
          passed_over P 0 span.low (omega arith)
          (λ k m h. kept k (omega arith) (one.below k h) (other.below k h))

      pub after_span : (n : ℕ) → span.high ≤ n → n ≤ 256 → P n → P 256
      after_span n beyond inside =
          passed_over P n 256 inside
          (λ k m h. kept k h (one.above k (omega arith) h) (other.above k (omega arith) h))

  -- ---- a test that fails where neither has an entry

  module _ (f : ℕ → Bool) (fails : (n : ℕ) → n < 256 → get_or a n 0 ≡ 0 → get_or b n 0 ≡ 0 → f n ≡ false) where
    pub count_before : how_many f numbers ≡ how_many f (drop span.low numbers)
    unfolding how_many
    count_before =
        before_span (λ k. how_many f numbers ≡ how_many f (drop k numbers))
        (λ k h e d p. rw (numbers_from k h, fails k h e d) at p) refl

    pub count_after : (n : ℕ) → span.high ≤ n → n ≤ 256 → how_many f (drop n numbers) ≡ 0
    unfolding how_many
    count_after n beyond inside =
        rw (numbers_end 256 (omega arith)) at
        (after_span (λ k. how_many f (drop n numbers) ≡ how_many f (drop k numbers))
        (λ k h e d p. rw (numbers_from k h, fails k h e d) at p) n beyond inside refl)

    abbrev Lowest : ℕ → Type 0
    Lowest n = n + lowest f (drop n numbers) ≡ lowest f numbers

    not_here : (n : ℕ) → n < 256 → get_or a n 0 ≡ 0 → get_or b n 0 ≡ 0 → Lowest n → Lowest (n + 1)
    unfolding lowest
    not_here n h e d p = omega (arith, rw (numbers_from n h, fails n h e d) at p)

    pub lowest_before : Lowest span.low
    lowest_before = before_span Lowest not_here (zero-add _)

    pub lowest_after : (n : ℕ) → span.high ≤ n → n ≤ 256 → Lowest n → 256 ≡ lowest f numbers
    unfolding lowest
    lowest_after n beyond inside p =
        rw (numbers_end 256 (omega arith)) at (after_span Lowest not_here n beyond inside p)
