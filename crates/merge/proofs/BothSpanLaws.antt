-- What a loop over two indexes keeps at numbers that neither set has: nothing is at odds there, and nothing is put out.
-- Rests on no axiom.
use Prim.Native.Nat.{ℕ, ◌+◌, ◌≤◌, ◌<◌}
use mathlib.Core.Path.{◌≡◌, refl, sym, ◌∙◌}
use mathlib.Core.Bool.{false}
use mathlib.Core.List.{List, []}
use native.Mathlib.Omega.{arith}
use lib.ListN.{get_or}
use Rattle.sets.specs.Set.{sectors_in, set_bytes}
use Rattle.sets.specs.declared.span.Span.{Span}
use Rattle.sets.specs.machine.Index.{shown}
use Rattle.sets.specs.machine.Span.{Indexes}
use Rattle.sets.proofs.ShownLaws.{zero_shows_nothing}
use Rattle.sets.proofs.SpanLaws.{before_span, after_span}
use Rattle.merge.specs.Merge.{taken, at_odds, at_odds_at}
use Rattle.merge.specs.Rule.{result}
use Rattle.merge.specs.machine.Tests.{entry_in_either}
use Rattle.merge.proofs.ChoiceLaws.{entries_at_odds}
use Rattle.merge.proofs.AscendingLaws.{bytes_from, all_bytes, bytes_at_end, bytes_here}

module _ (first a second b : List ℕ) (span : Span) (both : Indexes first a second b span) where
  pub nothing_at_odds
      : (n : ℕ)
      → n < 256
      → get_or a n 0 ≡ 0
      → get_or b n 0 ≡ 0
      → at_odds_at (sectors_in first) (sectors_in second) n ≡ false
  unfolding at_odds
  nothing_at_odds n h e d =
      sym (rw (zero_shows_nothing first _ e, zero_shows_nothing second _ d) at
      (entries_at_odds first second a b both.one both.other n h))

  no_bytes
      : (n : ℕ) → n < 256 → get_or a n 0 ≡ 0 → get_or b n 0 ≡ 0 → bytes_from first second n ≡ bytes_from first second (n + 1)
  unfolding set_bytes taken shown
  no_bytes n h e d = rw (e, d) at (bytes_here first second a b both.one both.other n h)

  pub bytes_before : result first second ≡ bytes_from first second span.low
  bytes_before =
      before_span span a b both.one_spans both.other_spans
      (λ k. result first second ≡ bytes_from first second k) (λ k h e d p. p ∙ no_bytes k h e d)
      (all_bytes first second)

  pub bytes_after : (n : ℕ) → span.high ≤ n → n ≤ 256 → bytes_from first second n ≡ []
  bytes_after n beyond inside =
      after_span span a b both.one_spans both.other_spans
      (λ k. bytes_from first second n ≡ bytes_from first second k) (λ k h e d p. p ∙ no_bytes k h e d) n beyond inside
      refl
      ∙ bytes_at_end first second 256 (omega arith)

pub no_entry : (a b : List ℕ) (n : ℕ) → n < 256 → get_or a n 0 ≡ 0 → get_or b n 0 ≡ 0 → entry_in_either a b n ≡ false
unfolding entry_in_either
no_entry a b n h e d = rw (e, d)
