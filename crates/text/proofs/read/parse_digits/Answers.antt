-- Why `text::parse_digits` answers `digits_read`: at each place the answer is that of the digits left after the number
-- so far. Rests on no axiom.
use Prim.Native.Nat.{ℕ, suc, ◌<◌}
use mathlib.Core.Path.{◌≡◌, sym, ◌∙◌}
use mathlib.Core.List.{List, ◌∷◌}
use native.Mathlib.Numerals.{add-one}
use native.Mathlib.Omega.{arith}
use lib.ListN.{length, drop, get_or, drop_of_length-le}
use lib.Seq.{drop-cons}
use Rattle.text.specs.Decimal.{digits_read}
use Rattle.text.proofs.DecimalLaws.{digits_after, digits_after_none, digits_at_the_end, digits_too_large}
use Rattle.text.proofs.DecimalLaws.{digits_at_digit, digits_below, digits_above}
use Rattle.text.proofs.read.parse_digits.Goals as goal

-- the digit at place i and those after it
turn
    : (n i : ℕ) (s : List ℕ)
    → i < length s
    → digits_after n (drop i s) ≡ digits_read s
    → digits_after n (get_or s i 0 ∷ drop (suc i) s) ≡ digits_read s
turn n i s h e = rw (drop-cons s i 0 h) at e

pub loop-d-init : goal.loop-d-init
loop-d-init c = (omega arith, digits_after_none _)

pub returns-then-d-lt48 : goal.returns-then-d-lt48
returns-then-d-lt48 c = sym (digits_below _ _ _ c.if-d-lt48.true) ∙ turn _ _ _ c.loop-d-test.true c.loop-d.invariant.1

pub returns-then-d-gt57 : goal.returns-then-d-gt57
returns-then-d-gt57 c = sym (digits_above _ _ _ c.if-d-gt57.true) ∙ turn _ _ _ c.loop-d-test.true c.loop-d.invariant.1

pub returns-then-value-gt65535 : goal.returns-then-value-gt65535
returns-then-value-gt65535 c =
    sym (digits_too_large _ _ c.if-value-gt65535.true)
    ∙ sym (digits_at_digit _ _ _ c.if-d-lt48.false c.if-d-gt57.false)
    ∙ turn _ _ _ c.loop-d-test.true c.loop-d.invariant.1

pub loop-d-preserved : goal.loop-d-preserved
loop-d-preserved c = (
  c.if-value-gt65535.false,
  rw add-one
      (sym (digits_at_digit _ _ _ c.if-d-lt48.false c.if-d-gt57.false)
      ∙ turn _ _ _ c.loop-d-test.true c.loop-d.invariant.1),
)

pub returns : goal.returns
returns c = cc (drop_of_length-le _ c.loop-d-test.false, digits_at_the_end _ c.loop-d.invariant.0)
