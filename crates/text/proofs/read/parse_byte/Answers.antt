-- Why `text::parse_byte` answers `byte_read`: the field has two characters, and each is a digit where its number is
-- below 16. Rests on no axiom.
use mathlib.Core.Path.{refl, sym, ◌∙◌}
use mathlib.Core.Bool.{and-false}
use native.Mathlib.Omega.{arith}
use borrow.Author.Tests.{lt-ltb, le-ltb, eq-eqb, ne_eqb}
use Rattle.text.proofs.HexLaws.{byte_by_length, digit_known, none_known}
use Rattle.text.proofs.read.parse_byte.Goals as goal

pub returns-then-field-ne2 : goal.returns-then-field-ne2
returns-then-field-ne2 c = rw (byte_by_length _ _ _ refl refl, ne_eqb _ 2 c.if-field-ne2.true)

pub returns-in_err-high : goal.returns-in_err-high
returns-in_err-high c =
    let high = none_known _ (sym c.in_err-high.was ∙ c.hex_digit.ensures) in
    rw (c.from_residual.ensures, byte_by_length _ _ _ refl refl, le-ltb _ 16 high, and-false)

pub returns-in_err-low : goal.returns-in_err-low
returns-in_err-low c =
    let low = none_known _ (sym c.in_err-low.was ∙ c.hex_digit-2.ensures) in
    rw (c.from_residual-in_err-low.ensures, byte_by_length _ _ _ refl refl, le-ltb _ 16 low, and-false, and-false)

pub overflow_mul-result : goal.overflow_mul-result
overflow_mul-result c =
    let high = digit_known _ _ (sym c.in_ok-high.was ∙ c.hex_digit.ensures) in record { fits = omega (arith, high.1) }

pub overflow_add-result : goal.overflow_add-result
overflow_add-result c =
    let high = digit_known _ _ (sym c.in_ok-high.was ∙ c.hex_digit.ensures) in
    let low = digit_known _ _ (sym c.in_ok-low.was ∙ c.hex_digit-2.ensures) in
    record { fits = omega (arith, high.1, low.1) }

pub returns : goal.returns
returns c =
    let high = digit_known _ _ (sym c.in_ok-high.was ∙ c.hex_digit.ensures) in
    let low = digit_known _ _ (sym c.in_ok-low.was ∙ c.hex_digit-2.ensures) in
    rw (
      byte_by_length _ _ _ high.0 low.0,
      eq-eqb _ 2 c.if-field-ne2.false,
      lt-ltb c.in_ok-high.high 16 high.1,
      lt-ltb c.in_ok-low.low 16 low.1,
    )
