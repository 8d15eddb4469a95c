-- Why `text::parse_decimal` answers `decimal_read`: a decimal is digits with no leading zero. Rests on no axiom.
use Rattle.text.proofs.DecimalLaws.{decimal_read_is_digits}
use Rattle.text.proofs.read.parse_decimal.Goals as goal

pub returns-then-no_leading_zero : goal.returns-then-no_leading_zero
returns-then-no_leading_zero c =
    rw (decimal_read_is_digits, ← c.no_leading_zero.ensures, c.if-no_leading_zero.true)
    c.parse_digits.ensures

pub returns : goal.returns
returns c = rw (decimal_read_is_digits, ← c.no_leading_zero.ensures, c.if-no_leading_zero.false)
