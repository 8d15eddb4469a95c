-- Why `text::hex_digit` answers `digit_read`: the tests part the bytes into the ranges of the definition. Rests on no
-- axiom.
use mathlib.Core.Bool.{and-false}
use native.Mathlib.Omega.{arith}
use borrow.Author.Tests.{le-leb, lt-leb}
use Rattle.text.specs.Hex.{hex_digit}
use Rattle.text.proofs.HexLaws.{digit_is, no_digit}
use Rattle.text.proofs.read.hex_digit.Goals as goal

pub returns-then-b-lt48 : goal.returns-then-b-lt48
unfolding hex_digit
returns-then-b-lt48 c = no_digit _ (rw (lt-leb 48 _ c.if-b-lt48.true, lt-leb 65 c.args.b (omega arith)))

pub returns-then-b-le57 : goal.returns-then-b-le57
unfolding hex_digit
returns-then-b-le57 c =
    digit_is _ _ (rw (le-leb 48 _ c.if-b-lt48.false, le-leb _ 57 c.if-b-le57.true)) (omega arith)

pub returns-then-b-lt65 : goal.returns-then-b-lt65
unfolding hex_digit
returns-then-b-lt65 c =
    no_digit _ (rw (lt-leb _ 57 c.if-b-le57.false, and-false, lt-leb 65 _ c.if-b-lt65.true))

pub returns-then-b-le70 : goal.returns-then-b-le70
unfolding hex_digit
returns-then-b-le70 c =
    digit_is _ _
    (rw (
      lt-leb _ 57 c.if-b-le57.false,
      and-false,
      le-leb 65 _ c.if-b-lt65.false,
      le-leb _ 70 c.if-b-le70.true,
    )
    (omega arith)) (omega arith)

pub returns : goal.returns
unfolding hex_digit
returns c =
    no_digit _ (rw (lt-leb _ 57 c.if-b-le57.false, and-false, lt-leb _ 70 c.if-b-le70.false, and-false))
