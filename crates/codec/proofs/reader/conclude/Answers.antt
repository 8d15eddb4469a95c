-- Why `codec::reader::conclude` answers `strip_answer`: code and definition make the same tests in the same order.
-- Rests on no axiom.
use mathlib.Core.Path.{sym, ◌∙◌}
use borrow.Author.Tests.{eq-eqb, ne_eqb, lt-ltb, le-ltb}
use Rattle.symbols.specs.machine.Step.{strip_answer}
use Rattle.codec.proofs.reader.conclude.Goals as goal

pub returns-then-m-ne4 : goal.returns-then-m-ne4
unfolding strip_answer
returns-then-m-ne4 c = rw (ne_eqb _ 4 c.if-m-ne4.true)

pub returns-then-m-gt-MAX_BYTES : goal.returns-then-m-gt-MAX_BYTES
unfolding strip_answer
returns-then-m-gt-MAX_BYTES c = rw (eq-eqb _ 4 c.if-m-ne4.false, lt-ltb 6400 _ c.if-m-gt-MAX_BYTES.true)

pub returns-then-is_stray : goal.returns-then-is_stray
unfolding strip_answer
returns-then-is_stray c =
    rw (
      sym c.is_stray.ensures ∙ c.if-is_stray.true,
      eq-eqb _ 4 c.if-m-ne4.false,
      le-ltb 6400 _ c.if-m-gt-MAX_BYTES.false,
      c.stray_place.ensures,
    )

pub returns : goal.returns
unfolding strip_answer
returns c =
    rw (
      sym c.is_stray.ensures ∙ c.if-is_stray.false,
      eq-eqb _ 4 c.if-m-ne4.false,
      le-ltb 6400 _ c.if-m-gt-MAX_BYTES.false,
    )
