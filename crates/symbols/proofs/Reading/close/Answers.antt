-- Why `Reading::close` gives `closed`: both ask whether the word has a gap, whether it is a mark, and whether a gap was
-- out of place before.
use Rattle.std.proofs.Common.{sym, ◌∙◌, eq-eqb, ne_eqb}
use Rattle.half_cells.specs.machine.Word.{misfits}
use Rattle.symbols.specs.machine.Step.{surplus, word_of, closed}
use Rattle.symbols.proofs.Reading.close.Goals as goal

pub returns-then-gaps-eq0 : goal.returns-then-gaps-eq0
unfolding misfits surplus word_of closed
returns-then-gaps-eq0 c =
    rw (← c.missing-gaps.ensures, eq-eqb _ _ c.if-gaps-eq0.true)

pub returns-then-is_mark : goal.returns-then-is_mark
unfolding misfits surplus word_of closed
returns-then-is_mark c =
    rw (
      ← c.missing-gaps.ensures,
      ne_eqb _ _ c.if-gaps-eq0.false,
      sym c.is_mark.ensures ∙ c.if-is_mark.true,
    )

pub returns-then-self : goal.returns-then-self
unfolding misfits surplus word_of closed
returns-then-self c =
    rw (
      ← c.missing-gaps.ensures,
      ne_eqb _ _ c.if-gaps-eq0.false,
      sym c.is_mark.ensures ∙ c.if-is_mark.false,
      c.if-self.true,
    )

pub returns : goal.returns
unfolding misfits surplus word_of closed
returns c =
    rw (
      ← c.missing-gaps.ensures,
      ne_eqb _ _ c.if-gaps-eq0.false,
      sym c.is_mark.ensures ∙ c.if-is_mark.false,
      c.if-self.false,
      ← c.cells_since.ensures,
      ← c.first_of_cells.ensures,
    )
