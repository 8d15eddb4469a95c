-- Why `dots::grow` adds the dots of three cells to a column: no half of three runs over into the other. Rests on no
-- axiom.
use native.Mathlib.Omega.{arith}
use Rattle.page.proofs.CellLaws.{Three, three_cells, halves_are_small}
use Rattle.page.proofs.dots.grow.Goals as goal

three
    : (c : goal.After-halves-3)
    → let args = c.args in
    Three args.a args.b args.c
three c =
    three_cells _ _ _ c.ranges.a.fits c.ranges.b.fits c.ranges.c.fits

pub overflow_add-three : goal.overflow_add-three
overflow_add-three c =
    omega (
      arith,
      c.halves-2.ensures,
      c.halves.ensures,
      halves_are_small c.args.a c.ranges.a.fits,
      halves_are_small c.args.b c.ranges.b.fits,
    )

pub overflow_add-three-2 : goal.overflow_add-three-2
overflow_add-three-2 c =
    omega (
      arith,
      c.halves-3.ensures,
      c.halves-2.ensures,
      c.halves.ensures,
      (three c).small,
    )

pub overflow_add-result-2 : goal.overflow_add-result-2
overflow_add-result-2 c =
    rw (c.halves-3.ensures, c.halves-2.ensures, c.halves.ensures)
    (omega (arith, (three c).low, (three c).high, c.requires))

pub returns : goal.returns
returns c =
    rw (c.halves-3.ensures, c.halves-2.ensures, c.halves.ensures)
    (omega (arith, (three c).dots))
