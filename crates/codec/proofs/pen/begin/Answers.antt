-- Why `codec::pen::begin` begins a byte: two windows, one after the other. Rests on no axiom.
use Prim.Native.Nat.{ℕ}
use mathlib.Core.Path.{sym, ap, ◌∙◌}
use mathlib.Core.List.{List}
use native.Mathlib.Omega.{arith}
use Rattle.codec.specs.declared.pen.Pen.{Pen}
use Rattle.codec.specs.machine.Pen.{Drawing, drawing, laid, entered, first_window, second_window, begun}
use Rattle.codec.proofs.PenLaws.{laid_moves_on, entered-length, next_fits}
use Rattle.codec.proofs.pen.begin.Goals as goal

-- after the first window
abbrev after_first : List ℕ → Pen → List ℕ → ℕ → Drawing
after_first table start out byte = entered table (drawing start.cells out) (first_window start.previous byte)

pub enter-at-requires : goal.enter-at-requires
unfolding begun
enter-at-requires c =
    let args = c.args in
    let byte = c.requires.byte_bound in
    let on =
    laid_moves_on args.table.now (after_first args.table.now args.start args.out.now args.byte)
    (second_window args.start.previous args.byte) in
    record { window_bound = omega arith; window_in_bounds = omega (arith, c.requires.byte_in_bounds) }

pub lay-requires : goal.lay-requires
unfolding begun
lay-requires c =
    let args = c.args in
    let byte = c.requires.byte_bound in (
      omega arith,
      next_fits args.table.now (after_first args.table.now args.start args.out.now args.byte) _ _ _
          c.enter-at.ensures c.requires.byte_in_bounds
          (sym (entered-length args.table.now (drawing args.start.cells args.out.now) _)),
    )

pub returns : goal.returns
unfolding begun
returns c =
    c.lay.ensures
    ∙ ap (λ (d : Drawing).
    laid c.args.table.now d (second_window c.args.start.previous c.args.byte))
    c.enter-at.ensures
