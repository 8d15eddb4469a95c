-- `count::count_cells` answers the number of cells: the ones of the words, and what the closing 0s end. Rests on no
-- axiom.
use Prim.Native.Nat.{ℕ, ◌+◌, ◌%◌}
use mathlib.Core.Path.{◌≡◌, ap, ◌∙◌}
use mathlib.Core.Bool.{cond}
use mathlib.Core.List.{List}
use borrow.Author.Tests.{eq-eqb, ne_eqb}
use lib.Dec.{eqb}
use lib.ListN.{length}
use Rattle.items.specs.Rule.{list_rule}
use Rattle.items.specs.Written.{written}
use Rattle.items.proofs.RuleLaws.{listed}
use Rattle.items.proofs.WrittenLaws.{written_are_bytes}
use Rattle.symbols.specs.Cells.{written_cells}
use Rattle.images.specs.machine.Tally.{no_tally, tallied}
use Rattle.images.specs.declared.count.Tally.{Tally}
use Rattle.images.proofs.TallyLaws.{tally_is_count}
use Rattle.images.proofs.count.count_cells.Goals as goal

module _ (items : List ℕ) (accepted : (list_rule items).number ≡ 0) (tally : Tally)
    (counted : tally ≡ tallied no_tally (written items)) where
  whole : tally.cells + cond (eqb (tally.previous % 2) 1) 1 2 ≡ length (written_cells (written items))
  whole =
      ap (λ (t : Tally). t.cells + cond (eqb (t.previous % 2) 1) 1 2) counted
      ∙ tally_is_count (written items) (written_are_bytes items (listed items accepted).none_foreign)

pub returns-then-tally-eq1 : goal.returns-then-tally-eq1
returns-then-tally-eq1 c =
    rw (eq-eqb _ _ c.if-tally-eq1.true) at
    (whole c.args.items.now c.requires.0 _ c.count_items-tally.ensures)

pub returns : goal.returns
returns c =
    rw (ne_eqb _ _ c.if-tally-eq1.false) at
    (whole c.args.items.now c.requires.0 _ c.count_items-tally.ensures)
