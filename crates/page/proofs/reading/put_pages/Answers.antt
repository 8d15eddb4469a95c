-- Why `reading::put_pages` stores the pages and counts their dots: what was stored and what is left to store stay one
-- run of stores from turn to turn. Rests on no axiom.
use Prim.Native.Nat.{ℕ, suc, ◌+◌, ◌*◌}
use mathlib.Core.Path.{refl, sym, ap, ◌∙◌}
use native.Mathlib.Nat.{add-sub_cancel_left}
use native.Mathlib.Numerals.{add-one}
use native.Mathlib.Omega.{arith}
use lib.ListN.{length-take, length-drop}
use Rattle.lists.specs.Filled.{stored_at}
use Rattle.lists.proofs.StoreLaws.{stored_none, stored_next}
use Rattle.sets.specs.Set.{sectors_in}
use Rattle.page.specs.Page.{dots_of}
use Rattle.page.specs.Reading.{page_at}
use Rattle.page.proofs.PageLaws.{stands_in_turn, cells_there, cells_count}
use Rattle.page.proofs.ReadingLaws.{stored_first, cells_after, dots_after, all_cells, all_dots, cells_here, dots_here}
use Rattle.page.proofs.ReadingLaws.{cells_at_end, dots_at_end}
use Rattle.page.proofs.reading.put_pages.Goals as goal

pub loop-k-init : goal.loop-k-init
loop-k-init c =
    let args = c.args in
    let ss = sectors_in args.set.now in (
      refl,
      ap (stored_at args.cells.now 0) (all_cells ss args.pages),
      ap (stored_at args.dots.now 0) (all_dots ss args.pages),
    )

pub slice_bounds-copy-end : goal.slice_bounds-copy-end
slice_bounds-copy-end c =
    let (byte, there) =
    stands_in_turn _ _ c.requires.0 c.requires.1 c.args.pages c.loop-k.k c.requires.2 c.requires.3 c.loop-k-test.true in
    omega (arith, there.ends)

pub copy-requires : goal.copy-requires
copy-requires c =
    let (byte, there) =
    stands_in_turn _ _ c.requires.0 c.requires.1 c.args.pages c.loop-k.k c.requires.2 c.requires.3 c.loop-k-test.true in
    rw (add-sub_cancel_left, length-take, length-drop)
    (omega (arith, c.requires.4, c.loop-k.invariant.0, c.loop-k-test.true, there.ends))

pub loop-k-preserved : goal.loop-k-preserved
loop-k-preserved c =
    let turn = c.loop-k in
    let set = c.args.set.now in
    let ss = sectors_in set in
    let pages = c.args.pages in
    let k = turn.k in
    let inside = c.loop-k-test.true in
    let (byte, in_sector) =
    stands_in_turn _ _ c.requires.0 c.requires.1 c.args.pages c.loop-k.k c.requires.2 c.requires.3 c.loop-k-test.true in
    let page = cells_there _ _ c.requires.0 c.requires.1 (k + 1) byte in_sector in
    let size = rw add-one at (cells_count _ _ c.requires.0 c.requires.1 (k + 1) byte in_sector) in
    let copied =
    rw (add-sub_cancel_left, ← page) at c.copy.ensures
    ∙ ap (λ (n : ℕ). stored_at turn.cells (1000 * k) (page_at ss n)) (add-one k) in
    let counted =
    rw (add-sub_cancel_left, ← page) at c.count_dots.ensures ∙ ap (λ (n : ℕ). dots_of (page_at ss n)) (add-one k) in (
      c.copy.auto.out ∙ turn.invariant.0,
      rw add-one (stored_next (page_at ss (suc k)) (cells_after ss pages (suc k)) _ _ _ _ copied (omega (arith, size))
          ∙ sym (ap (stored_at turn.cells (1000 * k)) (cells_here ss pages k inside))
          ∙ turn.invariant.1),
      rw (add-one, counted) (stored_first turn.dots (dots_after ss pages (suc k)) k (dots_of (page_at ss (suc k)))
          ∙ sym (ap (stored_at turn.dots k) (dots_here ss pages k inside))
          ∙ turn.invariant.2),
    )

pub returns : goal.returns
returns c =
    let args = c.args in
    let ss = sectors_in args.set.now in
    let no_cells = cells_at_end ss args.pages c.loop-k.k c.loop-k-test.false in
    let no_dots = dots_at_end ss args.pages c.loop-k.k c.loop-k-test.false in
    record {
      cells = sym (stored_none _ _) ∙ rw no_cells at c.loop-k.invariant.1;
      dots = sym (stored_none _ _) ∙ rw no_dots at c.loop-k.invariant.2;
    }
