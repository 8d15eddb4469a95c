-- Why `making::put_sectors` stores the sectors of all pages: what was stored and what is left to store stay one run of
-- stores from turn to turn. Rests on no axiom.
use Prim.Native.Nat.{suc, ◌*◌}
use mathlib.Core.Path.{refl, sym, ap, ◌∙◌}
use native.Mathlib.Nat.{add-sub_cancel_left}
use native.Mathlib.Numerals.{add-one}
use native.Mathlib.Omega.{arith}
use Rattle.lists.specs.Filled.{stored_at}
use Rattle.lists.proofs.StoreLaws.{stored_none, stored_next}
use Rattle.page.proofs.MakingLaws.{bytes_after, all_bytes, bytes_here, bytes_at_end, page_here, sector_size_here}
use Rattle.page.proofs.making.put_sectors.Goals as goal

pub loop-k-init : goal.loop-k-init
loop-k-init c =
    let args = c.args in
    (refl, ap (stored_at args.set.now 0) (all_bytes args.cells.now args.pages))

pub loop-k-preserved : goal.loop-k-preserved
loop-k-preserved c =
    let turn = c.loop-k in
    let cells = c.args.cells.now in
    let pages = c.args.pages in
    let k = turn.k in
    let inside = c.loop-k-test.true in
    let put = rw (add-sub_cancel_left, ← page_here cells pages k, add-one) at c.put_sector.ensures in
    let next = sector_size_here cells pages c.requires.1 k inside in (
      c.put_sector.auto.set ∙ turn.invariant.0,
      rw add-one (stored_next _ (bytes_after cells pages (suc k)) _ _ _ _ put (omega (arith, next))
          ∙ sym (ap (stored_at turn.set (1027 * k)) (bytes_here cells pages k inside))
          ∙ turn.invariant.1),
    )

pub returns : goal.returns
returns c =
    let args = c.args in
    let end = bytes_at_end args.cells.now args.pages c.loop-k.k c.loop-k-test.false in
    sym (stored_none _ _) ∙ rw end at c.loop-k.invariant.1
