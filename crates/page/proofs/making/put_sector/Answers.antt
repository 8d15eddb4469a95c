-- Why `making::put_sector` stores the sector of a page: three stores, then the page, then the fill. Rests on no axiom.
use Prim.Native.Nat.{◌+◌, ◌≤◌}
use mathlib.Core.Path.{◌∙◌}
use native.Mathlib.Omega.{arith}
use lib.ListN.{length, length-set, replicate}
use Rattle.lists.proofs.StoreLaws.{stored_next}
use Rattle.sectors.proofs.FillLaws.{filled_part_is_stored}
use Rattle.page.proofs.MakingLaws.{sector_stored}
use Rattle.page.proofs.making.put_sector.Goals as goal

pub copy-requires : goal.copy-requires
copy-requires c = simp length-set (omega (arith, c.requires.0, c.requires.1))

pub returns : goal.returns
returns c =
    let page = c.args.page.now in
    let old = c.args.set.now in
    let fill = c.args.start + 1003 in
    let room : fill + 24 ≤ length c.copy.new.out =
    omega (arith, simp length-set at c.copy.auto.out, c.requires.1) in
    filled_part_is_stored fill 24 0 _ _ room (c.fill.ensures.after (λ y same. same))
    ∙ stored_next page (replicate 24 0) _ _ _ _ c.copy.ensures (omega (arith, c.requires.0))
    ∙ sector_stored c.args.number page old c.args.start
