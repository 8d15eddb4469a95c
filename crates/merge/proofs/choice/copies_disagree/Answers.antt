-- Why `merge::choice::copies_disagree` answers `disagree`: it makes the same tests in the same order. Rests on no
-- axiom.
use Prim.Native.Nat.{◌+◌, ◌-◌}
use mathlib.Core.Path.{ap, ◌≡◌}
use mathlib.Core.Bool.{not}
use native.Mathlib.Omega.{arith}
use borrow.Author.Tests.{eq-eqb, ne_eqb}
use lib.ListN.{get_or}
use Rattle.sectors.specs.Sector.{sector_size}
use Rattle.sets.specs.machine.Index.{sector_at}
use Rattle.sets.specs.Set.{sector_of}
use Rattle.merge.specs.Merge.{disagree}
use Rattle.merge.proofs.choice.copies_disagree.Goals as goal

pub returns-then-first-a-eq0 : goal.returns-then-first-a-eq0
unfolding disagree sector_at sector_of
returns-then-first-a-eq0 c = rw (eq-eqb _ 0 c.if-first-a-eq0.true)

pub returns-then-second-b-eq0 : goal.returns-then-second-b-eq0
unfolding disagree sector_at sector_of
returns-then-second-b-eq0 c = rw (ne_eqb _ 0 c.if-first-a-eq0.false, eq-eqb _ 0 c.if-second-b-eq0.true)

pub returns-then-code-second : goal.returns-then-code-second
unfolding disagree sector_at sector_of
returns-then-code-second c =
    rw (ne_eqb _ 0 c.if-first-a-eq0.false, ne_eqb _ 0 c.if-second-b-eq0.false, ne_eqb _ _ c.if-code-second.true)

pub returns : goal.returns
unfolding disagree sector_at sector_of
returns c =
    let args = c.args in
    let size = c.sector_size-size.result in
    let like = c.if-code-second.false in
    let a_size : sector_size (get_or args.first.now args.a 0) ≡ args.a + 2 + size - (args.a + 2) =
    omega (arith, c.sector_size-size.ensures) in
    let b_size : sector_size (get_or args.second.now args.b 0) ≡ args.b + 2 + size - (args.b + 2) =
    omega (arith, c.sector_size-size.ensures, ap sector_size like) in
    rw (
      a_size,
      b_size,
      ne_eqb _ 0 c.if-first-a-eq0.false,
      ne_eqb _ 0 c.if-second-b-eq0.false,
      eq-eqb _ _ like,
    )
    (ap not c.same_bytes.ensures)
