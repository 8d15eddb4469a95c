-- Why `sectors::sector_size` answers `sector_size`: the arm that was taken is the first test that holds. Rests on no
-- axiom.
use borrow.Author.Tests.{ne_eqb}
use Rattle.sectors.specs.Sector.{sector_size}
use Rattle.sectors.proofs.sector_size.Goals as goal

pub returns-in-0 : goal.returns-in-0
unfolding sector_size
returns-in-0 c = rw c.in-0.is

pub returns-in-1 : goal.returns-in-1
unfolding sector_size
returns-in-1 c = rw c.in-1.is

pub returns-in-2 : goal.returns-in-2
unfolding sector_size
returns-in-2 c = rw c.in-2.is

pub returns-in_default : goal.returns-in_default
unfolding sector_size
returns-in_default c =
    let rest = c.in_default.in_default-own.rest in rw (ne_eqb _ 0 rest.0.0.1, ne_eqb _ 1 rest.0.1, ne_eqb _ 2 rest.1)
