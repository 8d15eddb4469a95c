-- Why `search::is_soiled` tells whether a byte is not 00: whether one was met, and whether one is left, stay one answer
-- from turn to turn. Rests on no axiom.
use Prim.Native.Nat.{◌≤◌}
use mathlib.Core.Path.{◌∙◌}
use mathlib.Core.Bool.{or_assoc, or-false}
use native.Mathlib.Numerals.{add-one}
use native.Mathlib.Omega.{arith}
use lib.ListN.{length, drop_of_length-le}
use lib.Seq.{drop-cons}
use Rattle.lists.specs.Place.{anywhere}
use Rattle.page.specs.Page.{is_dirt}
use Rattle.page.proofs.search.is_soiled.Goals as goal

pub loop-byte-preserved : goal.loop-byte-preserved
unfolding anywhere is_dirt
loop-byte-preserved c =
    let turn = c.loop-byte in
    let rest = rw (drop-cons c.args.fill.now turn.byte-index 0 (omega (arith, c.requires))) at turn.invariant in
    rw add-one (or_assoc turn.soiled _ _ ∙ rest)

pub returns : goal.returns
unfolding anywhere
returns c =
    let fill = c.args.fill.now in
    let end : length fill ≤ c.loop-byte.byte-index = omega (arith, c.requires) in
    rw (drop_of_length-le fill end, or-false) at c.loop-byte.invariant
