-- Why `dots::add_rows` adds the dots of three rows to the columns: each turn one column grows. Rests on no axiom.
use Prim.Native.Nat.{ℕ, ◌<◌}
use mathlib.Core.Path.{◌≡◌}
use native.Mathlib.Numerals.{add-one}
use native.Mathlib.Omega.{arith}
use lib.ListN.{get_or}
use Rattle.page.proofs.ColumnLaws.{none_grown, all_grown, grown_on}
use Rattle.page.proofs.dots.add_rows.Goals as goal

pub loop-k-init : goal.loop-k-init
loop-k-init c = none_grown _ _ c.requires.1

pub loop-k-preserved : goal.loop-k-preserved
loop-k-preserved c =
    let turn = c.loop-k in
    let rows = c.args.rows.now in
    let bytes : (j : ℕ) → get_or rows j 0 < 256 = λ j.
    omega (arith, c.type_inv.rows j) in
    rw (add-one, c.grow.ensures)
    (grown_on rows c.args.columns.now turn.columns turn.k c.requires.0 bytes (omega arith) turn.invariant)

pub returns : goal.returns
returns c =
    let all : c.loop-k.k ≡ 32 = omega arith in
    let grown = rw all at c.loop-k.invariant in
    record { size = grown.count; sum = all_grown _ _ _ c.requires.0 grown; each = grown.each }
