-- Why `script::store_items` stores nothing where a line is faulty: the lines were first read with no room for any item,
-- and the second reading answers as the first. Rests on no axiom.
use Rattle.std.proofs.Common.{rules}
use native.Mathlib.Omega.{arith}
use Rattle.script.proofs.InputLaws.{lines_not_stored, lines_stored, read_again}
use Rattle.script.proofs.items.store_items.Goals as goal

pub returns-in_err-read_items : goal.returns-in_err-read_items
returns-in_err-read_items c = search (rules, lines_not_stored)

pub returns-in_err-count : goal.returns-in_err-count
returns-in_err-count c =
    let first = c.in_ok-read_items.ensures in
    let second = c.in_err-count.ensures in absurd (read_again _ _ first.answer second.answer)

pub returns : goal.returns
returns c =
    let read = c.in_ok-count.ensures in
    lines_stored _ read.answer read.output (omega (arith, c.min.ensures, c.read_items-2.auto.buffer))
