-- Why `data::put_part` stores the items of a part from a number on: where that number is behind the first, those before it
-- are left out. Rests on no axiom.
use Prim.Native.Nat.{ℕ}
use mathlib.Core.Path.{ap, ◌∙◌}
use mathlib.Core.List.{List, map}
use native.Mathlib.Omega.{arith}
use Rattle.lists.specs.Filled.{stored_at}
use Rattle.fields.specs.Bytes.{byte_of}
use Rattle.locks.proofs.LockLaws.{part_to_end}
use Rattle.fields.proofs.BytesLaws.{all_stored, rest_stored}
use Rattle.fields.proofs.data.put_part.Goals as goal

pub returns-then-skip-number : goal.returns-then-skip-number
returns-then-skip-number c =
    let args = c.args in
    rw (← c.words_to_bytes.ensures)
    (all_stored args.out.now _ c.words_to_bytes.new.words args.number args.skip
    c.if-skip-number.true c.store_bytes.ensures)

pub returns : goal.returns
returns c =
    let first = c.min-first in
    let args = c.args in
    let items = c.words_to_bytes.new.words in
    rw (← c.words_to_bytes.ensures)
    (rest_stored args.out.now _ items args.number args.skip first.result
    (omega (arith, c.if-skip-number.false)) first.ensures
    (c.store_bytes-2.ensures
    ∙ ap (λ (us : List ℕ). stored_at args.out.now 0 (map byte_of us)) (part_to_end items first.result)))
