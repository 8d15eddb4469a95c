-- Why `data::read_bytes` stores the bytes of the field: where it reads, its items are those that are passed over. Rests on
-- no axiom.
use Prim.Native.Nat.{ℕ}
use mathlib.Core.Path.{refl, ap, ◌∙◌}
use mathlib.Core.List.{List, map}
use lib.ListN.{drop}
use Rattle.lists.specs.Filled.{stored_at}
use Rattle.fields.specs.Bytes.{byte_of}
use Rattle.fields.specs.machine.End.{field_passed}
use Rattle.fields.proofs.EndLaws.{items_passed_lem}
use Rattle.fields.proofs.data.read_bytes.Goals as goal

pub returns : goal.returns
returns c =
    let args = c.args in
    let fair = c.requires.p_value in
    let (some, few, reads) = c.requires.le_n in
    c.pass_bytes.ensures
    ∙ ap (λ (us : List ℕ). stored_at args.out.now 0 (drop args.skip (map byte_of us)))
    (items_passed_lem args.p args.intervals.now args.n (field_passed args.p args.intervals.now args.n).end
    fair (some, few) refl reads)
