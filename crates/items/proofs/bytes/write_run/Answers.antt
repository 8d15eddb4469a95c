-- `bytes::write_run` stores a run and then the check order's two bytes, which are those of the register that the run
-- leaves. Rests on no axiom.
use Prim.Native.Nat.{ℕ, ◌+◌}
use mathlib.Core.Path.{◌≡◌, refl, ap, ap₂, ◌∙◌}
use mathlib.Core.List.{List, [], ◌∷◌}
use lib.ListN.{length}
use Rattle.lists.specs.Filled.{stored_at}
use Rattle.lists.proofs.StoreLaws.{stored_after_stored}
use Rattle.items.specs.Written.{after_bytes, check_bytes, after_check}
use Rattle.items.proofs.bytes.write_run.Goals as goal

pub returns : goal.returns
returns c =
    let args = c.args in
    let check = c.after_bytes-check.ensures in
    let run : List ℕ = args.run.now in
    let end : ℕ = args.at + length run in
    let bytes : c.high-high.result ∷ c.low-low.result ∷ [] ≡ check_bytes (after_bytes args.start run) =
    cc (c.high-high.ensures, c.low-low.ensures, check) in
    record {
      check = c.after_check.ensures ∙ ap after_check check;
      output = c.store-2.ensures
          ∙ ap₂ (λ (out bytes : List ℕ). stored_at out end bytes) c.store.ensures bytes
          ∙ stored_after_stored run _ args.out.now args.at end refl;
    }
