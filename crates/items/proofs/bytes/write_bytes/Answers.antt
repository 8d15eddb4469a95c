-- `bytes::write_bytes` stores all bytes of a list: each turn stores a run and the check order behind it, and the last
-- run is its own bytes. Rests on no axiom.
use Prim.Native.Nat.{ℕ, ◌+◌, ◌-◌, ◌≤◌, ◌<◌}
use mathlib.Core.Path.{◌≡◌, sym, ap, ap₂, ◌∙◌}
use mathlib.Core.List.{List, ◌++◌}
use native.Mathlib.Omega.{arith}
use lib.ListN.{length, drop, length-append, length-drop}
use lib.Seq.{length-take-le}
use Rattle.lists.specs.Filled.{stored_at}
use Rattle.lists.specs.Place.{lowest}
use Rattle.lists.proofs.StoreLaws.{stored_after_stored, stored_length}
use Rattle.items.specs.Item.{is_check, written_bytes}
use Rattle.items.specs.Written.{after_bytes, check_bytes, after_check, written_from}
use Rattle.items.specs.declared.Check.{Check}
use Rattle.items.proofs.ItemLaws.{written_bytes_bounds}
use Rattle.items.proofs.CheckLaws.{after_bytes-append}
use Rattle.items.proofs.WrittenLaws.{length_of_written_from}
use Rattle.items.proofs.RunLaws.{rest_of, run_at, last_run_from, run_from}
use Rattle.items.proofs.bytes.write_bytes.Invariants.{Storing}
use Rattle.items.proofs.bytes.write_bytes.Goals as goal

module _ {items out₀ : List ℕ} {start : Check} {out : List ℕ} {check : Check} {at from run : ℕ}
    (on : Storing items out₀ start out check at from run) where
  same_size : length out ≡ length out₀
  same_size = sym (stored_length _ _ _) ∙ ap length on.stored ∙ stored_length _ 0 _

  module _ (inside : run < length items - from) where
    abbrev part : List ℕ
    part = run_at check items from run on.told

    abbrev bytes : List ℕ
    bytes = part ++ check_bytes (after_bytes check part)

    abbrev check_after : Check
    check_after = after_check (after_bytes check part)

    abbrev rest : List ℕ
    rest = drop (from + run + 1) items

    split : written_from check (drop from items) ≡ bytes ++ written_from check_after rest
    split = run_from check items from run on.told inside

    size : length bytes ≡ run + 2
    size =
        length-append part (check_bytes (after_bytes check part))
        ∙ omega (arith, length-take-le (from + run - from) (drop from items) (omega (arith, length-drop from items)))

    counted : written_bytes (drop from items) ≡ run + 2 + written_bytes rest
    counted =
        sym (length_of_written_from check (drop from items))
        ∙ ap length split
        ∙ length-append bytes (written_from check_after rest)
        ∙ ap₂ ◌+◌ size (length_of_written_from check_after rest)

    a_run_more
        : (out' : List ℕ) (check' : Check) (run' : ℕ)
        → check' ≡ check_after
        → out' ≡ stored_at out at bytes
        → run' ≡ lowest is_check rest
        → Storing items out₀ start out' check' (at + (run + 2)) (from + run + 1) run'
    unfolding after_check
    a_run_more out' check' run' checks stores told =
        record {
          within = omega arith;
          told = told;
          count = omega (arith, on.count, counted);
          stored =
              ap₂ (λ (o : List ℕ) (c : Check). stored_at o (at + (run + 2)) (written_from c rest)) stores checks
              ∙ stored_after_stored bytes (written_from check_after rest) out at _ (ap (λ (n : ℕ). at + n) (sym size))
              ∙ ap (stored_at out at) (sym split)
              ∙ on.stored;
          state =
              ap (λ (c : Check). after_bytes c (written_from c rest)) checks
              ∙ ap (λ (c : Check). after_bytes c (written_from check_after rest))
              (sym (after_bytes-append check part (check_bytes (after_bytes check part))))
              ∙ sym (after_bytes-append check bytes (written_from check_after rest))
              ∙ ap (after_bytes check) (sym split)
              ∙ on.state;
        }

  module _ (end : length items - from ≤ run) where
    last : written_from check (drop from items) ≡ drop from items
    last = last_run_from check items from run on.told end

    last_count : at + length (drop from items) ≡ written_bytes items
    last_count = omega (arith, on.count, length_of_written_from check (drop from items), ap length last)

pub write_run-check-requires : goal.write_run-check-requires
write_run-check-requires c =
    let head = c.loop-run in
    let items : List ℕ = c.args.items.now in
    omega (arith, head.invariant.count, counted head.invariant c.loop-run-test.true, written_bytes_bounds items)

pub overflow_add-at-in-loop-run : goal.overflow_add-at-in-loop-run
overflow_add-at-in-loop-run c =
    let head = c.loop-run in
    let items : List ℕ = c.args.items.now in
    omega (arith, head.invariant.count, counted head.invariant c.loop-run-test.true, written_bytes_bounds items)

pub loop-run-preserved : goal.loop-run-preserved
loop-run-preserved c =
    let head = c.loop-run in
    let items = c.args.items.now in
    let told = c.find_check-run-in-loop-run.ensures ∙ ap (lowest is_check) (rest_of items (head.from + head.run + 1)) in
    a_run_more head.invariant c.loop-run-test.true _ _ _ c.write_run-check.ensures.check
    c.write_run-check.ensures.output told

pub overflow_add-result : goal.overflow_add-result
overflow_add-result c =
    let head = c.loop-run in
    let items : List ℕ = c.args.items.now in
    rw (rest_of items head.from)
    (omega (arith, last_count head.invariant c.loop-run-test.false, written_bytes_bounds items))

pub returns : goal.returns
returns c =
    let head = c.loop-run in
    let args = c.args in
    let items = args.items.now in
    let rest = rest_of items head.from in
    let own = rest ∙ sym (last head.invariant c.loop-run-test.false) in
    record {
      check = c.after_bytes.ensures ∙ ap (after_bytes head.check) own ∙ head.invariant.state;
      count = ap (λ (l : List ℕ). head.at + length l) rest ∙ last_count head.invariant c.loop-run-test.false;
      output = c.store.ensures ∙ ap (stored_at head.out head.at) own ∙ head.invariant.stored;
    }
