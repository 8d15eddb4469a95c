-- Why `codec::writer::write_items` draws all bytes of a list: each turn draws a run and the check order behind it, and
-- the last run is its own bytes. Rests on no axiom.
use Prim.Native.Nat.{ℕ, ◌+◌, ◌-◌, ◌≤◌, ◌<◌}
use mathlib.Core.Path.{◌≡◌, refl, sym, ap, ap₂, ◌∙◌}
use mathlib.Core.List.{List, ◌++◌}
use native.Mathlib.Omega.{arith}
use lib.ListN.{length, drop}
use Rattle.lists.specs.Place.{lowest}
use Rattle.items.specs.Item.{is_check}
use Rattle.items.specs.Written.{after_bytes, check_bytes, after_check, written_from, written}
use Rattle.items.specs.declared.Check.{Check}
use Rattle.items.proofs.RunLaws.{rest_of, run_at, last_run_from, run_from}
use Rattle.codec.specs.machine.Pen.{Writing, wrote}
use Rattle.codec.proofs.PenLaws.{bytes_move_on, bytes_length, wrote-append}
use Rattle.codec.proofs.writer.write_items.Invariants.{WritingOn}
use Rattle.codec.proofs.writer.write_items.Goals as goal

module _ {table items : List ℕ} {s₀ s : Writing} {check : Check} {from run : ℕ}
    (on : WritingOn table items s₀ s check from run) where
  same_length : length s.out ≡ length s₀.out
  same_length =
      sym (bytes_length table s (written_from check (drop from items)))
      ∙ ap (λ (x : Writing). length x.out) on.whole
      ∙ bytes_length table s₀ (written items)

  module _ (inside : run < length items - from) where
    abbrev part : List ℕ
    part = run_at check items from run on.told

    abbrev bytes : List ℕ
    bytes = part ++ check_bytes (after_bytes check part)

    abbrev check_after : Check
    check_after = after_check (after_bytes check part)

    behind : wrote table (wrote table s bytes) (written_from check_after (drop (from + run + 1) items))
        ≡ wrote table s₀ (written items)
    behind =
        sym (wrote-append table s bytes _)
        ∙ ap (wrote table s) (sym (run_from check items from run on.told inside))
        ∙ on.whole

    fits : (wrote table s₀ (written items)).pen.cells < length s₀.out
        → (wrote table s bytes).pen.cells < length s.out
    fits f =
        let rest = written_from check_after (drop (from + run + 1) items) in
        let further = bytes_move_on table (wrote table s bytes) rest in
        let same = ap (λ (x : Writing). x.pen.cells) behind in
        omega (arith, same_length)

    a_run_more
        : (s' : Writing) (check' : Check) (run' : ℕ)
        → check' ≡ check_after
        → s' ≡ wrote table s bytes
        → run' ≡ lowest is_check (drop (from + run + 1) items)
        → WritingOn table items s₀ s' check' (from + run + 1) run'
    a_run_more s' check' run' checks writes told =
        record {
          within = omega arith;
          told = told;
          whole =
              ap₂ (λ (x : Writing) (c : Check). wrote table x (written_from c (drop (from + run + 1) items))) writes checks
              ∙ behind;
        }

  module _ (end : length items - from ≤ run) where
    last : wrote table s (drop from items) ≡ wrote table s₀ (written items)
    last =
        ap (wrote table s) (sym (last_run_from check items from run on.told end)) ∙ on.whole

    last_fits : (wrote table s₀ (written items)).pen.cells < length s₀.out
        → (wrote table s (drop from items)).pen.cells < length s.out
    last_fits f = let same = ap (λ (x : Writing). x.pen.cells) last in omega (arith, same_length)

pub loop-run-init : goal.loop-run-init
unfolding written
loop-run-init c =
    rw c.fresh.ensures (record { within = omega arith; told = c.find_check-run.ensures; whole = refl })

pub write_run-part-requires : goal.write_run-part-requires
write_run-part-requires c =
    fits c.loop-run.invariant c.loop-run-test.true
    c.requires

pub loop-run-preserved : goal.loop-run-preserved
loop-run-preserved c =
    let head = c.loop-run in
    let items = c.args.items.now in
    let told = c.find_check-run-in-loop-run.ensures ∙ ap (lowest is_check) (rest_of items (head.from + head.run + 1)) in
    a_run_more head.invariant c.loop-run-test.true _ _ _ c.write_run-part.ensures.check
    c.write_run-part.ensures.pen told

pub draw_bytes-requires : goal.draw_bytes-requires
draw_bytes-requires c =
    rw (rest_of c.args.items.now c.loop-run.from)
    (last_fits c.loop-run.invariant c.loop-run-test.false c.requires)

pub returns : goal.returns
returns c =
    let args = c.args in
    c.draw_bytes.ensures
    ∙ ap (wrote args.table.now _) (rest_of args.items.now c.loop-run.from)
    ∙ last c.loop-run.invariant c.loop-run-test.false
