-- Why `merge::output::put_entry` stores what an entry shows: a sector, or nothing. Rests on no axiom.
use Prim.Native.Nat.{ℕ, ◌+◌}
use mathlib.Core.Path.{sym, ap, ◌∙◌}
use mathlib.Core.List.{List}
use native.Mathlib.Nat.{add-zero}
use native.Mathlib.Omega.{arith}
use lib.ListN.{length}
use Rattle.lists.specs.Filled.{stored_at}
use Rattle.lists.proofs.StoreLaws.{stored_none}
use Rattle.merge.proofs.OutputLaws.{bytes_of_entry, bytes_of_no_entry, sector_bytes-length}
use Rattle.merge.proofs.output.put_entry.Goals as goal

pub returns-then-entry-eq0 : goal.returns-then-entry-eq0
returns-then-entry-eq0 c =
    record {
      next = rw (bytes_of_no_entry _ _ c.if-entry-eq0.true) (sym (add-zero _));
      output = rw (bytes_of_no_entry _ _ c.if-entry-eq0.true) (sym (stored_none _ _));
    }

pub put_sector-requires : goal.put_sector-requires
put_sector-requires c =
    let there = c.if-entry-eq0.false in
    let within = c.requires.0 there c.requires.1 in
    let set = c.args.set.now in
    let entry = c.args.entry in
    let bytes = ap length (bytes_of_entry set entry there c.requires.1) ∙ sector_bytes-length set entry within in
    (omega arith, within, omega (arith, bytes, c.requires.2))

pub returns : goal.returns
returns c =
    let there = c.if-entry-eq0.false in
    let bytes = sym (bytes_of_entry _ _ there c.requires.1) in
    record {
      next = c.put_sector.ensures.next ∙ ap (λ (l : List ℕ). c.args.start + length l) bytes;
      output = c.put_sector.ensures.output ∙ ap (stored_at c.args.out.now c.args.start) bytes;
    }
