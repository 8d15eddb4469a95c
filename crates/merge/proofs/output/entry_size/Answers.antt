-- Why `merge::output::entry_size` answers the number of bytes of what an entry shows: three beside a sector's data,
-- or none. Rests on no axiom.
use Prim.Native.Nat.{ℕ, ◌+◌}
use mathlib.Core.Path.{sym, ap, ◌∙◌}
use lib.ListN.{length}
use Rattle.merge.proofs.OutputLaws.{bytes_of_entry, bytes_of_no_entry, sector_bytes-length}
use Rattle.merge.proofs.output.entry_size.Goals as goal

pub returns-then-entry-eq0 : goal.returns-then-entry-eq0
returns-then-entry-eq0 c = sym (ap length (bytes_of_no_entry _ _ c.if-entry-eq0.true))

pub returns : goal.returns
returns c =
    let there = c.if-entry-eq0.false in
    let within = c.requires.0 there c.requires.1 in
    ap (λ (n : ℕ). 3 + n) c.sector_size.ensures
    ∙ sym (ap length (bytes_of_entry _ _ there c.requires.1) ∙ sector_bytes-length _ _ within)
