-- Why `look_at` answers `step_at`: by whether the lock's field is an ID. Rests on no axiom.
use Prim.Native.Nat.{ℕ, ◌-◌}
use mathlib.Core.Path.{◌≡◌, sym, ap, ◌∙◌}
use mathlib.Core.List.{List}
use native.Mathlib.Omega.{arith}
use lib.ListN.{length, take, drop}
use Rattle.std.specs.Prelude.{Option}
use Rattle.timing.specs.declared.Profile.{Profile}
use Rattle.locks.proofs.LockLaws.{part_to_end}
use Rattle.entries.specs.machine.Steps.{id_read}
use Rattle.entries.specs.declared.id.Id.{Id}
use Rattle.entries.proofs.StepLaws.{no_id_no_entry, id_ends_within, entry_begins}
use Rattle.entries.proofs.look_at.Goals as goal

-- what the lock reads as
read
    : (p : Profile) (ds : List ℕ) (k : ℕ) (found answer : Option Id)
    → found ≡ id_read p (take (length ds - k) (drop k ds))
    → found ≡ answer
    → answer ≡ id_read p (drop k ds)
read p ds k found answer same is = sym is ∙ same ∙ ap (id_read p) (part_to_end ds k)

pub overflow_add-k : goal.overflow_add-k
overflow_add-k c =
    let id = read _ c.args.intervals.now c.args.k _ _ c.read_id.ensures c.in-Some.is in
    let ends = id_ends_within _ _ c.args.k _ id c.requires.k_in_bounds in
    omega (arith, ends, c.well_formed)

pub returns-in-None : goal.returns-in-None
returns-in-None c = no_id_no_entry _ _ _ (read _ c.args.intervals.now c.args.k _ _ c.read_id.ensures c.in-None.is)

pub returns-in-Some : goal.returns-in-Some
returns-in-Some c =
    let id = read _ c.args.intervals.now c.args.k _ _ c.read_id.ensures c.in-Some.is in
    entry_begins _ _ _ _ id _ c.find_data-sought.ensures
