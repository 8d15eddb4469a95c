-- Machine, not meaning: laws tie it to the field reader's (`proofs/AlongLaws`). No lemmas here.
-- How far the pass over corrected numbers came, block by block.
use Rattle.std.specs.Prelude.{Ok}
use Rattle.std.specs.Prelude.{ℕ, ◌-◌, ◌%◌, ◌≤◌, ◌<◌, ◌≡◌, List, map, length, take}
use Rattle.refusal.specs.Answer.{Answer, verdict_answer, first_refusal}
use Rattle.timing.specs.Class.{at_start, classes_from, classes_of, cursor_after}
use Rattle.timing.specs.declared.Profile.{Profile}
use Rattle.timing.specs.declared.cursor.Cursor.{Cursor}
use Rattle.items.specs.Written.{fresh_check, after_bytes}
use Rattle.half_cells.specs.machine.Candidate.{candidate}
use Rattle.intervals.specs.Cells.{edge_rule_from, edge_rule}
use Rattle.passes.specs.machine.Blocks.{at_first, pass_on}
use Rattle.fields.specs.Field.{field_used}
use Rattle.fields.specs.machine.End.{field_passed, items_passed}
use Rattle.fields.specs.machine.Gather.{gather_rule}
use Rattle.clearance.specs.Clearance.{least_clearance}
use Rattle.clearance.specs.machine.Nearest.{none_met}
use Rattle.clearance.specs.machine.Seen.{seen_from}
use Rattle.clearance.specs.declared.seen.Seen.{Seen}
use Rattle.speed.specs.declared.gather.Along.{Along}

-- before the first interval
abbrev pub unseen : Profile → Seen
unseen p = record { extremes = none_met; cursor = at_start p }

unfoldable pub at_onset : Profile → Along
at_onset p = record { at = at_first p; check = fresh_check; edges = (Ok tt); seen = unseen p }

-- the first interval that is no cell, in all before or in some more
abbrev pub edges_after : Answer → Cursor → ℕ → List ℕ → Answer
edges_after before start from ds = first_refusal before (edge_rule_from from (classes_from start ds))

-- a place of a list that is even, and not far
pub record OnEven (used : ℕ) (ds : List ℕ) : Type 0 where
  pub within : used < length ds
  pub even : used % 2 ≡ 0
  pub near : used ≤ 10000

-- those of a block that are used
abbrev pub used_of : Along → Along → List ℕ → List ℕ
used_of a next block = take (next.at.pass.used - a.at.pass.used) block

-- a block more
pub record Takes (n : ℕ) (a : Along) (block : List ℕ) (next : Along) : Type 0 where
  pub pass : next.at.pass ≡ (pass_on n a.at block).end
  pub cursor : next.at.cursor ≡ cursor_after a.at.cursor block
  pub check : next.check ≡ after_bytes a.check (map candidate (pass_on n a.at block).words)
  pub edges
      : verdict_answer next.edges
      ≡ edges_after (verdict_answer a.edges) a.at.cursor a.at.pass.used (used_of a next block)
  pub seen : next.seen ≡ seen_from a.seen (used_of a next block)

-- all of a list, as far as n bytes want it
pub record Ends (p : Profile) (ds : List ℕ) (n : ℕ) (a : Along) : Type 0 where
  pub pass : a.at.pass ≡ (field_passed p ds n).end
  pub check : a.check ≡ after_bytes fresh_check (items_passed p ds n)
  pub edges : verdict_answer a.edges ≡ edge_rule (classes_of p (take a.at.pass.used ds))
  pub seen : a.seen ≡ seen_from (unseen p) (take a.at.pass.used ds)

-- the least clearance of the used intervals, where the field is accepted
abbrev pub TellsLeast : Profile → List ℕ → ℕ → ℕ → Type 0
TellsLeast p ds n e =
    (gather_rule (classes_of p ds) n).number ≡ 0 → e ≡ least_clearance p (take (field_used (classes_of p ds) n) ds)
