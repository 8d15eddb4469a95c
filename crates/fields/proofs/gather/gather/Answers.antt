-- Why `fields::gather::gather` answers `gather_rule`, tells the sum and stores the field's items: an interval that is no
-- cell stops it where the rule does, and its tests at the end are the rule's. Rests on no axiom.
use Prim.Native.Nat.{ℕ}
use mathlib.Core.Path.{◌≡◌, sym, ap, ◌∙◌}
use mathlib.Core.List.{List}
use native.Mathlib.Omega.{arith}
use lib.Dec.{eqb}
use lib.ListN.{take, length-take}
use lib.Seq.{length-take-le}
use Rattle.std.specs.Prelude.{Result}
use Rattle.lists.specs.Filled.{stored_at}
use Rattle.refusal.specs.Answer.{verdict_answer}
use Rattle.refusal.specs.declared.Refusal.{Refusal}
use Rattle.refusal.proofs.AnswerLaws.{verdict_accepts}
use Rattle.timing.specs.Class.{classes_of}
use Rattle.timing.specs.declared.Profile.{Profile}
use Rattle.timing.proofs.ClassLaws.{classes_of-take}
use Rattle.items.specs.Written.{fresh_check, after_bytes}
use Rattle.items.specs.declared.Check.{Check}
use Rattle.intervals.specs.Cells.{edge_rule}
use Rattle.shifts.specs.declared.Pass.{Pass}
use Rattle.fields.specs.Field.{holds_after, field_holds}
use Rattle.fields.proofs.EndLaws.{edges, refusal_is_not_zero, field_ends}
use Rattle.fields.proofs.gather.gather.Goals as goal

-- the verdict is on the used intervals' classes
edges_checked
    : (p : Profile) (ds : List ℕ) (n : ℕ) (r : Pass) (verdict : Result (Unit {0}) Refusal)
    → verdict_answer verdict ≡ edge_rule (classes_of p (take r.used ds))
    → verdict_answer verdict ≡ edges p ds n r
edges_checked p ds n r verdict e = e ∙ ap edge_rule (classes_of-take p r.used ds)

pub slice_bounds-check_edges-end : goal.slice_bounds-check_edges-end
slice_bounds-check_edges-end c =
    let ends = field_ends _ _ _ _ c.requires.p_value c.requires.le_n c.pass_items-read.ensures.end in
    sym (length-take-le _ _ ends.within)

pub check_edges-requires : goal.check_edges-requires
check_edges-requires c =
    let ends = field_ends _ _ _ _ c.requires.p_value c.requires.le_n c.pass_items-read.ensures.end in
    let used = c.pass_items-read.result.pass.used in
    record {
      p_value = c.requires.p_value;
      intervals_len_bound = omega (arith, ends.small, length-take used c.args.intervals.now);
    }

pub conclude-requires : goal.conclude-requires
conclude-requires c =
    omega (arith, (field_ends _ _ _ _ c.requires.p_value c.requires.le_n c.pass_items-read.ensures.end).small)

pub returns-in-Err : goal.returns-in-Err
returns-in-Err c =
    let ends = field_ends _ _ _ _ c.requires.p_value c.requires.le_n c.pass_items-read.ensures.end in
    let verdict = edges_checked _ _ c.args.n c.pass_items-read.result.pass _ c.check_edges.ensures in
    let e = ends.refuses c.in-Err.refusal (sym (ap verdict_answer c.in-Err.is) ∙ verdict) in
    let never = refusal_is_not_zero c.in-Err.refusal _ e in
    record { answer = e; sum = λ zero. absurd (never zero); fill = λ zero. absurd (never zero) }

pub returns-in-Ok : goal.returns-in-Ok
unfolding field_holds holds_after
returns-in-Ok c =
    let ends = field_ends _ _ _ _ c.requires.p_value c.requires.le_n c.pass_items-read.ensures.end in
    let verdict = edges_checked _ _ c.args.n c.pass_items-read.result.pass _ c.check_edges.ensures in
    let fair = verdict_accepts _ _ verdict c.in-Ok.is in
    let check = c.pass_items-read.ensures.check in
    let output = c.pass_items-read.ensures.output in
    record {
      answer = c.conclude.ensures ∙ ends.answers fair;
      sum = λ zero. ap (λ (k : Check). eqb k.register 0) (check ∙ ap (after_bytes fresh_check) (ends.items fair zero));
      fill = λ zero. output ∙ ap (stored_at _ 0) (ends.items fair zero);
    }
