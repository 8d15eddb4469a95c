-- Why `read_field` answers `field_with_clearance`: a refusal decides, and a field comes with the least clearance of the
-- intervals that it used, under a profile that was accepted. Rests on no axiom.
use Rattle.std.proofs.Common.{arith, rules, length-take}
use Rattle.clearance.proofs.AnswerLaws.{refused_field, field_accepts, used_are_there, accepted_field}
use Rattle.clearance.proofs.read_field.Goals as goal

pub slice_bounds-of_list-end : goal.slice_bounds-of_list-end
slice_bounds-of_list-end c =
    let there = used_are_there _ _ _ _ c.read_field.ensures.answer _ c.in_ok-read.was in
    rw length-take (omega arith)

pub of_list-clearance-requires : goal.of_list-clearance-requires
of_list-clearance-requires c = field_accepts _ _ _ _ c.read_field.ensures.answer _ c.in_ok-read.was

pub returns-in_err-read-clause-answer : goal.returns-in_err-read-clause-answer
returns-in_err-read-clause-answer c =
    let refused = refused_field _ _ _ _ c.read_field.ensures.answer _ c.in_err-read.was in
    search (rules, refused)

pub returns-clause-answer : goal.returns-clause-answer
returns-clause-answer c =
    accepted_field _ _ _ _ c.read_field.ensures.answer _ _ c.in_ok-read.was c.of_list-clearance.ensures
