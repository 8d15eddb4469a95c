-- Why `fields::reader::read_rest` answers `field_rest` at its place: it drops as many intervals of the caller's list as
-- the reading used, which a refusal puts at 0. Rests on no axiom.
use Prim.Native.Nat.{ℕ, ◌+◌, ◌-◌, ◌*◌, ◌≤◌}
use mathlib.Core.Path.{◌≡◌, refl, sym, ap, ◌∙◌}
use mathlib.Core.List.{List}
use native.Mathlib.Omega.{arith}
use lib.ListN.{length, take, drop}
use Rattle.timing.specs.declared.Profile.{Profile}
use Rattle.std.specs.Prelude.{Result}
use Rattle.refusal.specs.declared.Refusal.{Refusal}
use Rattle.fields.specs.FieldRule.{FieldAnswer, field_answer, field_reading, field_rest, rest_place}
use Rattle.fields.specs.declared.reader.Field.{Field}
use Rattle.locks.proofs.LockLaws.{part_to_end}
use Rattle.fields.proofs.ReaderLaws.{used_is_within}
use Rattle.fields.proofs.reader.read_rest.Goals as goal

module _ (p : Profile) (ds : List ℕ) (n room used : ℕ) (e : used ≡ (field_reading p ds n room).used) where
  within : used ≤ length ds
  within = rw e (used_is_within p ds n room)

  rest_is : drop used ds ≡ field_rest p ds n room
  unfolding field_rest
  rest_is = ap (λ (k : ℕ). drop k ds) e

  part_is : take (length ds - used) (drop used ds) ≡ field_rest p ds n room
  part_is = part_to_end ds used ∙ rest_is

  -- where it stands: a list that starts at a place of a block, after the used intervals
  rest_stands
      : (block at place : ℕ)
      → place ≡ used * 2 + at
      → ◌≡◌ {A = ℕ × ℕ} (block, place) (rest_place p ds n room (block, at))
  rest_stands block at place is = ap (λ (o : ℕ). (block, o)) (omega (arith, e))

-- what an answer tells of the intervals used
used_is
    : (p : Profile) (ds : List ℕ) (n room : ℕ) (read answer : Result Field Refusal)
    → field_answer read ≡ field_reading p ds n room
    → read ≡ answer
    → (field_answer answer).used ≡ (field_reading p ds n room).used
used_is p ds n room read answer same is =
    sym (ap (λ (r : Result Field Refusal). (field_answer r).used) is) ∙ ap (λ (a : FieldAnswer). a.used) same

pub offset_bounds-intervals-field : goal.offset_bounds-intervals-field
offset_bounds-intervals-field c =
    let within = within _ _ _ _ _ (used_is _ _ _ _ _ _ c.read_field.ensures.answer c.in-Ok.is) in
    omega (arith, within, c.well_formed)

pub slice_bounds-result-count : goal.slice_bounds-result-count
slice_bounds-result-count c = within _ _ _ _ _ (used_is _ _ _ _ _ _ c.read_field.ensures.answer c.in-Ok.is)

pub slice_bounds-result-start : goal.slice_bounds-result-start
slice_bounds-result-start c = within _ _ _ _ _ (used_is _ _ _ _ _ _ c.read_field.ensures.answer c.in-Ok.is)

pub returns-in-Err : goal.returns-in-Err
returns-in-Err c =
    let none = used_is _ _ _ _ _ _ c.read_field.ensures.answer c.in-Err.is in
    record {
      place = rest_stands _ _ _ _ 0 none _ _ _ (omega arith);
      rest = rest_is _ _ _ _ 0 none;
      output = c.read_field.ensures.output;
    }

pub returns-in-Ok : goal.returns-in-Ok
returns-in-Ok c =
    let used = used_is _ _ _ _ _ _ c.read_field.ensures.answer c.in-Ok.is in
    record {
      place = rest_stands _ _ _ _ _ used _ _ _ refl;
      rest = part_is _ _ _ _ _ used;
      output = c.read_field.ensures.output;
    }
