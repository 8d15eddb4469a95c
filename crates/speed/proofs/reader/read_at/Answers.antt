-- Why `reader::read_at` answers `reading_at`: the 64 before the lock are measured, and those from it on are read as the field
-- reader would the corrected numbers, which cutting off does not change. Rests on no axiom.
use Prim.Native.Nat.{ℕ, ◌-◌, ◌≤◌}
use mathlib.Core.Path.{◌≡◌, sym, ap, ◌∙◌}
use mathlib.Core.List.{List}
use native.Mathlib.Omega.{arith}
use lib.ListN.{length, take, drop, length-take, length-drop}
use Rattle.std.specs.Prelude.{Result, Ok, Err}
use Rattle.std.proofs.Common.{rules}
use Rattle.refusal.specs.Answer.{verdict_answer}
use Rattle.refusal.specs.declared.Refusal.{Refusal}
use Rattle.refusal.proofs.AnswerLaws.{verdict_accepts}
use Rattle.timing.specs.Profile.{profile_rule}
use Rattle.timing.specs.declared.Profile.{Profile}
use Rattle.timing.proofs.ProfileLaws.{kept}
use Rattle.locks.proofs.LockLaws.{part_to_end}
use Rattle.fields.specs.FieldRule.{field_output}
use Rattle.fields.specs.declared.reader.Field.{Field}
use Rattle.clearance.specs.Answers.{clear_field_answer, field_with_clearance}
use Rattle.clearance.specs.declared.Clear.{Clear}
use Rattle.pace.specs.Pace.{pace_rule}
use Rattle.pace.specs.machine.Cut.{slowed, Measured, Able}
use Rattle.pace.specs.declared.Pace.{Pace}
use Rattle.pace.proofs.DifferenceLaws.{difference_is_kept}
use Rattle.speed.specs.Speed.{run_before, speed_rule}
use Rattle.speed.specs.Reading.{corrected_answer, reading_at, output_at}
use Rattle.speed.specs.machine.Read.{told_by}
use Rattle.speed.proofs.ReadLaws.{speed_refuses, pace_is, able, field_is, told_is, output_is}
use Rattle.speed.proofs.ReadLaws.{told_refusal, told_field}
use Rattle.speed.proofs.reader.read_at.Goals as goal

-- the 64 before a lock, as they are lent
run_is : (ds : List ℕ) (lock : ℕ) → 64 ≤ lock → take (lock - (lock - 64)) (drop (lock - 64) ds) ≡ run_before ds lock
unfolding run_before
run_is ds lock h =
    let count : lock - (lock - 64) ≡ 64 = omega (arith, h) in ap (λ (k : ℕ). take k (drop (lock - 64) ds)) count

module _
    (p : Profile) (ds : List ℕ) (lock n : ℕ) (old : List ℕ) (accepts : (profile_rule p).number ≡ 0) (long : 64 ≤ lock)
    (pace : Pace) (of_run : Measured p.t1.0 (take (lock - (lock - 64)) (drop (lock - 64) ds)) pace)
    (verdict : Result (Unit {0}) Refusal) (checked : verdict_answer verdict ≡ pace_rule pace.nominal pace.even pace.odd)
  where
    measured : Measured p.t1.0 (run_before ds lock) pace
    measured = rw (run_is ds lock long) at of_run

    -- the pace is checked as the rule has it
    paced : verdict_answer verdict ≡ speed_rule p ds lock
    paced = checked ∙ pace_is p ds lock n old accepts pace measured

    refuses
        : (r : Refusal)
        → verdict ≡ Err r
        → (corrected_answer (Err r) ≡ reading_at p ds lock n (length old)) × (old ≡ output_at p ds lock n old)
    refuses r is = speed_refuses p ds lock n old r (sym (ap verdict_answer is) ∙ paced)

    module _ (is : verdict ≡ Ok tt) where
      fair : (speed_rule p ds lock).number ≡ 0
      fair = verdict_accepts _ _ paced is

      is_able : Able pace
      is_able = able p ds lock n old accepts pace measured fair

      -- what the corrected numbers read as, with the lock's place and the differences
      told
          : (read answer : Result (Clear Field) Refusal)
          → clear_field_answer read
          ≡ field_with_clearance p (slowed pace (take (length ds - lock) (drop lock ds))) n (length old)
          → read ≡ answer
          → told_by pace lock (clear_field_answer answer) ≡ reading_at p ds lock n (length old)
      told read answer same reads =
          ap (told_by pace lock)
          (sym (ap clear_field_answer reads)
          ∙ (rw (part_to_end ds lock) at same)
          ∙ (field_is p ds lock n old accepts pace measured fair).0)
          ∙ told_is p ds lock n old accepts pace measured fair

      stored
          : (new : List ℕ)
          → new ≡ field_output p (slowed pace (take (length ds - lock) (drop lock ds))) n old
          → new ≡ output_at p ds lock n old
      stored new same =
          (rw (part_to_end ds lock) at same)
          ∙ (field_is p ds lock n old accepts pace measured fair).1
          ∙ output_is p ds lock n old fair

pub measured-pace-requires : goal.measured-pace-requires
measured-pace-requires c =
    let ds = c.args.intervals.now in
    let lock = c.args.lock in
    let accepts = c.requires.p_value in
    let place = c.requires.le_lock in
    record {
      t1_bound = omega (arith, (kept c.args.p accepts).ranges);
      run_len = omega (arith, place, length-take (lock - (lock - 64)) (drop (lock - 64) ds), length-drop (lock - 64) ds);
    }

pub check-requires : goal.check-requires
check-requires c = c.measured-pace.ensures.small

pub read_slowed-requires : goal.read_slowed-requires
read_slowed-requires c =
    let accepts = c.requires.p_value in
    let measured = c.measured-pace.ensures in
    let checked = c.check.ensures in
    record {
      p_value = accepts;
      able = is_able _ c.args.intervals.now _ c.args.n c.args.out.now accepts c.requires.le_lock.0 _ measured _ checked
          c.in_ok-check.was;
    }

pub difference-even-requires : goal.difference-even-requires
difference-even-requires c = let small = c.measured-pace.ensures.small in (small.nominal, small.even)

pub difference-odd-requires : goal.difference-odd-requires
difference-odd-requires c = let small = c.measured-pace.ensures.small in (small.nominal, small.odd)

pub returns-in_err-check-clause-answer : goal.returns-in_err-check-clause-answer
returns-in_err-check-clause-answer c =
    let answer =
    (refuses _ c.args.intervals.now _ c.args.n c.args.out.now c.requires.p_value c.requires.le_lock.0 _
    c.measured-pace.ensures _ c.check.ensures _ c.in_err-check.was).0 in
    search (rules, answer)

pub returns-in_err-check-clause-output : goal.returns-in_err-check-clause-output
returns-in_err-check-clause-output c =
    (refuses _ c.args.intervals.now _ c.args.n c.args.out.now c.requires.p_value c.requires.le_lock.0 _
    c.measured-pace.ensures _ c.check.ensures _ c.in_err-check.was).1

pub returns-in_err-field-clause-answer : goal.returns-in_err-field-clause-answer
returns-in_err-field-clause-answer c =
    let answer =
    told_refusal c.measured-pace.result c.args.lock _
    ∙ told _ c.args.intervals.now _ c.args.n c.args.out.now c.requires.p_value c.requires.le_lock.0 _
    c.measured-pace.ensures _ c.check.ensures c.in_ok-check.was _ _ c.read_slowed.ensures.answer c.in_err-field.was in
    search (rules, answer)

pub returns-in_err-field-clause-output : goal.returns-in_err-field-clause-output
returns-in_err-field-clause-output c =
    stored _ c.args.intervals.now _ c.args.n c.args.out.now c.requires.p_value c.requires.le_lock.0 _
    c.measured-pace.ensures _ c.check.ensures c.in_ok-check.was _ c.read_slowed.ensures.output

pub returns : goal.returns
returns c =
    let pace = c.measured-pace.result in
    let small = c.measured-pace.ensures.small in
    let full : pace.nominal ≤ 4194240 = omega (arith, small.nominal) in
    record {
      answer = told_field pace c.args.lock _ _ _
          (difference_is_kept pace.even pace.nominal small.even full _ c.difference-even.ensures)
          (difference_is_kept pace.odd pace.nominal small.odd full _ c.difference-odd.ensures)
          ∙ told _ c.args.intervals.now _ c.args.n c.args.out.now c.requires.p_value c.requires.le_lock.0 _
          c.measured-pace.ensures _ c.check.ensures c.in_ok-check.was _ _ c.read_slowed.ensures.answer
          c.in_ok-field.was;
      output = stored _ c.args.intervals.now _ c.args.n c.args.out.now c.requires.p_value c.requires.le_lock.0 _
          c.measured-pace.ensures _ c.check.ensures c.in_ok-check.was _ c.read_slowed.ensures.output;
    }
