-- What the functions of the reader hand to each other is the entry's answer. Rests on no axiom.
use Prim.Native.Nat.{ℕ, ◌+◌, ◌≤◌, ◌<◌}
use mathlib.Core.Path.{◌≡◌, refl, sym, ap, ◌∙◌}
use mathlib.Core.Bool.{Bool, true, false, cond}
use mathlib.Core.List.{List, map}
use native.Mathlib.Omega.{arith}
use borrow.Author.Tests.{eqb-true, eqb-false, eq-eqb, leb-true}
use lib.Dec.{eqb}
use lib.IntN.{ℤ}
use lib.ListN.{length, take, drop, length-drop}
use Rattle.std.specs.Prelude.{Ok, Err}
use Rattle.lists.proofs.BoolLaws.{both}
use Rattle.refusal.specs.Table.{number_of, place_of}
use Rattle.refusal.specs.Answer.{Answer, accepted, refused}
use Rattle.refusal.specs.declared.Refusal.{Refusal}
use Rattle.refusal.proofs.AnswerLaws.{number_is_not_zero, first_refusal_accepts, first_refusal_passes}
use Rattle.timing.specs.Profile.{outside, profile_rule}
use Rattle.timing.specs.Class.{classes_of}
use Rattle.timing.specs.declared.Profile.{Profile}
use Rattle.timing.specs.declared.Class.{Class}
use Rattle.timing.proofs.ClassLaws.{classes_length}
use Rattle.timing.proofs.ProfileLaws.{kept}
use Rattle.locks.specs.Lock.{lock_at, lock_from, search_rule, find_rule}
use Rattle.locks.proofs.FinderLaws.{lock_is_within}
use Rattle.locks.proofs.FirstLockLaws.{lock_from_found}
use Rattle.fields.specs.Field.{field_used, field_holds}
use Rattle.fields.specs.FieldRule.{FieldAnswer, field_answer, field_turned_away, answer_with, field_rule, field_reading, field_output}
use Rattle.fields.specs.machine.Gather.{gather_rule, checked_rule, checked_reading, checked_output}
use Rattle.fields.specs.declared.reader.Field.{Field}
use Rattle.fields.proofs.ReaderLaws.{answer_is_its_rule, count_refuses, checked_settles}
use Rattle.fields.proofs.RuleLaws.{gather_refuses}
use Rattle.clearance.specs.Clearance.{least_clearance}
use Rattle.clearance.specs.Answers.{clear_field_answer, clearance_for, least_used, field_with_clearance}
use Rattle.clearance.specs.declared.Clear.{Clear}
use Rattle.pace.specs.Pace.{difference, pace_rule}
use Rattle.pace.specs.machine.Cut.{cut_off, slowed, Measured, Able}
use Rattle.pace.specs.declared.Pace.{Pace}
use Rattle.speed.specs.Speed.{s0, s1, nominal, speed_rule, run_before, corrected_at}
use Rattle.speed.specs.Reading.{turned_away, corrected_answer, comes_with, rule_at, reading_at, output_at}
use Rattle.speed.specs.Reading.{corrected_rule, corrected_reading, corrected_output}
use Rattle.speed.specs.machine.Along.{TellsLeast}
use Rattle.speed.specs.machine.Read.{cleared_by, checked_with_clearance, told_by}
use Rattle.speed.proofs.NearLaws.{sum_is_some, pace_accepts}
use Rattle.speed.proofs.CutOffLaws.{cut_off_changes_nothing, cut_is_cut_off}

-- ---- a field under an accepted profile, of a count in range

-- a refusal comes without a clearance, a field with the least of the used intervals
cleared
    : (p : Profile) (ds : List ℕ) (a : Answer) (used e : ℕ) (holds : Bool)
    → (a.number ≡ 0 → e ≡ least_clearance p (take used ds))
    → clearance_for (answer_with a used holds).answer e ≡ least_used p ds (answer_with a used holds)
cleared p ds a used e holds same = split (eqb a.number 0) refl
  where
    split
        : (t : Bool)
        → eqb a.number 0 ≡ t
        → clearance_for (answer_with a used holds).answer e ≡ least_used p ds (answer_with a used holds)
    split true h = rw (h, h) (same (eqb-true _ _ h))
    split false h = rw (h, h) refl

pub refused_cleared : (r : Refusal) (e : ℕ) → clear_field_answer (Err r) ≡ cleared_by (field_answer (Err r)) e
refused_cleared r e = rw (number_is_not_zero r)

module _ (p : Profile) (ds : List ℕ) (n room : ℕ) where
  abbrev cs : List Class
  cs = classes_of p ds

  pub gather_refuses_cleared
      : (r : Refusal)
      → refused (number_of r) (place_of r) ≡ gather_rule cs n
      → clear_field_answer (Err r) ≡ checked_with_clearance p ds n room
  unfolding checked_with_clearance
  gather_refuses_cleared r e = rw (← gather_refuses cs n r e room, number_is_not_zero r)

  pub delivered_cleared
      : (f : FieldAnswer) (e : ℕ)
      → f ≡ checked_reading cs n room
      → TellsLeast p ds n e
      → cleared_by f e ≡ checked_with_clearance p ds n room
  unfolding checked_with_clearance checked_reading checked_rule
  delivered_cleared f e is least =
      rw is (ap (λ (k : ℕ). record { reading = checked_reading cs n room; clearance = k })
      (cleared p ds (checked_rule cs n room) (field_used cs n) e (field_holds cs n)
      (λ zero. least (first_refusal_accepts (gather_rule cs n) _ zero).0)))

-- ---- 12, and the field reader's answer

module _ (p : Profile) (ds : List ℕ) (n : ℕ) (old : List ℕ) (accepts : (profile_rule p).number ≡ 0) where
  pub count_refuses_cleared
      : outside 1 1030 n ≡ true
      → (cleared_by (field_turned_away (refused 12 0)) 0 ≡ field_with_clearance p ds n (length old))
      × (old ≡ field_output p ds n old)
  unfolding field_with_clearance
  count_refuses_cleared h =
      let (answer, output) = count_refuses p ds n old accepts h in (rw (← answer), output)

  pub checked_is_field
      : outside 1 1030 n ≡ false
      → (checked_with_clearance p ds n (length old) ≡ field_with_clearance p ds n (length old))
      × (checked_output (classes_of p ds) n old ≡ field_output p ds n old)
  unfolding checked_with_clearance field_with_clearance
  checked_is_field h =
      let (answer, output) = checked_settles p ds n old accepts h in (rw answer, output)

-- ---- with the lock's place and the differences

module _ (pace : Pace) (lock : ℕ) where
  pub told_refusal : (r : Refusal) → corrected_answer (Err r) ≡ told_by pace lock (clear_field_answer (Err r))
  told_refusal r = rw (number_is_not_zero r)

  pub told_field
      : (field : Clear Field) (even odd : ℤ)
      → even ≡ difference pace.nominal pace.even
      → odd ≡ difference pace.nominal pace.odd
      → corrected_answer (Ok (record { field = field; lock = lock; even = even; odd = odd }))
      ≡ told_by pace lock (clear_field_answer (Ok field))
  told_field field even odd e o = rw (e, o)

-- ---- at a lock, where 18 is not answered

module _ (p : Profile) (ds : List ℕ) (lock n : ℕ) where
  -- what comes with the field reader's own answer is what the field reader gives
  comes_with_field
      : (a : Answer) (room : ℕ)
      → a ≡ field_rule p (corrected_at p ds lock) n room
      → (comes_with a p ds lock n room).field ≡ field_with_clearance p (corrected_at p ds lock) n room
  unfolding field_with_clearance field_reading
  comes_with_field a room is = split (eqb a.number 0) refl
    where
      split
          : (t : Bool)
          → eqb a.number 0 ≡ t
          → (comes_with a p ds lock n room).field ≡ field_with_clearance p (corrected_at p ds lock) n room
      split true e = rw e refl
      split false e = rw (← is, e, e) refl

  pub field_is_read
      : (room : ℕ)
      → (speed_rule p ds lock).number ≡ 0
      → (reading_at p ds lock n room).field ≡ field_with_clearance p (corrected_at p ds lock) n room
  unfolding reading_at rule_at
  field_is_read room fair = comes_with_field _ room (first_refusal_passes (speed_rule p ds lock) _ fair)

  pub output_is
      : (old : List ℕ)
      → (speed_rule p ds lock).number ≡ 0
      → field_output p (corrected_at p ds lock) n old ≡ output_at p ds lock n old
  unfolding field_output output_at rule_at
  output_is old fair = rw (eq-eqb (speed_rule p ds lock).number 0 fair)

-- ---- at a lock

module _ (p : Profile) (ds : List ℕ) (lock n : ℕ) (old : List ℕ) where
  -- 18
  pub speed_refuses
      : (r : Refusal)
      → refused (number_of r) (place_of r) ≡ speed_rule p ds lock
      → (turned_away (refused (number_of r) (place_of r)) ≡ reading_at p ds lock n (length old))
      × (old ≡ output_at p ds lock n old)
  unfolding reading_at output_at rule_at
  speed_refuses r e = rw (← e, number_is_not_zero r, number_is_not_zero r) (refl, refl)

  module _ (accepts : (profile_rule p).number ≡ 0) (pace : Pace) (measured : Measured p.t1.0 (run_before ds lock) pace) where
    pub pace_is : pace_rule pace.nominal pace.even pace.odd ≡ speed_rule p ds lock
    pace_is = rw (measured.nominal, measured.even, measured.odd)

    module _ (fair : (speed_rule p ds lock).number ≡ 0) where
      pub able : Able pace
      able =
          let r = (kept p accepts).ranges in
          let some : 0 < p.t1.0 = omega (arith, r) in
          let (even, odd) = pace_accepts (nominal p) (s0 ds lock) (s1 ds lock) fair in
          record {
            nominal = measured.small.nominal;
            even = rw measured.even (sum_is_some p.t1.0 (s0 ds lock) even some);
            odd = rw measured.odd (sum_is_some p.t1.0 (s1 ds lock) odd some);
          }

      slowed_is : slowed pace (drop lock ds) ≡ map cut_off (corrected_at p ds lock)
      unfolding slowed corrected_at
      slowed_is =
          rw (measured.nominal, measured.even, measured.odd)
          (cut_is_cut_off (nominal p) (s0 ds lock) (s1 ds lock) (drop lock ds))

      pub field_is
          : (field_with_clearance p (slowed pace (drop lock ds)) n (length old)
          ≡ field_with_clearance p (corrected_at p ds lock) n (length old))
          × (field_output p (slowed pace (drop lock ds)) n old ≡ field_output p (corrected_at p ds lock) n old)
      field_is = rw slowed_is (cut_off_changes_nothing p (corrected_at p ds lock) n old accepts)

      answer_is : (field_with_clearance p (corrected_at p ds lock) n (length old)).reading.answer
          ≡ field_rule p (corrected_at p ds lock) n (length old)
      unfolding field_with_clearance field_reading
      answer_is = answer_is_its_rule (field_rule p (corrected_at p ds lock) n (length old)) _ _

      pub told_is
          : told_by pace lock (field_with_clearance p (corrected_at p ds lock) n (length old)) ≡ reading_at p ds lock n (length old)
      unfolding reading_at rule_at
      told_is =
          rw (answer_is, measured.nominal, measured.even, measured.odd, eq-eqb (speed_rule p ds lock).number 0 fair)

-- ---- the entry

stands_after_64 : (kinds : List Class) (k : ℕ) → lock_at kinds k ≡ true → 64 ≤ k
unfolding lock_at
stands_after_64 kinds k e = leb-true 64 k (both _ _ (both _ _ e).0).0

module _ (p : Profile) (ds : List ℕ) (start n : ℕ) (old : List ℕ) where
  pub find_refuses
      : (r : Refusal)
      → refused (number_of r) (place_of r) ≡ find_rule p ds start
      → (turned_away (refused (number_of r) (place_of r)) ≡ corrected_reading p ds start n (length old))
      × (old ≡ corrected_output p ds start n old)
  unfolding corrected_reading corrected_output corrected_rule
  find_refuses r e = rw (← e, number_is_not_zero r, number_is_not_zero r) (refl, refl)

  module _ (lock : ℕ) (found : accepted lock ≡ find_rule p ds start) where
    pub found_is
        : (reading_at p ds lock n (length old) ≡ corrected_reading p ds start n (length old))
        × (output_at p ds lock n old ≡ corrected_output p ds start n old)
    unfolding corrected_reading corrected_output corrected_rule reading_at output_at
    found_is =
        let place : (find_rule p ds start).count ≡ lock = ap (λ (b : Answer). b.count) (sym found) in
        rw (place, ← found) (refl, refl)

    counted
        : (t : Bool) (a : Answer)
        → eqb a.number 0 ≡ t
        → accepted lock ≡ cond t (accepted (start + a.count)) a
        → (a.number ≡ 0) × (lock ≡ start + a.count)
    counted true a e h = (eqb-true _ _ e, ap (λ (b : Answer). b.count) h)
    counted false a e h = absurd (eqb-false _ _ e (ap (λ (b : Answer). b.number) (sym h)))

    -- it stands after 64 intervals, and in the list
    pub lock_is_ahead : ((profile_rule p).number ≡ 0) × (64 ≤ lock) × (lock ≤ length ds)
    unfolding find_rule search_rule
    lock_is_ahead =
        let accepts : (find_rule p ds start).number ≡ 0 = ap (λ (b : Answer). b.number) (sym found) in
        let (fair, later) = first_refusal_accepts (profile_rule p) _ accepts in
        let passes = first_refusal_passes (profile_rule p) (search_rule p ds start) fair in
        let classes : List Class = classes_of p (drop start ds) in
        let (finds, place) = counted _ (lock_from classes 0) refl (found ∙ passes) in
        let first = lock_from_found classes 0 finds in
        let low = stands_after_64 classes (lock_from classes 0).count first.stands in
        let high = lock_is_within classes (lock_from classes 0).count first.stands in
        let long = classes_length p (drop start ds) ∙ length-drop start ds in
        (fair, omega (arith, low, place), omega (arith, place, high, long))

field_answer_lem
    : (p : Profile) (es : List ℕ) (n room : ℕ)
    → (field_with_clearance p es n room).reading.answer ≡ field_rule p es n room
unfolding field_with_clearance field_reading
field_answer_lem p es n room = answer_is_its_rule (field_rule p es n room) _ _

-- the number, place and count that the entry gives are those of its rule
pub answer_is_rule
    : (p : Profile) (ds : List ℕ) (start n room : ℕ)
    → (corrected_reading p ds start n room).field.reading.answer ≡ corrected_rule p ds start n room
unfolding corrected_reading corrected_rule rule_at
answer_is_rule p ds start n room = split (eqb (corrected_rule p ds start n room).number 0) refl
  where
    split
        : (t : Bool)
        → eqb (corrected_rule p ds start n room).number 0 ≡ t
        → (corrected_reading p ds start n room).field.reading.answer ≡ corrected_rule p ds start n room
    split true e =
        let lock = (find_rule p ds start).count in
        let es = corrected_at p ds lock in
        let (finds, there) = first_refusal_accepts (find_rule p ds start) _ (eqb-true _ _ e) in
        let (on_speed, reads) = first_refusal_accepts (speed_rule p ds lock) _ there in
        rw e (field_answer_lem p es n room
        ∙ sym (first_refusal_passes (find_rule p ds start) _ finds
        ∙ first_refusal_passes (speed_rule p ds lock) (field_rule p es n room) on_speed))
    split false e = rw e refl
