-- The corrected reader's tests in their turn: the profile is looked at once, since what passed the finder's test of it
-- passes the field reader's. Rests on no axiom.
use Prim.Native.Nat.{ℕ, ◌*◌}
use mathlib.Core.Path.{◌≡◌, refl}
use mathlib.Core.Bool.{Bool, true, false}
use mathlib.Core.List.{List}
use lib.Dec.{eqb, ltb}
use lib.ListN.{length, drop}
use Rattle.refusal.specs.Answer.{Answer, accepted, refuse_if, first_refusal}
use Rattle.timing.specs.Profile.{outside, profile_rule}
use Rattle.timing.specs.Class.{classes_of}
use Rattle.timing.specs.declared.Profile.{Profile}
use Rattle.locks.specs.Lock.{search_rule, find_rule}
use Rattle.fields.specs.Field.{field_stop, field_items, field_stray, field_stray_place}
use Rattle.fields.specs.FieldRule.{field_rule}
use Rattle.fields.proofs.FieldLaws.{field_items_count}
use Rattle.pace.specs.Pace.{differs, off_speed, pace_rule}
use Rattle.speed.specs.Speed.{s0, s1, nominal, speed_rule, corrected_at}
use Rattle.speed.specs.Reading.{lock_of, rule_at, corrected_rule, corrected_output}
use Rattle.demands.specs.Order.{Answers, Lent}
use Rattle.demands.specs.SpeedCauses.{corrected_order}
use Rattle.demands.proofs.OrderLaws.{turn_by_test, turn_before, profile_first, means_at, means_either, means_below_at}
use Rattle.demands.proofs.OrderLaws.{last_below, told_after, told_by_test, told_once_accepted, told_room}
use Rattle.demands.proofs.OrderLaws.{settled_is_lent}
use Rattle.demands.proofs.StopLaws.{stop_in_turn}
use Rattle.demands.proofs.LockOrder.{lock_before}

once
    : (profile search speed field : Answer)
    → first_refusal (first_refusal profile search) (first_refusal speed (first_refusal profile field))
    ≡ first_refusal profile (first_refusal search (first_refusal speed field))
once profile search speed field = split (eqb profile.number 0) refl
  where
    split
        : (t : Bool)
        → eqb profile.number 0 ≡ t
        → first_refusal (first_refusal profile search) (first_refusal speed (first_refusal profile field))
        ≡ first_refusal profile (first_refusal search (first_refusal speed field))
    split true e = rw e refl
    split false e = rw (e, e) refl

module _ (p : Profile) (ds : List ℕ) (start n room : ℕ) where
  abbrev lock : ℕ
  lock = lock_of p ds start

  -- 12 and what comes after it
  abbrev counted : Answer
  counted =
      let cs = classes_of p (corrected_at p ds lock) in
      refuse_if (outside 1 1030 n) 12 0
      (first_refusal (field_stop cs n)
      (refuse_if (field_stray cs n) 8 (field_stray_place cs n)
      (refuse_if (ltb room n) 9 0
      (accepted n))))

  rule_is
      : corrected_rule p ds start n room
      ≡ first_refusal (profile_rule p) (first_refusal (search_rule p ds start) (first_refusal (speed_rule p ds lock) counted))
  unfolding corrected_rule rule_at field_rule find_rule
  rule_is = once (profile_rule p) (search_rule p ds start) (speed_rule p ds lock) counted

  pub corrected_in_turn : Answers (corrected_order p ds start n room) (corrected_rule p ds start n room)
  unfolding search_rule pace_rule off_speed
  corrected_in_turn =
      let cs = classes_of p (corrected_at p ds lock) in
      rw rule_is
      (profile_first p _
      (lock_before (classes_of p (drop start ds)) start
      (turn_before 17 _ counted (means_below_at 0 (nominal p) (16 * differs (nominal p) (s0 ds lock)))
      (turn_before 17 _ counted (means_below_at 1 (nominal p) (16 * differs (nominal p) (s1 ds lock)))
      (turn_by_test (means_either n 1 1030 n)
      (stop_in_turn cs _ _ (turn_by_test (means_at _ _) (last_below room n _)) n))))))

pub corrected_is_lent
    : (p : Profile) (ds : List ℕ) (start n : ℕ) (old : List ℕ)
    → Lent (corrected_rule p ds start n (length old))
    (field_items (classes_of p (corrected_at p ds (lock_of p ds start))) n) old (corrected_output p ds start n old)
unfolding corrected_output corrected_rule rule_at field_rule
corrected_is_lent p ds start n old =
    let lock = lock_of p ds start in
    let cs = classes_of p (corrected_at p ds lock) in
    settled_is_lent _ _ old
    (told_after (find_rule p ds start)
    (told_after (speed_rule p ds lock)
    (told_after (profile_rule p)
    (told_by_test (outside 1 1030 n) 11 _
    (told_once_accepted (field_stop cs n) (λ stops.
    told_by_test (field_stray cs n) 7 _ (told_room n _ (field_items_count cs n stops))))))))
