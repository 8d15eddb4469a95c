-- Why `runs::next_two` finds the next of class 2: where the classing stands tells of the first whether it is,
-- and behind one that is not the next goes by the bounds after any other. Rests on no axiom.
use Prim.Native.Nat.{ℕ, ◌-◌, ◌<◌}
use mathlib.Core.Path.{◌≡◌, sym, ap, ◌∙◌}
use mathlib.Core.Bool.{Bool, false}
use mathlib.Core.List.{List}
use native.Mathlib.Omega.{arith}
use lib.ListN.{length, get_or}
use Rattle.timing.specs.Class.{cursor_of, class_in, is_two, classes_of}
use Rattle.timing.specs.declared.Class.TheVariants.{Narrow}
use Rattle.timing.specs.declared.Profile.{Profile}
use Rattle.timing.specs.declared.cursor.Cursor.{Cursor}
use Rattle.timing.proofs.EdgeLaws.{either_ascends}
use Rattle.runs.specs.machine.Scan.{NoTwos}
use Rattle.runs.proofs.RunLaws.{long_tells}
use Rattle.runs.proofs.RunLaws.{no_twos_between, no_more_twos, not_one_two}
use Rattle.runs.proofs.next_two.Goals as goal

-- what an interval is behind those that are not of class 2
tells_next : (p : Profile) (ds : List ℕ) {from : ℕ} (i : ℕ) {long : Cursor} {two : Bool}
    → NoTwos (classes_of p ds) from i
    → from < i
    → i < length ds
    → long ≡ cursor_of p false
    → is_two (class_in long (get_or ds i 0)) ≡ two
    → is_two (get_or (classes_of p ds) i Narrow) ≡ two
tells_next p ds i none low high is e =
    sym (long_tells p ds i (omega arith) high (none.each (i - 1) (omega arith) (omega arith)))
    ∙ ap (λ (cursor : Cursor). is_two (class_in cursor (get_or ds i 0))) (sym is)
    ∙ e

pub meets_two-requires : goal.meets_two-requires
meets_two-requires c =
    let known = c.cursor_at-cursor.ensures in
    rw known.is (either_ascends _ known.two c.requires.p_value)

pub meets_two-requires-in-loop-i : goal.meets_two-requires-in-loop-i
meets_two-requires-in-loop-i c = rw c.after-long.ensures (either_ascends _ false c.requires.p_value)

pub returns-then-meets_two-2 : goal.returns-then-meets_two-2
returns-then-meets_two-2 c =
    let inv = c.loop-i.invariant in
    let none = not_one_two _ (sym c.cursor_at-cursor.ensures.tells ∙ sym c.meets_two.ensures ∙ c.if-meets_two.false) in
    let so_far = inv.2 _ c.after-long.ensures none in
    record {
      low = omega arith;
      high = inv.1;
      none = so_far;
      here = λ h.
          tells_next _ _ _ so_far inv.0 (omega arith) c.after-long.ensures
          (sym c.meets_two-in-loop-i.ensures ∙ c.if-meets_two-2.true);
    }

pub loop-i-preserved : goal.loop-i-preserved
loop-i-preserved c =
    let inv = c.loop-i.invariant in (
      omega arith,
      omega arith,
      λ p is none.
          let so_far = inv.2 p is none in
          no_more_twos so_far
          (not_one_two _ (tells_next p _ _ so_far inv.0 (omega arith) is
          (sym c.meets_two-in-loop-i.ensures ∙ c.if-meets_two-2.false))),
    )
