-- Numbers that are cut off at 65,535 are answered as they are: no edge is above it, so that each keeps its class, and what
-- is cut off is wide before and after. Rests on no axiom.
use Prim.Native.Nat.{ℕ, zero, suc, ◌*◌, ◌/◌, ◌≤◌, min}
use mathlib.Core.Path.{◌≡◌, refl, ap, ap₂, ◌∙◌}
use mathlib.Core.Bool.{Bool, true, false}
use mathlib.Core.List.{List, [], ◌∷◌, map}
use native.Mathlib.Decide.{dec_le}
use native.Mathlib.Omega.{arith}
use lib.Dec.{ltb}
use lib.ListN.{take}
use borrow.Author.Tests.{le-ltb}
use Rattle.lists.specs.Span.{least}
use Rattle.timing.specs.Profile.{profile_rule}
use Rattle.timing.specs.Class.{cursor_of, at_start, class_in, is_two, behind, cursor_past, classes_from, classes_of}
use Rattle.timing.specs.declared.Profile.{Profile}
use Rattle.timing.specs.declared.Class.{Class}
use Rattle.timing.specs.declared.Class.TheVariants.{Wide}
use Rattle.timing.specs.declared.cursor.Cursor.{Cursor}
use Rattle.timing.proofs.ClassLaws.{from_rpt_is_wide}
use Rattle.timing.proofs.ProfileLaws.{kept}
use Rattle.fields.specs.FieldRule.{field_rule, field_reading, field_output}
use Rattle.clearance.specs.Clearance.{clearance_in, clearances_from, least_from, least_clearance}
use Rattle.clearance.specs.Answers.{field_with_clearance}
use Rattle.pace.specs.Pace.{corrected, corrected_from}
use Rattle.pace.specs.machine.Cut.{cut_off, cut, cut_from}
use Rattle.speed.specs.Claims.{CutOffChangesNothing}

-- no edge is above it, now or behind any interval
record Low (c : Cursor) : Type 0 where
  min : c.min.0 ≤ 65535
  now : (c.bounds.b23.0 ≤ 65535) × (c.bounds.b34.0 ≤ 65535)
  short : (c.short.b23.0 ≤ 65535) × (c.short.b34.0 ≤ 65535)
  long : (c.long.b23.0 ≤ 65535) × (c.long.b34.0 ≤ 65535)
  rpt : c.rpt.0 ≤ 65535

low_at_start : (p : Profile) → (profile_rule p).number ≡ 0 → Low (at_start p)
unfolding at_start cursor_of
low_at_start p accepts =
    let k = kept p accepts in
    let r = k.ranges in
    record {
      min = omega (arith, r);
      now = (omega (arith, r), omega (arith, r));
      short = (omega (arith, r), omega (arith, r));
      long = (omega (arith, r), omega (arith, r));
      rpt = omega (arith, r);
    }

-- below an edge that is no larger, a cut-off number stands where the number does
same_test : (d edge : ℕ) → edge ≤ 65535 → ltb (cut_off d) edge ≡ ltb d edge
same_test d edge h =
    elim (dec_le d 65535) [
      | yes few ↦ let e : min d 65535 ≡ d = omega arith in rw e
      | no many ↦
          let e : min d 65535 ≡ 65535 = omega arith in
          rw (e, le-ltb 65535 edge h, le-ltb d edge (omega arith))
    ]

module _ (c : Cursor) (low : Low c) (d : ℕ) where
  same_class : class_in c (cut_off d) ≡ class_in c d
  unfolding class_in
  same_class =
      rw (
        same_test d c.min.0 low.min,
        same_test d c.bounds.b23.0 low.now.0,
        same_test d c.bounds.b34.0 low.now.1,
        same_test d c.rpt.0 low.rpt,
      )

  same_clearance : clearance_in c (cut_off d) ≡ clearance_in c d
  unfolding clearance_in
  same_clearance =
      elim (dec_le d 65535) [
        | yes few ↦ let e : min d 65535 ≡ d = omega arith in rw e
        | no many ↦
            let wide : class_in c d ≡ Wide =
            from_rpt_is_wide c d (let h = low.min in omega (arith, h)) (let h = low.now.0 in omega (arith, h))
            (let h = low.now.1 in omega (arith, h)) (let h = low.rpt in omega (arith, h)) in
            rw (same_class ∙ wide, wide)
      ]

  low_behind : (two : Bool) → Low (behind c two)
  unfolding behind
  low_behind true = record { min = low.min; now = low.short; short = low.short; long = low.long; rpt = low.rpt }
  low_behind false = record { min = low.min; now = low.long; short = low.short; long = low.long; rpt = low.rpt }

same_classes : (c : Cursor) → Low c → (ds : List ℕ) → classes_from c (map cut_off ds) ≡ classes_from c ds
unfolding classes_from cursor_past
same_classes c low [] = refl
same_classes c low (d ∷ ds) =
    let same = same_class c low d in
    ap₂ ◌∷◌ same
    (ap (λ (x : Class). classes_from (behind c (is_two x)) (map cut_off ds)) same
    ∙ same_classes (behind c (is_two (class_in c d))) (low_behind c low d (is_two (class_in c d))) ds)

same_clearances : (c : Cursor) → Low c → (ds : List ℕ) → clearances_from c (map cut_off ds) ≡ clearances_from c ds
unfolding clearances_from cursor_past
same_clearances c low [] = refl
same_clearances c low (d ∷ ds) =
    ap₂ ◌∷◌ (same_clearance c low d)
    (ap (λ (x : Class). clearances_from (behind c (is_two x)) (map cut_off ds)) (same_class c low d)
    ∙ same_clearances (behind c (is_two (class_in c d))) (low_behind c low d (is_two (class_in c d))) ds)

take_of_map : (k : ℕ) (ds : List ℕ) → take k (map cut_off ds) ≡ map cut_off (take k ds)
take_of_map zero ds = refl
take_of_map (suc k) [] = refl
take_of_map (suc k) (d ∷ ds) = ap (λ (es : List ℕ). cut_off d ∷ es) (take_of_map k ds)

module _ (p : Profile) (accepts : (profile_rule p).number ≡ 0) where
  classes_of_cut : (ds : List ℕ) → classes_of p (map cut_off ds) ≡ classes_of p ds
  unfolding classes_of
  classes_of_cut ds = same_classes (at_start p) (low_at_start p accepts) ds

  least_of_cut : (k : ℕ) (ds : List ℕ) → least_clearance p (take k (map cut_off ds)) ≡ least_clearance p (take k ds)
  unfolding least_clearance least_from
  least_of_cut k ds =
      ap (λ (es : List ℕ). least (clearances_from (at_start p) es)) (take_of_map k ds)
      ∙ ap least (same_clearances (at_start p) (low_at_start p accepts) (take k ds))

pub cut_off_changes_nothing : CutOffChangesNothing
unfolding field_with_clearance field_reading field_rule field_output
cut_off_changes_nothing p ds n old accepts =
    rw (classes_of_cut p accepts ds, least_of_cut p accepts _ ds) (refl, refl)

-- the code's numbers are the corrected ones, cut off
pub cut_is_cut_off
    : (full own other : ℕ) (ds : List ℕ) → cut_from full own other ds ≡ map cut_off (corrected_from full own other ds)
unfolding cut_from cut corrected_from corrected
cut_is_cut_off full own other [] = refl
cut_is_cut_off full own other (d ∷ ds) =
    ap (λ (es : List ℕ). cut_off (d * full / own) ∷ es) (cut_is_cut_off full other own ds)
