-- What the profile's rule means: where it accepts, every number is in range and every window holds its lengths, since
-- each test of the definition gave the answer that let the next be asked; and where that is so it accepts. Rests on no
-- axiom.
use Rattle.std.proofs.Common.{◌≡◌, ℕ, suc, ◌+◌, ◌*◌, ◌<◌, ◌≤◌, Bool, true, false, cond, not, ◌&&◌, Some, None, refl, sym}
use Rattle.std.proofs.Common.{zero-add, arith, ltb-true, lt-ltb, le-leb, leb-true}
use Rattle.std.proofs.lemmas.Option.{cond_some, none-some}
use Rattle.lists.specs.Place.{anywhere, lowest, passed}
use Rattle.lists.proofs.BoolLaws.{both}
use Rattle.refusal.specs.Answer.{accepted, refused, refuse_if}
use Rattle.timing.specs.Numbers.{ranges, numbers_of}
use Rattle.timing.specs.Profile.{unset, swing, advance, delay, is_true_short, is_true_long, is_true, profile_rule}
use Rattle.timing.specs.Profile.{unset_place, InRange}
use Rattle.timing.specs.declared.Profile.{Profile}
use Rattle.timing.proofs.RangeLaws.{none_outside_all_inside, all_inside_none_outside, unset_from}

-- all that an accepted profile means: for each side of an edge, that the lengths there stand on that side
pub record Kept (p : Profile) : Type 0 where
  pub ranges : InRange p
  pub early_first : p.early.0 ≤ p.normal.0
  pub late_last : p.normal.0 ≤ p.late.0
  pub early_point : 2 * p.early.0 + advance p ≡ 2 * p.normal.0
  pub late_point : 2 * p.normal.0 + delay p ≡ 2 * p.late.0
  pub parts : swing p ≡ advance p + delay p
  pub above_min : p.min.0 + swing p ≤ p.t1.0
  pub below_b23_short : p.t1.0 < p.short.b23.0
  pub above_b23_short : p.short.b23.0 ≤ p.t1.0 + p.t0.0 + advance p
  pub below_b23_long : p.t1.0 < p.long.b23.0 + delay p
  pub above_b23_long : p.long.b23.0 ≤ p.t1.0 + p.t0.0
  pub below_b34_short : p.t1.0 + p.t0.0 + swing p < p.short.b34.0
  pub above_b34_short : p.short.b34.0 ≤ p.t1.0 + 2 * p.t0.0 + advance p
  pub below_b34_long : p.t1.0 + p.t0.0 + delay p < p.long.b34.0
  pub above_b34_long : p.long.b34.0 ≤ p.t1.0 + 2 * p.t0.0
  pub below_rpt : p.t1.0 + 2 * p.t0.0 + swing p < p.rpt.0

pub first_holds : (a b : Bool) → (a && b) ≡ true → a ≡ true
first_holds a b e = (both a b e).0

pub second_holds : (a b : Bool) → (a && b) ≡ true → b ≡ true
second_holds a b e = (both a b e).1

-- ---- ranges

pub none_unset_in_range : (p : Profile) → anywhere passed (unset p) ≡ false → InRange p
unfolding unset
none_unset_in_range p e = none_outside_all_inside ranges (numbers_of p) e

-- ---- the rule, by its tests

-- where the rule accepts, no number is unset and the profile is true
accepts_tests
    : (any true_one : Bool) (place : ℕ)
    → (refuse_if any 1 (suc place) (refuse_if (not true_one) 2 0 (accepted 0))).number ≡ 0
    → (any ≡ false) × (true_one ≡ true)
accepts_tests true true_one place e = absurd (omega arith)
accepts_tests false true place e = (refl, refl)
accepts_tests false false place e = absurd (omega arith)

-- the distances between points that are in order
pub early_part : (p : Profile) → p.early.0 ≤ p.normal.0 → 2 * p.early.0 + advance p ≡ 2 * p.normal.0
unfolding advance
early_part p h = omega arith

pub late_part : (p : Profile) → p.normal.0 ≤ p.late.0 → 2 * p.normal.0 + delay p ≡ 2 * p.late.0
unfolding delay
late_part p h = omega arith

pub both_parts : (p : Profile) → p.early.0 ≤ p.normal.0 → p.normal.0 ≤ p.late.0 → swing p ≡ advance p + delay p
unfolding swing advance delay
both_parts p h g = omega arith

-- what a profile means that is in range and true
pub kept_if_true : (p : Profile) → InRange p → is_true p ≡ true → Kept p
unfolding is_true is_true_short is_true_long
kept_if_true p within true_one =
    search (within, true_one, early_part, late_part, both_parts, leb-true, ltb-true, first_holds, second_holds) depth 14

pub kept : (p : Profile) → (profile_rule p).number ≡ 0 → Kept p
unfolding profile_rule
kept p e =
    let (in_ranges, windows) = accepts_tests (anywhere passed (unset p)) (is_true p) (lowest passed (unset p)) e in
    kept_if_true p (none_unset_in_range p in_ranges) windows

-- and the other way round
pub true_if_kept : (p : Profile) → Kept p → is_true p ≡ true
unfolding is_true is_true_short is_true_long
true_if_kept p k =
    rw (
      le-leb _ _ k.early_first,
      le-leb _ _ k.late_last,
      le-leb _ _ k.above_min,
      lt-ltb _ _ k.below_b23_short,
      le-leb _ _ k.above_b23_short,
      lt-ltb _ _ k.below_b34_short,
      le-leb _ _ k.above_b34_short,
      lt-ltb _ _ k.below_b23_long,
      le-leb _ _ k.above_b23_long,
      lt-ltb _ _ k.below_b34_long,
      le-leb _ _ k.above_b34_long,
      lt-ltb _ _ k.below_rpt,
    )

pub accepts_if_kept : (p : Profile) → Kept p → (profile_rule p).number ≡ 0
unfolding profile_rule unset
accepts_if_kept p k = rw (all_inside_none_outside ranges (numbers_of p) k.ranges, true_if_kept p k)

-- a number that is out of range decides the rule; where none is, the windows do
windows : (t : Bool) → cond t (accepted 0) (refused 2 0) ≡ refuse_if (not t) 2 0 (accepted 0)
windows true = refl
windows false = refl

none_found : (any : Bool) (place : ℕ) → cond any (Some place) None ≡ None → any ≡ false
none_found true place e = absurd (none-some place (sym e))
none_found false place e = refl

pub rule_of_unset : (p : Profile) (w : ℕ) → unset_place p ≡ Some w → refused 1 w ≡ profile_rule p
unfolding profile_rule unset_place
rule_of_unset p w e =
    let found = cond_some (anywhere passed (unset p)) (suc (lowest passed (unset p))) w e in
    rw (found.0, found.1)

pub rule_of_windows
    : (p : Profile) (t : Bool) → unset_place p ≡ None → t ≡ is_true p → cond t (accepted 0) (refused 2 0) ≡ profile_rule p
unfolding profile_rule unset_place
rule_of_windows p t none same = rw (none_found (anywhere passed (unset p)) _ none, same) (windows (is_true p))

pub in_range : (p : Profile) → unset_place p ≡ None → InRange p
unfolding unset_place
in_range p e = none_unset_in_range p (none_found _ _ e)

-- ---- a scan of the numbers finds the lowest that is unset

pub scan_finds_lowest : (p : Profile) → unset_from ranges (numbers_of p) 0 ≡ unset_place p
unfolding unset_place unset
scan_finds_lowest p = rw zero-add
