-- Why `locks::finder::search` answers `search_rule`: the scan has the intervals from `start` on, and a place of theirs
-- is within them, so that the sum is a place of the list. Rests on no axiom.
use Prim.Native.Nat.{ℕ, ◌-◌, ◌<◌, ◌≤◌}
use mathlib.Core.Path.{◌≡◌, sym, ap, ◌∙◌}
use mathlib.Core.List.{List}
use native.Mathlib.Omega.{arith}
use lib.ListN.{length, drop, length-drop}
use Rattle.refusal.specs.Answer.{Answer, accepted, refused, counted_answer}
use Rattle.refusal.proofs.AnswerLaws.{number_is_not_zero, handed_on}
use Rattle.timing.specs.Class.{classes_of}
use Rattle.timing.specs.declared.Profile.{Profile}
use Rattle.timing.specs.declared.Class.{Class}
use Rattle.timing.proofs.ClassLaws.{classes_length}
use Rattle.locks.specs.Lock.{lock_from, search_rule}
use Rattle.locks.proofs.LockLaws.{part_to_end}
use Rattle.locks.proofs.FinderLaws.{search_ends_adrift, lock_is_within}
use Rattle.locks.proofs.FirstLockLaws.{lock_from_found}
use Rattle.locks.proofs.finder.search.Goals as goal

module _ (p : Profile) (ds : List ℕ) (start : ℕ) where
  -- the classes that are searched
  abbrev classes : List Class
  classes = classes_of p (drop start ds)

  count : length classes ≡ length ds - start
  count = classes_length p (drop start ds) ∙ length-drop start ds

  past_end_is_adrift : length ds ≤ start → refused 10 0 ≡ search_rule p ds start
  unfolding search_rule
  past_end_is_adrift h =
      let none = count in
      rw (sym (search_ends_adrift classes 0 (omega arith)))

  place_is_within : (k : ℕ) → accepted k ≡ lock_from classes 0 → k < length ds - start
  place_is_within k e =
      let first = lock_from_found classes 0 (sym (ap (λ (a : Answer). a.number) e)) in
      let is = ap (λ (a : Answer). a.count) e in
      let within = lock_is_within classes _ first.stands in
      let long = count in
      omega arith

-- what the scan answers of the intervals that it has
scanned
    : (p : Profile) (part ds : List ℕ) {a : Answer}
    → part ≡ ds
    → a ≡ lock_from (classes_of p part) 0
    → a ≡ lock_from (classes_of p ds) 0
scanned p part ds e h = h ∙ ap (λ (l : List ℕ). lock_from (classes_of p l) 0) e

pub returns-then-intervals-start : goal.returns-then-intervals-start
returns-then-intervals-start c = past_end_is_adrift _ _ _ c.if-intervals-start.true

pub scan-requires : goal.scan-requires
scan-requires c = c.requires

pub overflow_add-result : goal.overflow_add-result
overflow_add-result c =
    let args = c.args in
    let told = scanned args.p _ _ (part_to_end args.intervals.now args.start) c.scan.ensures in
    let within = place_is_within args.p args.intervals.now args.start _ (sym (ap counted_answer c.in_ok-k.was) ∙ told) in
    omega (arith, c.well_formed)

pub returns-in_err-k : goal.returns-in_err-k
unfolding search_rule
returns-in_err-k c =
    let args = c.args in
    let r = c.in_err-k.field-0.0 in
    let told = scanned args.p _ _ (part_to_end args.intervals.now args.start) c.scan.ensures in
    handed_on _ r c.from_residual.ensures.1
    ∙ rw (sym told ∙ ap counted_answer c.in_err-k.was, number_is_not_zero r)

pub returns : goal.returns
unfolding search_rule
returns c =
    let args = c.args in
    let told = scanned args.p _ _ (part_to_end args.intervals.now args.start) c.scan.ensures in
    rw (sym told ∙ ap counted_answer c.in_ok-k.was)
