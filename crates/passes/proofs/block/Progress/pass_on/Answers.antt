-- Why `Progress::pass_on` reaches the end of its part and stores its words: what is left to read and to store stays the
-- same from block to block. Rests on no axiom.
use Rattle.std.proofs.Common.{◌≡◌, ◌≤◌, min, ℕ, ◌+◌, ◌-◌, ◌<◌, List, length, take, drop, sym, ap, ◌∙◌, arith, length-drop, drop_of_length-le, length-take, length-take-le, take-add, drop_at}
use Rattle.lists.proofs.StoreLaws.{stored_none, stored_next, stored_length}
use Rattle.timing.proofs.ClassLaws.{cursor_after_none}
use Rattle.passes.specs.machine.Blocks.{rest_from, words_of}
use Rattle.passes.proofs.BlockLaws.{take_taken, rest_wants, rest_stops, rest_goes_on, cursor_goes_on}
use Rattle.passes.proofs.BlockLaws.{nothing_left, words_more, fair_after, comes_nearer}
use Rattle.passes.proofs.block.Progress.pass_on.Goals as goal

-- the list up to the part's end
abbrev up_to : List ℕ → ℕ → ℕ → List ℕ
up_to ds from cut = take (from + cut) ds

up_to_lem
    : (ds : List ℕ) (from count cut : ℕ)
    → from ≤ length ds
    → cut ≡ min count (length ds - from)
    → (length (up_to ds from cut) ≡ from + cut) × (drop from (up_to ds from cut) ≡ take count (drop from ds))
up_to_lem ds from count cut within cuts =
    let same : cut ≡ length (take count (drop from ds)) =
    omega (arith, cuts, length-take count (drop from ds), length-drop from ds) in (
      length-take-le _ ds (omega (arith, cuts)),
      rw take-add (drop_at (take from ds) _ from (length-take-le from ds within))
          ∙ ap (λ (k : ℕ). take k (drop from ds)) same
          ∙ take_taken count (drop from ds),
    )

pub loop-done-smaller : goal.loop-done-smaller
loop-done-smaller c =
    let cut = up_to_lem c.args.intervals.now c.args.self.pass.used c.args.count c.min.result c.requires.0 c.min.ensures in
    let (left, wanted) =
    rest_wants _ (up_to c.args.intervals.now c.args.self.pass.used c.min.result) c.loop-done.at
    (rw cut.0 (sym c.goes_on.ensures ∙ c.loop-done-test.true)) in
    let some : 0 < 128 = omega arith in
    rw cut.0 at
    (comes_nearer _ _ c.loop-done.at 128 _ c.next_block-at.ensures.next
    c.ranges.most.fits c.loop-done.invariant.0 some wanted
    left)

pub loop-done-preserved : goal.loop-done-preserved
loop-done-preserved c =
    let reached = c.next_block-at.ensures.next in
    let output = c.next_block-at.ensures.output in
    let small = c.ranges.most.fits in
    let (fair, low, same, end, stored, cursor) = c.loop-done.invariant in
    let at = c.loop-done.at in
    let goes_on = rest_goes_on _ _ at 128 _ reached small fair in
    let more = words_more _ _ at 128 _ reached small fair in (
      fair_after _ _ at 128 _ reached small fair,
      omega (arith, more, low),
      ap length output ∙ stored_length _ _ _ ∙ same,
      rw goes_on at end,
      stored_next _ _ c.loop-done.out _ _ _ output (omega (arith, more, low)) ∙ rw goes_on at stored,
      λ h. cursor_goes_on _ _ at 128 _ reached small fair h ∙ cursor (omega (arith, more, h)),
    )

pub returns : goal.returns
unfolding words_of rest_from
returns c =
    let at = c.loop-done.at in
    let part = up_to c.args.intervals.now c.args.self.pass.used c.min.result in
    let (long, same) =
    up_to_lem c.args.intervals.now c.args.self.pass.used c.args.count c.min.result c.requires.0 c.min.ensures in
    let left = rw (← long) at (sym c.goes_on.ensures ∙ c.loop-done-test.false) in
    let stops = rest_stops _ part at left in
    let (fair, low, kept, end, stored, cursor) = c.loop-done.invariant in
    record {
      next = record {
        pass = rw (stops, same) at end;
        cursor =
            λ h.
            sym (cursor_after_none at.cursor)
            ∙ rw (drop_of_length-le part {i = at.pass.used} (nothing_left _ part at left h), same) at (cursor h);
      };
      output = sym (stored_none _ _) ∙ rw (stops, same) at stored;
    }
