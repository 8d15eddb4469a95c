-- Why `Pace::correct` stores `cut_from`: what is left to store stays the same from turn to turn, the two sums exchanged.
-- Rests on no axiom.
use Prim.Native.Nat.{ℕ}
use mathlib.Core.Path.{◌≡◌, sym, ◌∙◌}
use native.Mathlib.Numerals.{add-one}
use lib.ListN.{length, length-set, drop_of_length-le}
use Rattle.lists.proofs.StoreLaws.{stored_none, stored_one, stored_next, stored_over_all}
use Rattle.pace.specs.machine.Cut.{cut_from}
use Rattle.pace.proofs.CutLaws.{cut_none, cut_here, cut_count}
use Rattle.pace.proofs.Pace.correct.Goals as goal

pub loop-k-preserved : goal.loop-k-preserved
loop-k-preserved c =
    let (same, own, other, stored) = c.loop-k.invariant in
    let more = c.loop-k-test.true in
    rw (c.corrected.ensures, add-one) (
      length-set {A = ℕ} c.loop-k.out c.loop-k.k _ ∙ same,
      other,
      own,
      stored_next _ _ _ _ _ _ (sym (stored_one _ _ _)) (sym (add-one _)) ∙ rw (cut_here _ _ _ _ _ more) at stored,
    )

pub returns : goal.returns
returns c =
    let (same, own, other, stored) = c.loop-k.invariant in
    let ds = c.args.intervals.now in
    let self = c.args.self in
    let none = drop_of_length-le ds {i = c.loop-k.k} c.loop-k-test.false in
    let all = cut_from self.nominal self.even self.odd ds in
    let room : length all ≡ length c.args.out.now = cut_count _ _ _ ds ∙ sym c.requires.out_len in
    sym (stored_none _ _) ∙ rw (none, cut_none) at stored ∙ stored_over_all all c.args.out.now room
