-- Why `Seen::all` is `seen_from`: what is left to see stays the same from block to block. Rests on no axiom.
use Rattle.std.proofs.Common.{◌≡◌, ℕ, ◌+◌, ◌-◌, List, length, take, drop, sym, refl, ap, ◌∙◌, arith, length-drop, take-append-drop, drop_of_length-le, length-take-le, drop-drop}
use Rattle.clearance.specs.machine.Seen.{seen_from}
use Rattle.clearance.specs.declared.seen.Seen.{Seen}
use Rattle.clearance.proofs.SeenLaws.{seen_append, cursor_seen}
use Rattle.clearance.proofs.CursorLaws.{ascending_after}
use Rattle.clearance.proofs.seen.Seen.all.Goals as goal

-- a part of what is left, and then the rest
in_parts : (s : Seen) (ds : List ℕ) (from n : ℕ)
    → seen_from (seen_from s (take n (drop from ds))) (drop (from + n) ds) ≡ seen_from s (drop from ds)
in_parts s ds from n =
    ap (seen_from (seen_from s (take n (drop from ds)))) (sym (drop-drop n from ds))
    ∙ sym (seen_append s (take n (drop from ds)) (drop n (drop from ds)))
    ∙ ap (seen_from s) (take-append-drop n (drop from ds))

pub loop-from-init : goal.loop-from-init
loop-from-init c = (omega arith, c.requires, refl)

pub overflow_add-from : goal.overflow_add-from
overflow_add-from c = record { fits = omega (arith, c.min-n.ensures, c.well_formed) }

pub slice_bounds-block-end : goal.slice_bounds-block-end
slice_bounds-block-end c = omega (arith, c.min-n.ensures, c.loop-from.invariant.0)

pub block-seen-requires : goal.block-seen-requires
block-seen-requires c =
    let ds = c.args.intervals.now in
    let from = c.loop-from.from in
    let n = c.min-n.result in
    let left = length-drop from ds in
    let count : length (take (from + n - from) (drop from ds)) ≡ n =
    length-take-le (from + n - from) (drop from ds) (omega (arith, left, c.min-n.ensures)) ∙ omega arith in
    record {
      ascending = c.loop-from.invariant.1;
      in_bounds = (
        rw count (omega (arith, c.min-n.ensures, c.loop-from-test.true)),
        rw count (omega (arith, c.min-n.ensures)),
      );
    }

pub overflow_add-from-in-loop-from : goal.overflow_add-from-in-loop-from
overflow_add-from-in-loop-from c = record { fits = omega (arith, c.min-n.ensures, c.well_formed) }

pub loop-from-smaller : goal.loop-from-smaller
loop-from-smaller c = omega (arith, c.min-n.ensures, c.loop-from-test.true)

pub loop-from-preserved : goal.loop-from-preserved
loop-from-preserved c =
    let ds = c.args.intervals.now in
    let from = c.loop-from.from in
    let n = c.min-n.result in
    let count : from + n - from ≡ n = omega arith in
    let here = rw count at c.block-seen.ensures in
    rw (here) (
      omega (arith, c.min-n.ensures, c.loop-from.invariant.0),
      rw (cursor_seen c.loop-from.seen (take n (drop from ds))) (ascending_after _ c.loop-from.invariant.1),
      in_parts c.loop-from.seen ds from n ∙ c.loop-from.invariant.2,
    )

pub returns : goal.returns
unfolding seen_from
returns c =
    let ds = c.args.intervals.now in
    rw (drop_of_length-le ds {i = c.loop-from.from} c.loop-from-test.false) at c.loop-from.invariant.2
