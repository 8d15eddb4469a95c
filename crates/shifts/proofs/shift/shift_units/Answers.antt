-- Why `shift::shift_units` gives `pass_from`: both ways do. Rests on no axiom.
use Rattle.std.proofs.Common.{◌≡◌, ℕ, ◌-◌, ◌*◌, ◌/◌, ◌<◌, ◌≤◌, true, ◌&&◌, ltb, leb, length, take, replicate, sym, ◌∙◌, arith, length-take-le, ltb-true, leb-true}
use Rattle.lists.proofs.BoolLaws.{both}
use Rattle.shifts.proofs.shift.shift_units.Goals as goal

room : (k : ℕ) → k ≤ 128 → length (take {A = ℕ} (2 * (k / 8)) (replicate 32 0)) ≡ 2 * (k / 8)
room k h = length-take-le (2 * (k / 8)) (replicate 32 0) (omega arith)

-- what is told where cells go by eights
all_three : (n held left : ℕ) → ((leb 4 n && leb 1 held) && ltb n left) ≡ true → (4 ≤ n) × (1 ≤ held) × (n < left)
all_three n held left e =
    let (front, few) = both (leb 4 n && leb 1 held) (ltb n left) e in
    let (many, some) = both (leb 4 n) (leb 1 held) front in
    (leb-true 4 n many, leb-true 1 held some, ltb-true n left few)

pub slice_bounds-shift_block-end : goal.slice_bounds-shift_block-end
slice_bounds-shift_block-end c = sym (room _ c.requires.units_len_bound)

pub shift_block-requires : goal.shift_block-requires
shift_block-requires c =
    let (cells, held, wanted) = c.requires.all_cells in
    let m = c.args.m in
    let n = length c.args.units.now in
    let (many, some, few) = all_three (2 * (n / 8)) m.held (c.args.most - m.words)
    (sym c.goes_by_eights.ensures ∙ c.if-goes_by_eights.true) in
    record {
      all_cells = (cells, some, held, omega (arith, few));
      le_eights = (omega (arith, many), room n c.requires.units_len_bound, omega arith);
      units_bound = c.requires.units_bound;
    }
