-- Why `shift::shift_block` gives `pass_from`: where every word fits, eight cells at a time are cell after cell, and what
-- is over is the rest of the pass. Rests on no axiom.
use Rattle.std.proofs.Common.{◌≡◌, ℕ, ◌+◌, ◌-◌, ◌*◌, ◌^◌, ◌<◌, ◌≤◌, true, List, map, length, take, drop, sym, ap, ◌∙◌, arith, length-drop, take-append-drop, length-take-le, take_all}
use lib.ListN.{length-map}
use Rattle.lists.specs.Place.{everywhere}
use Rattle.lists.proofs.StoreLaws.{stored_next}
use Rattle.half_cells.specs.machine.Word.{fits}
use Rattle.symbols.specs.machine.Step.{AllCells}
use Rattle.symbols.specs.declared.Reading.{Reading}
use Rattle.shifts.specs.machine.Pass.{after, pass_from}
use Rattle.shifts.specs.machine.Fours.{alone, fours_from}
use Rattle.shifts.proofs.PassLaws.{pass_in_parts, pass_counts}
use Rattle.shifts.proofs.FoursLaws.{by_fours, cells_in_parts}
use Rattle.shifts.proofs.shift.shift_block.Goals as goal

module _ (us : List ℕ) (n : ℕ) (size : 8 * n ≤ length us) where
  abbrev front : List ℕ
  front = take (8 * n) us

  -- what is over, as it is lent
  abbrev over : List ℕ
  over = take (length us - 8 * n) (drop (8 * n) us)

  front_count : length front ≡ 8 * n
  front_count = length-take-le (8 * n) us size

  over_is : over ≡ drop (8 * n) us
  over_is = take_all (length us - 8 * n) (drop (8 * n) us) (omega (arith, length-drop (8 * n) us))

  over_count : length over ≡ length us - 8 * n
  over_count = ap length over_is ∙ length-drop (8 * n) us

  -- a pass over words that fit has these, and goes on with what is over
  clean
      : (most from : ℕ) (m reading : Reading) (words : List ℕ)
      → AllCells us × (m.held ≤ 16) × (m.words + 2 * n < most)
      → most < 2 ^ 32
      → reading ≡ (fours_from (2 * n) m front).reading
      → words ≡ (fours_from (2 * n) m front).words
      → everywhere fits words ≡ true
      → (reading.words ≡ m.words + length words)
      × (pass_from most from m us ≡ after (map alone words) (pass_from most (from + 8 * n) reading over))
  clean most from m reading words pre small same_end same_words fit =
      let cells = (cells_in_parts (8 * n) us pre.0).0 in
      let first : pass_from most from m front
      ≡ record { end = record { reading = reading; used = from + 8 * n }; words = map alone words } =
      by_fours (2 * n) front most from m cells (front_count ∙ omega arith) pre.1 pre.2 small
      (rw same_words at fit)
      ∙ rw (front_count, ← same_end, ← same_words) in (
        rw first at (pass_counts most from m front small cells pre.1).words ∙ omega (arith, length-map words alone),
        ap (pass_from most from m) (sym (take-append-drop (8 * n) us))
            ∙ pass_in_parts most from m front (drop (8 * n) us)
            ∙ rw (first, over_is),
      )

-- what is known at first, in the order of `clean`
start_pre_2
    : (c : goal.After-slice_known-then-all_fit-2-1)
    → AllCells c.args.units.now
    × (c.args.m.held ≤ 16)
    × (c.args.m.words + 2 * c.args.eights < c.args.most)
start_pre_2 c =
    let pre = c.requires.all_cells in (pre.0, pre.2, pre.3)

-- as many words as were made whole
count_is_4
    : (c : goal.After-slice_known-then-all_fit-2-1)
    → length (take c.shift_eights-fours.result.count c.shift_eights-fours.new.words)
    ≡ c.shift_eights-fours.result.count
count_is_4 c =
    length-take-le c.shift_eights-fours.result.count _
    (omega (arith, c.shift_eights-fours.ensures.words.0, c.shift_eights-fours.auto.words))

-- as many words as were made whole
count_is_3
    : (c : goal.After-shift_in-arg-then-all_fit-1)
    → length (take c.shift_eights-fours.result.count c.shift_eights-fours.new.words)
    ≡ c.shift_eights-fours.result.count
count_is_3 c =
    length-take-le c.shift_eights-fours.result.count _
    (omega (arith, c.shift_eights-fours.ensures.words.0, c.shift_eights-fours.auto.words))

-- what is known at first, in the order of `clean`
start_pre
    : (c : goal.After-shift_in-arg-then-all_fit-1)
    → AllCells c.args.units.now
    × (c.args.m.held ≤ 16)
    × (c.args.m.words + 2 * c.args.eights < c.args.most)
start_pre c =
    let pre = c.requires.all_cells in (pre.0, pre.2, pre.3)

-- as many words as were made whole
count_is_2
    : (c : goal.Then-all_fit)
    → length (take c.shift_eights-fours.result.count c.shift_eights-fours.new.words)
    ≡ c.shift_eights-fours.result.count
count_is_2 c =
    length-take-le c.shift_eights-fours.result.count _
    (omega (arith, c.shift_eights-fours.ensures.words.0, c.shift_eights-fours.auto.words))

-- as many words as were made whole
count_is
    : (c : goal.After-slice_known-3-1)
    → length (take c.shift_eights-fours.result.count c.shift_eights-fours.new.words)
    ≡ c.shift_eights-fours.result.count
count_is c =
    length-take-le c.shift_eights-fours.result.count _
    (omega (arith, c.shift_eights-fours.ensures.words.0, c.shift_eights-fours.auto.words))

pub slice_bounds-shift_eights-end : goal.slice_bounds-shift_eights-end
slice_bounds-shift_eights-end c = sym (front_count _ _ c.requires.le_eights.2)

pub shift_eights-fours-requires : goal.shift_eights-fours-requires
shift_eights-fours-requires c =
    let (cells, some, low, wanted) = c.requires.all_cells in
    let (many, room, size) = c.requires.le_eights in
    let n = c.args.eights in
    record {
      all_cells = ((cells_in_parts (8 * n) _ cells).0, front_count _ n size);
      le_held = (some, low);
      le_eights = (many, room);
    }

pub slice_bounds-all_fit-end-2 : goal.slice_bounds-all_fit-end-2
slice_bounds-all_fit-end-2 c = sym (count_is c)

pub slice_bounds-store-end-then-all_fit : goal.slice_bounds-store-end-then-all_fit
slice_bounds-store-end-then-all_fit c = sym (count_is_2 c)

pub shift_in-requires : goal.shift_in-requires
shift_in-requires c =
    let few = c.shift_eights-fours.ensures.words.0 in
    let size = c.requires.le_eights.2 in
    let over = over_count c.args.units.now c.args.eights size in
    let (words, pass) = clean _ _ size _ c.args.from _ _ _ (start_pre c) c.ranges.most.fits
    c.shift_eights-fours.ensures.reading c.shift_eights-fours.ensures.words.1
    (sym c.all_fit.ensures ∙ c.if-all_fit.true) in
    record {
      words_lt_most = omega (arith, words, count_is_3 c, few, (start_pre c).2);
      units_bound = (omega (arith, over, size, c.requires.units_bound.0), omega (arith, over, size, few, c.requires.units_bound.1));
    }

pub returns-then-all_fit : goal.returns-then-all_fit
returns-then-all_fit c =
    let words = take c.shift_eights-fours.result.count c.shift_eights-fours.new.words in
    let next : c.args.to + c.shift_eights-fours.result.count ≡ c.args.to + length (map alone words) =
    omega (arith, length-map words alone, count_is_4 c) in
    let end = c.shift_in.ensures.end in
    let output = c.shift_in.ensures.output in
    let stored = c.store.ensures in
    let known =
    (clean _ _ c.requires.le_eights.2 _ c.args.from _ _ _ (start_pre_2 c) c.ranges.most.fits
    c.shift_eights-fours.ensures.reading c.shift_eights-fours.ensures.words.1
    (sym c.all_fit.ensures ∙ c.if-all_fit.true)).1 in
    record { end = rw known end; output = rw known (output ∙ stored_next _ _ _ _ c.args.to _ stored next) }
