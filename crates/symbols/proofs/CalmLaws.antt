-- Cells among which is no gap, read while none is open: every byte that they make whole shows no gap, so that the
-- machine moves on by their number of half cells alone. Rests on no axiom.
use Rattle.std.proofs.Common.{◌≡◌, ℕ, suc, ◌+◌, ◌-◌, ◌*◌, ◌/◌, ◌%◌, ◌^◌, ◌<◌, ◌≤◌, Bool, false, List, [], ◌∷◌, ◌++◌, map, length, take, sym, refl, ap, ◌∙◌, inl, inr, mod-eq_of_lt, arith, length-append, drop_of_length-le, le-leb}
use native.Mathlib.Decide.{dec_lt}
use borrow.Author.Tests.{lt-leb}
use lib.Bits.{bit_or}
use Rattle.lists.specs.Place.{anywhere, passed}
use Rattle.lists.specs.Sum.{sum_of}
use Rattle.lists.proofs.PlaceLaws.{anywhere-append}
use Rattle.half_cells.specs.machine.Word.{misfits}
use Rattle.symbols.specs.Bits.{Bit, O, last_of}
use Rattle.symbols.specs.Bytes.{is_gap, row_strays}
use Rattle.symbols.specs.Reading.{units, given, last_after, read_from, read_bits}
use Rattle.symbols.specs.machine.Step.{fresh_reading, shifted, shifted_all, word_of, closed, stepped_by, stepped, ran}
use Rattle.symbols.specs.machine.Gaps.{gaps_from, NoneOpen}
use Rattle.symbols.specs.declared.Cell.{Cell}
use Rattle.symbols.specs.declared.Cell.TheVariants.{Short, Medium, Long}
use Rattle.symbols.specs.declared.Reading.{Reading}
use Rattle.symbols.proofs.TestLaws.{neither}
use Rattle.symbols.proofs.ReadingLaws.{read_append}
use Rattle.symbols.proofs.CellLaws.{more, bits_grown, last_append, last_of_more}
use Rattle.symbols.proofs.UnitLaws.{units_sum, sum_of_units, bits_known, length_by_units, digit_is_small}
use Rattle.symbols.proofs.UnitLaws.{units_of_both, units_at_least, cells_at_most_bits}
use Rattle.symbols.proofs.WordLaws.{shown_tests}
use Rattle.symbols.proofs.ReadsLaws.{Open, Held, Reads}
use Rattle.symbols.proofs.WholeLaws.{same_reading}
use Rattle.symbols.proofs.StepLaws.{after_cell, word_grown, units_at_most}
use Rattle.symbols.proofs.AnswerLaws.{Counted, counted}
use Rattle.symbols.proofs.RunLaws.{machine_runs}
use Rattle.symbols.proofs.GapLaws.{gaps_by_letters, none_in_parts, none_in_both, none_behind, no_stray}
use Rattle.symbols.proofs.GapLaws.{open_letters}

-- ---- one cell more

-- what a cell leaves of the machine, with no gap in it and none open
record CalmStep (m : Reading) (cs : List Cell) (c : Cell) (next : Reading) : Type 0 where
  bits : next.bits ≡ (shifted m (units c)).bits
  place : next.place ≡ m.place
  stray : next.stray ≡ m.stray

module _ (m : Reading) (cs : List Cell) (so_far : Held m cs) (room : length cs < 2 ^ 32) (c : Cell) where
  abbrev o : Open m cs
  o = so_far.0

  abbrev m₁ : Reading
  m₁ = shifted m (units c)

  abbrev all : List Bit
  all = o.rest ++ more cs c

  module _ (none : NoneOpen m cs) (calm : anywhere is_gap (more cs c) ≡ false) where
    none_in_row : anywhere is_gap (last_of o.lead o.before ∷ all) ≡ false
    unfolding NoneOpen
    none_in_row =
        let before : anywhere is_gap (last_of o.lead o.before ∷ o.rest) ≡ false =
        rw (o.letters, ← o.whole, open_letters) at none in
        none_in_both is_gap 0 (last_of o.lead o.before ∷ o.rest) (more cs c) before calm

    fits_word : 17 ≤ m₁.held → misfits (word_of m₁) ≡ false
    unfolding shown_tests anywhere row_strays
    fits_word h =
        let (last, later) = neither (is_gap (last_of o.lead o.before)) (anywhere is_gap all) none_in_row in
        sym (word_grown m cs so_far room c h).stray
        ∙ rw (last, (none_in_parts passed 7 _ (no_stray _ 0 (take 8 all) (none_in_parts is_gap 8 all later).0)).0)

    calm_step : CalmStep m cs c (stepped m c (length cs))
    unfolding stepped stepped_by closed shifted
    calm_step =
        elim (dec_lt m₁.held 17) [
          | yes l ↦ rw (lt-leb 17 m₁.held l) (record { bits = refl; place = refl; stray = refl })
          | no l ↦
              let h : 17 ≤ m₁.held = omega arith in
              rw (le-leb 17 m₁.held h, fits_word h) (record { bits = refl; place = refl; stray = refl })
        ]

-- before the first cell no letter is read, and no byte is whole
pub none_open_at_first : NoneOpen fresh_reading []
unfolding NoneOpen fresh_reading read_bits read_from anywhere
none_open_at_first = refl

first_calm : (c : Cell) → CalmStep fresh_reading [] c (stepped fresh_reading c 0)
unfolding stepped stepped_by shifted fresh_reading
first_calm Short = record { bits = refl; place = refl; stray = refl }
first_calm Medium = record { bits = refl; place = refl; stray = refl }
first_calm Long = record { bits = refl; place = refl; stray = refl }

module _ (m : Reading) (cs : List Cell) (c : Cell) (room : length cs < 2 ^ 32) (none : NoneOpen m cs) where
  calm_after_cell
      : Reads m cs → anywhere is_gap (more cs c) ≡ false → CalmStep m cs c (stepped m c (length cs))
  calm_after_cell (inl e) calm = rw (e.0, e.1) (first_calm c)
  calm_after_cell (inr so_far) calm = calm_step m cs so_far room c none calm

  none_after_cell
      : Reads m cs → anywhere is_gap (more cs c) ≡ false → NoneOpen (stepped m c (length cs)) (cs ++ (c ∷ []))
  unfolding NoneOpen
  none_after_cell r calm =
      let words = (after_cell m cs r room c).words in
      let told : ℕ = 8 * (stepped m c (length cs)).words in
      rw (bits_grown cs c) (none_behind is_gap (8 * m.words) told (read_bits cs) (more cs c) (omega arith) none calm)

-- ---- many cells

-- half cells go by half cells alone
shifted_alike
    : (r m : Reading) (c : Cell) → r.bits ≡ m.bits → (shifted r (units c)).bits ≡ (shifted m (units c)).bits
unfolding shifted
shifted_alike r m c e = ap (λ (b : ℕ). bit_or (b * 2 ^ (units c % 32) % 2 ^ 32) 1) e

record CalmRun (m : Reading) (cs ds : List Cell) : Type 0 where
  bits : (r : Reading) → r.bits ≡ m.bits → (ran m (length cs) ds).bits ≡ (shifted_all r (map units ds)).bits
  place : (ran m (length cs) ds).place ≡ m.place
  stray : (ran m (length cs) ds).stray ≡ m.stray

calm_runs
    : (m : Reading) (cs ds : List Cell)
    → Reads m cs
    → length cs + length ds ≤ 2 ^ 32
    → NoneOpen m cs
    → anywhere is_gap (read_from (last_of O (read_bits cs)) ds) ≡ false
    → CalmRun m cs ds
unfolding ran shifted_all read_from anywhere
calm_runs m cs [] r h none calm = record { bits = λ x e. sym e; place = refl; stray = refl }
calm_runs m cs (d ∷ ds) r h none calm =
    let b = last_of O (read_bits cs) in
    let cs' = cs ++ (d ∷ []) in
    let next = stepped m d (length cs) in
    let n : length cs' ≡ suc (length cs) = omega (arith, length-append cs (d ∷ [])) in
    let (here, later) = neither (anywhere is_gap (given b d)) (anywhere is_gap (read_from (last_after b d) ds))
    (sym (anywhere-append is_gap (given b d) (read_from (last_after b d) ds)) ∙ calm) in
    let last : last_of O (read_bits cs') ≡ last_after b d =
    rw (bits_grown cs d, last_append O (read_bits cs) (given b d)) (last_of_more b b d) in
    let step = calm_after_cell m cs d (omega arith) none r here in
    let run = calm_runs next cs' ds (inr (after_cell m cs r (omega arith) d).reads) (omega arith)
    (none_after_cell m cs d (omega arith) none r here) (rw last later) in
    record {
      bits = λ x e.
          rw n at run.bits (shifted x (units d)) (shifted_alike x m d e ∙ sym step.bits);
      place = rw n at run.place ∙ step.place;
      stray = rw n at run.stray ∙ step.stray;
    }

module _ (m : Reading) (cs ds : List Cell) (r : Reads m cs) (room : length cs + length ds ≤ 2 ^ 32) where
  abbrev b : Bit
  b = last_of O (read_bits cs)

  abbrev end : Reading
  end = ran m (length cs) ds

  counts : Counted end (cs ++ ds)
  counts = counted end (cs ++ ds) (machine_runs m cs ds r room).reads

  module _ (calm : gaps_from m.held (map units ds) ≡ false) where
    none_read : anywhere is_gap (read_from b ds) ≡ false
    none_read =
        sym (gaps_by_letters m.held b ds (omega (arith, (counted m cs r).held, bits_known cs, digit_is_small b)))
        ∙ calm

    -- eight cells have more letters than are open
    pub none_open_after : 8 ≤ length ds → NoneOpen end (cs ++ ds)
    unfolding NoneOpen read_bits anywhere
    none_open_after some =
        let letters = read_append O cs ds in
        let count = ap length letters ∙ length-append (read_bits cs) (read_from b ds) in
        let told : length (read_bits cs) ≤ 8 * end.words =
        omega (arith, counts.held, counts.few, length_by_units (cs ++ ds), cells_at_most_bits b ds) in
        rw letters
        (none_behind is_gap (length (read_bits cs)) (8 * end.words) (read_bits cs) (read_from b ds) told
        (rw (drop_of_length-le (read_bits cs) {i = length (read_bits cs)} (omega arith)) refl) none_read)

    -- the half cells of its last letters, and how many they are
    pub calm_run
        : NoneOpen m cs
        → 1 ≤ length ds
        → let last = m.held + sum_of (map units ds) - 1 in
        record {
          bits = (shifted_all m (map units ds)).bits;
          held = last % 16 + 1;
          words = (m.words + last / 16) % 2 ^ 32;
          place = m.place;
          stray = m.stray;
        }
        ≡ end
    calm_run none some =
        let run = calm_runs m cs ds r room none none_read in
        let sum : sum_of (map units ds) + units_sum cs ≡ units_sum (cs ++ ds) =
        omega (arith, sum_of_units ds, units_of_both cs ds) in
        let least : 1 ≤ sum_of (map units ds) = omega (arith, sum_of_units ds, units_at_least ds) in
        let count = counts in
        let before = (counted m cs r).held in
        let small : end.words < 2 ^ 32 =
        omega (arith, units_at_most (cs ++ ds), length-append cs ds) in
        same_reading end _ _ _ _ _ (sym (run.bits m refl)) (omega arith)
        (ap (λ (n : ℕ). n % 2 ^ 32) (omega arith) ∙ mod-eq_of_lt small) (sym run.place) (sym run.stray)
