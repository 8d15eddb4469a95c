-- A pass in parts is the pass over all, so that a part and what is left after it are what was left before it. Rests on no axiom.
use Rattle.std.proofs.Common.{◌≡◌, ℕ, zero, suc, ◌+◌, ◌-◌, ◌*◌, ◌^◌, ◌<◌, ◌≤◌, min, true, false, ◌&&◌, ltb, List, [], ◌∷◌, length, take, drop, sym, refl, ap, ◌∙◌, arith, length-drop, take-append-drop, drop_of_length-le, length-take, drop-drop, ltb-false, ltb-true, lt-ltb}
use native.Mathlib.Decide.{dec_lt}
use Rattle.lists.proofs.BoolLaws.{both, second_fails}
use Rattle.timing.specs.Class.{at_start, cursor_after}
use Rattle.timing.specs.machine.Edges.{units_from}
use Rattle.timing.specs.declared.Profile.{Profile}
use Rattle.timing.proofs.ClassLaws.{cursor_after-append}
use Rattle.timing.proofs.UnitsLaws.{units_none, units_count, units-append}
use Rattle.symbols.specs.machine.Step.{fresh_reading}
use Rattle.shifts.specs.machine.Pass.{Passed, ended, after, pass_from, passed}
use Rattle.passes.specs.machine.Blocks.{at_first, pass_on, rest_from, next_of, words_of, Reaches}
use Rattle.passes.specs.declared.block.Progress.{Progress}
use Rattle.intervals.proofs.TakenAsLaws.{units_are_cells}
use Rattle.shifts.proofs.PassLaws.{pass_ends, pass_is_full, pass_in_parts, Counts, pass_counts}

-- ---- as many as are taken of a list

pub take_taken : {A : Type 0} (n : ℕ) (l : List A) → take (length (take n l)) l ≡ take n l
take_taken zero l = refl
take_taken (suc n) [] = refl
take_taken (suc n) (x ∷ l) = rw (take_taken n l)

drop_taken : {A : Type 0} (n : ℕ) (l : List A) → drop (length (take n l)) l ≡ drop n l
drop_taken zero l = refl
drop_taken (suc n) [] = refl
drop_taken (suc n) (x ∷ l) = drop_taken n l

-- ---- how a pass stands between blocks

pub record Fair (ds : List ℕ) (at : Progress) : Type 0 where
  pub within : at.pass.used ≤ length ds
  pub room : at.pass.reading.held ≤ 16

pub fair_at_first : (ds : List ℕ) (p : Profile) → Fair ds (at_first p)
unfolding at_first fresh_reading
fair_at_first ds p = record { within = omega arith; room = omega arith }

-- all is left at first
pub all_at_first : (most : ℕ) (ds : List ℕ) (p : Profile) → rest_from most ds (at_first p)
    ≡ passed most (units_from (at_start p) ds)
unfolding rest_from at_first passed
all_at_first most ds p = refl

module _ (most : ℕ) (ds : List ℕ) (at : Progress) where
  abbrev words : ℕ
  words = at.pass.reading.words

  abbrev used : ℕ
  used = at.pass.used

  pub rest_wants : (ltb used (length ds) && ltb words most) ≡ true → (used < length ds) × (words < most)
  rest_wants e =
      let (left, wanted) = both (ltb used (length ds)) (ltb words most) e in
      (ltb-true _ _ left, ltb-true _ _ wanted)

  -- ---- where the pass ends

  pub nothing_left : (ltb used (length ds) && ltb words most) ≡ false → words < most → length ds ≤ used
  nothing_left e wanted =
      elim (dec_lt used (length ds)) [
        | yes h ↦ absurd (omega (arith, ltb-false words most (second_fails _ _ e (lt-ltb used (length ds) h))))
        | no h ↦ omega arith
      ]

  pub rest_stops
      : (ltb used (length ds) && ltb words most) ≡ false → rest_from most ds at ≡ ended at.pass.reading used
  unfolding rest_from
  rest_stops e =
      elim (dec_lt words most) [
        | yes h ↦
            rw (drop_of_length-le ds {i = used} (nothing_left e h), units_none at.cursor)
            (pass_ends most used at.pass.reading)
        | no h ↦ pass_is_full most used at.pass.reading _ (omega arith)
      ]

  -- ---- one part

  module _
      (count : ℕ) (next : Progress) (reaches : Reaches count most ds at next) (small : most < 2 ^ 32)
      (fair : Fair ds at)
    where
      abbrev part : List ℕ
      part = next_of count ds at

      abbrev us : List ℕ
      us = units_from at.cursor part

      abbrev first : Passed
      first = pass_on most at part

      part_count : length us ≡ min count (length ds - used)
      part_count = simp (units_count, length-take, length-drop)

      counts : Counts most used at.pass.reading us first
      counts = pass_counts most used at.pass.reading us small (units_are_cells _ _) fair.room

      -- where bytes are wanted still, all of the part was used
      over : next.pass.reading.words < most → drop count (drop used ds) ≡ drop next.pass.used ds
      over h =
          rw (
            reaches.pass,
            counts.all_used (rw reaches.pass at h),
            units_count,
            ← drop_taken count (drop used ds),
            drop-drop,
          )

      pub rest_goes_on : rest_from most ds at ≡ after (words_of count most ds at) (rest_from most ds next)
      unfolding words_of rest_from
      rest_goes_on =
          ap (pass_on most at) (sym (take-append-drop count (drop used ds)))
          ∙ ap (pass_from most used at.pass.reading) (units-append at.cursor part (drop count (drop used ds)))
          ∙ pass_in_parts most used at.pass.reading us _
          ∙ ap (after first.words) (rw (← reaches.pass) (elim (dec_lt next.pass.reading.words most) [
            | yes h ↦ rw (reaches.cursor h, over h)
            | no h ↦ let full : most ≤ next.pass.reading.words = omega arith in simp pass_is_full
          ]))

      pub cursor_goes_on
          : next.pass.reading.words < most
          → cursor_after next.cursor (drop next.pass.used ds) ≡ cursor_after at.cursor (drop used ds)
      cursor_goes_on h = rw (reaches.cursor h, ← over h, ← cursor_after-append, take-append-drop)

      pub words_more : next.pass.reading.words ≡ words + length (words_of count most ds at)
      unfolding words_of
      words_more = rw reaches.pass counts.words

      -- a word has sixteen half cells, and a cell four at most
      pub words_fit : 16 * length (words_of count most ds at) ≤ 16 + 4 * count
      unfolding words_of
      words_fit = omega (arith, counts.half_cells_lem, fair.room, part_count)

      pub fair_after : Fair ds next
      fair_after =
          rw reaches.pass (record {
            within = omega (arith, counts.most_used, part_count, fair.within);
            room = counts.room;
          })

      -- fewer bytes are wanted, or fewer intervals left
      pub comes_nearer
          : 0 < count
          → words < most
          → used < length ds
          → most - next.pass.reading.words + (length ds - next.pass.used) < most - words + (length ds - used)
      comes_nearer some wanted left =
          rw reaches.pass (elim (dec_lt first.end.reading.words most) [
            | yes h ↦ omega (arith, counts.all_used h, counts.words, part_count)
            | no h ↦ omega (arith, counts.least)
          ])
