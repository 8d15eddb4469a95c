-- Four cells at a time are cell after cell: a byte that one of them makes whole stays in the register while the others
-- are shifted in, which make no second one whole. Rests on no axiom.
use Rattle.std.proofs.Common.{◌≡◌, ℕ, zero, suc, ◌+◌, ◌*◌, ◌%◌, ◌^◌, ◌<◌, ◌≤◌, Bool, true, false, not, ◌&&◌, ◌||◌, eqb, List, [], ◌∷◌, map, length, take, drop, sym, refl, ap, ◌∙◌, add-zero, arith, length-drop, take-append-drop, length-take-le, le-leb}
use mathlib.Core.List.{map-append}
use native.Mathlib.Decide.{dec_lt}
use borrow.Author.Tests.{lt-leb}
use Rattle.lists.specs.Filled.{if_given}
use Rattle.lists.specs.Place.{everywhere}
use Rattle.lists.proofs.BoolLaws.{both}
use Rattle.lists.proofs.PlaceLaws.{everywhere-append}
use Rattle.half_cells.specs.machine.Word.{missing, is_mark_word, misfits, fits}
use Rattle.symbols.specs.machine.Step.{AllCells, shifted_all, shifted, is_whole, word_of, code_word, eased}
use Rattle.symbols.specs.declared.Reading.{Reading}
use Rattle.symbols.proofs.WholeLaws.{step_stays_open, step_closes}
use Rattle.symbols.proofs.EaseLaws.{held_by_shift, word_by_shift, ease_by_shift, ease_of_open, ease_of_whole}
use Rattle.symbols.proofs.EaseLaws.{eased_whole, eased_low}
use Rattle.shifts.specs.machine.Pass.{Passed, ended, pass_from}
use Rattle.shifts.specs.machine.Fours.{alone, fours_from}
use Rattle.shifts.proofs.PassLaws.{pass_ends, pass_goes_on, pass_in_parts}

-- ---- cells shifted in

-- what a run of cells leaves of the register
pub record Shifts (m : Reading) (us : List ℕ) : Type 0 where
  pub low : m.held + 2 * length us ≤ (shifted_all m us).held
  pub high : (shifted_all m us).held ≤ m.held + 4 * length us
  pub words : (shifted_all m us).words ≡ m.words
  pub word : 17 ≤ m.held → word_of (shifted_all m us) ≡ word_of m
  pub ease : 17 ≤ m.held → eased (shifted_all m us) ≡ shifted_all (eased m) us

pub shifts : (us : List ℕ) (m : Reading) → AllCells us → m.held + 4 * length us ≤ 32 → Shifts m us
unfolding shifted_all AllCells shifted
shifts [] m cells room =
    record { low = omega arith; high = omega arith; words = refl; word = λ h. refl; ease = λ h. refl }
shifts (u ∷ us) m cells room =
    let (some, few, later) = cells in
    let held = held_by_shift m u (omega arith) in
    let rest = shifts us (shifted m u) later (omega arith) in
    record {
      low = omega arith;
      high = omega arith;
      words = rest.words;
      word = λ h. rest.word (omega arith) ∙ word_by_shift m u (omega arith) some few h;
      ease = λ h.
          rest.ease (omega arith) ∙ ap (λ (r : Reading). shifted_all r us) (ease_by_shift m u (omega arith) some few h);
    }

-- ---- one four

-- cells that make no byte whole
stay_open
    : (us : List ℕ) (most k : ℕ) (m : Reading)
    → AllCells us
    → m.held + 4 * length us ≤ 16
    → m.words < most
    → pass_from most k m us ≡ ended (shifted_all m us) (k + length us)
unfolding shifted_all AllCells shifted
stay_open [] most k m cells room more = rw (pass_ends, add-zero)
stay_open (u ∷ us) most k m cells room more =
    let few = cells.1 in
    let held = held_by_shift m u (omega arith) in
    let step = step_stays_open m u k (lt-leb 17 (shifted m u).held (omega arith)) in
    let place : k + suc (length us) ≡ suc k + length us = omega arith in
    rw (pass_goes_on, step.0, step.1, place) (stay_open us most (suc k) (shifted m u) cells.2 (omega arith) more)

-- the word that is whole, if one is
abbrev wholes : Reading → List ℕ
wholes m = if_given (is_whole m) (word_of m)

-- what cells give, once they are shifted in
abbrev taken : Reading → ℕ → Passed
taken m k = record { end = record { reading = eased m; used = k }; words = map alone (wholes m) }

neither : (a b : Bool) → ((a || b) && true) ≡ true → (not a && not b) ≡ false
neither true b e = refl
neither false true e = refl
neither false false e = sym e

fit_alone : (x : ℕ) → everywhere fits (x ∷ []) ≡ true → misfits x ≡ false
unfolding everywhere misfits
fit_alone x e = neither (eqb (missing x) 0) (is_mark_word x) e

four
    : (us : List ℕ) (most k : ℕ) (m : Reading)
    → AllCells us
    → length us ≤ 4
    → m.held ≤ 16
    → m.words + 1 < most
    → most < 2 ^ 32
    → everywhere fits (wholes (shifted_all m us)) ≡ true
    → pass_from most k m us ≡ taken (shifted_all m us) (k + length us)
unfolding shifted_all AllCells code_word shifted
four [] most k m cells short room more small fit =
    rw (pass_ends, add-zero, lt-leb 17 m.held (omega arith), ease_of_open m (omega arith) (omega arith))
four (u ∷ us) most k m cells short room more small fit =
    let t = shifted m u in
    let (some, few, later) = cells in
    let held = held_by_shift m u (omega arith) in
    let place : k + suc (length us) ≡ suc k + length us = omega arith in
    let wanted : m.words < most = omega arith in
    elim (dec_lt t.held 17) [
      | yes h ↦
          let step = step_stays_open m u k (lt-leb 17 t.held h) in
          rw (pass_goes_on, step.0, step.1, place)
          (four us most (suc k) t later (omega arith) (omega arith) more small fit)
      | no h ↦
          let whole : 17 ≤ t.held = omega arith in
          let step = step_closes m u k (le-leb 17 t.held whole) in
          let run = shifts us t later (omega arith) in
          let last = le-leb 17 (shifted_all t us).held (omega (arith, run.low)) in
          let misfit : misfits (word_of t) ≡ false =
          rw (run.word whole) at (fit_alone (word_of (shifted_all t us)) (rw last at fit)) in
          let words : t.words < 2 ^ 32 = omega arith in
          let left = eased_whole t words whole (omega arith) in
          rw (
            pass_goes_on,
            step.0,
            step.1,
            ease_of_whole t words (k % 2 ^ 32) whole (omega arith) misfit,
            stay_open us most (suc k) (eased t) later (omega (arith, left.0)) (omega (arith, left.1)),
            last,
            run.word whole,
            run.ease whole,
            place,
          )
    ]

-- ---- so many fours

pub cells_in_parts : (n : ℕ) (us : List ℕ) → AllCells us → AllCells (take n us) × AllCells (drop n us)
unfolding AllCells
cells_in_parts zero us cells = (tt, cells)
cells_in_parts (suc n) [] cells = (tt, tt)
cells_in_parts (suc n) (u ∷ us) cells =
    let (front, back) = cells_in_parts n us cells.2 in ((cells.0, cells.1, front), back)

pub by_fours
    : (n : ℕ) (us : List ℕ) (most k : ℕ) (m : Reading)
    → AllCells us
    → length us ≡ 4 * n
    → m.held ≤ 16
    → m.words + n < most
    → most < 2 ^ 32
    → everywhere fits (fours_from n m us).words ≡ true
    → pass_from most k m us
    ≡ record {
      end = record { reading = (fours_from n m us).reading; used = k + length us };
      words = map alone (fours_from n m us).words;
    }
unfolding fours_from
by_fours zero [] most k m cells size room more small fit = rw (pass_ends, add-zero)
by_fours zero (u ∷ us) most k m cells size room more small fit = absurd (omega arith)
by_fours (suc n) us most k m cells size room more small fit =
    let front = take 4 us in
    let back = drop 4 us in
    let next = shifted_all m front in
    let rest = fours_from n (eased next) back in
    let fours : length front ≡ 4 = length-take-le 4 us (omega arith) in
    let others : length back ≡ 4 * n = length-drop 4 us ∙ omega arith in
    let (here, later) = cells_in_parts 4 us cells in
    let (fit_here, fit_later) =
    both (everywhere fits (wholes next)) (everywhere fits rest.words) (rw everywhere-append at fit) in
    let run = shifts front m here (omega arith) in
    let (held, words) = eased_low next (rw run.words (omega arith)) (omega (arith, run.high)) in
    let used : k + length front + length back ≡ k + length us = omega arith in
    ap (pass_from most k m) (sym (take-append-drop 4 us))
    ∙ pass_in_parts most k m front back
    ∙ rw (
      four front most k m here (omega arith) room (omega arith) small fit_here,
      by_fours n back most (k + length front) (eased next) later others held (omega (arith, run.words))
          small fit_later,
      used,
      map-append,
    )
