-- A pass over cells, by their units. In parts it is the pass over all of them; and with no more cells than bytes are
-- wanted it is the machine's run over all of them. By induction on the cells. Rests on no axiom.
use Rattle.std.proofs.Common.{◌≡◌, ℕ, suc, ◌+◌, ◌*◌, ◌^◌, ◌<◌, ◌≤◌, List, [], ◌∷◌, ◌++◌, map, length, refl, ◌∙◌, append_assoc, add-zero, arith, length-append, le-ltb, lt-ltb, le-leb}
use native.Mathlib.Decide.{dec_lt}
use borrow.Author.Tests.{lt-leb}
use Rattle.symbols.specs.Reading.{units}
use Rattle.symbols.specs.machine.Step.{AllCells, shifted, closed, stepped_by, stepped, word_by, word_closed, ran, ran_words}
use Rattle.symbols.specs.declared.Cell.{Cell}
use Rattle.symbols.specs.declared.Reading.{Reading}
use Rattle.symbols.proofs.WholeLaws.{step_stays_open, step_closes, words_by_step}
use Rattle.symbols.proofs.EaseLaws.{held_by_shift}
use Rattle.shifts.specs.machine.Pass.{Passed, ended, after, pass_from}

module _ (most k : ℕ) (m : Reading) where
  pub pass_ends : pass_from most k m [] ≡ ended m k
  unfolding pass_from
  pass_ends = refl

  pub pass_is_full : (us : List ℕ) → most ≤ m.words → pass_from most k m us ≡ ended m k
  unfolding pass_from
  pass_is_full [] h = refl
  pass_is_full (u ∷ us) h = rw (le-ltb m.words most h)

  pub pass_goes_on
      : (u : ℕ) (us : List ℕ)
      → m.words < most
      → pass_from most k m (u ∷ us) ≡ after (word_by m u) (pass_from most (suc k) (stepped_by m u k) us)
  unfolding pass_from
  pass_goes_on u us h = rw (lt-ltb m.words most h)

-- one part after the other
pub pass_in_parts
    : (most k : ℕ) (m : Reading) (us vs : List ℕ)
    → let first = pass_from most k m us in
    pass_from most k m (us ++ vs) ≡ after first.words (pass_from most first.end.used first.end.reading vs)
pass_in_parts most k m [] vs = rw (pass_ends most k m)
pass_in_parts most k m (u ∷ us) vs =
    elim (dec_lt m.words most) [
      | yes h ↦ rw (pass_goes_on, pass_goes_on, pass_in_parts most (suc k) (stepped_by m u k) us vs, append_assoc)
      | no h ↦ let full : most ≤ m.words = omega arith in simp pass_is_full
    ]

-- ---- what a pass leaves

-- a word takes sixteen half cells, and no byte is left whole
by_step
    : (m : Reading) (u at : ℕ)
    → u ≤ 4
    → m.held ≤ 16
    → ((stepped_by m u at).held ≤ 16) × (16 * length (word_by m u) + (stepped_by m u at).held ≡ m.held + u)
unfolding closed
by_step m u at few room =
    let held = held_by_shift m u (omega arith) in
    elim (dec_lt (shifted m u).held 17) [
      | yes h ↦
          let step = step_stays_open m u at (lt-leb 17 (shifted m u).held h) in
          rw (step.0, step.1) (omega arith, omega arith)
      | no h ↦
          let step = step_closes m u at (le-leb 17 (shifted m u).held (omega arith)) in
          rw (step.0, step.1) (omega arith, omega arith)
    ]

-- it has as many words more as it closed, and where bytes are still wanted it used every cell, which gave four half
-- cells at most
pub record Counts (most k : ℕ) (m : Reading) (us : List ℕ) (pass : Passed) : Type 0 where
  pub words : pass.end.reading.words ≡ m.words + length pass.words
  pub least : k ≤ pass.end.used
  pub most_used : pass.end.used ≤ k + length us
  pub all_used : pass.end.reading.words < most → pass.end.used ≡ k + length us
  pub room : pass.end.reading.held ≤ 16
  pub half_cells_lem : 16 * length pass.words ≤ m.held + 4 * length us

ended_counts
    : (most k : ℕ) (m : Reading) (us : List ℕ)
    → m.held ≤ 16
    → (m.words < most → length us ≡ 0)
    → Counts most k m us (ended m k)
ended_counts most k m us room none =
    record {
      words = omega arith;
      least = omega arith;
      most_used = omega arith;
      all_used = λ h. omega (arith, none h);
      room = room;
      half_cells_lem = omega arith;
    }

pub pass_counts
    : (most k : ℕ) (m : Reading) (us : List ℕ)
    → most < 2 ^ 32
    → AllCells us
    → m.held ≤ 16
    → Counts most k m us (pass_from most k m us)
unfolding AllCells
pass_counts most k m [] small cells room = rw pass_ends (ended_counts most k m [] room (λ h. refl))
pass_counts most k m (u ∷ us) small cells room =
    elim (dec_lt m.words most) [
      | yes h ↦
          let next = stepped_by m u k in
          let one = words_by_step m u k (omega arith) in
          let (left, taken) = by_step m u k cells.1 room in
          let rest = pass_counts most (suc k) next us small cells.2 left in
          let both = length-append (word_by m u) (pass_from most (suc k) next us).words in
          rw pass_goes_on (record {
            words = rest.words ∙ omega (arith, one.0);
            least = omega (arith, rest.least);
            most_used = omega (arith, rest.most_used);
            all_used = λ g. rest.all_used g ∙ omega arith;
            room = rest.room;
            half_cells_lem = omega (arith, rest.half_cells_lem, cells.1);
          })
      | no h ↦
          let full : most ≤ m.words = omega arith in
          rw pass_is_full (ended_counts most k m (u ∷ us) room (λ g. absurd (omega arith)))
    ]

-- no cell is left over where there are no more than bytes are wanted
pub pass_over_all
    : (cs : List Cell) (most k : ℕ) (m : Reading)
    → m.words + length cs ≤ most
    → most < 2 ^ 32
    → ((pass_from most k m (map units cs)).end ≡ record { reading = ran m k cs; used = k + length cs })
    × ((pass_from most k m (map units cs)).words ≡ ran_words m k cs)
unfolding ran ran_words stepped word_closed
pass_over_all [] most k m h few = rw (pass_ends most k m, add-zero k) (refl, refl)
pass_over_all (c ∷ cs) most k m h few =
    let next = stepped_by m (units c) k in
    let (grown, some) = words_by_step m (units c) k (omega arith) in
    let (end, words) = pass_over_all cs most (suc k) next (omega arith) few in
    let place : suc k + length cs ≡ k + suc (length cs) = omega arith in
    rw (pass_goes_on most k m (units c) (map units cs) (omega arith), end, words, place) (refl, refl)
