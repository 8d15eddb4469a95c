-- One cell more, by its units: it makes a word whole, which is then closed, or not. Rests on no axiom.
use Rattle.std.proofs.Common.{◌≡◌, ℕ, ◌+◌, ◌%◌, ◌^◌, ◌<◌, ◌≤◌, Bool, true, false, [], ◌∷◌, length, refl, mod-eq_of_lt, arith, le-leb}
use native.Mathlib.Decide.{dec_lt}
use borrow.Author.Tests.{lt-leb}
use Rattle.half_cells.specs.machine.Word.{first_of_cells}
use Rattle.symbols.specs.machine.Step.{shifted, is_whole, code_word, closed, stepped_by, word_by}
use Rattle.symbols.specs.declared.Reading.{Reading}

-- a register by its parts
pub same_reading
    : (r : Reading) (bits held words place : ℕ) (stray : Bool)
    → bits ≡ r.bits
    → held ≡ r.held
    → words ≡ r.words
    → place ≡ r.place
    → stray ≡ r.stray
    → record { bits = bits; held = held; words = words; place = place; stray = stray } ≡ r
same_reading r bits held words place stray b h w p s = rw (b, h, w, p, s) refl

same_place : (at cells : ℕ) → first_of_cells (at % 2 ^ 32) cells ≡ first_of_cells at cells
unfolding first_of_cells
same_place at cells = omega arith

module _ (m : Reading) (u at : ℕ) where
  pub step_stays_open : is_whole (shifted m u) ≡ false → (stepped_by m u at ≡ shifted m u) × (word_by m u ≡ [])
  unfolding stepped_by word_by
  step_stays_open h = (rw h, rw h)

  -- a place is a 32-bit number
  pub step_closes
      : is_whole (shifted m u) ≡ true
      → (stepped_by m u at ≡ closed (shifted m u) (at % 2 ^ 32)) × (word_by m u ≡ code_word (shifted m u) ∷ [])
  unfolding stepped_by word_by closed
  step_closes h = (rw (h, same_place), rw h)

  -- the words closed, one at most
  pub words_by_step
      : m.words + 1 < 2 ^ 32
      → ((stepped_by m u at).words ≡ m.words + length (word_by m u)) × (length (word_by m u) ≤ 1)
  unfolding stepped_by word_by shifted closed
  words_by_step few =
      elim (dec_lt (shifted m u).held 17) [
        | yes h ↦ rw (lt-leb 17 (shifted m u).held h) (omega arith, omega arith)
        | no h ↦ rw (le-leb 17 (shifted m u).held (omega arith)) (mod-eq_of_lt few, omega arith)
      ]
