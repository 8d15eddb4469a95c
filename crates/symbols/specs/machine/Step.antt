-- Machine, not meaning: laws tie it to Reading, Bytes and Strip (`proofs/AnswerLaws`, `proofs/RunLaws`).
-- No lemmas here.
-- The machine that reads cells one by one: a shift register of half cells, as a data separator has one, of which a word
-- is taken when it is whole; and what it gives at the end.
use Rattle.std.specs.Prelude.{ℕ, suc, ◌+◌, ◌-◌, ◌*◌, ◌/◌, ◌%◌, ◌^◌, ◌≤◌, Bool, false, cond, not, ◌&&◌, ◌||◌, List, [], ◌∷◌, ◌++◌, ◌==◌, bit_or, nat_le, nat_lt}
use mir.Val.{bool_byte}
use Rattle.lists.specs.Filled.{if_given}
use Rattle.refusal.specs.Answer.{Answer, accepted, refuse_if}
use Rattle.symbols.specs.Reading.{units}
use Rattle.half_cells.specs.machine.Word.{missing, misfits, cells_since, first_of_cells}
use Rattle.symbols.specs.declared.Cell.{Cell}
use Rattle.symbols.specs.declared.Reading.{Reading}

-- the transition before the first cell is the lead's clock
unfoldable pub fresh_reading : Reading
fresh_reading = record { bits = 1; held = 0; words = 0; place = 0; stray = false }

-- the half cells of one cell more: 0s, then the 1 that ends it
unfoldable pub shifted : Reading → ℕ → Reading
shifted m u =
    record {
      bits = bit_or (m.bits * 2 ^ (u % 32) % 2 ^ 32) 1;
      held = (m.held + u) % 2 ^ 32;
      words = m.words;
      place = m.place;
      stray = m.stray;
    }

-- the units of cells
unfoldable pub AllCells : List ℕ → Type 0
AllCells [] = Unit {0}
AllCells (u ∷ us) = (2 ≤ u) × (u ≤ 4) × AllCells us

-- cells one after the other
unfoldable pub shifted_all : Reading → List ℕ → Reading
shifted_all m [] = m
shifted_all m (u ∷ us) = shifted_all (shifted m u) us

-- no half cell
abbrev pub empty_reading : Reading
empty_reading = record { bits = 0; held = 0; words = 0; place = 0; stray = false }

-- a word is whole with its 16 half cells and the data bit before it
abbrev pub is_whole : Reading → Bool
is_whole m = nat_le 17 m.held

-- the half cells past the word that is whole; the word with the data bit before it, and without
unfoldable pub surplus : Reading → ℕ
surplus m = (m.held - 17) % 32

unfoldable pub word_of : Reading → ℕ
word_of m = m.bits / 2 ^ surplus m % 2 ^ 17

unfoldable pub code_word : Reading → ℕ
code_word m = word_of m % 65536

-- a word is closed by the cell at a place; of the gaps out of place the lowest counts
unfoldable pub closed : Reading → ℕ → Reading
closed m at =
    record {
      bits = m.bits;
      held = m.held - 16;
      words = (m.words + 1) % 2 ^ 32;
      place =
          cond (misfits (word_of m) && not m.stray)
          (first_of_cells at (cells_since m.bits (surplus m) (missing (word_of m))))
          m.place;
      stray = misfits (word_of m) || m.stray;
    }

-- a word that is whole left behind, with its gaps not looked at
unfoldable pub eased : Reading → Reading
eased m =
    record {
      bits = m.bits;
      held = (m.held + (2 ^ 32 - 16 * bool_byte (is_whole m))) % 2 ^ 32;
      words = (m.words + bool_byte (is_whole m)) % 2 ^ 32;
      place = m.place;
      stray = m.stray;
    }

-- one cell more, at a place, by its units
unfoldable pub stepped_by : Reading → ℕ → ℕ → Reading
stepped_by m u at = cond (is_whole (shifted m u)) (closed (shifted m u) at) (shifted m u)

-- the code word that it closes, if it does
unfoldable pub word_by : Reading → ℕ → List ℕ
word_by m u = if_given (is_whole (shifted m u)) (code_word (shifted m u))

-- the same of a cell
unfoldable pub stepped : Reading → Cell → ℕ → Reading
stepped m c at = stepped_by m (units c) at

unfoldable pub word_closed : Reading → Cell → List ℕ
word_closed m c = word_by m (units c)

-- cells read one after the other, the first at place k
unfoldable pub ran : Reading → ℕ → List Cell → Reading
ran m k [] = m
ran m k (c ∷ cs) = ran (stepped m c k) (suc k) cs

-- the code words that they close
unfoldable pub ran_words : Reading → ℕ → List Cell → List ℕ
ran_words m k [] = []
ran_words m k (c ∷ cs) = word_closed m c ++ ran_words (stepped m c k) (suc k) cs

-- at the end of a strip or a field: a gap that begins on the last bit of the last word has left 0 0 0 1
abbrev pub ends_in_gap : Reading → Bool
ends_in_gap m = m.held == 4 && m.bits % 16 == 1

abbrev pub stray_now : Reading → Bool
stray_now m = m.stray || ends_in_gap m

-- the place of the lowest gap out of place, given the last cell's
abbrev pub place_now : Reading → ℕ → ℕ
place_now m last = cond m.stray m.place last

-- the strip reader's answer at the end, from 7 on: one bit 0 after whole bytes has four half cells
unfoldable pub strip_answer : Reading → ℕ → Answer
strip_answer m last =
    refuse_if (not (m.held == 4)) 7 0
    (refuse_if (nat_lt 6400 m.words) 4 0
    (refuse_if (stray_now m) 8 (place_now m last)
    (accepted m.words)))
