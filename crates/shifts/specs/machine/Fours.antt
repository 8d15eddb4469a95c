-- Machine, not meaning: laws tie it to Pass (`proofs/FoursLaws`). No lemmas here.
-- Four cells at a time. They have 16 half cells at most, so that they make one byte whole at most, and it is taken when
-- all four are shifted in. The code takes two fours in one turn.
use Rattle.std.specs.Prelude.{◌≡◌, ℕ, zero, suc, ◌+◌, ◌-◌, ◌*◌, ◌%◌, ◌^◌, ◌≤◌, List, [], ◌∷◌, ◌++◌, take, drop, bit_or}
use Rattle.lists.specs.Filled.{if_given}
use Rattle.symbols.specs.machine.Step.{is_whole, word_of, eased, shifted_all}
use Rattle.symbols.specs.declared.Reading.{Reading}
use Rattle.shifts.specs.declared.top.Top.{Top}

-- the register, and the half cells of the words with the data bit before each
pub record Fours : Type 0 where
  pub reading : Reading
  pub words : List ℕ

-- a word without the data bit before it
abbrev pub alone : ℕ → ℕ
alone x = x % 65536

-- so many fours
unfoldable pub fours_from : ℕ → Reading → List ℕ → Fours
fours_from zero m us = record { reading = m; words = [] }
fours_from (suc n) m us =
    let next = shifted_all m (take 4 us) in
    let rest = fours_from n (eased next) (drop 4 us) in
    record { reading = rest.reading; words = if_given (is_whole next) (word_of next) ++ rest.words }

-- a register's half cells at the top of 64 bits
pub record Tops (t : Top) (m : Reading) : Type 0 where
  pub room : m.held ≤ 32
  pub free : t.free + m.held ≡ 64
  pub cells : t.cells ≡ m.bits % 2 ^ m.held * 2 ^ t.free

-- one cell more at the top, and more of them
unfoldable pub added_cell : Top → ℕ → Top
added_cell t u =
    let free = (t.free + (2 ^ 32 - u)) % 2 ^ 32 in
    record { cells = bit_or t.cells (1 * 2 ^ (free % 64) % 2 ^ 64); free = free }

unfoldable pub added_all : Top → List ℕ → Top
added_all t [] = t
added_all t (u ∷ us) = added_all (added_cell t u) us

-- a word that is whole left behind
unfoldable pub past_word : Top → Top
past_word t = record { cells = t.cells * 2 ^ 16 % 2 ^ 64; free = (t.free + 16) % 2 ^ 32 }
