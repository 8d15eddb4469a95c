-- What the reading machine holds of the cells read so far: their half cells in its register, and of their letters the
-- lead, whole bytes and the rest. Of the whole bytes it has seen every gap but one on their last letter.
use Rattle.std.proofs.Common.{◌≡◌, ◌+◌, ◌*◌, ◌%◌, ◌^◌, ◌<◌, Bool, true, ◌⊎◌, List, [], ◌∷◌, ◌++◌, map, length, get_or, refl, ap, ◌∙◌, inl, append-nil, arith, length-append}
use native.Mathlib.Nat.{mul-mod_right}
use Rattle.lists.specs.Place.{anywhere, lowest, passed}
use Rattle.symbols.specs.Bits.{Bit, last_of}
use Rattle.symbols.specs.Bytes.{number_from, is_gap, item_of, rows_of, strays_of, items_read, strays_read}
use Rattle.symbols.specs.Reading.{read_bits, sources}
use Rattle.symbols.specs.machine.Step.{fresh_reading}
use Rattle.symbols.specs.declared.Cell.{Cell}
use Rattle.symbols.specs.declared.Reading.{Reading}
use Rattle.symbols.proofs.PlaceLaws.{rows_append, rows_of_few, strays_length}
use Rattle.symbols.proofs.UnitLaws.{units_sum}
use Rattle.symbols.proofs.HalfCells.{track}

-- after some cells: `front` are the tests of the letters whose gaps were shown
pub record Open (m : Reading) (cs : List Cell) : Type 0 where
  pub lead : Bit
  pub before : List Bit
  pub rest : List Bit
  pub front : List Bool
  pub letters : read_bits cs ≡ lead ∷ before ++ rest
  pub whole : length before ≡ 8 * m.words
  pub held : m.held + 16 * m.words ≡ units_sum cs
  pub bits : m.bits ≡ number_from 0 (track cs) % 2 ^ 32
  pub strays : is_gap lead ∷ strays_of (rows_of before) ≡ front ++ (is_gap (last_of lead before) ∷ [])
  pub stray : m.stray ≡ anywhere passed front
  pub place : m.stray ≡ true → m.place ≡ get_or (sources cs) (lowest passed front) 0

-- with fewer letters left than a byte has
abbrev pub Held : Reading → List Cell → Type 0
Held m cs = (o : Open m cs) × (length o.rest < 8)

-- what m is after the cells cs
abbrev pub Reads : Reading → List Cell → Type 0
Reads m cs = ((m ≡ fresh_reading) × (cs ≡ [])) ⊎ Held m cs

pub reads_fresh : Reads fresh_reading []
reads_fresh = inl (refl, refl)

module _ (m : Reading) (cs : List Cell) (o : Open m cs) where
  pub whole_rows : length o.before % 8 ≡ 0
  whole_rows = rw o.whole (mul-mod_right 8 m.words)

  pub front_length : length o.front ≡ 8 * m.words
  front_length =
      omega (
        arith,
        rw length-append at (ap length o.strays),
        strays_length o.before whole_rows,
        o.whole,
      )

  pub letters_count : length (read_bits cs) ≡ 1 + 8 * m.words + length o.rest
  letters_count = omega (arith, rw length-append at (ap length o.letters), o.whole)

module _ (m : Reading) (cs : List Cell) (so_far : Held m cs) where
  abbrev o : Open m cs
  o = so_far.0

  rows_so_far : rows_of (o.before ++ o.rest) ≡ rows_of o.before
  rows_so_far =
      rows_append o.before o.rest (whole_rows m cs o)
      ∙ ap (◌++◌ (rows_of o.before)) (rows_of_few o.rest so_far.1)
      ∙ append-nil _

  pub items_so_far : items_read (read_bits cs) ≡ map item_of (rows_of o.before)
  unfolding items_read
  items_so_far = ap items_read o.letters ∙ ap (map item_of) rows_so_far

  pub strays_so_far : strays_read (read_bits cs) ≡ o.front ++ (is_gap (last_of o.lead o.before) ∷ [])
  unfolding strays_read
  strays_so_far =
      ap strays_read o.letters
      ∙ ap (λ (x : List (List Bit)). is_gap o.lead ∷ strays_of x) rows_so_far
      ∙ o.strays
