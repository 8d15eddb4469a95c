-- One cell more keeps what the machine holds and gives the next item: the cell's half cells are shifted in, and a word
-- that is whole is closed.
use Rattle.std.proofs.Common.{◌≡◌, ℕ, ◌+◌, ◌-◌, ◌*◌, ◌/◌, ◌%◌, ◌^◌, ◌<◌, ◌≤◌, true, false, List, [], ◌∷◌, ◌++◌, map, length, get_or, take, sym, refl, ap, ◌∙◌, inl, inr, true≢false, append_assoc, append-nil, mod-eq_of_lt, add_comm, arith, length-append, le-leb}
use native.Mathlib.Decide.{dec_lt}
use borrow.Author.Tests.{lt-leb}
use lib.Bits.{bit_or, or_shifted}
use lib.Pow.{pow-lt, high, low, mod-pow-add, mod-mod-pow}
use Rattle.lists.specs.Place.{anywhere, lowest, passed}
use Rattle.lists.proofs.PlaceLaws.{lowest_of_some}
use Rattle.half_cells.specs.machine.Candidate.{candidate}
use Rattle.symbols.specs.Bits.{Bit, I, last_of}
use Rattle.symbols.specs.Bytes.{number_from, rows_of, strays_of, items_read, strays_read}
use Rattle.symbols.specs.Reading.{units, given, last_after, read_from, read_bits, sources}
use Rattle.symbols.specs.Strip.{is_stray}
use Rattle.symbols.specs.machine.Step.{fresh_reading, shifted, code_word, closed, stepped_by, stepped, word_by}
use Rattle.symbols.specs.machine.Step.{word_of, word_closed}
use Rattle.symbols.specs.declared.Cell.{Cell}
use Rattle.symbols.specs.declared.Cell.TheVariants.{Short, Medium, Long}
use Rattle.symbols.specs.declared.Reading.{Reading}
use Rattle.symbols.proofs.CellLaws.{more, bits_grown}
use Rattle.symbols.proofs.PlaceLaws.{source_kept}
use Rattle.symbols.proofs.UnitLaws.{units_sum, length_by_units, units_range}
use Rattle.symbols.proofs.HalfCells.{halves, track}
use Rattle.symbols.proofs.HalfLaws.{halves_append}
use Rattle.symbols.proofs.NumberLaws.{number_append}
use Rattle.symbols.proofs.ReadsLaws.{Open, Held, Reads, front_length, letters_count, items_so_far, strays_so_far}
use Rattle.symbols.proofs.WordLaws.{Verdict}
use Rattle.symbols.proofs.ClosingLaws.{verdict, word_closed_lem, fair_word}
use Rattle.symbols.proofs.EaseLaws.{shifted_out}

-- what a cell more makes of the machine m after the cells cs
pub record After (m : Reading) (cs : List Cell) (c : Cell) (next : Reading) : Type 0 where
  pub reads : Held next (cs ++ (c ∷ []))
  pub words : next.words ≡ m.words + length (word_closed m c)
  pub items :
      is_stray (read_bits (cs ++ (c ∷ []))) ≡ false
      → (is_stray (read_bits cs) ≡ false)
      × (items_read (read_bits (cs ++ (c ∷ []))) ≡ items_read (read_bits cs) ++ map candidate (word_closed m c))

-- The half cells of a cell, shifted in

shifted_in :
    (n r u : ℕ) → 0 < u → bit_or (n % 2 ^ (r + u) * 2 ^ u % 2 ^ (r + u)) 1 ≡ (n * 2 ^ u + 1) % 2 ^ (r + u)
shifted_in n r u some =
    let one : 1 < 2 ^ u = pow-lt some in
    let inner : n % 2 ^ (r + u) % 2 ^ r ≡ n % 2 ^ r = rw (add_comm r u) (mod-mod-pow n u r) in
    rw (
      shifted_out (r + u) (n % 2 ^ (r + u)) r u refl,
      inner,
      or_shifted (n % 2 ^ r) u 1 one,
      mod-pow-add (n * 2 ^ u + 1) r u,
      high n u one,
      low n u one,
    )

shifted_number :
    (n : ℕ) (c : Cell)
    → bit_or (n % 2 ^ 32 * 2 ^ (units c % 32) % 2 ^ 32) 1 ≡ number_from n (halves (c ∷ [])) % 2 ^ 32
unfolding halves number_from
shifted_number n Short = shifted_in n 30 2 (omega arith) ∙ ap (λ (x : ℕ). x % 2 ^ 32) (omega arith)
shifted_number n Medium = shifted_in n 29 3 (omega arith) ∙ ap (λ (x : ℕ). x % 2 ^ 32) (omega arith)
shifted_number n Long = shifted_in n 28 4 (omega arith) ∙ ap (λ (x : ℕ). x % 2 ^ 32) (omega arith)

pub units_at_most : (cs : List Cell) → units_sum cs ≤ 4 * length cs
unfolding units_sum
units_at_most [] = omega arith
units_at_most (c ∷ cs) = omega (arith, (units_range c).1, units_at_most cs)

bits_shifted :
    (m : Reading) (cs : List Cell) (c : Cell) → m.bits ≡ number_from 0 (track cs) % 2 ^ 32
    → (shifted m (units c)).bits ≡ number_from 0 (track (cs ++ (c ∷ []))) % 2 ^ 32
unfolding shifted track
bits_shifted m cs c e =
    rw (e, halves_append cs (c ∷ []), number_append 0 (I ∷ halves cs) (halves (c ∷ [])))
    (shifted_number (number_from 0 (I ∷ halves cs)) c)

units_grown : (cs : List Cell) (c : Cell) → units_sum (cs ++ (c ∷ [])) ≡ units_sum cs + units c
unfolding units_sum
units_grown [] c = omega arith
units_grown (d ∷ cs) c = omega (arith, units_grown cs c)

-- The first cell opens the letters with the lead

first_opens :
    (m : Reading) (c : Cell) (lead : Bit) (rest : List Bit) → read_bits (c ∷ []) ≡ lead ∷ rest → length rest < 8
    → m.words ≡ 0 → m.held ≡ units_sum (c ∷ []) → m.bits ≡ number_from 0 (track (c ∷ [])) % 2 ^ 32 → m.stray ≡ false
    → Held m (c ∷ [])
unfolding rows_of strays_of anywhere last_of
first_opens m c lead rest letters few none held bits fair = (
  record {
    lead = lead;
    before = [];
    rest = rest;
    front = [];
    letters = letters;
    whole = omega arith;
    held = omega arith;
    bits = bits;
    strays = refl;
    stray = fair;
    place = λ h. absurd (true≢false (sym h ∙ fair));
  },
  few,
)

first_after : (c : Cell) → After fresh_reading [] c (stepped fresh_reading c 0)
unfolding stepped stepped_by word_by word_closed shifted fresh_reading is_stray strays_read items_read rows_of anywhere read_bits
    read_from given last_after units_sum track halves number_from
first_after Short =
    record {
      reads = first_opens _ Short _ _ refl (omega arith) refl refl refl refl;
      words = refl;
      items = λ h. (refl, refl);
    }
first_after Medium =
    record {
      reads = first_opens _ Medium _ _ refl (omega arith) refl refl refl refl;
      words = refl;
      items = λ h. (refl, refl);
    }
first_after Long =
    record {
      reads = first_opens _ Long _ _ refl (omega arith) refl refl refl refl;
      words = refl;
      items = λ h. (refl, refl);
    }

-- Every other cell

module _ (m : Reading) (cs : List Cell) (so_far : Held m cs) (room : length cs < 2 ^ 32) (c : Cell) where
  abbrev o : Open m cs
  o = so_far.0

  abbrev cs' : List Cell
  cs' = cs ++ (c ∷ [])

  abbrev m₁ : Reading
  m₁ = shifted m (units c)

  abbrev all : List Bit
  all = o.rest ++ more cs c

  letters_grown : read_bits cs' ≡ (o.lead ∷ o.before) ++ all
  letters_grown =
      rw (bits_grown cs c, o.letters) (append_assoc (o.lead ∷ o.before) o.rest _)

  few_words : m.words + 1 < 2 ^ 32
  few_words = omega (arith, letters_count m cs o, length_by_units cs, units_at_most cs)

  held_before : m.held ≤ 16
  held_before = omega (arith, letters_count m cs o, length_by_units cs, o.held, so_far.1)

  held_grown : m₁.held ≡ m.held + units c
  unfolding shifted
  held_grown = mod-eq_of_lt (omega (arith, held_before, (units_range c).1))

  held_counts : m₁.held + 16 * m.words ≡ units_sum cs'
  held_counts = omega (arith, held_grown, o.held, units_grown cs c)

  -- half cells by letters
  letters_held : length all + 1 ≡ (m₁.held + 1) / 2
  letters_held =
      omega (
        arith,
        held_counts,
        length_by_units cs',
        rw length-append at (ap length letters_grown),
        o.whole,
      )

  place_kept : m.stray ≡ true → m.place ≡ get_or (sources cs') (lowest passed o.front) 0
  place_kept h =
      let some = lowest_of_some passed o.front (sym o.stray ∙ h) in
      o.place h
      ∙ sym (source_kept cs c (lowest passed o.front) (omega (arith, front_length m cs o, letters_count m cs o)))

  grown : Open m₁ cs'
  unfolding shifted
  grown =
      record {
        lead = o.lead;
        before = o.before;
        rest = all;
        front = o.front;
        letters = letters_grown;
        whole = o.whole;
        held = held_counts;
        bits = bits_shifted m cs c o.bits;
        strays = o.strays;
        stray = o.stray;
        place = place_kept;
      }

  after_open : m₁.held < 17 → After m cs c m₁
  unfolding shifted word_closed word_by is_stray grown
  after_open h =
      let few : length all < 8 = omega (arith, letters_held) in
      let none : word_closed m c ≡ [] = rw (lt-leb 17 m₁.held h) in
      record {
        reads = (grown, few);
        words = rw none (omega arith);
        items = λ fair. (
          ap (anywhere passed) (strays_so_far m cs so_far ∙ sym (strays_so_far m₁ cs' (grown, few))) ∙ fair,
          items_so_far m₁ cs' (grown, few)
              ∙ sym (items_so_far m cs so_far)
              ∙ rw none (sym (append-nil (items_read (read_bits cs)))),
        );
      }

  module _ (h : 17 ≤ m₁.held) where
    range : (17 ≤ m₁.held) × (m₁.held ≤ 20)
    range = (h, omega (arith, held_grown, held_before, (units_range c).1))

    rows : (8 ≤ length all) × (length all < 16)
    rows = (omega (arith, letters_held), (let r = range.1 in omega (arith, letters_held)))

    last : (length cs' - 1 ≡ length cs) × (length cs' ≤ 2 ^ 32)
    last = let n = length-append cs (c ∷ []) in (omega arith, omega arith)

    -- the word that it makes whole
    pub word_grown : Verdict (last_of o.lead o.before) (take 8 all) (word_of m₁)
    unfolding grown
    word_grown = verdict m₁ cs' grown range last.1 rows

    after_closed : After m cs c (closed m₁ (length cs))
    unfolding closed shifted word_closed word_by is_stray grown
    after_closed =
        let one : word_closed m c ≡ code_word m₁ ∷ [] = rw (le-leb 17 m₁.held h) in
        record {
          reads = rw last.0 at (word_closed_lem m₁ cs' grown range last.1 rows few_words);
          words = rw one (mod-eq_of_lt few_words);
          items = λ fair.
              let w = fair_word m₁ cs' grown range last.1 rows few_words fair in (
                ap (anywhere passed) (strays_so_far m cs so_far) ∙ w.0,
                w.1
                    ∙ ap (λ (l : List ℕ). l ++ (candidate (code_word m₁) ∷ [])) (sym (items_so_far m cs so_far))
                    ∙ rw one refl,
              );
        }

  after_step : After m cs c (stepped m c (length cs))
  unfolding stepped stepped_by
  after_step =
      elim (dec_lt m₁.held 17) [
        | yes l ↦ rw (lt-leb 17 m₁.held l) (after_open l)
        | no l ↦ let h : 17 ≤ m₁.held = omega arith in rw (le-leb 17 m₁.held h) (after_closed h)
      ]

-- one cell more, at its place
pub after_cell :
    (m : Reading) (cs : List Cell) → Reads m cs → length cs < 2 ^ 32 → (c : Cell)
    → After m cs c (stepped m c (length cs))
after_cell m cs (inl e) room c = rw (e.0, e.1) (first_after c)
after_cell m cs (inr so_far) room c = after_step m cs so_far room c

module _ (m : Reading) (cs : List Cell) (r : Reads m cs) (room : length cs < 2 ^ 32) (c : Cell) where
  pub reads_step : Reads (stepped m c (length cs)) (cs ++ (c ∷ []))
  reads_step = inr (after_cell m cs r room c).reads
