-- Eight cells at the top are two fours, of which the first word is taken at once: it is the first four's, or else the
-- second's. Rests on no axiom.
use Rattle.std.proofs.Common.{◌≡◌, ℕ, ◌+◌, ◌/◌, ◌%◌, ◌^◌, ◌<◌, ◌≤◌, List, [], ◌∷◌, ◌++◌, length, sym, refl, ap, ◌∙◌, mod-lt, arith, pow_pos, le-leb}
use native.Mathlib.Decide.{dec_lt}
use mir.Val.{bool_byte}
use borrow.Author.Tests.{lt-leb}
use Rattle.lists.specs.Filled.{if_given}
use Rattle.symbols.specs.machine.Step.{AllCells, shifted_all, is_whole, word_of, eased}
use Rattle.symbols.specs.declared.Reading.{Reading}
use Rattle.symbols.proofs.EaseLaws.{ease_of_open, eased_whole, eased_low}
use Rattle.shifts.specs.machine.Fours.{Tops, added_all, past_word}
use Rattle.shifts.specs.declared.top.Top.{Top}
use Rattle.shifts.proofs.FoursLaws.{Shifts, shifts}
use Rattle.shifts.proofs.TopLaws.{top_word}
use Rattle.shifts.proofs.AddedLaws.{tops_added, past_of_all, word_of_all, past_tops}

module _ (m : Reading) (front back : List ℕ) where
  abbrev pub first : Reading
  first = shifted_all m front

  abbrev pub second : Reading
  second = shifted_all (eased first) back

  abbrev wholes : Reading → List ℕ
  wholes r = if_given (is_whole r) (word_of r)

  -- with the first word left behind: what the two fours make whole is that word, and the next if it is
  pub record Eight (e : Top) : Type 0 where
    pub left : Reading
    pub top : Tops (past_word e) left
    pub same_end : eased left ≡ eased second
    pub words : wholes first ++ wholes second ≡ (e.cells / 2 ^ 47) ∷ wholes left
    pub count : bool_byte (is_whole first) + bool_byte (is_whole second) ≡ 1 + bool_byte (is_whole left)

  module _
      (t : Top) (top : Tops t m) (some : 1 ≤ m.held) (low : m.held ≤ 16) (small : m.words < 2 ^ 32)
      (cells : AllCells front × (length front ≡ 4)) (more : AllCells back × (length back ≡ 4))
    where
      abbrev one : Top
      one = added_all t front

      abbrev two : Top
      two = added_all one back

      one_tops : Tops one first
      one_tops = tops_added front t m cells.0 top (omega (arith, cells.1))

      pub eased_fits : (r : Reading) → (eased r).words < 2 ^ 32
      unfolding eased
      eased_fits r = mod-lt (r.words + bool_byte (is_whole r)) (pow_pos 32)

      pub first_words : first.words < 2 ^ 32
      first_words = rw (shifts front m cells.0 (omega (arith, cells.1))).words small

      pub eased_room : (eased first).held ≤ 16
      eased_room = (eased_low first first_words one_tops.room).0

      second_runs : Shifts (eased first) back
      second_runs = shifts back (eased first) more.0 (omega (arith, more.1, eased_room))

      -- none is whole with the first four
      eight_of_open : first.held < 17 → Eight two
      eight_of_open few =
          let run = shifts front m cells.0 (omega (arith, cells.1)) in
          let same : eased first ≡ first = ease_of_open first first_words few in
          let next : Tops two second =
          rw same (tops_added back one first more.0 one_tops (omega (arith, more.1))) in
          let held : (eased first).held ≡ first.held = ap (λ (r : Reading). r.held) same in
          let whole : 17 ≤ second.held = omega (arith, run.low, second_runs.low, cells.1, more.1) in
          let words : second.words < 2 ^ 32 = rw second_runs.words (eased_fits first) in
          let closed = (eased_low second words next.room).0 in
          let none = lt-leb 17 (eased second).held (omega arith) in
          record {
            left = eased second;
            top = past_tops two second next whole;
            same_end = ease_of_open (eased second) (eased_fits second) (omega arith);
            words =
                rw (lt-leb 17 first.held few, le-leb 17 second.held whole, none)
                (ap (λ (w : ℕ). w ∷ []) (sym (top_word two second next whole)));
            count =
                rw (lt-leb 17 first.held few, le-leb 17 second.held whole, none)
                refl;
          }

      -- the first four make one whole
      eight_of_whole : 17 ≤ first.held → Eight two
      eight_of_whole whole =
          let free = one_tops.free in
          let room = one_tops.room in
          let past = past_tops one first one_tops whole in
          let next : Tops (added_all (past_word one) back) second =
          tops_added back (past_word one) (eased first) more.0 past (omega (arith, more.1, eased_room)) in
          let same = past_of_all back one more.0 (omega (arith, more.1)) (omega arith) in
          let word : word_of first ≡ two.cells / 2 ^ 47 =
          sym
          (word_of_all back one more.0 (omega (arith, more.1)) (omega arith) ∙ top_word one first one_tops whole) in
          record {
            left = second;
            top = rw same next;
            same_end = refl;
            words = rw (le-leb 17 first.held whole) (ap (λ (w : ℕ). w ∷ wholes second) word);
            count = rw (le-leb 17 first.held whole) refl;
          }

      pub eight : Eight two
      eight =
          elim (dec_lt first.held 17) [
            | yes few ↦ eight_of_open few
            | no many ↦ eight_of_whole (omega arith)
          ]

      -- what they leave
      pub ends_words
          : (eased second).words
          ≡ ((m.words + bool_byte (is_whole first)) % 2 ^ 32 + bool_byte (is_whole second)) % 2 ^ 32
      unfolding eased
      ends_words =
          ap (λ (k : ℕ). (k + bool_byte (is_whole second)) % 2 ^ 32) (second_runs.words
          ∙ ap (λ (k : ℕ). (k + bool_byte (is_whole first)) % 2 ^ 32)
          (shifts front m cells.0 (omega (arith, cells.1))).words)

      pub ends_low : (1 ≤ (eased second).held) × ((eased second).held ≤ 16)
      ends_low =
          let words : second.words < 2 ^ 32 = rw second_runs.words (eased_fits first) in
          let room : second.held ≤ 32 = omega (arith, second_runs.high, more.1, eased_room) in
          elim (dec_lt second.held 17) [
            | yes few ↦
                rw (ease_of_open second words few)
                (omega (arith, second_runs.low, more.1), omega arith)
            | no many ↦
                let left = (eased_whole second words (omega arith) room).0 in
                (omega (arith, left), omega (arith, left))
          ]
