-- Why the lengths of cells go by windows: three data bits tell how the open cell began and which came before it, the
-- bit tells whether it ends, and the next how the cell behind begins. Each is a case of the symbols. Rests on no axiom.
use Prim.Native.Nat.{ℕ, ◌+◌, ◌/◌, ◌%◌, ◌^◌, ◌<◌}
use mathlib.Core.Path.{◌≡◌, refl, sym, ap, ap₂, ◌∙◌}
use mathlib.Core.Bool.{Bool, true, false, cond, not}
use mathlib.Core.List.{List, [], ◌∷◌, ◌++◌, append_assoc}
use mathlib.Core.Logic.{◌⊎◌, inl, inr, ⊎_elim}
use native.Mathlib.Omega.{arith}
use borrow.Author.Tests.{le-ltb, ne_eqb}
use lib.Dec.{eqb}
use lib.ListN.{drop, get_or}
use Rattle.lists.specs.Filled.{if_given}
use Rattle.lists.specs.Table.{tabulated}
use Rattle.lists.proofs.TableLaws.{entry_is_rule}
use Rattle.timing.specs.declared.Profile.{Profile}
use Rattle.items.specs.Item.{is_mark, is_byte}
use Rattle.items.proofs.ItemLaws.{data_is_no_mark, mark_is_a1_or_c2, byte_is_data_or_mark}
use Rattle.symbols.specs.Bits.{Bit, O, I, G, byte_bits, with_gaps, mark_bits, written_bits, all_bits, bits_of}
use Rattle.symbols.specs.Cells.{pair_symbols, symbols_from, symbols_of, written_symbols}
use Rattle.lengths.specs.Lengths.{point, symbol_after, lengths_from, lengths_of}
use Rattle.lengths.specs.Neighbours.{between}
use Rattle.lengths.specs.Stream.{byte_stream}
use Rattle.codec.specs.machine.Windows.{ends, units_at, units_before, units_after, length_at, first_length, last_length}
use Rattle.codec.specs.machine.Windows.{cells_at, bit_at, by_bits, cells_in}
use Rattle.codec.specs.machine.Pen.{first_window, second_window, windows_left, last_bits}

abbrev pub letter : Bool → Bit
letter t = cond t I O

-- the symbol after the start of the cell that is open at a bit, and its zeros before the bit
abbrev pub none_yet : Bool → Bool → Bool → Bool
none_yet b2 b1 bit = cond b1 bit (cond b2 false (not bit))

abbrev pub open_zeros : Bool → Bool → ℕ
open_zeros b2 b1 = cond b1 0 (cond b2 1 0)

-- the lengths of the cells that end at a bit, and at those behind it, after three
unfoldable pub lengths_after : Profile → Bool → Bool → Bool → Bool → List Bit → List ℕ
lengths_after p b3 b2 b1 bit rest =
    lengths_from p (point p (eqb (units_before b3 b2 b1) 2) (none_yet b2 b1 bit)) (open_zeros b2 b1)
    (eqb (open_zeros b2 b1) 0) (symbols_from (letter b1) (letter bit ∷ rest))

module _ (p : Profile) where
  a_bit
      : (b3 b2 b1 bit next : Bool) (rest : List Bit)
      → lengths_after p b3 b2 b1 bit (letter next ∷ rest)
      ≡ if_given (ends b1 bit) (length_at p b3 b2 b1 bit next) ++ lengths_after p b2 b1 bit next rest
  unfolding lengths_after length_at ends units_at units_before units_after between lengths_from symbols_from pair_symbols
      symbol_after point
  a_bit b3 false false false false rest = refl
  a_bit b3 false false false true rest = refl
  a_bit b3 false false true false rest = refl
  a_bit b3 false false true true rest = refl
  a_bit b3 false true false false rest = refl
  a_bit b3 false true false true rest = refl
  a_bit b3 false true true false rest = refl
  a_bit b3 false true true true rest = refl
  a_bit b3 true false false false rest = refl
  a_bit b3 true false false true rest = refl
  a_bit b3 true false true false rest = refl
  a_bit b3 true false true true rest = refl
  a_bit b3 true true false false rest = refl
  a_bit b3 true true false true rest = refl
  a_bit b3 true true true false rest = refl
  a_bit b3 true true true true rest = refl

  -- ---- two bits

  unfoldable pub both : Bool → Bool → Bool → Bool → Bool → Bool → List ℕ
  both b3 b2 b1 bit next behind =
      if_given (ends b1 bit) (length_at p b3 b2 b1 bit next) ++ if_given (ends bit next) (length_at p b2 b1 bit next behind)

  two_bits
      : (b3 b2 b1 bit next behind : Bool) (rest : List Bit)
      → lengths_after p b3 b2 b1 bit (letter next ∷ letter behind ∷ rest)
      ≡ both b3 b2 b1 bit next behind ++ lengths_after p b1 bit next behind rest
  unfolding both
  two_bits b3 b2 b1 bit next behind rest =
      let first = if_given (ends b1 bit) (length_at p b3 b2 b1 bit next) in
      a_bit b3 b2 b1 bit next (letter behind ∷ rest)
      ∙ ap (◌++◌ first) (a_bit b2 b1 bit next behind rest)
      ∙ sym (append_assoc first (if_given (ends bit next) (length_at p b2 b1 bit next behind)) _)

  -- one or two cells end there
  pub one_or_two
      : (b3 b2 b1 bit next behind : Bool)
      → ((both b3 b2 b1 bit next behind
      ≡ first_length p b3 b2 b1 bit next behind ∷ last_length p b3 b2 b1 bit next behind ∷ [])
      × (cells_at b1 bit next ≡ 2))
      ⊎ ((both b3 b2 b1 bit next behind ≡ first_length p b3 b2 b1 bit next behind ∷ []) × (cells_at b1 bit next ≡ 1))
  unfolding both first_length last_length cells_at ends
  one_or_two b3 b2 true true true behind = inl (refl, refl)
  one_or_two b3 b2 true true false behind = inr (refl, refl)
  one_or_two b3 b2 true false true behind = inr (refl, refl)
  one_or_two b3 b2 true false false behind = inr (refl, refl)
  one_or_two b3 b2 false true true behind = inl (refl, refl)
  one_or_two b3 b2 false true false behind = inr (refl, refl)
  one_or_two b3 b2 false false true behind = inl (refl, refl)
  one_or_two b3 b2 false false false behind = inl (refl, refl)

  -- ---- a window as a number

  unfoldable pub window_lengths : ℕ → List ℕ
  window_lengths w = by_bits both w

  unfoldable pub windows_lengths : List ℕ → List ℕ
  windows_lengths [] = []
  windows_lengths (w ∷ ws) = window_lengths w ++ windows_lengths ws

  -- the lengths behind a byte, by its last four bits
  unfoldable pub lengths_on : ℕ → List Bit → List ℕ
  lengths_on q rest = lengths_after p (bit_at q 8) (bit_at q 4) (bit_at q 2) (bit_at q 1) rest

  by_bits_lem
      : (w n5 n4 n3 n2 n1 n0 : ℕ)
      → w / 32 % 2 ≡ n5
      → w / 16 % 2 ≡ n4
      → w / 8 % 2 ≡ n3
      → w / 4 % 2 ≡ n2
      → w / 2 % 2 ≡ n1
      → w / 1 % 2 ≡ n0
      → both (eqb n5 1) (eqb n4 1) (eqb n3 1) (eqb n2 1) (eqb n1 1) (eqb n0 1) ≡ window_lengths w
  unfolding window_lengths
  by_bits_lem w n5 n4 n3 n2 n1 n0 e5 e4 e3 e2 e1 e0 = rw (e5, e4, e3, e2, e1, e0)

-- the bits of a byte's windows are its own and those before it
module _ (p : Profile) (q byte : ℕ) (small : byte < 256) where
  first_bits
      : both p (bit_at q 8) (bit_at q 4) (bit_at q 2) (bit_at q 1) (bit_at byte 128) (bit_at byte 64)
      ≡ window_lengths p (first_window q byte)
  first_bits =
      by_bits_lem p (first_window q byte) (q / 8 % 2) (q / 4 % 2) (q / 2 % 2) (q / 1 % 2) (byte / 128 % 2) (byte / 64 % 2)
      (omega arith) (omega arith) (omega arith) (omega arith) (omega arith) (omega arith)

  second_bits
      : both p (bit_at q 2) (bit_at q 1) (bit_at byte 128) (bit_at byte 64) (bit_at byte 32) (bit_at byte 16)
      ≡ window_lengths p (second_window q byte)
  second_bits =
      by_bits_lem p (second_window q byte) (q / 2 % 2) (q / 1 % 2) (byte / 128 % 2) (byte / 64 % 2) (byte / 32 % 2) (byte / 16 % 2)
      (omega arith) (omega arith) (omega arith) (omega arith) (omega arith) (omega arith)

  third_bits
      : both p (bit_at byte 128) (bit_at byte 64) (bit_at byte 32) (bit_at byte 16) (bit_at byte 8) (bit_at byte 4)
      ≡ window_lengths p (byte / 4)
  third_bits =
      by_bits_lem p (byte / 4)
      (byte / 128 % 2) (byte / 64 % 2) (byte / 32 % 2) (byte / 16 % 2) (byte / 8 % 2) (byte / 4 % 2)
      (omega arith) (omega arith) (omega arith) (omega arith) (omega arith) (omega arith)

  fourth_bits
      : both p (bit_at byte 32) (bit_at byte 16) (bit_at byte 8) (bit_at byte 4) (bit_at byte 2) (bit_at byte 1)
      ≡ window_lengths p (byte % 64)
  fourth_bits =
      by_bits_lem p (byte % 64) (byte / 32 % 2) (byte / 16 % 2) (byte / 8 % 2) (byte / 4 % 2) (byte / 2 % 2) (byte / 1 % 2)
      (omega arith) (omega arith) (omega arith) (omega arith) (omega arith) (omega arith)

-- ---- a byte

-- the windows of a written byte, after the first
abbrev pub windows_after : ℕ → ℕ → List ℕ
windows_after q w = second_window q (w % 256) ∷ windows_left w

-- what a byte's bits give: the lengths of its windows, and then those behind it
abbrev Given : Profile → ℕ → ℕ → Type 0
Given p q w =
    (rest : List Bit)
    → lengths_on p q (written_bits w ++ rest)
    ≡ window_lengths p (first_window q (w % 256))
    ++ (windows_lengths p (windows_after q w) ++ lengths_on p (last_bits w) rest)

module _ (p : Profile) (q : ℕ) where
  of_bits
      : (b4 b3 b2 b1 n7 n6 n5 n4 n3 n2 n1 n0 : Bool) (rest : List Bit)
      → lengths_after p b4 b3 b2 b1 (letter n7 ∷ letter n6 ∷ letter n5 ∷ letter n4 ∷ letter n3 ∷ letter n2
      ∷ letter n1 ∷ letter n0 ∷ rest)
      ≡ both p b4 b3 b2 b1 n7 n6
      ++ ((both p b2 b1 n7 n6 n5 n4 ++ (both p n7 n6 n5 n4 n3 n2 ++ (both p n5 n4 n3 n2 n1 n0 ++ [])))
      ++ lengths_after p n3 n2 n1 n0 rest)
  of_bits b4 b3 b2 b1 n7 n6 n5 n4 n3 n2 n1 n0 rest =
      rw (
        two_bits p b4 b3 b2 b1 n7 n6,
        two_bits p b2 b1 n7 n6 n5 n4,
        two_bits p n7 n6 n5 n4 n3 n2,
        two_bits p n5 n4 n3 n2 n1 n0,
      )
      (simp append_assoc)

  of_data : (w : ℕ) → w < 256 → Given p q w
  unfolding written_bits byte_bits windows_left windows_lengths lengths_on last_bits
  of_data w small rest =
      let low : w % 256 ≡ w = omega arith in
      rw (
        data_is_no_mark w small,
        le-ltb 255 w (omega arith),
        ne_eqb w 0x1a1 (λ e. omega arith),
        low,
        ← first_bits p q w small,
        ← second_bits p q w small,
        ← third_bits p q w small,
        ← fourth_bits p q w small,
      )
      (of_bits _ _ _ _ _ _ _ _ _ _ _ _ rest)

  -- behind the missing clock bit
  rest_of_a1
      : (rest : List Bit)
      → lengths_after p true false true false (G ∷ O ∷ O ∷ I ∷ rest)
      ≡ window_lengths p 41 ++ (window_lengths p 20 ++ lengths_on p 9 rest)
  unfolding lengths_after lengths_on window_lengths both length_at ends units_at units_before units_after between lengths_from
      symbols_from pair_symbols symbol_after point
  rest_of_a1 rest = refl

  rest_of_c2
      : (b2 b1 : Bool) (rest : List Bit)
      → lengths_after p b2 b1 true true (O ∷ G ∷ O ∷ O ∷ I ∷ O ∷ rest)
      ≡ both p b2 b1 true true false false
      ++ (window_lengths p 57 ++ (window_lengths p 20 ++ (window_lengths p 41 ++ lengths_on p 0x1c2 rest)))
  unfolding lengths_after lengths_on window_lengths both length_at ends units_at units_before units_after between lengths_from
      symbols_from pair_symbols symbol_after point
  rest_of_c2 b2 b1 rest = refl

  of_a1 : Given p q 0x1a1
  unfolding written_bits is_mark mark_bits with_gaps byte_bits windows_left windows_lengths lengths_on last_bits
  of_a1 rest =
      rw (
        ← first_bits p q 0xa1 (omega arith),
        ← second_bits p q 0xa1 (omega arith),
        two_bits p (bit_at q 8) (bit_at q 4) (bit_at q 2) (bit_at q 1) true false,
        two_bits p (bit_at q 2) (bit_at q 1) true false true false,
        rest_of_a1 rest,
      )
      (simp append_assoc)

  of_c2 : Given p q 0x1c2
  unfolding written_bits is_mark mark_bits with_gaps byte_bits windows_left windows_lengths lengths_on last_bits
  of_c2 rest =
      rw (
        ← first_bits p q 0xc2 (omega arith),
        ← second_bits p q 0xc2 (omega arith),
        two_bits p (bit_at q 8) (bit_at q 4) (bit_at q 2) (bit_at q 1) true true,
        rest_of_c2 (bit_at q 2) (bit_at q 1) rest,
      )
      (simp append_assoc)

  pub of_byte : (w : ℕ) → is_byte w ≡ true → Given p q w
  of_byte w byte =
      ⊎_elim (of_data w) (λ mark.
      ⊎_elim (λ e. rw e of_a1) (λ e. rw e of_c2) (mark_is_a1_or_c2 w mark)) (byte_is_data_or_mark w byte)

  -- ---- the two closing 0s

  last_cell
      : (b2 b1 : Bool)
      → lengths_after p b2 b1 false false [] ≡ first_length p b2 b1 false false false false ∷ []
  unfolding lengths_after first_length length_at ends units_at units_before units_after between lengths_from symbols_from
      pair_symbols symbol_after point
  last_cell b2 true = refl
  last_cell b2 false = refl

  pub of_closing
      : lengths_on p q (O ∷ O ∷ [])
      ≡ window_lengths p (first_window q 0) ++ (by_bits (first_length p) (second_window q 0) ∷ [])
  unfolding lengths_on
  of_closing =
      let e5 : second_window q 0 / 32 % 2 ≡ q / 2 % 2 = omega arith in
      let e4 : second_window q 0 / 16 % 2 ≡ q / 1 % 2 = omega arith in
      let e3 : second_window q 0 / 8 % 2 ≡ 0 = omega arith in
      let e2 : second_window q 0 / 4 % 2 ≡ 0 = omega arith in
      let e1 : second_window q 0 / 2 % 2 ≡ 0 = omega arith in
      let e0 : second_window q 0 / 1 % 2 ≡ 0 = omega arith in
      two_bits p (bit_at q 8) (bit_at q 4) (bit_at q 2) (bit_at q 1) false false []
      ∙ ap₂ ◌++◌ (first_bits p q 0 (omega arith)) (last_cell (bit_at q 2) (bit_at q 1) ∙ rw (e5, e4, e3, e2, e1, e0))

-- ---- a list

-- the lead 0 counts as if a 0 stood before it: one length more than the list has
pub stream_behind_lead
    : (p : Profile) (ws : List ℕ) → drop 1 (lengths_on p 0 (all_bits ws ++ (O ∷ O ∷ []))) ≡ byte_stream p ws
unfolding lengths_on lengths_after units_before lengths_from symbols_from pair_symbols byte_stream lengths_of written_symbols
    symbols_of bits_of symbol_after
stream_behind_lead p ws = refl

-- ---- how many cells end, as a program has it: a bit for each window

counted : ℕ → ℕ
counted w = 1 + 0xc0cfc0cfc0cfc0cf / 2 ^ w % 2

all_are_counted : tabulated counted 0 64 ≡ tabulated cells_in 0 64
unfolding tabulated counted cells_in cells_at ends
all_are_counted = refl

pub cells_are_counted : (w : ℕ) → w < 64 → 1 + 0xc0cfc0cfc0cfc0cf / 2 ^ w % 2 ≡ cells_in w
unfolding counted
cells_are_counted w small =
    sym (entry_is_rule counted 64 w 0 small)
    ∙ ap (λ (l : List ℕ). get_or l w 0) all_are_counted
    ∙ entry_is_rule cells_in 64 w 0 small
