-- What a word of half cells says of its byte: one test, which antt computes over every letter and row of eight letters
-- after it in which gaps stand as reading gives them.
use Rattle.std.proofs.Common.{◌≡◌, ℕ, zero, suc, ◌+◌, ◌-◌, ◌*◌, ◌%◌, ◌^◌, Bool, true, false, not, ◌&&◌, ◌||◌, T, eqb, List, [], ◌∷◌, ◌++◌, length, take, refl, ap, arith, eqb→eq}
use mathlib.Core.Bool.{and-false}
use lib.Bits.{bit_and, bit_or, and_comm}
use lib.Count.{count_leading_zeros}
use Rattle.lists.specs.Place.{anywhere, lowest, passed}
use Rattle.half_cells.specs.machine.Candidate.{data_bits, candidate}
use Rattle.half_cells.specs.machine.Word.{missing, is_mark_word, misfits}
use Rattle.symbols.specs.Bits.{Bit, last_of}
use Rattle.symbols.specs.Bytes.{digit, number_from, is_gap, gap_in_place, strays_from, row_strays, item_of}
use Rattle.symbols.proofs.TestLaws.{held, parts}
use Rattle.symbols.proofs.RowLaws.{over_letters, over_letters_lem}
use Rattle.symbols.proofs.CellLaws.{follows, sound}
use Rattle.symbols.proofs.HalfCells.{clock_after, data_of, cells_after}

-- the half cells of a row as a word, and the tests of the letters whose gaps it shows: all but its last
unfoldable pub word_after : Bit → List Bit → ℕ
word_after a row = number_from (digit a) (cells_after a row)

unfoldable pub shown_tests : Bit → List Bit → List Bool
shown_tests a row = is_gap a ∷ take 7 (row_strays row)

same_bool : Bool → Bool → Bool
same_bool true b = b
same_bool false b = not b

-- the clock bits that are left out, the shorter number first, whose digits are the ones that antt goes through
shown_missing : ℕ → ℕ
shown_missing x = bit_and 0x15554 ((2 ^ 32 - 1) - bit_or (bit_or x (x * 2 ^ 1 % 2 ^ 32)) (x * 2 ^ 2 % 2 ^ 32))

right_with : ℕ → Bit → List Bit → Bool
right_with gaps a row =
    let x = word_after a row in
    let tests = shown_tests a row in
    let stray = not (eqb gaps 0) && not (is_mark_word x) in
    same_bool (anywhere passed tests) stray && (not stray || eqb (count_leading_zeros 32 gaps) (15 + 2 * lowest passed tests))
    && (stray || is_gap (last_of a row) || eqb (item_of row) (candidate (x % 65536)))

word_right : Bit → List Bit → Bool
word_right a row = let gaps = shown_missing (word_after a row) in right_with gaps a row

-- a test of every row of n letters that can follow one
over_next : Bit → (Bit → Bool) → Bool
over_next a f = over_letters λ b. elim (follows a b) [ true ↦ f b | false ↦ true ]

over_rows : ℕ → Bit → (List Bit → Bool) → Bool
over_rows zero a f = f []
over_rows (suc n) a f = over_next a λ b. over_rows n b λ row. f (b ∷ row)

all_words_right : T (over_letters λ a. over_rows 8 a (word_right a))
unfolding over_letters over_rows over_next follows word_right right_with shown_missing same_bool word_after shown_tests
    cells_after clock_after data_of number_from last_of candidate data_bits item_of anywhere lowest row_strays strays_from
    gap_in_place count_leading_zeros
all_words_right = tt

-- What it says of each row

over_next_lem : (a : Bit) (f : Bit → Bool) → T (over_next a f) → (b : Bit) → T (follows a b) → T (f b)
unfolding over_next
over_next_lem a f t b s = rw (held (follows a b) s) at (over_letters_lem _ t b)

over_rows_lem :
    (n : ℕ) (a : Bit) (f : List Bit → Bool) → T (over_rows n a f) → (row : List Bit) → length row ≡ n → T (sound a row)
    → T (f row)
unfolding over_rows sound
over_rows_lem zero a f t [] n s = t
over_rows_lem zero a f t (b ∷ row) n s = absurd (omega arith)
over_rows_lem (suc k) a f t [] n s = absurd (omega arith)
over_rows_lem (suc k) a f t (b ∷ row) n s =
    over_rows_lem k b (λ row. f (b ∷ row)) (over_next_lem a (λ b. over_rows k b λ row. f (b ∷ row)) t b (search parts)) row
    (omega arith) (search parts)

pub record Verdict (a : Bit) (row : List Bit) (x : ℕ) : Type 0 where
  pub stray : anywhere passed (shown_tests a row) ≡ misfits x
  pub place : misfits x ≡ true → count_leading_zeros 32 (missing x) ≡ 15 + 2 * lowest passed (shown_tests a row)
  pub item : misfits x ≡ false → is_gap (last_of a row) ≡ false → item_of row ≡ candidate (x % 65536)

same_bool_lem : (a b : Bool) → T (same_bool a b) → a ≡ b
unfolding same_bool
same_bool_lem true true t = refl
same_bool_lem true false t = absurd t
same_bool_lem false true t = absurd t
same_bool_lem false false t = refl

right_with_missing :
    (a : Bit) (row : List Bit) → length row ≡ 8 → T (sound a row) → T (right_with (missing (word_after a row)) a row)
unfolding word_right missing shown_missing
right_with_missing a row n s =
    rw (and_comm _ 0x15554)
    (over_rows_lem 8 a (word_right a) (over_letters_lem (λ a. over_rows 8 a (word_right a)) all_words_right a) row n s)

pub word_verdict : (a : Bit) (row : List Bit) → length row ≡ 8 → T (sound a row) → Verdict a row (word_after a row)
unfolding right_with misfits
word_verdict a row n s =
    let t = right_with_missing a row n s in
    record {
      stray = same_bool_lem _ _ (search parts);
      place = λ h. eqb→eq _ _ (search (parts, rw h at t));
      item = λ h k. eqb→eq _ _ (search (parts, rw (h, k) at t));
    }

-- the tests that are not shown: on the last letter of a row every gap is out of place
not_at_the_end : (byte : ℕ) (t : Bool) → (t && not (gap_in_place byte 7)) ≡ t
unfolding gap_in_place
not_at_the_end byte true = rw (and-false (eqb byte 0xa1), and-false (eqb byte 0xc2))
not_at_the_end byte false = refl

strays_end :
    (byte k : ℕ) (a b : Bit) (bs : List Bit) → k + length bs ≡ 7
    → strays_from byte k (b ∷ bs) ≡ take (length bs) (strays_from byte k (b ∷ bs)) ++ (is_gap (last_of a (b ∷ bs)) ∷ [])
unfolding strays_from last_of
strays_end byte k a b [] n =
    let e : k ≡ 7 = omega arith in rw (e, not_at_the_end byte (is_gap b))
strays_end byte k a b (c ∷ bs) n =
    ap (◌∷◌ (is_gap b && not (gap_in_place byte k))) (strays_end byte (suc k) b c bs (omega arith))

pub row_strays_end :
    (a : Bit) (row : List Bit) → length row ≡ 8
    → is_gap a ∷ row_strays row ≡ shown_tests a row ++ (is_gap (last_of a row) ∷ [])
unfolding row_strays shown_tests
row_strays_end a [] n = absurd (omega arith)
row_strays_end a (b ∷ bs) n =
    let e : length bs ≡ 7 = omega arith in
    ap (◌∷◌ (is_gap a)) (rw e at (strays_end (number_from 0 (b ∷ bs)) 0 a b bs (omega arith)))
