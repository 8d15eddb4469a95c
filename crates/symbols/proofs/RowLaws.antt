-- A written byte and the row of eight letters that it is written as determine each other. Both directions are one
-- test each, which antt computes: over the 256 data bytes and the two marks, and over all rows of eight letters.
use Rattle.std.proofs.Common.{◌≡◌, ℕ, zero, suc, ◌<◌, Bool, true, false, not, ◌&&◌, ◌||◌, T, eqb, ltb, List, [], ◌∷◌, refl, arith, eqb→eq, ltb→lt}
use native.Mathlib.Decide.{dec_lt}
use Rattle.lists.specs.Place.{anywhere, passed}
use Rattle.items.specs.Item.{is_mark, is_byte}
use Rattle.symbols.specs.Bits.{Bit, O, I, G, byte_bits, mark_bits, with_gaps, written_bits, is_one}
use Rattle.symbols.specs.Bytes.{number_from, gap_in_place, strays_from, row_strays, item_of, is_gap}
use Rattle.symbols.proofs.TestLaws.{either_of, fails, right_of, parts}

-- Tests

unfoldable pub same_bit : Bit → Bit → Bool
same_bit O y = not (is_one y || is_gap y)
same_bit I y = is_one y
same_bit G y = is_gap y

unfoldable pub same_bits : List Bit → List Bit → Bool
same_bits [] [] = true
same_bits [] (y ∷ ys) = false
same_bits (x ∷ xs) [] = false
same_bits (x ∷ xs) (y ∷ ys) = same_bit x y && same_bits xs ys

pub same_bit_lem : (x y : Bit) → T (same_bit x y) → x ≡ y
unfolding same_bit
same_bit_lem O O t = refl
same_bit_lem O I t = absurd t
same_bit_lem O G t = absurd t
same_bit_lem I O t = absurd t
same_bit_lem I I t = refl
same_bit_lem I G t = absurd t
same_bit_lem G O t = absurd t
same_bit_lem G I t = absurd t
same_bit_lem G G t = refl

pub same_bits_lem : (xs ys : List Bit) → T (same_bits xs ys) → xs ≡ ys
unfolding same_bits
same_bits_lem [] [] t = refl
same_bits_lem [] (y ∷ ys) t = absurd t
same_bits_lem (x ∷ xs) [] t = absurd t
same_bits_lem (x ∷ xs) (y ∷ ys) t =
    let p = same_bit_lem x y (search parts) in
    let q = same_bits_lem xs ys (search parts) in
    cc

-- From a byte to its row and back

-- a test of every data byte and both marks
unfoldable pub passes_below : (ℕ → Bool) → ℕ → Bool
passes_below f zero = true
passes_below f (suc n) = f n && passes_below f n

unfoldable pub over_bytes : (ℕ → Bool) → Bool
over_bytes f = passes_below f 256 && f 0x1a1 && f 0x1c2

-- reading the row of w gives w, with no gap out of place
byte_kept : ℕ → Bool
byte_kept w = eqb (item_of (written_bits w)) w && not (anywhere passed (row_strays (written_bits w)))

all_bytes_kept : T (over_bytes byte_kept)
unfolding over_bytes passes_below byte_kept item_of anywhere row_strays strays_from gap_in_place number_from written_bits is_mark
    mark_bits with_gaps byte_bits
all_bytes_kept = tt

-- From a row to its byte and back

unfoldable pub over_letters : (Bit → Bool) → Bool
over_letters f = f O && f I && f G

-- a row without a gap out of place is the row of the byte that it reads as
row_kept : List Bit → Bool
row_kept row =
    anywhere passed (row_strays row) || (is_byte (item_of row) && same_bits (written_bits (item_of row)) row)

all_rows_kept :
    T (over_letters λ a. over_letters λ b. over_letters λ c. over_letters λ d.
    over_letters λ e. over_letters λ f. over_letters λ g. over_letters λ h.
    row_kept (a ∷ b ∷ c ∷ d ∷ e ∷ f ∷ g ∷ h ∷ []))
unfolding over_letters row_kept same_bits same_bit item_of anywhere row_strays strays_from gap_in_place number_from is_byte
    written_bits is_mark mark_bits with_gaps byte_bits
all_rows_kept = tt

-- What the two tests say of each byte and of each row

below : (f : ℕ → Bool) (n k : ℕ) → T (passes_below f n) → k < n → T (f k)
unfolding passes_below
below f zero k t h = absurd (omega arith)
below f (suc n) k t h =
    elim (dec_lt k n) [
      | yes l ↦ below f n k (search parts) l
      | no l ↦ let e : k ≡ n = omega arith in rw e (search parts)
    ]

pub over_bytes_lem : (f : ℕ → Bool) → T (over_bytes f) → (w : ℕ) → T (is_byte w) → T (f w)
unfolding over_bytes is_byte is_mark
over_bytes_lem f t w b =
    either_of (ltb w 256) (is_mark w) b (λ l. below f 256 w (search parts) (ltb→lt w 256 l))
    (λ m. either_of (eqb w 0x1a1) (eqb w 0x1c2) m (λ e. rw (eqb→eq w 0x1a1 e) (search parts))
    (λ e. rw (eqb→eq w 0x1c2 e) (search parts)))

pub over_letters_lem : (f : Bit → Bool) → T (over_letters f) → (b : Bit) → T (f b)
unfolding over_letters
over_letters_lem f t O = search parts
over_letters_lem f t I = search parts
over_letters_lem f t G = search parts

-- The laws

pub item_of_written_byte : (w : ℕ) → T (is_byte w) → item_of (written_bits w) ≡ w
unfolding byte_kept
item_of_written_byte w t = eqb→eq _ _ (search (parts, over_bytes_lem byte_kept all_bytes_kept w t))

pub written_byte_has_no_stray : (w : ℕ) → T (is_byte w) → anywhere passed (row_strays (written_bits w)) ≡ false
unfolding byte_kept
written_byte_has_no_stray w t = fails _ (search (parts, over_bytes_lem byte_kept all_bytes_kept w t))

module _ (a b c d e f g h : Bit) where
  abbrev pub row : List Bit
  row = a ∷ b ∷ c ∷ d ∷ e ∷ f ∷ g ∷ h ∷ []

  row_kept_lem : T (row_kept row)
  row_kept_lem =
      over_letters_lem _ (over_letters_lem _ (over_letters_lem _ (over_letters_lem _
      (over_letters_lem _ (over_letters_lem _ (over_letters_lem _ (over_letters_lem _
      all_rows_kept a) b) c) d) e) f) g) h

  module _ (fair : anywhere passed (row_strays row) ≡ false) where
    kept : T (is_byte (item_of row) && same_bits (written_bits (item_of row)) row)
    unfolding row_kept
    kept = rw fair at row_kept_lem

    pub row_is_a_byte : T (is_byte (item_of row))
    row_is_a_byte = search (parts, kept)

    pub written_of_row : written_bits (item_of row) ≡ row
    written_of_row = same_bits_lem _ _ (right_of (is_byte (item_of row)) _ kept)
