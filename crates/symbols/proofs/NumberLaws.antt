-- Half cells as a number, most significant first: a part of the list is a part of the digits.
use Rattle.std.proofs.Common.{◌≡◌, ℕ, ◌+◌, ◌*◌, ◌/◌, ◌%◌, ◌^◌, ◌<◌, List, [], ◌∷◌, ◌++◌, length, refl, ap, ◌∙◌, mul_assoc, add-mul, one-mul, arith}
use native.Mathlib.Nat.{pow-succ'}
use lib.Arith.{digits_div, digits_mod}
use lib.Count.{ones, ones_step}
use lib.Pow.{high, low, field, mod-pow-add, mod-mod-pow}
use Rattle.symbols.specs.Bits.{Bit, O, I, G, last_of}
use Rattle.symbols.specs.Bytes.{digit, number_from}
use Rattle.symbols.proofs.UnitLaws.{digit_is_small}
use Rattle.symbols.proofs.HalfCells.{cells_after, clock_after, data_of, ones_among}
use Rattle.symbols.proofs.HalfLaws.{cells_after_length}
use Rattle.symbols.proofs.WordLaws.{word_after}

pub number_append : (n : ℕ) (xs ys : List Bit) → number_from n (xs ++ ys) ≡ number_from (number_from n xs) ys
unfolding number_from
number_append n [] ys = refl
number_append n (x ∷ xs) ys = number_append (n * 2 + digit x) xs ys

number_below : (high n : ℕ) (bs : List Bit) → n < high → number_from n bs < high * 2 ^ length bs
unfolding number_from
number_below high n [] h = omega arith
number_below high n (b ∷ bs) h =
    rw (pow-succ' 2 (length bs), ← mul_assoc high 2 (2 ^ length bs))
    (number_below (high * 2) (n * 2 + digit b) bs (omega (arith, digit_is_small b)))

number_fits : (bs : List Bit) → number_from 0 bs < 2 ^ length bs
number_fits bs = rw (one-mul (2 ^ length bs)) at (number_below 1 0 bs (omega arith))

-- what stands before some digits counts above them
number_shifts : (n : ℕ) (bs : List Bit) → number_from n bs ≡ n * 2 ^ length bs + number_from 0 bs
unfolding number_from
number_shifts n [] = omega arith
number_shifts n (b ∷ bs) =
    let p = 2 ^ length bs in
    let up = number_shifts (n * 2 + digit b) bs in
    let down = number_shifts (0 * 2 + digit b) bs in
    let over : (n * 2 + digit b) * p ≡ n * (2 * p) + digit b * p =
    add-mul (n * 2) (digit b) p ∙ ap (λ (x : ℕ). x + digit b * p) (mul_assoc n 2 p) in
    let lone : (0 * 2 + digit b) * p ≡ digit b * p = ap (λ (x : ℕ). x * p) (omega arith) in
    rw (pow-succ' 2 (length bs)) (omega arith)

ones_of_digit : (n : ℕ) (b : Bit) → ones (n * 2 + digit b) ≡ digit b + ones n
ones_of_digit n b =
    let small : digit b < 2 = omega (arith, digit_is_small b) in
    rw (ones_step (n * 2 + digit b), digits_mod n small, digits_div n small)

pub ones_of_number : (n : ℕ) (bs : List Bit) → ones (number_from n bs) ≡ ones n + ones_among bs
unfolding number_from ones_among
ones_of_number n [] = omega arith
ones_of_number n (b ∷ bs) = omega (arith, ones_of_number (n * 2 + digit b) bs, ones_of_digit n b)

-- the last digits of a number
pub last_digits : (n : ℕ) (xs ys : List Bit) → number_from n (xs ++ ys) % 2 ^ length ys ≡ number_from 0 ys
last_digits n xs ys =
    rw (number_append n xs ys, number_shifts (number_from n xs) ys) (low (number_from n xs) (length ys) (number_fits ys))

digit_of_data : (b : Bit) → digit (data_of b) ≡ digit b
unfolding data_of
digit_of_data O = refl
digit_of_data I = refl
digit_of_data G = refl

pub last_digit_is_data :
    (n : ℕ) (b x : Bit) (xs : List Bit) → number_from n (cells_after b (x ∷ xs)) % 2 ≡ digit (last_of x xs)
unfolding cells_after number_from last_of
last_digit_is_data n b x [] =
    digits_mod (n * 2 + digit (clock_after b x)) (omega (arith, digit_is_small (data_of x))) ∙ digit_of_data x
last_digit_is_data n b x (y ∷ xs) = last_digit_is_data ((n * 2 + digit (clock_after b x)) * 2 + digit (data_of x)) x y xs

-- a word among the digits of a register: after a number that ends in its first data bit, before a tail
pub word_of_digits :
    (size n : ℕ) (a : Bit) (row tail : List Bit) (j : ℕ) → n % 2 ≡ digit a → length row ≡ 8
    → size ≡ j + 17 + length tail
    → number_from n (cells_after a row ++ tail) % 2 ^ size / 2 ^ length tail % 2 ^ 17 ≡ word_after a row
unfolding word_after
word_of_digits size n a row tail j e eight room =
    let t = length tail in
    let cells = cells_after a row in
    let w : ℕ = number_from n cells in
    let sixteen : length cells ≡ 16 = omega (arith, cells_after_length a row) in
    let small : number_from 0 cells < 2 ^ 16 = rw sixteen at (number_fits cells) in
    rw (
      room,
      field (number_from n (cells ++ tail)) (j + 17) t,
      number_append n cells tail,
      number_shifts w tail,
      high w t (number_fits tail),
      mod-mod-pow w j 17,
      mod-pow-add w 1 16,
      number_shifts n cells,
      number_shifts (digit a) cells,
      sixteen,
      high n 16 small,
      low n 16 small,
      e,
    )
