-- Document 01, "The strip program": decimals, as they are printed and as they are read. No lemmas here.
use Rattle.std.specs.Prelude.{Option, Some, None}
use Rattle.std.specs.Prelude.{ℕ, zero, suc, ◌+◌, ◌-◌, ◌*◌, ◌/◌, ◌%◌, Bool, true, false, cond, not, ◌&&◌, List, [], ◌∷◌, ◌++◌, eqb, leb, ltb}
use Rattle.lists.specs.Place.{everywhere}

-- the character of a digit, 0 to 9
abbrev pub digit : ℕ → ℕ
digit d = 48 + d

-- the digits of a number, without leading zeros: its last digit after those of the number without it. A number has no
-- more digits than `most`
unfoldable pub digits_of : ℕ → ℕ → List ℕ
digits_of zero n = digit n ∷ []
digits_of (suc most) n =
    cond (ltb n 10) (digit n ∷ []) (digits_of most (n / 10) ++ (digit (n % 10) ∷ []))

-- a number as a decimal, zero as 0
unfoldable pub decimal : ℕ → List ℕ
decimal n = digits_of n n

-- a character 0 to 9
abbrev pub is_digit : ℕ → Bool
is_digit b = leb 48 b && leb b 57

-- one digit or more, the first of several not being 0
unfoldable pub no_leading_zero : List ℕ → Bool
no_leading_zero [] = false
no_leading_zero (d ∷ []) = true
no_leading_zero (d ∷ e ∷ ds) = not (eqb d (digit 0))

-- the number that digits are, after the digits of n
unfoldable pub value_from : ℕ → List ℕ → ℕ
value_from n [] = n
value_from n (d ∷ ds) = value_from (n * 10 + (d - digit 0)) ds

unfoldable pub value_of : List ℕ → ℕ
value_of ds = value_from 0 ds

-- digits of a number of at most 65,535
unfoldable pub is_short : List ℕ → Bool
is_short field = everywhere is_digit field && leb (value_of field) 65535

-- at most 65,535, no leading zero, zero itself as 0
unfoldable pub is_decimal : List ℕ → Bool
is_decimal field = no_leading_zero field && is_short field

-- what digits are as a number
unfoldable pub digits_read : List ℕ → Option ℕ
digits_read field = cond (is_short field) (Some (value_of field)) None

-- what a field is as a decimal
unfoldable pub decimal_read : List ℕ → Option ℕ
decimal_read field = cond (is_decimal field) (Some (value_of field)) None
