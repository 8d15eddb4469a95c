-- Document 01, "Items and the check register": the written bytes of a list, and the register after it. No lemmas here.
-- A written byte is a number: 0 to 255 a data byte, or 256 plus A1 or C2 a mark byte, whose byte is the rest modulo
-- 256.
use Rattle.std.specs.Prelude.{ℕ, ◌%◌, true, false, cond, List, [], ◌∷◌, ◌++◌}
use Rattle.items.specs.Item.{is_mark, is_check}
use Rattle.register.specs.Register.{all_ones, fed, high_byte, low_byte}
use Rattle.items.specs.declared.Check.{Check}

-- all ones at the start of a list
abbrev pub fresh_check : Check
fresh_check = record { register = all_ones; marked = false }

-- the register that a mark byte passes through: all ones again before one that does not follow a mark byte
unfoldable pub before_mark : Check → ℕ
before_mark c = cond c.marked c.register all_ones

-- the state after a mark byte, a data byte, a written byte
unfoldable pub after_mark : Check → ℕ → Check
after_mark c w = record { register = fed (before_mark c) (w % 256); marked = true }

unfoldable pub after_data : Check → ℕ → Check
after_data c w = record { register = fed c.register (w % 256); marked = false }

unfoldable pub after_byte : Check → ℕ → Check
after_byte c w = cond (is_mark w) (after_mark c w) (after_data c w)

-- the state after a list of written bytes
unfoldable pub after_bytes : Check → List ℕ → Check
after_bytes c [] = c
after_bytes c (w ∷ ws) = after_bytes (after_byte c w) ws

-- the two data bytes that a check order becomes: the register, high byte first
abbrev pub check_bytes : Check → List ℕ
check_bytes c = high_byte c.register ∷ low_byte c.register ∷ []

-- the written bytes of an item: a data or mark byte as it is, a check order as its two bytes
unfoldable pub item_bytes : Check → ℕ → List ℕ
item_bytes c n = cond (is_check n) (check_bytes c) (n ∷ [])

-- every written byte passes through, check bytes included
unfoldable pub after_check : Check → Check
after_check c = after_bytes c (check_bytes c)

unfoldable pub after_item : Check → ℕ → Check
after_item c n = after_bytes c (item_bytes c n)

-- the written bytes of a list of items, from a state on
unfoldable pub written_from : Check → List ℕ → List ℕ
written_from c [] = []
written_from c (n ∷ ns) = item_bytes c n ++ written_from (after_item c n) ns

unfoldable pub written : List ℕ → List ℕ
written ns = written_from fresh_check ns
