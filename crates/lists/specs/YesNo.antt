-- A yes or no as a number. No lemmas here.
use Rattle.std.specs.Prelude.{ℕ, Bool, true, false}

abbrev pub as_number : Bool → ℕ
as_number true = 1
as_number false = 0
