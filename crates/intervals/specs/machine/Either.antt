-- Machine, not meaning: laws tie it to the units of `timing` (`proofs/EitherLaws`). No lemmas here.
-- What is the same of an interval after either kind.
use Rattle.std.specs.Prelude.{ℕ, ◌+◌, Bool, true, cond, ◌==◌, nat_le}
use mir.Val.{bool_byte}
use Rattle.timing.specs.Class.{class_in, is_two, behind}
use Rattle.timing.specs.declared.Bounds.{Bounds}
use Rattle.timing.specs.declared.cursor.Cursor.{Cursor}

-- the units of an interval by given bounds
unfoldable pub units_by : Bounds → ℕ → ℕ
units_by b d = 2 + bool_byte (nat_le b.b23.0 d) + bool_byte (nat_le b.b34.0 d)

-- whether two bounds stand on the same side of it
abbrev pub one_side : ℕ → ℕ → ℕ → Bool
one_side a b d = bool_byte (nat_le a d) == bool_byte (nat_le b d)

-- whether the two B23 do: it is then of class 2 after either kind, or after none
unfoldable pub is_sure : Bounds → Bounds → ℕ → Bool
is_sure s l d = one_side s.b23.0 l.b23.0 d

-- all ones for an interval of class 2, none for any other
unfoldable pub mask_of : Bool → ℕ
mask_of two = cond two 65535 0

-- of an interval, as behind one of class 2
unfoldable pub kind_mask : Cursor → ℕ → ℕ
kind_mask c d = mask_of (is_two (class_in (behind c true) d))
