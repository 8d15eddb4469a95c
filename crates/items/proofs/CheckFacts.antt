-- What the register is known to give: by computation where the list is fixed, by the laws where it holds of every list.
use Prim.Native.Nat.{ℕ}
use mathlib.Core.Path.{◌≡◌, refl, sym, ap, ◌∙◌}
use mathlib.Core.List.{List, [], ◌∷◌, ◌++◌, append_assoc}
use Rattle.items.specs.Item.{is_mark, is_check}
use Rattle.register.specs.Register.{fed, shifted_by, shifted}
use Rattle.items.specs.Written.{fresh_check, before_mark, after_mark, after_data, after_byte, after_bytes, check_bytes}
use Rattle.items.specs.Written.{item_bytes, written_from, written}
use Rattle.items.specs.declared.Check.{Check}
use Rattle.items.proofs.CheckLaws.{unmarked, fresh_bound, crc_of_check_bytes_is_zero}
use Rattle.items.proofs.WrittenLaws.{written_from-append}

-- ---- fixed lists

-- the mark bytes at the head of a field
pub three_marks_a1_give_cdb4 : (after_bytes fresh_check (0x1a1 ∷ 0x1a1 ∷ 0x1a1 ∷ [])).register ≡ 0xcdb4
unfolding after_bytes after_byte after_mark after_data before_mark is_mark fed shifted_by shifted
three_marks_a1_give_cdb4 = refl

-- the published check value of this polynomial and start: the digits 1 to 9 as ASCII
pub crc_of_nine_digits_is_29b1 :
    (after_bytes fresh_check (0x31 ∷ 0x32 ∷ 0x33 ∷ 0x34 ∷ 0x35 ∷ 0x36 ∷ 0x37 ∷ 0x38 ∷ 0x39 ∷ [])).register ≡ 0x29b1
unfolding after_bytes after_byte after_mark after_data before_mark is_mark fed shifted_by shifted
crc_of_nine_digits_is_29b1 = refl

pub check_order_alone_writes_ff_ff : written (512 ∷ []) ≡ 0xff ∷ 0xff ∷ []
unfolding written written_from item_bytes is_check
check_order_alone_writes_ff_ff = refl

-- ---- every list

-- a list that ends in a check order
pub written_from_of_check_at_end : (c : Check) (ns : List ℕ)
    → written_from c (ns ++ (512 ∷ [])) ≡ written_from c ns ++ check_bytes (after_bytes c (written_from c ns))
unfolding written_from item_bytes is_check
written_from_of_check_at_end c ns = written_from-append c ns (512 ∷ [])

written_of_check_at_end : (ns : List ℕ)
    → written (ns ++ (512 ∷ [])) ≡ written ns ++ check_bytes (after_bytes fresh_check (written ns))
unfolding written
written_of_check_at_end ns = written_from_of_check_at_end fresh_check ns

pub register_after_check_order_is_zero : (ns : List ℕ) → after_bytes fresh_check (written (ns ++ (512 ∷ []))) ≡ unmarked 0
register_after_check_order_is_zero ns =
    ap (after_bytes fresh_check) (written_of_check_at_end ns)
    ∙ crc_of_check_bytes_is_zero fresh_check (written ns) fresh_bound

pub second_check_order_running_writes_zeros : (ns : List ℕ)
    → written (ns ++ (512 ∷ 512 ∷ [])) ≡ written (ns ++ (512 ∷ [])) ++ (0 ∷ 0 ∷ [])
second_check_order_running_writes_zeros ns =
    ap written (sym (append_assoc ns (512 ∷ []) (512 ∷ [])))
    ∙ written_of_check_at_end (ns ++ (512 ∷ []))
    ∙ ap (λ (c : Check). written (ns ++ (512 ∷ [])) ++ check_bytes c) (register_after_check_order_is_zero ns)
