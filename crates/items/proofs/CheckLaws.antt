-- Laws of the register's state: it stays within 16 bits, and its own two bytes clear it.
use Prim.Native.Nat.{ℕ, zero, suc, ◌+◌, ◌%◌, ◌<◌, ◌≤◌}
use mathlib.Core.Path.{◌≡◌, refl, sym, ap, ap₂, ◌∙◌}
use mathlib.Core.Bool.{Bool, true, false, cond}
use mathlib.Core.List.{List, [], ◌∷◌, ◌++◌}
use native.Mathlib.Nat.{mod-eq_of_lt}
use native.Mathlib.Numerals.{add-one}
use native.Mathlib.Omega.{arith}
use lib.ListN.{length, get_or, drop, drop_of_length-le}
use lib.Seq.{drop-cons}
use Rattle.register.specs.Register.{all_ones, shifted, shifted_by, fed, high_byte, low_byte}
use Rattle.register.specs.machine.Bytes.{fed_bytes}
use Rattle.register.proofs.EightLaws.{fed_no_bytes, fed_bytes_and_one}
use Rattle.register.proofs.RegisterLaws.{fed_bound, fed_own_bytes_is_zero}
use Rattle.items.specs.Item.{is_mark}
use Rattle.items.specs.Written.{fresh_check, before_mark, after_mark, after_data, after_byte, after_bytes, check_bytes}
use Rattle.items.specs.Written.{item_bytes, after_check, after_item}
use Rattle.items.specs.machine.Lanes.{joined_at}
use Rattle.items.specs.declared.Check.{Check}
use Rattle.items.proofs.ItemLaws.{data_is_no_mark}

-- a state that no mark byte has made, as data bytes leave it
abbrev pub unmarked : ℕ → Check
unmarked r = record { register = r; marked = false }

-- ---- bounds

pub high_byte_bound : (r : ℕ) → r < 0x10000 → high_byte r < 256
high_byte_bound r h = omega arith

pub low_byte_bound : (r : ℕ) → low_byte r < 256
low_byte_bound r = omega arith

pub fresh_bound : fresh_check.register < 0x10000
fresh_bound = omega arith

pub after_byte_bound : (c : Check) (w : ℕ) → (after_byte c w).register < 0x10000
unfolding after_byte after_mark after_data
after_byte_bound c w =
    elim (is_mark w) as (λ t. (cond t (after_mark c w) (after_data c w)).register < 0x10000)
    [ true ↦ fed_bound (before_mark c) (w % 256) | false ↦ fed_bound c.register (w % 256) ]

pub after_bytes_bound : (c : Check) (ws : List ℕ) → c.register < 0x10000 → (after_bytes c ws).register < 0x10000
unfolding after_bytes
after_bytes_bound c [] h = h
after_bytes_bound c (w ∷ ws) h = after_bytes_bound (after_byte c w) ws (after_byte_bound c w)

pub after_item_bound : (c : Check) (n : ℕ) → c.register < 0x10000 → (after_item c n).register < 0x10000
unfolding after_item
after_item_bound c n h = after_bytes_bound c (item_bytes c n) h

-- ---- bytes one after the other

pub after_bytes-append : (c : Check) (xs ys : List ℕ) → after_bytes c (xs ++ ys) ≡ after_bytes (after_bytes c xs) ys
unfolding after_bytes
after_bytes-append c [] ys = refl
after_bytes-append c (x ∷ xs) ys = after_bytes-append (after_byte c x) xs ys

-- from place k on
pub after_bytes_from : (c : Check) (ws : List ℕ) (k : ℕ) → k < length ws
    → after_bytes c (drop k ws) ≡ after_bytes (after_byte c (get_or ws k 0)) (drop (k + 1) ws)
unfolding after_bytes
after_bytes_from c ws k h = rw (add-one, drop-cons ws k 0)

pub after_bytes_from_end : (c : Check) (ws : List ℕ) (k : ℕ) → length ws ≤ k → after_bytes c (drop k ws) ≡ c
unfolding after_bytes
after_bytes_from_end c ws k h = rw (drop_of_length-le ws h)

pub after_data_lem : (c : Check) (w : ℕ) → w < 256 → after_byte c w ≡ unmarked (fed c.register w)
unfolding after_byte after_data
after_data_lem c w h = rw (data_is_no_mark w h, mod-eq_of_lt h)

pub after_two_data_from :
    (c : Check) (ws : List ℕ) (k : ℕ) → k + 1 < length ws → get_or ws k 0 < 256 → get_or ws (k + 1) 0 < 256
    → after_bytes c (drop k ws)
    ≡ after_bytes (unmarked (fed (fed c.register (get_or ws k 0)) (get_or ws (k + 1) 0))) (drop (k + 2) ws)
after_two_data_from c ws k h high low =
    let second : k + 1 + 1 ≡ k + 2 = omega arith in
    rw (after_bytes_from c ws k (omega arith), after_data_lem, after_bytes_from, after_data_lem, second)

-- n + 1 of them, joined
pub after_joined_from
    : (c : Check) (ws : List ℕ) (n k : ℕ)
    → k + suc n ≤ length ws
    → ((i : ℕ) → i < suc n → get_or ws (k + i) 0 < 256)
    → after_bytes c (drop k ws)
    ≡ after_bytes (unmarked (fed_bytes (suc n) c.register (joined_at (suc n) ws k))) (drop (k + suc n) ws)
unfolding joined_at
after_joined_from c ws zero k h small =
    let w = get_or ws (k + 0) 0 in
    let here : k + 0 ≡ k = omega arith in
    let byte = rw here at (small 0 (omega arith)) in
    after_bytes_from c ws k (omega arith)
    ∙ ap (λ (s : Check). after_bytes s (drop (k + 1) ws)) (after_data_lem c (get_or ws k 0) byte
    ∙ ap unmarked (rw here (sym (fed_bytes_and_one 0 c.register 0 (get_or ws k 0) byte
    ∙ ap (λ (r : ℕ). fed r (get_or ws k 0)) (fed_no_bytes c.register 0)))))
after_joined_from c ws (suc n) k h small =
    let r : ℕ = fed_bytes (suc n) c.register (joined_at (suc n) ws k) in
    let w : ℕ = get_or ws (k + suc n) 0 in
    let byte : w < 256 = small (suc n) (omega arith) in
    let place : k + suc n + 1 ≡ k + suc (suc n) = omega arith in
    after_joined_from c ws n k (omega arith) (λ i l. small i (omega arith))
    ∙ after_bytes_from (unmarked r) ws (k + suc n) (omega arith)
    ∙ ap₂ (λ (s : Check) (i : ℕ). after_bytes s (drop i ws)) (after_data_lem (unmarked r) w byte
    ∙ ap unmarked (sym (fed_bytes_and_one (suc n) c.register (joined_at (suc n) ws k) w byte))) place

-- ---- marks

-- no mark is running after a data byte
pub unmarked_after_data : (c : Check) (ws : List ℕ) (w : ℕ) → w < 256 → (after_bytes c (ws ++ (w ∷ []))).marked ≡ false
unfolding after_bytes
unmarked_after_data c ws w h = cc (after_bytes-append c ws (w ∷ []), after_data_lem (after_bytes c ws) w h)

-- so the register of the mark bytes that follow is that of a list of their own
pub mark_starts_again : (c : Check) (w : ℕ) (ws : List ℕ) → is_mark w ≡ true → c.marked ≡ false
    → after_bytes c (w ∷ ws) ≡ after_bytes fresh_check (w ∷ ws)
unfolding after_bytes after_byte after_mark before_mark
mark_starts_again c w ws mark unmarked = rw (mark, unmarked)

-- the state after three marks A1, whatever came before
abbrev pub after_marks : Check
after_marks = record { register = 0xcdb4; marked = true }

three_fresh_marks : after_byte (after_byte (after_byte fresh_check 0x1a1) 0x1a1) 0x1a1 ≡ after_marks
unfolding after_byte after_mark after_data before_mark is_mark fed shifted_by shifted
three_fresh_marks = refl

first_mark : (c : Check) → c.marked ≡ false → after_byte c 0x1a1 ≡ after_byte fresh_check 0x1a1
unfolding after_byte after_mark before_mark is_mark
first_mark c unmarked =
    ap (λ (t : Bool). record { register = fed (cond t c.register all_ones) (0x1a1 % 256); marked = true }) unmarked

pub after_three_marks_from
    : (c : Check) (ws : List ℕ) (k : ℕ)
    → k + 3 ≤ length ws
    → c.marked ≡ false
    → (get_or ws k 0 ≡ 0x1a1) × (get_or ws (k + 1) 0 ≡ 0x1a1) × (get_or ws (k + 2) 0 ≡ 0x1a1)
    → after_bytes after_marks (drop (k + 3) ws) ≡ after_bytes c (drop k ws)
after_three_marks_from c ws k h unmarked (first, second, third) =
    let one : k + 1 + 1 ≡ k + 2 = omega arith in
    let two : k + 2 + 1 ≡ k + 3 = omega arith in
    let a = after_byte c 0x1a1 in
    let b = after_byte a 0x1a1 in
    sym (after_bytes_from c ws k (omega arith)
    ∙ ap (λ (w : ℕ). after_bytes (after_byte c w) (drop (k + 1) ws)) first
    ∙ after_bytes_from a ws (k + 1) (omega arith)
    ∙ ap₂ (λ (w i : ℕ). after_bytes (after_byte a w) (drop i ws)) second one
    ∙ after_bytes_from b ws (k + 2) (omega arith)
    ∙ ap₂ (λ (w i : ℕ). after_bytes (after_byte b w) (drop i ws)) third two
    ∙ ap (λ (s : Check). after_bytes s (drop (k + 3) ws))
    (ap (λ (s : Check). after_byte (after_byte s 0x1a1) 0x1a1) (first_mark c unmarked) ∙ three_fresh_marks))

-- ---- check bytes

pub after_check_is_zero : (c : Check) → c.register < 0x10000 → after_check c ≡ unmarked 0
unfolding after_check after_bytes
after_check_is_zero c h =
    let high = high_byte_bound c.register h in
    let low = low_byte_bound c.register in
    rw (after_data_lem, after_data_lem, fed_own_bytes_is_zero c.register h)

-- for every list: the two bytes of its own register after it leave 0
pub crc_of_check_bytes_is_zero : (c : Check) (ws : List ℕ) → c.register < 0x10000
    → after_bytes c (ws ++ check_bytes (after_bytes c ws)) ≡ unmarked 0
unfolding after_check
crc_of_check_bytes_is_zero c ws h =
    after_bytes-append c ws (check_bytes (after_bytes c ws))
    ∙ after_check_is_zero (after_bytes c ws) (after_bytes_bound c ws h)
