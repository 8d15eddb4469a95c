-- Laws of items: each follows from the tests that the definitions make, in their order.
use Prim.Native.Nat.{ℕ, zero, suc, ◌+◌, ◌*◌, ◌<◌, ◌≤◌}
use mathlib.Core.Path.{◌≡◌, refl, sym, ap, ◌∙◌}
use mathlib.Core.Bool.{Bool, true, false, cond, ◌||◌, or-false, false≢true}
use mathlib.Core.List.{List, [], ◌∷◌, ◌++◌}
use mathlib.Core.Logic.{◌⊎◌, inl, inr, ⊎_map}
use native.Mathlib.Nat.{add-zero}
use native.Mathlib.Numerals.{add-one}
use native.Mathlib.Omega.{arith}
use borrow.Author.Tests.{ltb-true, eqb-true, lt-ltb, ne_eqb, not-false}
use lib.Dec.{ltb, eqb}
use lib.ListN.{length, get_or, take, drop, drop_of_length-le, take-append-drop}
use lib.Seq.{drop-cons, drop-drop}
use Rattle.lists.specs.Place.{anywhere, everywhere, lowest}
use Rattle.lists.proofs.PlaceLaws.{everywhere_of_none, everywhere_of_passing, everywhere_is_nowhere_else}
use Rattle.lists.proofs.PlaceLaws.{lowest_from_failing_is_further}
use Rattle.lists.proofs.PlaceLaws.{anywhere_of_none, anywhere_of_failing, nowhere_fails_at_first, nowhere_in_rest}
use Rattle.items.specs.Item.{is_mark, is_byte, is_check, is_item, is_foreign, bytes_of, written_bytes}

either : (a b : Bool) → (a || b) ≡ true → (a ≡ true) ⊎ (b ≡ true)
either true b e = inl refl
either false b e = inr e

-- ---- one number

pub check_or_not : (n : ℕ) → (is_check n ≡ true) ⊎ (is_check n ≡ false)
check_or_not n = elim (is_check n) as (λ t. (t ≡ true) ⊎ (t ≡ false)) [ true ↦ inl refl | false ↦ inr refl ]

pub data_is_no_mark : (n : ℕ) → n < 256 → is_mark n ≡ false
unfolding is_mark
data_is_no_mark n h = rw (ne_eqb n 417 (λ e. omega arith), ne_eqb n 450 (λ e. omega arith))

pub data_is_byte : (n : ℕ) → n < 256 → is_byte n ≡ true
unfolding is_byte
data_is_byte n h = rw (lt-ltb n 256 h)

pub mark_is_a1_or_c2 : (n : ℕ) → is_mark n ≡ true → (n ≡ 0x1a1) ⊎ (n ≡ 0x1c2)
unfolding is_mark
mark_is_a1_or_c2 n e = ⊎_map (eqb-true n 0x1a1) (eqb-true n 0x1c2) (either (eqb n 0x1a1) (eqb n 0x1c2) e)

pub byte_is_data_or_mark : (n : ℕ) → is_byte n ≡ true → (n < 256) ⊎ (is_mark n ≡ true)
unfolding is_byte
byte_is_data_or_mark n e = ⊎_map (ltb-true n 256) (λ m. m) (either (ltb n 256) (is_mark n) e)

pub byte_is_no_check : (n : ℕ) → is_byte n ≡ true → is_check n ≡ false
unfolding is_check is_byte is_mark
byte_is_no_check n e = ne_eqb n 512 (λ q. false≢true (rw q at e))

pub below_512_is_no_check : (n : ℕ) → n < 512 → is_check n ≡ false
unfolding is_check
below_512_is_no_check n h = ne_eqb n 512 (λ e. omega arith)

pub item_but_no_check_is_byte : (n : ℕ) → is_item n ≡ true → is_check n ≡ false → is_byte n ≡ true
unfolding is_item
item_but_no_check_is_byte n e f = sym (or-false (is_byte n)) ∙ (rw f at e)

pub item_is_not_foreign : (n : ℕ) → is_item n ≡ true → is_foreign n ≡ false
unfolding is_foreign
item_is_not_foreign n e = rw e

pub not_foreign_is_item : (n : ℕ) → is_foreign n ≡ false → is_item n ≡ true
unfolding is_foreign
not_foreign_is_item n e = not-false (is_item n) e

-- ---- a list

pub bytes_are_items : (ns : List ℕ) → everywhere is_byte ns ≡ true → anywhere is_foreign ns ≡ false
unfolding is_foreign is_item
bytes_are_items = everywhere_is_nowhere_else is_byte is_foreign (λ n e. rw e)

pub bytes_have_no_check : (ns : List ℕ) → everywhere is_byte ns ≡ true → anywhere is_check ns ≡ false
bytes_have_no_check = everywhere_is_nowhere_else is_byte is_check byte_is_no_check

pub items_but_no_check_are_bytes : (ns : List ℕ) → anywhere is_foreign ns ≡ false → anywhere is_check ns ≡ false
    → everywhere is_byte ns ≡ true
items_but_no_check_are_bytes [] e f = everywhere_of_none is_byte
items_but_no_check_are_bytes (n ∷ ns) e f =
    let item = not_foreign_is_item n (nowhere_fails_at_first is_foreign n ns e) in
    everywhere_of_passing is_byte n ns (item_but_no_check_is_byte n item (nowhere_fails_at_first is_check n ns f))
    ∙ items_but_no_check_are_bytes ns (nowhere_in_rest is_foreign n ns e) (nowhere_in_rest is_check n ns f)

-- ---- counting

pub bytes_of_others_is_1 : (n : ℕ) → is_check n ≡ false → bytes_of n ≡ 1
unfolding bytes_of
bytes_of_others_is_1 n e = rw e

one_byte_is_no_check : (t : Bool) → cond t 2 1 ≤ 1 → t ≡ false
one_byte_is_no_check true h = absurd (omega arith)
one_byte_is_no_check false h = refl

pub bytes_of_bounds : (n : ℕ) → (1 ≤ bytes_of n) × (bytes_of n ≤ 2)
unfolding bytes_of
bytes_of_bounds n =
    elim (is_check n) as (λ t. (1 ≤ cond t 2 1) × (cond t 2 1 ≤ 2)) [ true ↦ omega arith | false ↦ omega arith ]

-- between one for each and two for each
pub written_bytes_bounds : (ns : List ℕ) → (length ns ≤ written_bytes ns) × (written_bytes ns ≤ 2 * length ns)
unfolding written_bytes
written_bytes_bounds [] = omega arith
written_bytes_bounds (n ∷ ns) =
    let one = bytes_of_bounds n in
    let rest = written_bytes_bounds ns in
    omega arith

pub written_bytes-append : (ms ns : List ℕ) → written_bytes (ms ++ ns) ≡ written_bytes ms + written_bytes ns
unfolding written_bytes
written_bytes-append [] ns = omega arith
written_bytes-append (m ∷ ms) ns = rw (written_bytes-append ms ns) (omega arith)

-- a list that writes no more bytes than it has numbers
pub one_byte_each_is_no_check : (ns : List ℕ) → written_bytes ns ≡ length ns → anywhere is_check ns ≡ false
unfolding written_bytes bytes_of
one_byte_each_is_no_check [] e = anywhere_of_none is_check
one_byte_each_is_no_check (n ∷ ns) e =
    let one = bytes_of_bounds n in
    let rest = written_bytes_bounds ns in
    anywhere_of_failing is_check n ns (one_byte_is_no_check (is_check n) (omega arith))
    ∙ one_byte_each_is_no_check ns (omega arith)

-- from place k on
pub written_bytes_from : (ns : List ℕ) (k : ℕ) → k < length ns
    → written_bytes (drop k ns) ≡ bytes_of (get_or ns k 0) + written_bytes (drop (k + 1) ns)
unfolding written_bytes
written_bytes_from ns k h = rw (add-one, drop-cons ns k 0)

-- so many numbers from place k on, and the rest
pub written_bytes_of_part : (ns : List ℕ) (k n : ℕ)
    → written_bytes (take n (drop k ns)) + written_bytes (drop (k + n) ns) ≡ written_bytes (drop k ns)
written_bytes_of_part ns k n =
    rw (← drop-drop n k ns)
    (sym (written_bytes-append (take n (drop k ns)) (drop n (drop k ns)))
    ∙ ap written_bytes (take-append-drop n (drop k ns)))

pub written_bytes_from_end : (ns : List ℕ) (k : ℕ) → length ns ≤ k → written_bytes (drop k ns) ≡ 0
unfolding written_bytes
written_bytes_from_end ns k h = rw (drop_of_length-le ns h)

pub check_is_further : (ns : List ℕ) (n k : ℕ) → k + n ≤ length ns
    → ((i : ℕ) → i < n → is_check (get_or ns (k + i) 0) ≡ false)
    → k + n + lowest is_check (drop (k + n) ns) ≡ k + lowest is_check (drop k ns)
check_is_further ns zero k h none = rw (add-zero k)
check_is_further ns (suc n) k h none =
    let place : k + n + 1 ≡ k + suc n = omega arith in
    let further = lowest_from_failing_is_further is_check ns 0 (k + n) (omega arith) (none n (omega arith)) in
    sym (rw place at further) ∙ check_is_further ns n k (omega arith) (λ i l. none i (omega arith))
