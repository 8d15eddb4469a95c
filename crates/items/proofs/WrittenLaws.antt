-- Laws of written bytes: by induction on the items, the register's state going along.
use Prim.Native.Nat.{ℕ, ◌+◌, ◌-◌, ◌<◌, ◌≤◌}
use mathlib.Core.Path.{◌≡◌, refl, sym, ap, ap₂, ◌∙◌}
use mathlib.Core.Bool.{true, false, cond, ◌&&◌}
use mathlib.Core.List.{List, [], ◌∷◌, ◌++◌, append_assoc}
use mathlib.Core.Logic.{⊎_elim}
use native.Mathlib.Omega.{arith}
use lib.ListN.{length, take, drop, length-append, take-append-drop, drop_of_length-le}
use lib.Seq.{drop-drop}
use Rattle.lists.specs.Place.{anywhere, everywhere}
use Rattle.lists.proofs.PlaceLaws.{everywhere_of_none, everywhere_of_passing, everywhere-append}
use Rattle.lists.proofs.PlaceLaws.{nowhere_fails_at_first, nowhere_in_rest}
use Rattle.register.specs.Register.{high_byte, low_byte}
use Rattle.items.specs.Item.{is_byte, is_check, is_item, is_foreign, bytes_of, written_bytes}
use Rattle.items.specs.Written.{fresh_check, after_bytes, check_bytes, item_bytes, after_check, after_item}
use Rattle.items.specs.Written.{written_from, written}
use Rattle.items.specs.declared.Check.{Check}
use Rattle.items.proofs.ItemLaws.{check_or_not, data_is_byte, item_but_no_check_is_byte, not_foreign_is_item}
use Rattle.items.proofs.CheckLaws.{high_byte_bound, low_byte_bound, fresh_bound, after_bytes-append}
use Rattle.items.proofs.CheckLaws.{after_item_bound}

-- ---- one item

pub item_bytes_of_check : (c : Check) (n : ℕ) → is_check n ≡ true → item_bytes c n ≡ check_bytes c
unfolding item_bytes
item_bytes_of_check c n e = rw e

pub item_bytes_of_byte : (c : Check) (n : ℕ) → is_check n ≡ false → item_bytes c n ≡ n ∷ []
unfolding item_bytes
item_bytes_of_byte c n e = rw e

pub after_item_of_check : (c : Check) (n : ℕ) → is_check n ≡ true → after_item c n ≡ after_check c
unfolding after_item after_check
after_item_of_check c n e = cc (item_bytes_of_check c n e)

pub length_of_item_bytes : (c : Check) (n : ℕ) → length (item_bytes c n) ≡ bytes_of n
unfolding item_bytes bytes_of
length_of_item_bytes c n =
    elim (is_check n) as (λ t. length (cond t (check_bytes c) (n ∷ [])) ≡ cond t 2 1) [ true ↦ refl | false ↦ refl ]

item_bytes_are_bytes : (c : Check) (n : ℕ) → c.register < 0x10000 → is_item n ≡ true
    → everywhere is_byte (item_bytes c n) ≡ true
item_bytes_are_bytes c n h item =
    let high = data_is_byte (high_byte c.register) (high_byte_bound c.register h) in
    let low = data_is_byte (low_byte c.register) (low_byte_bound c.register) in
    ⊎_elim (λ check.
    rw (item_bytes_of_check c n check, everywhere_of_passing, everywhere_of_passing, everywhere_of_none))
    (λ other.
    let byte = item_but_no_check_is_byte n item other in
    rw (item_bytes_of_byte c n other, everywhere_of_passing, everywhere_of_none)) (check_or_not n)

-- ---- one item after the other

pub written_from_none : (c : Check) → written_from c [] ≡ []
unfolding written_from
written_from_none c = refl

pub written_from_item : (c : Check) (n : ℕ) (ns : List ℕ)
    → written_from c (n ∷ ns) ≡ item_bytes c n ++ written_from (after_item c n) ns
unfolding written_from
written_from_item c n ns = refl

pub written_from_end : (c : Check) (ns : List ℕ) (k : ℕ) → length ns ≤ k → written_from c (drop k ns) ≡ []
written_from_end c ns k h = cc (drop_of_length-le ns h, written_from_none c)

-- ---- how many

pub length_of_written_from : (c : Check) (ns : List ℕ) → length (written_from c ns) ≡ written_bytes ns
unfolding written_from written_bytes
length_of_written_from c [] = refl
length_of_written_from c (n ∷ ns) =
    length-append (item_bytes c n) _ ∙ ap₂ ◌+◌ (length_of_item_bytes c n) (length_of_written_from (after_item c n) ns)

pub length_of_written : (ns : List ℕ) → length (written ns) ≡ written_bytes ns
unfolding written
length_of_written ns = length_of_written_from fresh_check ns

-- ---- one list after another

pub written_from-append : (c : Check) (ms ns : List ℕ)
    → written_from c (ms ++ ns) ≡ written_from c ms ++ written_from (after_bytes c (written_from c ms)) ns
unfolding written_from after_item after_bytes
written_from-append c [] ns = refl
written_from-append c (m ∷ ms) ns =
    rw (written_from-append (after_item c m) ms ns)
    (sym (append_assoc (item_bytes c m) (written_from (after_item c m) ms) _)
    ∙ ap (λ (s : Check). (item_bytes c m ++ written_from (after_item c m) ms) ++ written_from s ns)
    (sym (after_bytes-append c (item_bytes c m) (written_from (after_item c m) ms))))

-- from a place to another, and then the rest
pub written_from_piece : (c : Check) (ns : List ℕ) (from end : ℕ) → from ≤ end
    → written_from c (drop from ns)
    ≡ written_from c (take (end - from) (drop from ns))
    ++ written_from (after_bytes c (written_from c (take (end - from) (drop from ns)))) (drop end ns)
written_from_piece c ns from end order =
    let piece = take (end - from) (drop from ns) in
    let e : from + (end - from) ≡ end = omega arith in
    let rest = drop-drop (end - from) from ns ∙ ap (λ (k : ℕ). drop k ns) e in
    ap (written_from c) (sym (take-append-drop (end - from) (drop from ns)))
    ∙ written_from-append c piece (drop (end - from) (drop from ns))
    ∙ ap (λ (r : List ℕ). written_from c piece ++ written_from (after_bytes c (written_from c piece)) r) rest

-- ---- what they are

pub written_from_are_bytes : (c : Check) (ns : List ℕ) → c.register < 0x10000 → anywhere is_foreign ns ≡ false
    → everywhere is_byte (written_from c ns) ≡ true
written_from_are_bytes c [] h e = cc (written_from_none c, everywhere_of_none is_byte)
written_from_are_bytes c (n ∷ ns) h e =
    rw (written_from_item c n ns) (everywhere-append is_byte (item_bytes c n) (written_from (after_item c n) ns)
    ∙ ap₂ ◌&&◌ (item_bytes_are_bytes c n h (not_foreign_is_item n (nowhere_fails_at_first is_foreign n ns e)))
    (written_from_are_bytes (after_item c n) ns (after_item_bound c n h) (nowhere_in_rest is_foreign n ns e)))

pub written_are_bytes : (ns : List ℕ) → anywhere is_foreign ns ≡ false → everywhere is_byte (written ns) ≡ true
unfolding written
written_are_bytes ns e = written_from_are_bytes fresh_check ns fresh_bound e

pub written_from_of_no_check : (c : Check) (ns : List ℕ) → anywhere is_check ns ≡ false → written_from c ns ≡ ns
written_from_of_no_check c [] e = written_from_none c
written_from_of_no_check c (n ∷ ns) e =
    written_from_item c n ns
    ∙ ap₂ ◌++◌ (item_bytes_of_byte c n (nowhere_fails_at_first is_check n ns e))
    (written_from_of_no_check (after_item c n) ns (nowhere_in_rest is_check n ns e))

pub written_of_no_check : (ns : List ℕ) → anywhere is_check ns ≡ false → written ns ≡ ns
unfolding written
written_of_no_check ns e = written_from_of_no_check fresh_check ns e
