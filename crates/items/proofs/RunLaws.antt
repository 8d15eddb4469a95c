-- A list of items from one check order to the next: a run of bytes is its own, and the check order writes the register
-- that the run leaves. Rests on no axiom.
use Prim.Native.Nat.{ℕ, suc, ◌+◌, ◌-◌, ◌≤◌, ◌<◌}
use mathlib.Core.Path.{◌≡◌, refl, sym, ap, ap₂, ◌∙◌}
use mathlib.Core.Bool.{true, false, cond}
use mathlib.Core.List.{List, [], ◌∷◌, ◌++◌, append_assoc}
use native.Mathlib.Numerals.{add-one}
use native.Mathlib.Omega.{arith}
use lib.ListN.{length, get_or, take, drop, length-drop}
use lib.Seq.{split_at, take_all, drop-drop}
use Rattle.lists.specs.Place.{anywhere, lowest}
use Rattle.lists.proofs.PlaceLaws.{lowest_of_none, passes_at_lowest}
use Rattle.items.specs.Item.{is_check}
use Rattle.items.specs.Written.{after_bytes, check_bytes, after_check, written_from}
use Rattle.items.specs.declared.Check.{Check}
use Rattle.items.proofs.WrittenLaws.{written_from-append, written_from_of_no_check, written_from_item}
use Rattle.items.proofs.WrittenLaws.{item_bytes_of_check, after_item_of_check}

none_before : (l : List ℕ) → anywhere is_check (take (lowest is_check l) l) ≡ false
unfolding anywhere lowest
none_before [] = refl
none_before (n ∷ ns) =
    elim (is_check n) as (λ t.
    (is_check n ≡ t) → anywhere is_check (take (cond t 0 (suc (lowest is_check ns))) (n ∷ ns)) ≡ false)
    [ true ↦ λ e. refl | false ↦ λ e. rw e (none_before ns) ] refl

check_there : (l : List ℕ) → lowest is_check l < length l → is_check (get_or l (lowest is_check l) 0) ≡ true
check_there l h =
    (elim (anywhere is_check l) as (λ t. anywhere is_check l ≡ t → is_check (get_or l (lowest is_check l) 0) ≡ true) [
      | true ↦ λ e. passes_at_lowest is_check l 0 e
      | false ↦ λ e. absurd (let none = lowest_of_none is_check l e in omega arith)
    ]) refl

module _ (c : Check) (l : List ℕ) (n : ℕ) (counts : n ≡ lowest is_check l) where
  abbrev run : List ℕ
  run = take n l

  own : written_from c run ≡ run
  own = written_from_of_no_check c run (rw counts (none_before l))

  run_alone : length l ≤ n → written_from c l ≡ l
  run_alone h = let all = take_all n l h in rw all at own

  run_then_check
      : n < length l
      → written_from c l
      ≡ (run ++ check_bytes (after_bytes c run)) ++ written_from (after_check (after_bytes c run)) (drop (n + 1) l)
  run_then_check h =
      let item = get_or l n 0 in
      let rest = drop (n + 1) l in
      let check : is_check item ≡ true = rw counts (check_there l (rw counts at h)) in
      let whole : l ≡ run ++ (item ∷ rest) = split_at l n 0 h ∙ rw (add-one n) in
      let after = after_bytes c run in
      ap (written_from c) whole
      ∙ written_from-append c run (item ∷ rest)
      ∙ ap (λ (bytes : List ℕ). bytes ++ written_from (after_bytes c bytes) (item ∷ rest)) own
      ∙ ap (◌++◌ run) (written_from_item after item rest
      ∙ ap₂ (λ (bytes : List ℕ) (d : Check). bytes ++ written_from d rest) (item_bytes_of_check after item check)
      (after_item_of_check after item check))
      ∙ sym (append_assoc run (check_bytes after) (written_from (after_check after) rest))

-- ---- from a place on

-- a slice from a place on
pub rest_of : (items : List ℕ) (from : ℕ) → take (length items - from) (drop from items) ≡ drop from items
rest_of items from = take_all (length items - from) (drop from items) (omega (arith, length-drop from items))

module _ (c : Check) (items : List ℕ) (from run : ℕ) (told : run ≡ lowest is_check (drop from items)) where
  abbrev pub run_at : List ℕ
  run_at = take (from + run - from) (drop from items)

  pub last_run_from : length items - from ≤ run → written_from c (drop from items) ≡ drop from items
  last_run_from h = run_alone c (drop from items) run told (omega (arith, length-drop from items))

  pub run_from
      : run < length items - from
      → written_from c (drop from items)
      ≡ (run_at ++ check_bytes (after_bytes c run_at))
      ++ written_from (after_check (after_bytes c run_at)) (drop (from + run + 1) items)
  run_from h =
      let size : from + run - from ≡ run = omega arith in
      let place : from + (run + 1) ≡ from + run + 1 = omega arith in
      let rest : drop (run + 1) (drop from items) ≡ drop (from + run + 1) items =
      drop-drop (run + 1) from items ∙ ap (λ (k : ℕ). drop k items) place in
      let parts = run_then_check c (drop from items) run told (omega (arith, length-drop from items)) in
      rw size (rw rest at parts)
