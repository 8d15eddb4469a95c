-- Laws of the sector numbers in ascending order, as a loop over them meets them. Rests on no axiom.
use Prim.Native.Nat.{ℕ, zero, suc, ◌+◌, ◌≤◌, ◌<◌}
use mathlib.Core.Path.{◌≡◌, refl, sym, ap, ap₂, ◌∙◌}
use mathlib.Core.Bool.{Bool, true, false, cond}
use mathlib.Core.List.{List, [], ◌∷◌, ◌++◌, flat_map}
use native.Mathlib.Numerals.{add-one}
use native.Mathlib.Omega.{arith}
use borrow.Author.Tests.{lt-ltb}
use lib.Dec.{ltb}
use lib.ListN.{length, drop, get_or, drop_of_length-le}
use lib.Seq.{drop-cons}
use Rattle.lists.specs.Place.{anywhere, lowest}
use Rattle.lists.specs.Table.{tabulated}
use Rattle.lists.proofs.PlaceLaws.{lowest_of_none, below_lowest_fails, anywhere_of_none, anywhere_of_failing}
use Rattle.lists.proofs.PlaceLaws.{lowest_of_passing, lowest_of_failing, lowest_of_some}
use Rattle.lists.proofs.TableLaws.{entry_is_rule}
use Rattle.sets.specs.Held.{numbers, how_many}

pub numbers-length : length numbers ≡ 256
unfolding numbers tabulated
numbers-length = refl

pub number_at : (n : ℕ) → n < 256 → get_or numbers n 0 ≡ n
unfolding numbers
number_at n h = entry_is_rule (λ k. k) 256 n 0 h

pub numbers_from : (n : ℕ) → n < 256 → drop n numbers ≡ n ∷ drop (n + 1) numbers
numbers_from n h =
    let inside : n < length numbers = rw numbers-length h in
    rw (add-one, drop-cons numbers n 0 inside, number_at n h)

pub numbers_end : (n : ℕ) → 256 ≤ n → drop n numbers ≡ []
numbers_end n h =
    let all : length numbers ≤ n = rw numbers-length h in
    drop_of_length-le numbers all

-- what holds of no numbers, and of a number more, holds of all
pub each_number
    : (P : List ℕ → Type 0) → P [] → ((n : ℕ) (ns : List ℕ) → n < 256 → P ns → P (n ∷ ns)) → P numbers
unfolding numbers tabulated
each_number P none more = from 0 256 (omega arith)
  where
    from : (k m : ℕ) → k + m ≤ 256 → P (tabulated (λ n. n) k m)
    from k zero h = none
    from k (suc m) h = more k (tabulated (λ n. n) (suc k) m) (omega arith) (from (suc k) m (omega arith))

-- ---- a test at each number

pub nowhere_at_number : (f : ℕ → Bool) → anywhere f numbers ≡ false → (n : ℕ) → n < 256 → f n ≡ false
nowhere_at_number f e n h =
    let last = lowest_of_none f numbers e ∙ numbers-length in
    sym (ap f (number_at n h)) ∙ below_lowest_fails f numbers 0 n (omega arith)

pub nowhere_if_never : (f : ℕ → Bool) → ((n : ℕ) → n < 256 → f n ≡ false) → anywhere f numbers ≡ false
nowhere_if_never f never =
    each_number (λ ns. anywhere f ns ≡ false) (anywhere_of_none f)
    (λ n ns h r. anywhere_of_failing f n ns (never n h) ∙ r)

-- ---- two functions that agree at each number

pub counts_agree
    : (f g : ℕ → Bool) → ((n : ℕ) → n < 256 → f n ≡ g n) → how_many f numbers ≡ how_many g numbers
unfolding how_many
counts_agree f g same =
    each_number (λ ns. how_many f ns ≡ how_many g ns) refl
    (λ n ns h r. ap₂ (λ (t : Bool) (k : ℕ). cond t (suc k) k) (same n h) r)

pub lists_agree
    : {A : Type 0} (f g : ℕ → List A) → ((n : ℕ) → n < 256 → f n ≡ g n) → flat_map f numbers ≡ flat_map g numbers
unfolding flat_map
lists_agree f g same =
    each_number (λ ns. flat_map f ns ≡ flat_map g ns) refl (λ n ns h r. ap₂ ◌++◌ (same n h) r)

pub lowest_agrees
    : (f g : ℕ → Bool) → ((n : ℕ) → n < 256 → f n ≡ g n) → lowest f numbers ≡ lowest g numbers
lowest_agrees f g same =
    each_number (λ ns. lowest f ns ≡ lowest g ns)
    (lowest_of_none f [] (anywhere_of_none f) ∙ sym (lowest_of_none g [] (anywhere_of_none g))) more
  where
    more : (n : ℕ) (ns : List ℕ) → n < 256 → lowest f ns ≡ lowest g ns → lowest f (n ∷ ns) ≡ lowest g (n ∷ ns)
    more n ns h r =
        (elim (f n) as (λ t. f n ≡ t → lowest f (n ∷ ns) ≡ lowest g (n ∷ ns)) [
          | true ↦ λ e.
              lowest_of_passing f n ns e ∙ sym (lowest_of_passing g n ns (sym (same n h) ∙ e))
          | false ↦ λ e.
              lowest_of_failing f n ns e
              ∙ ap suc r
              ∙ sym (lowest_of_failing g n ns (sym (same n h) ∙ e))
        ]) refl

-- ---- the lowest that passes

pub lowest_below_256 : (f : ℕ → Bool) → anywhere f numbers ≡ ltb (lowest f numbers) 256
lowest_below_256 f = by (anywhere f numbers) refl
  where
    by : (t : Bool) → anywhere f numbers ≡ t → t ≡ ltb (lowest f numbers) 256
    by true e = sym (lt-ltb _ _ (rw numbers-length at (lowest_of_some f numbers e)))
    by false e = rw (lowest_of_none f numbers e, numbers-length)
