-- Decimals that are stored one after the other, as many as there are places: by induction on the fields, each number
-- taking the next place. Rests on no axiom.
use Prim.Native.Nat.{ℕ, suc, ◌+◌, ◌<◌}
use mathlib.Core.Path.{◌≡◌, sym}
use mathlib.Core.Bool.{Bool, true, false, ◌&&◌, and-true, and-false}
use mathlib.Core.List.{List, [], ◌∷◌, ◌++◌, map, append-nil}
use native.Mathlib.Nat.{zero-add, add-zero, add-suc, suc-add}
use native.Mathlib.Numerals.{add-one}
use native.Mathlib.Omega.{arith}
use lib.Dec.{eqb}
use lib.ListN.{length, take, set}
use lib.Seq.{take-suc-set, take_all, append_snoc}
use borrow.Author.Tests.{ne_eqb, eqb-true}
use Rattle.lists.specs.Place.{everywhere}
use Rattle.text.specs.Decimal.{is_decimal, value_of}
use Rattle.script.specs.machine.Read.{NumbersRead}

-- after k decimals, the fields are as many decimals as there are places left
unfoldable pub fitting : ℕ → ℕ → List (List ℕ) → Bool
fitting k places fields = eqb (k + length fields) places && everywhere is_decimal fields

module _ (k places : ℕ) (field : List ℕ) (fields : List (List ℕ)) where
  pub fitting_without_place : k ≡ places → fitting k places (field ∷ fields) ≡ false
  unfolding fitting
  fitting_without_place h = rw (ne_eqb (k + suc (length fields)) places (λ e. omega arith))

  pub fitting_at_malformed : is_decimal field ≡ false → fitting k places (field ∷ fields) ≡ false
  unfolding fitting everywhere
  fitting_at_malformed h = rw (h, and-false)

  pub fitting_after_number : is_decimal field ≡ true → fitting k places (field ∷ fields) ≡ fitting (k + 1) places fields
  unfolding fitting everywhere
  fitting_after_number h = rw (h, add-one, add-suc, ← suc-add)

-- one number more is stored
pub number_stored : (numbers : List ℕ) (k n value : ℕ) (more : List ℕ)
    → k < length numbers
    → value ≡ n
    → take (k + 1) (set numbers k n) ++ more ≡ take k numbers ++ value ∷ more
number_stored numbers k n value more h e =
    rw (add-one, take-suc-set numbers k n h, ← e) (append_snoc (take k numbers) value more)

module _ {fields : List (List ℕ)} {places : ℕ} {after : List ℕ} where
  pub no_numbers_read : fitting 0 places fields ≡ false → NumbersRead fields places false after
  unfolding fitting
  no_numbers_read h = record { verdict = sym (rw zero-add at h); numbers = λ e. cc }

  -- where no field is left, all places are filled if they were as many
  pub all_numbers_read : (k : ℕ)
      → fitting k places [] ≡ fitting 0 places fields
      → length after ≡ places
      → take k after ++ [] ≡ map value_of fields
      → NumbersRead fields places (eqb k (length after)) after
  unfolding fitting everywhere
  all_numbers_read k h size e =
      record {
        verdict = rw size (rw (add-zero, and-true, zero-add) at h);
        numbers = λ q. rw (append-nil, take_all k after (omega (arith, eqb-true k (length after) q))) at e;
      }
