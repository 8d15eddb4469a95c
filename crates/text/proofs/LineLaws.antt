-- The fields of a printed line, one at a time: each is stored where the one before it ends, so the line is stored
-- whole. Rests on no axiom.
use Prim.Native.Nat.{ℕ, suc, ◌+◌, ◌<◌}
use mathlib.Core.Path.{◌≡◌, refl, ◌∙◌}
use mathlib.Core.List.{List, [], ◌∷◌}
use native.Mathlib.Numerals.{add-one}
use native.Mathlib.Omega.{arith}
use lib.ListN.{length, drop, get_or, set, length-append}
use lib.Seq.{drop-cons}
use Rattle.lists.specs.Filled.{stored_at}
use Rattle.lists.proofs.StoreLaws.{stored_after_stored}
use Rattle.text.specs.Ascii.{tab, line_feed}
use Rattle.text.specs.Decimal.{decimal}
use Rattle.text.specs.Line.{fields_of, line_of}

pub fields_length_of_none : length (fields_of []) ≡ 0
unfolding fields_of
fields_length_of_none = refl

pub fields_length_of_more : (n : ℕ) (numbers : List ℕ)
    → length (fields_of (n ∷ numbers)) ≡ 1 + length (decimal n) + length (fields_of numbers)
unfolding fields_of
fields_length_of_more n numbers = length-append (tab ∷ decimal n) (fields_of numbers) ∙ omega arith

module _ (numbers : List ℕ) (i : ℕ) (h : i < length numbers) where
  pub fields_length_next :
      length (fields_of (drop i numbers))
      ≡ 1 + length (decimal (get_or numbers i 0)) + length (fields_of (drop (suc i) numbers))
  fields_length_next = rw (drop-cons numbers i 0 h) (fields_length_of_more _ _)

  -- a tab and a number are stored, and what is left of the fields after them
  pub fields_stored_next : (out : List ℕ) (end : ℕ)
      → stored_at
      (stored_at (set out end tab) (end + 1) (decimal (get_or numbers i 0)))
      (end + 1 + length (decimal (get_or numbers i 0))) (fields_of (drop (suc i) numbers))
      ≡ stored_at out end (fields_of (drop i numbers))
  unfolding stored_at fields_of
  fields_stored_next out end =
      rw (drop-cons numbers i 0 h, add-one end)
      (stored_after_stored (decimal (get_or numbers i 0)) _ (set out end tab) (suc end) _ refl)

-- a line is its word, its fields and a line feed
module _ (word numbers : List ℕ) where
  pub line_length : length (line_of word numbers) ≡ length word + length (fields_of numbers) + 1
  unfolding line_of
  line_length = cc (length-append _ _)

  pub line_stored : (out : List ℕ) (at : ℕ)
      → stored_at
      (stored_at (stored_at out at word) (at + length word) (fields_of numbers))
      (at + length word + length (fields_of numbers)) (line_feed ∷ [])
      ≡ stored_at out at (line_of word numbers)
  unfolding line_of
  line_stored out at =
      rw (stored_after_stored word (fields_of numbers) out at _ refl)
      (stored_after_stored _ _ out at _ (omega (arith, length-append word (fields_of numbers))))
