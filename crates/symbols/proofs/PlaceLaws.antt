-- Places in lists that grow at the end: the lowest place, whole rows and the tests of their letters, and the cells that
-- gave the letters.
use Rattle.std.proofs.Common.{◌≡◌, ℕ, suc, ◌+◌, ◌%◌, ◌<◌, Bool, true, false, cond, ◌||◌, List, [], ◌∷◌, ◌++◌, length, get_or, sym, refl, ap, ◌∙◌, append_assoc, append-nil, add-zero, add-suc, suc-add, zero-add, arith, length-append}
use lib.ListN.{get_or-append}
use Rattle.lists.specs.Place.{anywhere, lowest}
use Rattle.symbols.specs.Bits.{Bit, O, last_of}
use Rattle.symbols.specs.Bytes.{rows_of, row_strays, strays_from, strays_of}
use Rattle.symbols.specs.Reading.{given, last_after, read_from, read_bits, source_of, sources_from, sources}
use Rattle.symbols.specs.declared.Cell.{Cell}
use Rattle.symbols.proofs.ReadingLaws.{last_of_given}

-- The lowest place

pub lowest-append :
    {A : Type 0} (f : A → Bool) (xs ys : List A)
    → lowest f (xs ++ ys) ≡ cond (anywhere f xs) (lowest f xs) (length xs + lowest f ys)
unfolding anywhere lowest
lowest-append f [] ys = sym (zero-add _)
lowest-append f (x ∷ xs) ys =
    elim (f x) as (λ t.
    cond t 0 (suc (lowest f (xs ++ ys)))
    ≡ cond (t || anywhere f xs) (cond t 0 (suc (lowest f xs))) (suc (length xs) + lowest f ys)) [
      | true ↦ refl
      | false ↦
          ap suc (lowest-append f xs ys) ∙ (elim (anywhere f xs) as (λ t.
          suc (cond t (lowest f xs) (length xs + lowest f ys))
          ≡ cond t (suc (lowest f xs)) (suc (length xs) + lowest f ys)) [ true ↦ refl | false ↦ omega arith ])
    ]

-- Rows of eight letters

pub rows_of_few : (xs : List Bit) → length xs < 8 → rows_of xs ≡ []
unfolding rows_of
rows_of_few [] n = refl
rows_of_few (a ∷ []) n = refl
rows_of_few (a ∷ b ∷ []) n = refl
rows_of_few (a ∷ b ∷ c ∷ []) n = refl
rows_of_few (a ∷ b ∷ c ∷ d ∷ []) n = refl
rows_of_few (a ∷ b ∷ c ∷ d ∷ e ∷ []) n = refl
rows_of_few (a ∷ b ∷ c ∷ d ∷ e ∷ f ∷ []) n = refl
rows_of_few (a ∷ b ∷ c ∷ d ∷ e ∷ f ∷ g ∷ []) n = refl
rows_of_few (a ∷ b ∷ c ∷ d ∷ e ∷ f ∷ g ∷ h ∷ xs) n = absurd (omega arith)

-- by induction on them: fewer than eight, or a row in front
pub by_rows :
    (P : List Bit → Type 0) → ((xs : List Bit) → length xs < 8 → P xs)
    → ((a b c d e f g h : Bit) (xs : List Bit) → P xs → P (a ∷ b ∷ c ∷ d ∷ e ∷ f ∷ g ∷ h ∷ xs))
    → (xs : List Bit) → P xs
by_rows P few row [] = few [] (omega arith)
by_rows P few row (a ∷ []) = few _ (omega arith)
by_rows P few row (a ∷ b ∷ []) = few _ (omega arith)
by_rows P few row (a ∷ b ∷ c ∷ []) = few _ (omega arith)
by_rows P few row (a ∷ b ∷ c ∷ d ∷ []) = few _ (omega arith)
by_rows P few row (a ∷ b ∷ c ∷ d ∷ e ∷ []) = few _ (omega arith)
by_rows P few row (a ∷ b ∷ c ∷ d ∷ e ∷ f ∷ []) = few _ (omega arith)
by_rows P few row (a ∷ b ∷ c ∷ d ∷ e ∷ f ∷ g ∷ []) = few _ (omega arith)
by_rows P few row (a ∷ b ∷ c ∷ d ∷ e ∷ f ∷ g ∷ h ∷ xs) = row a b c d e f g h xs (by_rows P few row xs)

none_of_few : (xs : List Bit) → length xs < 8 → length xs % 8 ≡ 0 → xs ≡ []
none_of_few [] n e = refl
none_of_few (x ∷ xs) n e = absurd (omega arith)

pub rows_append : (xs ys : List Bit) → length xs % 8 ≡ 0 → rows_of (xs ++ ys) ≡ rows_of xs ++ rows_of ys
unfolding rows_of
rows_append xs ys =
    by_rows (λ xs. length xs % 8 ≡ 0 → rows_of (xs ++ ys) ≡ rows_of xs ++ rows_of ys) (λ xs n e. rw (none_of_few xs n e))
    (λ a b c d e f g h xs more n. rw (more (omega arith))) xs

pub one_row : (row : List Bit) → length row ≡ 8 → rows_of row ≡ row ∷ []
unfolding rows_of
one_row =
    by_rows (λ row. length row ≡ 8 → rows_of row ≡ row ∷ []) (λ row few n. absurd (omega arith))
    (λ a b c d e f g h xs more n. rw (none_of_few xs (omega arith) (omega arith)))

pub strays_append : (rs ss : List (List Bit)) → strays_of (rs ++ ss) ≡ strays_of rs ++ strays_of ss
unfolding strays_of
strays_append [] ss = refl
strays_append (r ∷ rs) ss = rw (strays_append rs ss, append_assoc)

pub strays_length : (xs : List Bit) → length xs % 8 ≡ 0 → length (strays_of (rows_of xs)) ≡ length xs
unfolding rows_of strays_of row_strays strays_from
strays_length =
    by_rows (λ xs. length xs % 8 ≡ 0 → length (strays_of (rows_of xs)) ≡ length xs) (λ xs n e. rw (none_of_few xs n e))
    (λ a b c d e f g h xs more n. let l = more (omega arith) in omega arith)

-- The cells that gave the letters

source_length : (k : ℕ) (bs : List Bit) → length (source_of k bs) ≡ length bs
unfolding source_of
source_length k [] = refl
source_length k (b ∷ bs) = ap suc (source_length k bs)

pub sources-length : (k : ℕ) (b : Bit) (cs : List Cell) → length (sources_from k b cs) ≡ length (read_from b cs)
unfolding sources_from read_from
sources-length k b [] = refl
sources-length k b (c ∷ cs) =
    rw (length-append, length-append, source_length, sources-length (suc k) (last_after b c) cs)

pub sources-append :
    (k : ℕ) (b : Bit) (cs : List Cell) (c : Cell)
    → sources_from k b (cs ++ (c ∷ []))
    ≡ sources_from k b cs ++ source_of (k + length cs) (given (last_of b (read_from b cs)) c)
unfolding sources_from read_from last_of
sources-append k b [] c = rw (add-zero k, append-nil)
sources-append k b (d ∷ cs) c =
    rw (sources-append (suc k) (last_after b d) cs c, last_of_given b d, append_assoc, suc-add k, add-suc k)

pub source_kept :
    (cs : List Cell) (c : Cell) (i : ℕ) → i < length (read_bits cs)
    → get_or (sources (cs ++ (c ∷ []))) i 0 ≡ get_or (sources cs) i 0
unfolding sources read_bits
source_kept cs c i h =
    rw (sources-append 0 O cs c)
    (get_or-append (sources_from 0 O cs) _ 0 i (omega (arith, sources-length 0 O cs)))
