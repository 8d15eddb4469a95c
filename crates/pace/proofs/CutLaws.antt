-- Corrected numbers, cut off, one after the other: the two sums take turns, so that after an even number of them the first
-- has its turn again. By induction on the list. Rests on no axiom.
use Prim.Native.Nat.{ℕ, zero, suc, ◌+◌, ◌*◌, ◌≤◌, ◌<◌}
use mathlib.Core.Path.{◌≡◌, refl, ap, ◌∙◌}
use mathlib.Core.List.{List, [], ◌∷◌}
use native.Mathlib.Nat.{mul-le-mul}
use native.Mathlib.Omega.{arith}
use lib.ListN.{length, get_or, take, drop}
use lib.Seq.{drop-cons}
use Rattle.lists.specs.Sum.{sum_of}
use Rattle.pace.specs.Pace.{even_ones, odd_ones}
use Rattle.pace.specs.machine.Cut.{cut, cut_from, slowed}
use Rattle.pace.specs.declared.Pace.{Pace}

-- ---- the two sums

module _ (ds : List ℕ) (k : ℕ) (h : suc k < length ds) where
  pair_here : drop k ds ≡ get_or ds k 0 ∷ get_or ds (suc k) 0 ∷ drop (suc (suc k)) ds
  pair_here =
      let first : k < length ds = omega (arith, h) in
      drop-cons ds k 0 first ∙ ap (λ (es : List ℕ). get_or ds k 0 ∷ es) (drop-cons ds (suc k) 0 h)

  pub even_here : sum_of (even_ones (drop k ds)) ≡ get_or ds k 0 + sum_of (even_ones (drop (suc (suc k)) ds))
  unfolding sum_of even_ones
  even_here = ap (λ (es : List ℕ). sum_of (even_ones es)) pair_here

  pub odd_here : sum_of (odd_ones (drop k ds)) ≡ get_or ds (suc k) 0 + sum_of (odd_ones (drop (suc (suc k)) ds))
  unfolding sum_of odd_ones
  odd_here = ap (λ (es : List ℕ). sum_of (odd_ones es)) pair_here

pub even_of_none : sum_of (even_ones []) ≡ 0
unfolding sum_of even_ones
even_of_none = refl

pub odd_of_none : sum_of (odd_ones []) ≡ 0
unfolding sum_of odd_ones
odd_of_none = refl

-- ---- corrected numbers

-- no product needs more than 32 bits
pub product_fits : (full d : ℕ) → full ≤ 32736 → d < 65536 → d * full < 4294967296
product_fits full d h g =
    let few : d ≤ 65535 = omega arith in
    let most : d * full ≤ 65535 * 32736 = mul-le-mul few h in
    omega (arith, most)

pub cut_none : (full own other : ℕ) → cut_from full own other [] ≡ []
unfolding cut_from
cut_none full own other = refl

pub cut_here
    : (full own other : ℕ) (ds : List ℕ) (k : ℕ)
    → k < length ds
    → cut_from full own other (drop k ds) ≡ cut full own (get_or ds k 0) ∷ cut_from full other own (drop (suc k) ds)
unfolding cut_from
cut_here full own other ds k h = ap (cut_from full own other) (drop-cons ds k 0 h)

pub cut_count : (full own other : ℕ) (ds : List ℕ) → length (cut_from full own other ds) ≡ length ds
unfolding cut_from
cut_count full own other [] = refl
cut_count full own other (d ∷ ds) = ap suc (cut_count full other own ds)

pub slowed_count : (pace : Pace) (ds : List ℕ) → length (slowed pace ds) ≡ length ds
unfolding slowed
slowed_count pace ds = cut_count pace.nominal pace.even pace.odd ds

pub cut-take
    : (full own other : ℕ) (k : ℕ) (ds : List ℕ)
    → take k (cut_from full own other ds) ≡ cut_from full own other (take k ds)
unfolding cut_from
cut-take full own other zero ds = refl
cut-take full own other (suc k) [] = refl
cut-take full own other (suc k) (d ∷ ds) =
    ap (λ (es : List ℕ). cut full own d ∷ es) (cut-take full other own k ds)

two_more : (pairs : ℕ) → 2 * suc pairs ≡ suc (suc (2 * pairs))
two_more pairs = omega arith

pub cut-drop
    : (full own other : ℕ) (pairs : ℕ) (ds : List ℕ)
    → drop (2 * pairs) (cut_from full own other ds) ≡ cut_from full own other (drop (2 * pairs) ds)
unfolding cut_from
cut-drop full own other zero ds = refl
cut-drop full own other (suc pairs) [] = rw (two_more pairs) refl
cut-drop full own other (suc pairs) (d ∷ []) = rw (two_more pairs) refl
cut-drop full own other (suc pairs) (d ∷ e ∷ ds) = rw (two_more pairs) (cut-drop full own other pairs ds)

-- all are 16-bit numbers
pub cut_fits : (full own other : ℕ) (ds : List ℕ) (k : ℕ) → get_or (cut_from full own other ds) k 0 < 65536
unfolding cut_from cut
cut_fits full own other [] k = omega arith
cut_fits full own other (d ∷ ds) zero = omega arith
cut_fits full own other (d ∷ ds) (suc k) = cut_fits full other own ds k

pub slowed_fits : (pace : Pace) (ds : List ℕ) (k : ℕ) → k < length (slowed pace ds) → get_or (slowed pace ds) k 0 < 65536
unfolding slowed
slowed_fits pace ds k h = cut_fits pace.nominal pace.even pace.odd ds k
