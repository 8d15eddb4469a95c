-- The sum of lists joined is the sum of their sums, and of numbers of at most so much each at most so many times that.
-- Rests on no axiom.
use Prim.Native.Nat.{ℕ, suc, ◌+◌, ◌*◌, ◌≤◌, zero-le}
use mathlib.Core.Path.{◌≡◌, sym}
use mathlib.Core.List.{List, [], ◌∷◌, ◌++◌}
use native.Mathlib.Nat.{zero-add, mul-suc}
use native.Mathlib.Omega.{arith}
use lib.ListN.{length, get_or}
use Rattle.lists.specs.Sum.{sum_of}

pub sum_of-append : (ds es : List ℕ) → sum_of (ds ++ es) ≡ sum_of ds + sum_of es
unfolding sum_of
sum_of-append [] es = sym (zero-add (sum_of es))
sum_of-append (d ∷ ds) es = let rest = sum_of-append ds es in omega arith

pub sum_of_small : (b : ℕ) (ds : List ℕ) → ((i : ℕ) → get_or ds i 0 ≤ b) → sum_of ds ≤ b * length ds
unfolding sum_of
sum_of_small b [] small = zero-le
sum_of_small b (d ∷ ds) small =
    let first = small 0 in
    let rest = sum_of_small b ds (λ i. small (suc i)) in
    rw (mul-suc b (length ds)) (omega arith)
