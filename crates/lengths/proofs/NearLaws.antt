-- What it is for a stream to be near another: they have one length, and at each place the two are no more than m apart;
-- a list is near itself, and stays near where one interval is moved by no more than m.
use Prim.Native.Nat.{ℕ, zero, suc, ◌+◌, ◌≤◌, ◌<◌}
use mathlib.Core.Path.{◌≡◌, refl, ap}
use mathlib.Core.List.{List, [], ◌∷◌}
use native.Mathlib.Omega.{arith}
use lib.ListN.{length, get_or, set}

-- as many intervals in the same order, each longer or shorter by up to m
unfoldable pub Near : ℕ → List ℕ → List ℕ → Type 0
Near m [] [] = Unit
Near m [] (l ∷ ls) = ⊥
Near m (d ∷ ds) [] = ⊥
Near m (d ∷ ds) (l ∷ ls) = (d ≤ l + m) × (l ≤ d + m) × Near m ds ls

pub near_streams_are_equally_long : (m : ℕ) (ds ls : List ℕ) → Near m ds ls → length ds ≡ length ls
unfolding Near
near_streams_are_equally_long m [] [] n = refl
near_streams_are_equally_long m [] (l ∷ ls) n = absurd n
near_streams_are_equally_long m (d ∷ ds) [] n = absurd n
near_streams_are_equally_long m (d ∷ ds) (l ∷ ls) n = ap suc (near_streams_are_equally_long m ds ls n.2)

pub near_at :
    (m : ℕ) (ds ls : List ℕ)
    → Near m ds ls
    → (k : ℕ)
    → (get_or ds k 0 ≤ get_or ls k 0 + m) × (get_or ls k 0 ≤ get_or ds k 0 + m)
unfolding Near
near_at m [] [] n k = omega arith
near_at m [] (l ∷ ls) n k = absurd n
near_at m (d ∷ ds) [] n k = absurd n
near_at m (d ∷ ds) (l ∷ ls) n zero = (n.0, n.1)
near_at m (d ∷ ds) (l ∷ ls) n (suc k) = near_at m ds ls n.2 k

pub near_of_each :
    (m : ℕ) (ds ls : List ℕ)
    → length ds ≡ length ls
    → ((k : ℕ) → k < length ls → (get_or ds k 0 ≤ get_or ls k 0 + m) × (get_or ls k 0 ≤ get_or ds k 0 + m))
    → Near m ds ls
unfolding Near
near_of_each m [] [] e h = tt
near_of_each m [] (l ∷ ls) e h = absurd (omega arith)
near_of_each m (d ∷ ds) [] e h = absurd (omega arith)
near_of_each m (d ∷ ds) (l ∷ ls) e h =
    ((h 0 (omega arith)).0, (h 0 (omega arith)).1, near_of_each m ds ls (omega arith) (λ k b. h (suc k) (omega arith)))

pub near_itself : (m : ℕ) (ls : List ℕ) → Near m ls ls
unfolding Near
near_itself m [] = tt
near_itself m (l ∷ ls) = (omega arith, omega arith, near_itself m ls)

pub near_with_one_moved :
    (m : ℕ) (ls : List ℕ) (k d : ℕ) → d ≤ get_or ls k 0 + m → get_or ls k 0 ≤ d + m → Near m (set ls k d) ls
unfolding Near
near_with_one_moved m [] k d above below = tt
near_with_one_moved m (l ∷ ls) zero d above below = (above, below, near_itself m ls)
near_with_one_moved m (l ∷ ls) (suc k) d above below =
    (omega arith, omega arith, near_with_one_moved m ls k d above below)
