-- A set with no number twice has no more sectors than numbers. Rests on no axiom.
use Prim.Native.Nat.{ℕ, zero, suc, ◌+◌, ◌≤◌, ◌<◌}
use mathlib.Core.Path.{◌≡◌, refl, sym, ap, ◌∙◌}
use mathlib.Core.Bool.{Bool, true, false, cond}
use mathlib.Core.List.{List, [], ◌∷◌}
use native.Mathlib.Decide.{dec_lt}
use native.Mathlib.Omega.{arith}
use borrow.Author.Tests.{ltb-true}
use lib.Dec.{ltb}
use lib.ListN.{length}
use Rattle.lists.specs.Place.{everywhere}
use Rattle.lists.specs.Table.{tabulated}
use Rattle.lists.proofs.PlaceLaws.{everywhere_passes_at_first, everywhere_in_rest}
use Rattle.sets.specs.Set.{Sector}
use Rattle.sets.specs.Held.{Held, Nothing, held_of, is_twice, how_many, numbers}
use Rattle.sets.proofs.NumberLaws.{each_number}
use Rattle.merge.specs.Merge.{is_there}
use Rattle.readback.proofs.SetOrder.{first_alone, rest_once, other_than_first, only_first}

-- ---- two tests of numbers

module _ (f g : ℕ → Bool) (k : ℕ) (before : f k ≡ false) (after : g k ≡ true) (same : (n : ℕ) → (n ≡ k → ⊥) → f n ≡ g n) where
  abbrev from : ℕ → ℕ → List ℕ
  from j m = tabulated (λ n. n) j m

  same_past : (m j : ℕ) → k < j → how_many f (from j m) ≡ how_many g (from j m)
  unfolding how_many tabulated
  same_past zero j h = refl
  same_past (suc m) j h = rw (same j (λ e. omega arith), same_past m (suc j) (omega arith))

  one_more_from : (m j : ℕ) → j ≤ k → k < j + m → suc (how_many f (from j m)) ≡ how_many g (from j m)
  unfolding how_many tabulated
  one_more_from zero j low high = absurd (omega arith)
  one_more_from (suc m) j low high =
      elim (dec_lt j k) [
        | yes further ↦
            let rest = one_more_from m (suc j) (omega arith) (omega arith) in
            rw (same j (λ e. omega arith))
            (elim (g j) as (λ t.
            suc (cond t (suc (how_many f (from (suc j) m))) (how_many f (from (suc j) m)))
            ≡ cond t (suc (how_many g (from (suc j) m))) (how_many g (from (suc j) m)))
            [ true ↦ ap suc rest | false ↦ rest ])
        | no here ↦
            let is : j ≡ k = omega arith in
            rw (is, before, after) (ap suc (rw (← is) (same_past m (suc j) (omega arith))))
      ]

  -- a number more passes
  one_more : k < 256 → suc (how_many f numbers) ≡ how_many g numbers
  unfolding numbers
  one_more h = one_more_from 256 0 (omega arith) (omega arith)

pub no_fewer : (f g : ℕ → Bool) → ((n : ℕ) → n < 256 → f n ≡ true → g n ≡ true) → how_many f numbers ≤ how_many g numbers
unfolding how_many
no_fewer f g also =
    each_number (λ ns. how_many f ns ≤ how_many g ns) (omega arith) (λ n ns h r.
    elim (f n) as (λ t.
    f n ≡ t
    → cond t (suc (how_many f ns)) (how_many f ns) ≤ cond (g n) (suc (how_many g ns)) (how_many g ns)) [
      | true ↦ λ is. rw (also n h is) (omega arith)
      | false ↦ λ is.
          elim (g n) as (λ u. how_many f ns ≤ cond u (suc (how_many g ns)) (how_many g ns))
          [ true ↦ omega arith | false ↦ r ]
    ]
    refl)

-- ---- a set

unfoldable pub is_number : Sector → Bool
is_number s = ltb s.number 256

abbrev pub there_in : List Sector → ℕ → Bool
there_in ss n = is_there (held_of n ss)

pub few_once
    : (ss : List Sector)
    → everywhere is_number ss ≡ true
    → ((n : ℕ) → is_twice (held_of n ss) ≡ false)
    → length ss ≤ how_many (there_in ss) numbers
unfolding is_number
few_once [] small once = omega arith
few_once (s ∷ ss) small once =
    let number = ltb-true s.number 256 (everywhere_passes_at_first is_number s ss small) in
    let rest = few_once ss (everywhere_in_rest is_number s ss small) (λ n. rest_once s ss n (once n)) in
    let alone = first_alone s ss (once s.number) in
    let more =
    one_more (there_in ss) (there_in (s ∷ ss)) s.number (ap is_there alone) (ap is_there (only_first s ss alone))
    (λ n other. ap is_there (sym (other_than_first s ss n (λ e. other (sym e))))) number in
    omega (arith, rest, more)
