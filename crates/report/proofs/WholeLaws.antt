-- Each interval is of one class: the counts of a report add up to the length of the list, and its sums to the list's
-- sum. Rests on no axiom.
use Prim.Native.Nat.{ℕ, ◌+◌, ◌≤◌, zero-le}
use mathlib.Core.Path.{◌≡◌, refl}
use mathlib.Core.Bool.{true, false, cond}
use mathlib.Core.List.{List, [], ◌∷◌, map}
use native.Mathlib.Omega.{arith}
use lib.Dec.{eqb}
use lib.ListN.{length}
use Rattle.lists.specs.Sum.{sum_of}
use Rattle.timing.specs.Class.{class_number}
use Rattle.timing.specs.declared.Class.{Class}
use Rattle.timing.specs.declared.Class.TheVariants.{Narrow, Two, Three, Four, Wide}
use Rattle.report.specs.Row.{count_in, sum_in, row_of}
use Rattle.report.specs.Report.{of_class, report_by}

-- a number for each class, added up
abbrev over_classes : (Class → ℕ) → ℕ
over_classes f = f Narrow + (f Two + (f Three + (f Four + (f Wide + 0))))

-- a number of a list to which each element adds
module _
    (f : List ℕ → ℕ) (step : ℕ → ℕ) (none : f [] ≡ 0) (more : (d : ℕ) (ds : List ℕ) → f (d ∷ ds) ≡ step d + f ds)
  where
    over_classes_lem
        : (cs : List Class) (ds : List ℕ)
        → length cs ≡ length ds
        → over_classes (λ (c : Class). f (of_class c cs ds)) ≡ f ds
    unfolding of_class
    over_classes_lem [] [] h = rw none (omega arith)
    over_classes_lem [] (d ∷ ds) h = absurd (omega arith)
    over_classes_lem (e ∷ cs) [] h = absurd (omega arith)
    over_classes_lem (e ∷ cs) (d ∷ ds) h = rw (more d ds, ← over_classes_lem cs ds (omega arith)) (by_class e)
      where
        by_class : (e : Class)
            → over_classes (λ (c : Class). f (of_class c (e ∷ cs) (d ∷ ds)))
            ≡ step d + over_classes (λ (c : Class). f (of_class c cs ds))
        by_class Narrow = rw more (omega arith)
        by_class Two = rw more (omega arith)
        by_class Three = rw more (omega arith)
        by_class Four = rw more (omega arith)
        by_class Wide = rw more (omega arith)

    -- one class has no more of it
    pub of_class_at_most : (c : Class) (cs : List Class) (ds : List ℕ) → f (of_class c cs ds) ≤ f ds
    unfolding of_class
    of_class_at_most c [] ds = rw none zero-le
    of_class_at_most c (e ∷ cs) [] = rw none zero-le
    of_class_at_most c (e ∷ cs) (d ∷ ds) =
        let rest = of_class_at_most c cs ds in
        elim (eqb (class_number c) (class_number e)) as (λ t.
        f (cond t (d ∷ of_class c cs ds) (of_class c cs ds)) ≤ f (d ∷ ds))
        [ true ↦ rw (more, more) (omega arith) | false ↦ rw more (omega arith) ]

module _ (cs : List Class) (ds : List ℕ) (h : length cs ≡ length ds) where
  pub counts_add_up : sum_of (map count_in (report_by cs ds)) ≡ length ds
  unfolding report_by row_of sum_of
  counts_add_up = over_classes_lem length (λ d. 1) refl (λ d es. omega arith) cs ds h

  pub sums_add_up : sum_of (map sum_in (report_by cs ds)) ≡ sum_of ds
  unfolding report_by row_of sum_of
  sums_add_up = over_classes_lem sum_of (λ d. d) refl (λ d es. refl) cs ds h
