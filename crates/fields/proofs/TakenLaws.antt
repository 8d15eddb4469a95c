-- Laws of the intervals that a field uses: what follows them is not looked at. By induction on the classes. Rests on no
-- axiom.
use Prim.Native.Nat.{ℕ, zero, suc}
use mathlib.Core.Path.{◌≡◌, refl, sym, ap, ◌∙◌}
use mathlib.Core.List.{List, [], ◌∷◌, ◌++◌}
use native.Mathlib.Omega.{arith}
use lib.ListN.{length, take}
use Rattle.timing.specs.declared.Class.{Class}
use Rattle.symbols.specs.Bits.{Bit}
use Rattle.symbols.specs.Reading.{last_after}
use Rattle.symbols.specs.declared.Cell.{Cell}
use Rattle.intervals.proofs.CellLaws.{ReadAs, by_each_class, by_class_read}
use Rattle.fields.specs.Field.{wanted_after, cells_taken, stop_from}

-- ---- one interval more

module _ {c : Class} {x : Cell} (read : ReadAs c x) (cs : List Class) (want : ℕ) (b : Bit) where
  pub taken_one_more
      : cells_taken (c ∷ cs) (suc want) b ≡ x ∷ cells_taken cs (wanted_after (suc want) b x) (last_after b x)
  unfolding cells_taken
  taken_one_more = by_class_read _ _ _ read

  pub stop_one_more
      : (k : ℕ) → stop_from (c ∷ cs) k (suc want) b ≡ stop_from cs (suc k) (wanted_after (suc want) b x) (last_after b x)
  unfolding stop_from
  stop_one_more k = by_class_read _ _ _ read

-- ---- by the intervals that are used: where none is, a field that does not stop wants no bit

module _
    (P : List Class → ℕ → Bit → Type 0)
    (ends
    : (cs : List Class) (want : ℕ) (b : Bit)
    → cells_taken cs want b ≡ []
    → ((k : ℕ) → (stop_from cs k want b).number ≡ 0 → want ≡ 0)
    → P cs want b)
    (goes_on
    : (c : Class) (x : Cell)
    → ReadAs c x
    → (cs : List Class) (want : ℕ) (b : Bit)
    → P cs (wanted_after (suc want) b x) (last_after b x)
    → P (c ∷ cs) (suc want) b)
  where
    pub by_taking : (cs : List Class) (want : ℕ) (b : Bit) → P cs want b
    unfolding cells_taken stop_from
    by_taking [] zero b = ends _ _ _ refl (λ k e. refl)
    by_taking [] (suc want) b = ends _ _ _ refl (λ k e. absurd (omega arith))
    by_taking (c ∷ cs) zero b = ends _ _ _ refl (λ k e. refl)
    by_taking (c ∷ cs) (suc want) b =
        by_each_class (λ (d : Class). P (d ∷ cs) (suc want) b) (ends _ _ _ refl (λ k e. absurd (omega arith)))
        (λ d x read. goes_on d x read cs want b (by_taking cs (wanted_after (suc want) b x) (last_after b x)))
        (ends _ _ _ refl (λ k e. absurd (omega arith))) c

-- ---- what follows the used intervals is not looked at

pub record SameFront (cs ds : List Class) (k want : ℕ) (b : Bit) : Type 0 where
  pub cells : cells_taken ds want b ≡ cells_taken cs want b
  pub stop : stop_from ds k want b ≡ stop_from cs k want b

none_wanted : (cs ds : List Class) (k : ℕ) (b : Bit) → SameFront cs ds k 0 b
unfolding cells_taken stop_from
none_wanted [] [] k b = record { cells = refl; stop = refl }
none_wanted [] (d ∷ ds) k b = record { cells = refl; stop = refl }
none_wanted (c ∷ cs) [] k b = record { cells = refl; stop = refl }
none_wanted (c ∷ cs) (d ∷ ds) k b = record { cells = refl; stop = refl }

pub used_decide
    : (xs cs : List Class) (want : ℕ) (b : Bit) (k : ℕ)
    → (stop_from cs k want b).number ≡ 0
    → SameFront cs (take (length (cells_taken cs want b)) cs ++ xs) k want b
used_decide xs =
    by_taking _ (λ cs want b none fair k e. rw (fair k e) (none_wanted cs _ k b)) (λ c x read cs want b rest k e.
    let front = rest (suc k) (rw (stop_one_more read cs want b k) at e) in
    rw (taken_one_more read cs want b) (record {
      cells =
          rw (taken_one_more read _ want b, taken_one_more read cs want b)
          (ap (λ (l : List Cell). x ∷ l) front.cells);
      stop = stop_one_more read _ want b k ∙ front.stop ∙ sym (stop_one_more read cs want b k);
    }))
