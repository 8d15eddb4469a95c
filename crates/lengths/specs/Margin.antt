-- Document 01, "Profile", and document 02, (ix): when a profile is true, and the margin. No lemmas here. Both speak of
-- all lengths that any accepted list can have, after each kind of cell; the tests of the crate `timing` and the least of
-- ten rooms are proved to be the same (`Claims`).
use Rattle.std.specs.Prelude.{ℕ, ◌+◌, ◌-◌, ◌*◌, ◌≤◌, ◌<◌, ◌≡◌, Bool, List, [], ◌∷◌, eqb, length, get_or}
use Rattle.lists.specs.Span.{least}
use Rattle.refusal.specs.Answer.{Answer, accepted, first_refusal}
use Rattle.timing.specs.Profile.{swing, advance, delay, profile_rule}
use Rattle.timing.specs.Class.{class_of}
use Rattle.timing.specs.declared.Profile.{Profile}
use Rattle.items.specs.Rule.{list_rule}
use Rattle.items.specs.Written.{written}
use Rattle.symbols.specs.Cells.{written_cells}
use Rattle.lengths.specs.Stream.{stream_of}
use Rattle.lengths.specs.Units.{class_of_units}

-- ---- the kind of cell before each

-- whether the cell before the one at place k is of class 2; before the first it counts as that
abbrev pub after_two : List ℕ → ℕ → Bool
after_two cells k = eqb (get_or (2 ∷ cells) k 2) 2

-- what holds of each length of each accepted list, given the cell and whether it stands after one of class 2
abbrev pub EachLength : Profile → (Bool → ℕ → ℕ → Type 0) → Type 0
EachLength p Holds =
    (items : List ℕ)
    → (list_rule items).number ≡ 0
    → (k : ℕ)
    → k < length (stream_of p items)
    → Holds (after_two (written_cells (written items)) k) (get_or (written_cells (written items)) k 0)
    (get_or (stream_of p items) k 0)

-- ---- a true profile

-- Early ≤ Normal ≤ Late and each length that can be written after each kind of cell is in its window
pub record TrueProfile (p : Profile) : Type 0 where
  pub early_first : p.early.0 ≤ p.normal.0
  pub late_last : p.normal.0 ≤ p.late.0
  pub in_windows : EachLength p (λ two cell l. class_of p two l ≡ class_of_units cell)

-- ---- the margin

-- all lengths that any accepted list can have, made longer or shorter by up to m, keep their class
abbrev pub Keeps : Profile → ℕ → Type 0
Keeps p m = EachLength p (λ two cell l. (d : ℕ) → d ≤ l + m → l ≤ d + m → class_of p two d ≡ class_of p two l)

-- m is the largest such number
pub record IsMargin (p : Profile) (m : ℕ) : Type 0 where
  pub keeps : Keeps p m
  pub largest : (n : ℕ) → Keeps p n → n ≤ m

-- how far the lengths on each side of an edge are from crossing it, by the nearest of them: an interval may be as short
-- as the edge below, but must be shorter than the edge above. In the order of document 02, (xii)
unfoldable pub rooms_of : Profile → List ℕ
rooms_of p =
    let two = p.t1.0 in
    let three = p.t1.0 + p.t0.0 in
    let four = p.t1.0 + 2 * p.t0.0 in
    -- Min
    (two - swing p - p.min.0)
    -- B23 after-short, the lengths below it and above it; after-long
    ∷ (p.short.b23.0 - 1 - two)
    ∷ (three + advance p - p.short.b23.0)
    ∷ (p.long.b23.0 - 1 - (two - delay p))
    ∷ (three - p.long.b23.0)
    -- B34 alike
    ∷ (p.short.b34.0 - 1 - (three + swing p))
    ∷ (four + advance p - p.short.b34.0)
    ∷ (p.long.b34.0 - 1 - (three + delay p))
    ∷ (four - p.long.b34.0)
    -- Rpt
    ∷ (p.rpt.0 - 1 - (four + swing p))
    ∷ []

unfoldable pub margin_of : Profile → ℕ
margin_of p = least (rooms_of p)

-- the margin operation: 1, 2, then the margin
unfoldable pub margin_rule : Profile → Answer
margin_rule p = first_refusal (profile_rule p) (accepted (margin_of p))
