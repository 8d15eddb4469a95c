-- Where no mark is ahead: the classes of either lock's marks, read as cells, give a mark's gap whichever bit was last
-- known, so that none begin anywhere in cells that are read without one. The patterns are computed, the rest is by
-- induction on the cells. Rests on no axiom.
use Prim.Native.Nat.{ℕ, zero, suc, ◌+◌, ◌-◌}
use mathlib.Core.Path.{◌≡◌, refl, sym, ap, ◌∙◌}
use mathlib.Core.Bool.{true, false, true≢false, false≢true, and-false}
use mathlib.Core.Logic.{⊎_elim}
use native.Mathlib.Nat.{eq-zero-or-pos}
use native.Mathlib.Omega.{arith}
use mathlib.Core.List.{List, [], ◌∷◌, ◌++◌, map}
use mathlib.Mathlib.Data.Bool.Basic.{eq-false_of_not-eq-true}
use lib.Dec.{eqb}
use lib.ListN.{length, get_or, drop}
use lib.Seq.{drop-cons, drop-drop}
use borrow.Author.Tests.{eqb-true}
use Rattle.lists.specs.Place.{anywhere}
use Rattle.lists.proofs.BoolLaws.{both}
use Rattle.lists.proofs.PlaceLaws.{anywhere-append}
use Rattle.timing.specs.Class.{class_number}
use Rattle.timing.specs.declared.Class.{Class}
use Rattle.timing.specs.declared.Class.TheVariants.{Narrow, Two, Three, Four, Wide}
use Rattle.timing.proofs.MiddleLaws.{Behind, in_step_behind_other}
use Rattle.symbols.specs.Bits.{Bit, O, I, G}
use Rattle.symbols.specs.Bytes.{is_gap}
use Rattle.symbols.specs.Reading.{units, given, last_after, read_from}
use Rattle.symbols.specs.declared.Cell.{Cell}
use Rattle.symbols.specs.declared.Cell.TheVariants.{Short, Medium, Long}
use Rattle.symbols.proofs.TestLaws.{neither}
use Rattle.symbols.proofs.ReadingLaws.{units_injective}
use Rattle.intervals.proofs.CellLaws.{ReadAs, as_short, as_medium, as_long, class_of_cell, cell_is_read}
use Rattle.locks.specs.Lock.{begins_with, lock_patterns, mark_ahead, lock_at}
use Rattle.locks.proofs.LockLaws.{no_mark_of_none, two_begins_no_mark}
use Rattle.locks.proofs.FinderLaws.{no_lock_without_mark, no_lock_past_end}

-- ---- a pattern as cells

pub number_of_read : {c : Class} {x : Cell} → ReadAs c x → class_number c ≡ units x
number_of_read as_short = refl
number_of_read as_medium = refl
number_of_read as_long = refl

-- cells whose classes begin with the numbers of some cells begin with those cells
cells_of_pattern
    : (qs xs : List Cell)
    → begins_with (map units qs) (map class_of_cell xs) ≡ true
    → (ys : List Cell) × (xs ≡ qs ++ ys)
unfolding begins_with
cells_of_pattern [] xs e = (xs, refl)
cells_of_pattern (q ∷ qs) [] e = absurd (false≢true e)
cells_of_pattern (q ∷ qs) (x ∷ xs) e =
    let (here, rest) = both (eqb (class_number (class_of_cell x)) (units q)) _ e in
    let (ys, more) = cells_of_pattern qs xs rest in
    let unit : units x ≡ units q = sym (number_of_read (cell_is_read x)) ∙ eqb-true _ (units q) here in
    let same : x ∷ [] ≡ q ∷ [] = units_injective (x ∷ []) (q ∷ []) (ap (λ (n : ℕ). n ∷ []) unit) in
    (ys, cc)

-- ---- the gap in it

-- cells that give a gap, whatever the last bit known and whatever follows
abbrev GivesGap : List Cell → Type 0
GivesGap qs = (b : Bit) (ys : List Cell) → anywhere is_gap (read_from b (qs ++ ys)) ≡ true

-- 3 4 3 4 3
abbrev mark_a1_cells : List Cell
mark_a1_cells = Medium ∷ Long ∷ Medium ∷ Long ∷ Medium ∷ []

-- 3 2 3 4 3 4 2 3 4 3
abbrev marks_c2_cells : List Cell
marks_c2_cells = Medium ∷ Short ∷ Medium ∷ Long ∷ Medium ∷ Long ∷ Short ∷ Medium ∷ Long ∷ Medium ∷ []

-- after a 0 they give 01, 01, 0 and a gap; after a 1 they give 0 and a gap
a1_gives_gap : GivesGap mark_a1_cells
unfolding anywhere read_from given last_after
a1_gives_gap O ys = refl
a1_gives_gap G ys = refl
a1_gives_gap I ys = refl

-- after a 0 they give 01, 1, 0 and a gap; after a 1 they give 0, 0, 01, 01, 0 and a gap
c2_gives_gap : GivesGap marks_c2_cells
unfolding anywhere read_from given last_after
c2_gives_gap O ys = refl
c2_gives_gap G ys = refl
c2_gives_gap I ys = refl

-- ---- none without a gap

no_pattern_without_gap
    : (qs : List Cell)
    → GivesGap qs
    → (b : Bit) (xs : List Cell)
    → anywhere is_gap (read_from b xs) ≡ false
    → begins_with (map units qs) (map class_of_cell xs) ≡ false
no_pattern_without_gap qs gap b xs none =
    eq-false_of_not-eq-true (λ e.
    let (ys, same) = cells_of_pattern qs xs e in true≢false (sym (gap b ys) ∙ (rw same at none)))

no_mark_at_front
    : (b : Bit) (xs : List Cell) → anywhere is_gap (read_from b xs) ≡ false → mark_ahead (map class_of_cell xs) ≡ false
unfolding mark_ahead lock_patterns anywhere
no_mark_at_front b xs none =
    rw (
      no_pattern_without_gap mark_a1_cells a1_gives_gap b xs none,
      no_pattern_without_gap marks_c2_cells c2_gives_gap b xs none,
    )

no_mark_without_gap
    : (b : Bit) (xs : List Cell) (k : ℕ)
    → anywhere is_gap (read_from b xs) ≡ false
    → mark_ahead (drop k (map class_of_cell xs)) ≡ false
unfolding read_from
no_mark_without_gap b xs zero none = no_mark_at_front b xs none
no_mark_without_gap b [] (suc k) none = no_mark_of_none
no_mark_without_gap b (x ∷ xs) (suc k) none =
    no_mark_without_gap (last_after b x) xs k
    (neither (anywhere is_gap (given b x)) _ (sym (anywhere-append is_gap (given b x) _) ∙ none)).1

-- ---- a mark without its first cell: what follows it gives a gap too

abbrev tail_a1_cells : List Cell
tail_a1_cells = Long ∷ Medium ∷ Long ∷ Medium ∷ []

abbrev tail_c2_cells : List Cell
tail_c2_cells = Short ∷ Medium ∷ Long ∷ Medium ∷ Long ∷ Short ∷ Medium ∷ Long ∷ Medium ∷ []

a1_tail_gives_gap : GivesGap tail_a1_cells
unfolding anywhere read_from given last_after
a1_tail_gives_gap O ys = refl
a1_tail_gives_gap G ys = refl
a1_tail_gives_gap I ys = refl

c2_tail_gives_gap : GivesGap tail_c2_cells
unfolding anywhere read_from given last_after
c2_tail_gives_gap O ys = refl
c2_tail_gives_gap G ys = refl
c2_tail_gives_gap I ys = refl

no_mark_before
    : (b : Bit) (xs : List Cell) (k : ℕ) (c : Class)
    → anywhere is_gap (read_from b xs) ≡ false
    → mark_ahead (c ∷ drop k (map class_of_cell xs)) ≡ false
unfolding read_from mark_ahead lock_patterns anywhere begins_with
no_mark_before b xs zero c none =
    rw (
      no_pattern_without_gap tail_a1_cells a1_tail_gives_gap b xs none,
      no_pattern_without_gap tail_c2_cells c2_tail_gives_gap b xs none,
      and-false,
    )
no_mark_before b [] (suc k) c none = rw and-false
no_mark_before b (x ∷ xs) (suc k) c none =
    no_mark_before (last_after b x) xs k c
    (neither (anywhere is_gap (given b x)) _ (sym (anywhere-append is_gap (given b x) _) ∙ none)).1

-- ---- a list that is read from its middle on

module _ (b : Bit) (xs : List Cell) (none : anywhere is_gap (read_from b xs) ≡ false) (start : ℕ) where
  abbrev rest : List Class
  rest = drop start (map class_of_cell xs)

  first_begins_no_mark
      : (c : Class) (cs : List Class) (k : ℕ)
      → ((c ≡ Two → ⊥) → cs ≡ drop (suc k) rest)
      → mark_ahead (c ∷ cs) ≡ false
  first_begins_no_mark Two cs k behind = two_begins_no_mark cs
  first_begins_no_mark Narrow cs k behind =
      rw (
        behind (λ e. let z : ◌≡◌ {A = ℕ} 1 2 = ap class_number e in omega arith),
        drop-drop (suc k) start (map class_of_cell xs),
      )
      (no_mark_before b xs (start + suc k) Narrow none)
  first_begins_no_mark Three cs k behind =
      rw (
        behind (λ e. let z : ◌≡◌ {A = ℕ} 3 2 = ap class_number e in omega arith),
        drop-drop (suc k) start (map class_of_cell xs),
      )
      (no_mark_before b xs (start + suc k) Three none)
  first_begins_no_mark Four cs k behind =
      rw (
        behind (λ e. let z : ◌≡◌ {A = ℕ} 4 2 = ap class_number e in omega arith),
        drop-drop (suc k) start (map class_of_cell xs),
      )
      (no_mark_before b xs (start + suc k) Four none)
  first_begins_no_mark Wide cs k behind =
      rw (
        behind (λ e. let z : ◌≡◌ {A = ℕ} 5 2 = ap class_number e in omega arith),
        drop-drop (suc k) start (map class_of_cell xs),
      )
      (no_mark_before b xs (start + suc k) Wide none)

  -- no lock stands in it
  pub no_lock_behind : (cs : List Class) → Behind cs rest → (k : ℕ) → lock_at cs k ≡ false
  no_lock_behind cs behind k =
      ⊎_elim (λ past. no_lock_past_end cs k (omega arith)) (λ inside.
      no_lock_without_mark cs k
      (rw (drop-cons cs k Two (omega arith))
      (first_begins_no_mark (get_or cs k Two) (drop (suc k) cs) k (in_step_behind_other behind k))))
      (eq-zero-or-pos (length cs - k))
