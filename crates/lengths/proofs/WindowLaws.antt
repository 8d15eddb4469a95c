-- Why a stream keeps its classes as far as there is room: each length lies in the window of its cell's units, and where
-- m fits between those windows and the edges of the classes, an interval that is no more than m away is still between
-- the same edges. So each interval has its cell's class, and the next is classed after the kind that was written.
use Prim.Native.Nat.{ℕ, zero, suc, ◌+◌, ◌*◌, ◌≤◌, ◌<◌}
use mathlib.Core.Path.{◌≡◌, refl, ap, ap₂, ◌∙◌}
use mathlib.Core.Bool.{Bool, true}
use mathlib.Core.List.{List, [], ◌∷◌, map}
use native.Mathlib.Omega.{arith}
use lib.Dec.{eqb}
use lib.ListN.{length, get_or, take}
use Rattle.timing.specs.Profile.{swing, advance, delay}
use Rattle.timing.specs.Class.{cursor_of, at_start, is_two, classes_from, cursor_after, class_of, classes_of}
use Rattle.timing.specs.declared.Profile.{Profile}
use Rattle.timing.specs.declared.cursor.Cursor.{Cursor}
use Rattle.timing.proofs.ProfileLaws.{Kept}
use Rattle.timing.proofs.ClassLaws.{class_below_b23_is_two, class_below_b34_is_three, class_below_rpt_is_four}
use Rattle.timing.proofs.ClassLaws.{classes_none, classes_of-cons, cursor_past_lem, cursor_after_none, cursor_after-cons}
use Rattle.symbols.specs.Cells.{written_cells}
use Rattle.lengths.specs.Stream.{byte_stream}
use Rattle.lengths.specs.Units.{class_of_units}
use Rattle.lengths.specs.Margin.{after_two}
use Rattle.lengths.proofs.NearLaws.{Near}
use Rattle.lengths.proofs.KindLaws.{CellLength, two_short, two_long, three_short, three_long, four_short, four_long}
use Rattle.lengths.proofs.KindLaws.{CellLengths, stream_has_cells}

-- m fits between every length and the edges of its class: on each side of an edge
pub record Spare (p : Profile) (m : ℕ) : Type 0 where
  pub parts : swing p ≡ advance p + delay p
  pub above_min : p.min.0 + swing p + m ≤ p.t1.0
  pub below_b23_short : p.t1.0 + m < p.short.b23.0
  pub above_b23_short : p.short.b23.0 + m ≤ p.t1.0 + p.t0.0 + advance p
  pub below_b23_long : p.t1.0 + m < p.long.b23.0 + delay p
  pub above_b23_long : p.long.b23.0 + m ≤ p.t1.0 + p.t0.0
  pub below_b34_short : p.t1.0 + p.t0.0 + swing p + m < p.short.b34.0
  pub above_b34_short : p.short.b34.0 + m ≤ p.t1.0 + 2 * p.t0.0 + advance p
  pub below_b34_long : p.t1.0 + p.t0.0 + delay p + m < p.long.b34.0
  pub above_b34_long : p.long.b34.0 + m ≤ p.t1.0 + 2 * p.t0.0
  pub below_rpt : p.t1.0 + 2 * p.t0.0 + swing p + m < p.rpt.0

-- a profile that is true has room for nothing
pub kept_leaves_room : {p : Profile} → Kept p → Spare p 0
kept_leaves_room k =
    record {
      parts = k.parts;
      above_min = omega (arith, k.above_min);
      below_b23_short = omega (arith, k.below_b23_short);
      above_b23_short = omega (arith, k.above_b23_short);
      below_b23_long = omega (arith, k.below_b23_long);
      above_b23_long = omega (arith, k.above_b23_long);
      below_b34_short = omega (arith, k.below_b34_short);
      above_b34_short = omega (arith, k.above_b34_short);
      below_b34_long = omega (arith, k.below_b34_long);
      above_b34_long = omega (arith, k.above_b34_long);
      below_rpt = omega (arith, k.below_rpt);
    }

-- the class of a cell is 2 where it has 2 units
pub two_by_units : {p : Profile} {l u : ℕ} {two : Bool} → CellLength p l two u → is_two (class_of_units u) ≡ eqb u 2
unfolding class_of_units
two_by_units (two_short low high) = refl
two_by_units (two_long low high) = refl
two_by_units (three_short low high) = refl
two_by_units (three_long low high) = refl
two_by_units (four_short low high) = refl
two_by_units (four_long low high) = refl

module _ {p : Profile} {m : ℕ} (s : Spare p m) where
  pub near_length_has_class :
      (d : ℕ) {l u : ℕ} {two : Bool}
      → CellLength p l two u
      → d ≤ l + m
      → l ≤ d + m
      → class_of p two d ≡ class_of_units u
  unfolding class_of_units
  near_length_has_class d (two_short low high) above below =
      class_below_b23_is_two p _ d (omega arith) (omega arith)
  near_length_has_class d (two_long low high) above below =
      class_below_b23_is_two p _ d (omega arith) (omega arith)
  near_length_has_class d (three_short low high) above below =
      class_below_b34_is_three p _ d (omega arith) (omega arith) (omega arith)
  near_length_has_class d (three_long low high) above below =
      class_below_b34_is_three p _ d (omega arith) (omega arith) (omega arith)
  near_length_has_class d (four_short low high) above below =
      class_below_rpt_is_four p _ d (omega arith) (omega arith) (omega arith) (omega arith)
  near_length_has_class d (four_long low high) above below =
      class_below_rpt_is_four p _ d (omega arith) (omega arith) (omega arith) (omega arith)

  -- behind it the classing goes by the cell that was written
  near_length_is_passed :
      (d : ℕ) {l u : ℕ} {two : Bool}
      → CellLength p l two u
      → d ≤ l + m
      → l ≤ d + m
      → cursor_of p (is_two (class_of p two d)) ≡ cursor_of p (eqb u 2)
  near_length_is_passed d w above below =
      ap (cursor_of p) (ap is_two (near_length_has_class d w above below) ∙ two_by_units w)

  pub near_lengths_have_classes :
      (us ls ds : List ℕ) (two : Bool)
      → CellLengths p two us ls
      → Near m ds ls
      → classes_from (cursor_of p two) ds ≡ map class_of_units us
  unfolding CellLengths Near
  near_lengths_have_classes [] [] [] two w n = classes_none (cursor_of p two)
  near_lengths_have_classes [] [] (d ∷ ds) two w n = absurd n
  near_lengths_have_classes [] (l ∷ ls) ds two w n = absurd w
  near_lengths_have_classes (u ∷ us) [] ds two w n = absurd w
  near_lengths_have_classes (u ∷ us) (l ∷ ls) [] two w n = absurd n
  near_lengths_have_classes (u ∷ us) (l ∷ ls) (d ∷ ds) two w n =
      classes_of-cons p two d ds
      ∙ ap₂ ◌∷◌ (near_length_has_class d w.0 n.0 n.1)
      (ap (λ (c : Cursor). classes_from c ds) (near_length_is_passed d w.0 n.0 n.1)
      ∙ near_lengths_have_classes us ls ds (eqb u 2) w.1 n.2)

  -- and where it stands before each
  near_lengths_are_passed :
      (before : ℕ) (us ls ds : List ℕ)
      → CellLengths p (eqb before 2) us ls
      → Near m ds ls
      → (k : ℕ)
      → k ≤ length ls
      → cursor_after (cursor_of p (eqb before 2)) (take k ds) ≡ cursor_of p (eqb (get_or (before ∷ us) k 2) 2)
  unfolding CellLengths Near
  near_lengths_are_passed before us ls ds w n zero h = cursor_after_none _
  near_lengths_are_passed before us [] ds w n (suc k) h = absurd (omega arith)
  near_lengths_are_passed before [] (l ∷ ls) ds w n (suc k) h = absurd w
  near_lengths_are_passed before (u ∷ us) (l ∷ ls) [] w n (suc k) h = absurd n
  near_lengths_are_passed before (u ∷ us) (l ∷ ls) (d ∷ ds) w n (suc k) h =
      let two = eqb before 2 in
      cursor_after-cons (cursor_of p two) d (take k ds)
      ∙ ap (λ (c : Cursor). cursor_after c (take k ds))
      (cursor_past_lem p two d ∙ near_length_is_passed d w.0 n.0 n.1)
      ∙ near_lengths_are_passed u us ls ds w.1 n.2 k (omega arith)

  module _ (k : Kept p) (ws ds : List ℕ) (n : Near m ds (byte_stream p ws)) where
    pub near_stream_has_classes : classes_of p ds ≡ map class_of_units (written_cells ws)
    unfolding classes_of at_start
    near_stream_has_classes =
        near_lengths_have_classes (written_cells ws) (byte_stream p ws) ds true (stream_has_cells k ws) n

    pub near_stream_is_passed :
        (i : ℕ)
        → i ≤ length (byte_stream p ws)
        → cursor_after (at_start p) (take i ds) ≡ cursor_of p (after_two (written_cells ws) i)
    unfolding at_start
    near_stream_is_passed =
        near_lengths_are_passed 2 (written_cells ws) (byte_stream p ws) ds (stream_has_cells k ws) n
