-- A number above the margin is above one of its rooms, whose end a one-byte list takes: moved by that number its
-- interval crosses the edge. Rests on no axiom.
use Prim.Native.Nat.{ℕ, zero, suc, ◌+◌, ◌-◌, ◌*◌, ◌≤◌, ◌<◌}
use mathlib.Core.Path.{◌≡◌}
use mathlib.Core.Bool.{Bool, true, false}
use mathlib.Core.List.{List, [], ◌∷◌}
use native.Mathlib.Omega.{arith}
use lib.Dec.{lit<}
use lib.ListN.{length, get_or}
use Rattle.lists.proofs.SpanLaws.{least_is_of_one}
use Rattle.timing.specs.Profile.{swing}
use Rattle.timing.specs.Class.{class_of, class_number}
use Rattle.timing.specs.declared.Profile.{Profile}
use Rattle.timing.specs.declared.Class.{Class}
use Rattle.timing.specs.declared.Class.TheVariants.{Narrow, Two, Three, Four, Wide}
use Rattle.timing.proofs.ProfileLaws.{Kept}
use Rattle.items.specs.Item.{is_mark}
use Rattle.symbols.specs.Bits.{byte_bits, written_bits, all_bits, bits_of}
use Rattle.symbols.specs.Cells.{pair_symbols, symbols_from, symbols_of, cells_from, cells_of, written_symbols, written_cells}
use Rattle.lengths.specs.Lengths.{point, symbol_after, cell_length, lengths_from, lengths_of}
use Rattle.lengths.specs.Stream.{byte_stream}
use Rattle.lengths.specs.Margin.{after_two, rooms_of, margin_of}
use Rattle.lengths.specs.Units.{class_of_units}
use Rattle.lengths.proofs.KindLaws.{cell_length_at, stream_has_cells}
use Rattle.lengths.proofs.WindowLaws.{kept_leaves_room, near_length_has_class}
use Rattle.lengths.proofs.EdgeLaws.{strict, min_fits, b23_fits, b34_fits, b23_some, b34_some, class_at_b23}
use Rattle.lengths.proofs.EdgeLaws.{class_below_b23, class_at_b34, class_below_b34, class_below_min, class_at_rpt}

-- a one-byte list, a place of its stream, and an interval of another class, no more than n away from the length there
pub record Broken (p : Profile) (n : ℕ) : Type 0 where
  pub byte : ℕ
  pub is_byte : byte < 256
  pub place : ℕ
  pub in_stream : place < length (byte_stream p (byte ∷ []))
  pub moved : ℕ
  pub fits : moved < 65536
  pub not_longer : moved ≤ get_or (byte_stream p (byte ∷ [])) place 0 + n
  pub not_shorter : get_or (byte_stream p (byte ∷ [])) place 0 ≤ moved + n
  pub other_class
      : class_of p (after_two (written_cells (byte ∷ [])) place) moved
      ≡ class_of p (after_two (written_cells (byte ∷ [])) place) (get_or (byte_stream p (byte ∷ [])) place 0)
      → ⊥

classes_differ : {a b : Class} (c e : Class) → a ≡ c → b ≡ e → (class_number c ≡ class_number e → ⊥) → a ≡ b → ⊥
classes_differ c e ac be differ same = differ (cc)

-- a length at a place of a one-byte list's stream, in its window, and a number that its class has not
module _ {p : Profile} (k : Kept p) (b place n : ℕ) where
  abbrev stream : List ℕ
  stream = byte_stream p (b ∷ [])

  abbrev before : Bool
  before = after_two (written_cells (b ∷ [])) place

  broken_at
      : (l d : ℕ) (there : Class)
      → place < length stream
      → get_or stream place 0 ≡ l
      → b < 256
      → (d < 65536) × (d ≤ l + n) × (l ≤ d + n)
      → class_of p before d ≡ there
      → (class_number there ≡ class_number (class_of_units (get_or (written_cells (b ∷ [])) place 0)) → ⊥)
      → Broken p n
  broken_at l d there inside same byte (fits, longer, shorter) moved differ =
      let window = cell_length_at 2 (written_cells (b ∷ [])) stream (stream_has_cells k (b ∷ [])) place inside in
      record {
        byte = b;
        is_byte = byte;
        place = place;
        in_stream = inside;
        moved = d;
        fits = fits;
        not_longer = rw same longer;
        not_shorter = rw same shorter;
        other_class = classes_differ there _ moved
            (near_length_has_class (kept_leaves_room k) _ window (omega arith) (omega arith)) differ;
      }

  -- up to an edge from below, and below an edge from above
  moved_up
      : (l edge : ℕ) → l < edge → edge < 65536 → edge - 1 - l < n
      → (edge < 65536) × (edge ≤ l + n) × (l ≤ edge + n)
  moved_up l edge h fits over = (fits, omega arith, omega arith)

  moved_down
      : (l edge : ℕ) → 1 ≤ edge → edge ≤ l → edge < 65536 → l - edge < n
      → (edge - 1 < 65536) × (edge - 1 ≤ l + n) × (l ≤ edge - 1 + n)
  moved_down l edge some h fits over = (omega arith, omega arith, omega arith)

-- ---- lengths by their two compare points

module _ (t u : ℕ) where
  pub two_same : (a : ℕ) → t + 0 * u + 2 * a - 2 * a ≡ t
  two_same a = omega arith

  pub two_less : (a b δ : ℕ) → 2 * a + δ ≡ 2 * b → t + 0 * u + 2 * a - 2 * b ≡ t - δ
  two_less a b δ h = omega arith

  pub three_same : (a : ℕ) → t + 1 * u + 2 * a - 2 * a ≡ t + u
  three_same a = omega arith

  pub three_more : (a b δ : ℕ) → 2 * a + δ ≡ 2 * b → t + 1 * u + 2 * b - 2 * a ≡ t + u + δ
  three_more a b δ h = omega arith

  pub four_same : (a : ℕ) → t + 2 * u + 2 * a - 2 * a ≡ t + 2 * u
  four_same a = omega arith

  pub four_more : (a b δ : ℕ) → 2 * a + δ ≡ 2 * b → t + 2 * u + 2 * b - 2 * a ≡ t + 2 * u + δ
  four_more a b δ h = omega arith

less_than : (a b c : ℕ) → a < b + c → 1 ≤ b → a - c < b
less_than a b c h some = omega arith

from_less : (a b c : ℕ) → a + c ≤ b → a ≤ b - c
from_less a b c h = omega arith

-- opens every definition on the way from a byte to its stream
unfoldable pub opened : Unit {0}
unfolding
    byte_stream lengths_of lengths_from cell_length point symbol_after written_cells cells_of cells_from
    written_symbols symbols_of symbols_from pair_symbols bits_of all_bits written_bits is_mark byte_bits
opened = tt

pub whole_swing : {p : Profile} → Kept p → 2 * p.early.0 + swing p ≡ 2 * p.late.0
whole_swing k = let a = k.early_point in let b = k.late_point in let c = k.parts in omega arith

-- the nearest length on each side of an edge is one that a one-byte list has
module _ {p : Profile} (k : Kept p) (n : ℕ) where
  broken_on : (i : ℕ) → i < 10 → get_or (rooms_of p) i 0 < n → Broken p n
  unfolding rooms_of opened class_of_units
  broken_on zero inside over =
      broken_at k 0x03 7 n _ _ Narrow (lit< tt) (two_less _ _ _ _ _ (whole_swing k)) (lit< tt)
      (moved_down k 0x03 7 n _ _ (strict k true).first (from_less _ _ _ k.above_min) (min_fits k) over)
      (class_below_min k false) (omega arith)
  broken_on (suc zero) inside over =
      broken_at k 0x00 0 n _ _ Three (lit< tt) (two_same _ _ _) (lit< tt)
      (moved_up k 0x00 0 n _ _ k.below_b23_short (b23_fits k true) over) (class_at_b23 k true) (omega arith)
  broken_on (suc (suc zero)) inside over =
      broken_at k 0x01 7 n _ _ Two (lit< tt) (three_more _ _ _ _ _ k.early_point) (lit< tt)
      (moved_down k 0x01 7 n _ _ (b23_some k true) k.above_b23_short (b23_fits k true) over)
      (class_below_b23 k true) (omega arith)
  broken_on (suc (suc (suc zero))) inside over =
      broken_at k 0x02 8 n _ _ Three (lit< tt) (two_less _ _ _ _ _ k.late_point) (lit< tt)
      (moved_up k 0x02 8 n _ _ (less_than _ _ _ k.below_b23_long (b23_some k false)) (b23_fits k false) over)
      (class_at_b23 k false) (omega arith)
  broken_on (suc (suc (suc (suc zero)))) inside over =
      broken_at k 0x09 5 n _ _ Two (lit< tt) (three_same _ _ _) (lit< tt)
      (moved_down k 0x09 5 n _ _ (b23_some k false) k.above_b23_long (b23_fits k false) over)
      (class_below_b23 k false) (omega arith)
  broken_on (suc (suc (suc (suc (suc zero))))) inside over =
      broken_at k 0x03 6 n _ _ Four (lit< tt) (three_more _ _ _ _ _ (whole_swing k)) (lit< tt)
      (moved_up k 0x03 6 n _ _ k.below_b34_short (b34_fits k true) over) (class_at_b34 k true) (omega arith)
  broken_on (suc (suc (suc (suc (suc (suc zero)))))) inside over =
      broken_at k 0x0d 6 n _ _ Three (lit< tt) (four_more _ _ _ _ _ k.early_point) (lit< tt)
      (moved_down k 0x0d 6 n _ _ (b34_some k true) k.above_b34_short (b34_fits k true) over)
      (class_below_b34 k true) (omega arith)
  broken_on (suc (suc (suc (suc (suc (suc (suc zero))))))) inside over =
      broken_at k 0x01 8 n _ _ Four (lit< tt) (three_more _ _ _ _ _ k.late_point) (lit< tt)
      (moved_up k 0x01 8 n _ _ k.below_b34_long (b34_fits k false) over) (class_at_b34 k false) (omega arith)
  broken_on (suc (suc (suc (suc (suc (suc (suc (suc zero)))))))) inside over =
      broken_at k 0x05 6 n _ _ Three (lit< tt) (four_same _ _ _) (lit< tt)
      (moved_down k 0x05 6 n _ _ (b34_some k false) k.above_b34_long (b34_fits k false) over)
      (class_below_b34 k false) (omega arith)
  broken_on (suc (suc (suc (suc (suc (suc (suc (suc (suc zero))))))))) inside over =
      broken_at k 0x1b 5 n _ _ Wide (lit< tt) (four_more _ _ _ _ _ (whole_swing k)) (lit< tt)
      (moved_up k 0x1b 5 n _ _ k.below_rpt (strict k true).last over) (class_at_rpt k true) (omega arith)
  broken_on (suc (suc (suc (suc (suc (suc (suc (suc (suc (suc i)))))))))) inside over = absurd (omega (arith, inside))

  pub above_margin_is_broken : margin_of p < n → Broken p n
  unfolding margin_of rooms_of
  above_margin_is_broken over =
      let (i, inside, same) = least_is_of_one (rooms_of p) (lit< tt) in broken_on i inside (rw same over)
