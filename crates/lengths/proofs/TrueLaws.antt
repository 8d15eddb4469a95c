-- Why the profile's tests are the paper's: a profile that passes them has every length in its window, since it leaves room
-- for nothing; and a profile that has every length in its window passes each test, since the nearest length on that side
-- of the edge is one that a one-byte list has. Rests on no axiom.
use Prim.Native.Nat.{ℕ, ◌+◌, ◌-◌, ◌*◌, ◌≤◌, ◌<◌}
use mathlib.Core.Path.{◌≡◌}
use mathlib.Core.Bool.{Bool, true, false}
use mathlib.Core.List.{[], ◌∷◌}
use native.Mathlib.Omega.{arith}
use lib.Dec.{lit<}
use lib.ListN.{length, get_or}
use borrow.Author.Tests.{lt-ltb, le-leb}
use Rattle.timing.specs.Profile.{swing, advance, delay, InRange, is_true_short, is_true_long, is_true}
use Rattle.timing.specs.Class.{class_of}
use Rattle.timing.specs.declared.Profile.{Profile}
use Rattle.timing.specs.declared.Class.TheVariants.{Two, Three, Four}
use Rattle.timing.proofs.ProfileLaws.{kept_if_true, early_part, late_part, both_parts}
use Rattle.timing.proofs.ClassLaws.{bounds_of}
use Rattle.timing.proofs.StandLaws.{within_two, within_three, within_four}
use Rattle.items.specs.Written.{written}
use Rattle.symbols.specs.Cells.{written_cells}
use Rattle.lengths.specs.Stream.{byte_stream, stream_of}
use Rattle.lengths.specs.Units.{class_of_units}
use Rattle.lengths.specs.Margin.{after_two, TrueProfile}
use Rattle.lengths.specs.Claims.{TrueByLengths}
use Rattle.lengths.proofs.KindLaws.{cell_length_at, stream_has_cells}
use Rattle.lengths.proofs.WindowLaws.{kept_leaves_room, near_length_has_class}
use Rattle.lengths.proofs.WitnessLaws.{opened, two_same, two_less, three_same, three_more, four_same, four_more}
use Rattle.lengths.proofs.PapersMargin.{one_byte_is_accepted, written_one}

true_has_lengths : (p : Profile) → InRange p → is_true p ≡ true → TrueProfile p
unfolding stream_of
true_has_lengths p within passes =
    let k = kept_if_true p within passes in
    record {
      early_first = k.early_first;
      late_last = k.late_last;
      in_windows = λ items listed i h.
          near_length_has_class (kept_leaves_room k) _
          (cell_length_at 2 (written_cells (written items)) _ (stream_has_cells k (written items)) i h)
          (omega arith) (omega arith);
    }

module _ {p : Profile} (within : InRange p) (t : TrueProfile p) where
  -- the length at a place of a one-byte list's stream has its cell's class
  class_there
      : (b i : ℕ)
      → b < 256
      → i < length (byte_stream p (b ∷ []))
      → class_of p (after_two (written_cells (b ∷ [])) i) (get_or (byte_stream p (b ∷ [])) i 0)
      ≡ class_of_units (get_or (written_cells (b ∷ [])) i 0)
  unfolding stream_of
  class_there b i byte inside =
      let all = rw (written_one b byte) at (t.in_windows (b ∷ []) (one_byte_is_accepted b byte)) in all i inside

  early : 2 * p.early.0 + advance p ≡ 2 * p.normal.0
  early = early_part p t.early_first

  late : 2 * p.normal.0 + delay p ≡ 2 * p.late.0
  late = late_part p t.late_last

  parts : swing p ≡ advance p + delay p
  parts = both_parts p t.early_first t.late_last

  whole : 2 * p.early.0 + swing p ≡ 2 * p.late.0
  whole = let a = early in let b = late in let c = parts in omega (arith, a, b, c)

  -- a length that has a class is between that class's edges
  in_two : (two : Bool) (l d : ℕ) → d ≡ l → class_of p two d ≡ Two → (p.min.0 ≤ l) × (l < (bounds_of p two).b23.0)
  in_two two l d same class = rw same at (within_two p two d class)

  in_three
      : (two : Bool) (l d : ℕ) → d ≡ l → class_of p two d ≡ Three
      → ((bounds_of p two).b23.0 ≤ l) × (l < (bounds_of p two).b34.0)
  in_three two l d same class = rw same at (within_three p two d class)

  in_four
      : (two : Bool) (l d : ℕ) → d ≡ l → class_of p two d ≡ Four → ((bounds_of p two).b34.0 ≤ l) × (l < p.rpt.0)
  in_four two l d same class = rw same at (within_four p two d class)

  above_min : p.min.0 ≤ p.t1.0 - swing p
  unfolding opened class_of_units
  above_min = (in_two false _ _ (two_less _ _ _ _ _ whole) (class_there 0x03 7 (lit< tt) (lit< tt))).0

  below_b23_short : p.t1.0 < p.short.b23.0
  unfolding opened class_of_units
  below_b23_short = (in_two true _ _ (two_same _ _ _) (class_there 0x00 0 (lit< tt) (lit< tt))).1

  above_b23_short : p.short.b23.0 ≤ p.t1.0 + p.t0.0 + advance p
  unfolding opened class_of_units
  above_b23_short = (in_three true _ _ (three_more _ _ _ _ _ early) (class_there 0x01 7 (lit< tt) (lit< tt))).0

  below_b23_long : p.t1.0 - delay p < p.long.b23.0
  unfolding opened class_of_units
  below_b23_long = (in_two false _ _ (two_less _ _ _ _ _ late) (class_there 0x02 8 (lit< tt) (lit< tt))).1

  above_b23_long : p.long.b23.0 ≤ p.t1.0 + p.t0.0
  unfolding opened class_of_units
  above_b23_long = (in_three false _ _ (three_same _ _ _) (class_there 0x09 5 (lit< tt) (lit< tt))).0

  below_b34_short : p.t1.0 + p.t0.0 + swing p < p.short.b34.0
  unfolding opened class_of_units
  below_b34_short = (in_three true _ _ (three_more _ _ _ _ _ whole) (class_there 0x03 6 (lit< tt) (lit< tt))).1

  above_b34_short : p.short.b34.0 ≤ p.t1.0 + 2 * p.t0.0 + advance p
  unfolding opened class_of_units
  above_b34_short = (in_four true _ _ (four_more _ _ _ _ _ early) (class_there 0x0d 6 (lit< tt) (lit< tt))).0

  below_b34_long : p.t1.0 + p.t0.0 + delay p < p.long.b34.0
  unfolding opened class_of_units
  below_b34_long = (in_three false _ _ (three_more _ _ _ _ _ late) (class_there 0x01 8 (lit< tt) (lit< tt))).1

  above_b34_long : p.long.b34.0 ≤ p.t1.0 + 2 * p.t0.0
  unfolding opened class_of_units
  above_b34_long = (in_four false _ _ (four_same _ _ _) (class_there 0x05 6 (lit< tt) (lit< tt))).0

  below_rpt : p.t1.0 + 2 * p.t0.0 + swing p < p.rpt.0
  unfolding opened class_of_units
  below_rpt = (in_four true _ _ (four_more _ _ _ _ _ whole) (class_there 0x1b 5 (lit< tt) (lit< tt))).1

  -- what is cut off is not below zero, since Min is above it
  on_the_left : (low l d : ℕ) → 1 ≤ low → low ≤ l - d → low + d ≤ l
  on_the_left low l d some h = omega arith

  on_the_right : (l d edge : ℕ) → l - d < edge → l < edge + d
  on_the_right l d edge h = omega arith

  min_is_some : 1 ≤ p.min.0
  min_is_some = within.2.2.2.2.2.0

  lengths_make_it_true : is_true p ≡ true
  unfolding is_true is_true_short is_true_long
  lengths_make_it_true =
      rw (
        le-leb _ _ t.early_first,
        le-leb _ _ t.late_last,
        le-leb _ _ (on_the_left _ _ _ min_is_some above_min),
        lt-ltb _ _ below_b23_short,
        le-leb _ _ above_b23_short,
        lt-ltb _ _ below_b34_short,
        le-leb _ _ above_b34_short,
        lt-ltb _ _ (on_the_right _ _ _ below_b23_long),
        le-leb _ _ above_b23_long,
        lt-ltb _ _ below_b34_long,
        le-leb _ _ above_b34_long,
        lt-ltb _ _ below_rpt,
      )

pub true_by_lengths : TrueByLengths
true_by_lengths p within = (true_has_lengths p within, lengths_make_it_true within)
