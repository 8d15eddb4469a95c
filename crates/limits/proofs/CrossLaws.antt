-- What holds of a length that crosses an edge if moved by margin + 1: the margin leaves it on its side, so that one
-- half clock more just reaches beyond the edge, into another class; and a one-byte list up to 1B shows the side too.
-- Rests on no axiom.
use Prim.Native.Nat.{ℕ, ◌+◌, ◌-◌, ◌≤◌, ◌<◌}
use mathlib.Core.Path.{◌≡◌}
use mathlib.Core.Bool.{Bool, true, false, cond}
use mathlib.Core.List.{List}
use native.Mathlib.Omega.{arith}
use lib.Dec.{ltb, leb}
use lib.ListN.{get_or}
use borrow.Author.Tests.{ltb-true, leb-true}
use Rattle.lists.proofs.BoolLaws.{both}
use Rattle.timing.specs.declared.Profile.{Profile}
use Rattle.timing.proofs.ProfileLaws.{Kept}
use Rattle.items.specs.Written.{written}
use Rattle.symbols.specs.Cells.{written_cells}
use Rattle.lengths.specs.Stream.{stream_of}
use Rattle.lengths.specs.Margin.{after_two, margin_of}
use Rattle.lengths.proofs.KindLaws.{CellLength, cell_length_at, stream_has_cells}
use Rattle.limits.specs.Sides.{counts, edge_of, reaches, crosses, beyond}
use Rattle.limits.specs.Limits.{one_more, CrossesAt, MovedBy}
use Rattle.limits.specs.declared.side.Side.{Side}
use Rattle.limits.specs.declared.side.Edge.{Edge}
use Rattle.limits.specs.declared.side.Edge.TheVariants.{Min, B23, B34, Rpt}
use Rattle.limits.specs.declared.side.Kind.{Kind}
use Rattle.limits.specs.declared.side.Kind.TheVariants.{Both, Short, Long}
use Rattle.limits.proofs.EdgeLaws.{On, Stays, Nearer, Divides, reaches_from, nearer_reaches}
use Rattle.limits.proofs.EdgeLaws.{stays_on, nearer_stays}
use Rattle.limits.proofs.NearestLaws.{min_nearest, rpt_nearest}
use Rattle.limits.proofs.KnownLaws.{Shown, edge_at, Known}

moved_by
    : (above : Bool) (m edge l : ℕ)
    → 1 ≤ edge
    → reaches above edge (m + 1) l ≡ true
    → Stays above m edge l
    → MovedBy above (m + 1) l (cond above (edge - 1) edge)
unfolding MovedBy
moved_by false m edge l some e stays =
    let over = leb-true edge (l + (m + 1)) (both (ltb l edge) (leb edge (l + (m + 1))) e).1 in
    omega (arith, over, stays)
moved_by true m edge l some e stays =
    let over = ltb-true l (edge + (m + 1)) (both (leb edge l) (ltb l (edge + (m + 1))) e).1 in
    omega (arith, some, over, stays)

moved_is_near : (above : Bool) (n l moved : ℕ) → MovedBy above n l moved → (moved ≤ l + n) × (l ≤ moved + n)
unfolding MovedBy
moved_is_near false n l moved e = (omega (arith, e), omega (arith, e))
moved_is_near true n l moved e = (omega (arith, e), omega (arith, e))

less_one_fits : (above : Bool) (edge : ℕ) → edge < 65536 → cond above (edge - 1) edge < 65536
less_one_fits false edge h = h
less_one_fits true edge h = omega arith

module _ {p : Profile} (k : Kept p) where
  edge_in_range : (edge : Edge) (after : Kind) → (1 ≤ edge_of p edge after) × (edge_of p edge after < 65536)
  edge_in_range Min after = (omega (arith, k), omega (arith, k))
  edge_in_range B23 Both = (omega (arith, k), omega (arith, k))
  edge_in_range B23 Short = (omega (arith, k), omega (arith, k))
  edge_in_range B23 Long = (omega (arith, k), omega (arith, k))
  edge_in_range B34 Both = (omega (arith, k), omega (arith, k))
  edge_in_range B34 Short = (omega (arith, k), omega (arith, k))
  edge_in_range B34 Long = (omega (arith, k), omega (arith, k))
  edge_in_range Rpt after = (omega (arith, k), omega (arith, k))

  pub beyond_fits : (s : Side) → beyond p s < 65536
  beyond_fits s = less_one_fits s.above (edge_at p s) (edge_in_range s.edge s.after).1

  -- a place of a list's stream that crosses
  module _ (s : Side) (items : List ℕ) (place : ℕ) (c : CrossesAt p s items place) where
    abbrev two : Bool
    two = after_two (written_cells (written items)) place

    abbrev l : ℕ
    l = get_or (stream_of p items) place 0

    window : CellLength p l two (get_or (written_cells (written items)) place 0)
    unfolding stream_of
    window = cell_length_at 2 (written_cells (written items)) _ (stream_has_cells k (written items)) place c.in_stream

    asked : (counts s.after two ≡ true) × (reaches s.above (edge_at p s) (one_more p) l ≡ true)
    unfolding crosses
    asked = both (counts s.after two) (reaches s.above (edge_at p s) (one_more p) l) c.crosses_edge

    on : On s.above (edge_at p s) l
    on = reaches_from (edge_at p s) (one_more p) s.above l asked.1

    module _ {near : ℕ} (known : Known p s near) where
      not_nearer : Nearer s.above near l
      not_nearer = known.none_nearer two asked.0 window on

      pub just_beyond : MovedBy s.above (one_more p) l (beyond p s)
      just_beyond =
          moved_by s.above (margin_of p) (edge_at p s) l (edge_in_range s.edge s.after).0 asked.1
          (nearer_stays s.above (margin_of p) (edge_at p s) near l not_nearer known.margin_stays)

      pub within_one_more : (beyond p s ≤ l + one_more p) × (l ≤ beyond p s + one_more p)
      within_one_more = moved_is_near s.above (one_more p) _ _ just_beyond

      pub shown_too : Shown p s
      shown_too =
          known.shows
          (nearer_reaches (edge_at p s) (one_more p) s.above near l asked.1
          (stays_on s.above (margin_of p) (edge_at p s) near known.margin_stays) not_nearer)

      pub other_class : Divides p two (beyond p s) l
      other_class = known.divides two l asked.0 on

  -- no length is written below Min, and none above Rpt
  module _ (items : List ℕ) (place : ℕ) where
    pub none_below_min : CrossesAt p (record { edge = Min; after = Both; above = false }) items place → ⊥
    none_below_min c =
        omega (arith, k.above_min, min_nearest k (window _ items place c), on _ items place c)

    pub none_above_rpt : CrossesAt p (record { edge = Rpt; after = Both; above = true }) items place → ⊥
    none_above_rpt c =
        omega (arith, k.below_rpt, rpt_nearest k (window _ items place c), on _ items place c)
