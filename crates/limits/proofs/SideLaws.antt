-- What is known of each of the ten sides, with the one-byte list that has the nearest length: the lists are those of
-- the margin's own laws. Rests on no axiom.
use Prim.Native.Nat.{◌+◌, ◌-◌, ◌*◌}
use mathlib.Core.Bool.{Bool, true, false}
use native.Mathlib.Omega.{arith}
use lib.Dec.{lit<}
use Rattle.timing.specs.Profile.{swing, advance, delay}
use Rattle.timing.specs.declared.Profile.{Profile}
use Rattle.timing.proofs.ProfileLaws.{Kept}
use Rattle.lengths.specs.Margin.{margin_of}
use Rattle.lengths.proofs.WindowLaws.{Spare}
use Rattle.lengths.proofs.MarginLaws.{margin_leaves_room}
use Rattle.lengths.proofs.WitnessLaws.{opened, whole_swing}
use Rattle.lengths.proofs.WitnessLaws.{two_same, two_less, three_same, three_more, four_same, four_more}
use Rattle.lengths.proofs.EdgeLaws.{class_below_min, class_at_b23, class_below_b23}
use Rattle.lengths.proofs.EdgeLaws.{class_at_b34, class_below_b34, class_at_rpt}
use Rattle.limits.specs.Sides.{crosses}
use Rattle.limits.specs.declared.side.Side.{Side}
use Rattle.limits.specs.declared.side.Edge.{Edge}
use Rattle.limits.specs.declared.side.Edge.TheVariants.{Min, B23, B34, Rpt}
use Rattle.limits.specs.declared.side.Kind.{Kind}
use Rattle.limits.specs.declared.side.Kind.TheVariants.{Both, Short, Long}
use Rattle.limits.proofs.EdgeLaws.{min_divides, rpt_divides}
use Rattle.limits.proofs.EdgeLaws.{b23_divides_up, b23_divides_down, b34_divides_up, b34_divides_down}
use Rattle.limits.proofs.NearestLaws.{min_nearest, rpt_nearest}
use Rattle.limits.proofs.NearestLaws.{b23_short_below_nearest, b23_short_above_nearest}
use Rattle.limits.proofs.NearestLaws.{b23_long_below_nearest, b23_long_above_nearest}
use Rattle.limits.proofs.NearestLaws.{b34_short_below_nearest, b34_short_above_nearest}
use Rattle.limits.proofs.NearestLaws.{b34_long_below_nearest, b34_long_above_nearest}
use Rattle.limits.proofs.KnownLaws.{Known, shown_by, on_left, on_right}
use Rattle.limits.proofs.KnownLaws.{short_cell_length, long_cell_length, short_divides, long_divides}

abbrev side : Edge → Kind → Bool → Side
side edge after above = record { edge = edge; after = after; above = above }

module _ {p : Profile} (k : Kept p) where
  spare : Spare p (margin_of p)
  spare = margin_leaves_room k

  pub known_min : Known p (side Min Both true) (p.t1.0 - swing p)
  unfolding opened crosses
  known_min =
      record {
        shows = shown_by _ 0x03 7 _ (lit< tt) (lit< tt) (two_less _ _ _ _ _ (whole_swing k));
        none_nearer = λ two counted w on. min_nearest k w;
        margin_stays = on_left _ _ _ _ spare.above_min;
        divides = λ two l counted on. min_divides p two l _ on (class_below_min k two);
      }

  pub known_b23_short_below : Known p (side B23 Short false) p.t1.0
  unfolding opened crosses
  known_b23_short_below =
      record {
        shows = shown_by _ 0x00 0 _ (lit< tt) (lit< tt) (two_same _ _ _);
        none_nearer = λ two counted w. b23_short_below_nearest k (short_cell_length two counted w);
        margin_stays = spare.below_b23_short;
        divides = λ two l counted on.
            short_divides p _ l (b23_divides_up p true l _ on (class_at_b23 k true)) two counted;
      }

  pub known_b23_short_above : Known p (side B23 Short true) (p.t1.0 + p.t0.0 + advance p)
  unfolding opened crosses
  known_b23_short_above =
      record {
        shows = shown_by _ 0x01 7 _ (lit< tt) (lit< tt) (three_more _ _ _ _ _ k.early_point);
        none_nearer = λ two counted w. b23_short_above_nearest k (short_cell_length two counted w);
        margin_stays = spare.above_b23_short;
        divides = λ two l counted on.
            short_divides p _ l (b23_divides_down p true l _ on (class_below_b23 k true)) two counted;
      }

  pub known_b23_long_below : Known p (side B23 Long false) (p.t1.0 - delay p)
  unfolding opened crosses
  known_b23_long_below =
      let parts = k.parts in
      let low = k.above_min in
      record {
        shows = shown_by _ 0x02 8 _ (lit< tt) (lit< tt) (two_less _ _ _ _ _ k.late_point);
        none_nearer = λ two counted w. b23_long_below_nearest k (long_cell_length two counted w);
        margin_stays = on_right _ _ _ _ (omega (arith, parts, low)) spare.below_b23_long;
        divides = λ two l counted on.
            long_divides p _ l (b23_divides_up p false l _ on (class_at_b23 k false)) two counted;
      }

  pub known_b23_long_above : Known p (side B23 Long true) (p.t1.0 + p.t0.0)
  unfolding opened crosses
  known_b23_long_above =
      record {
        shows = shown_by _ 0x09 5 _ (lit< tt) (lit< tt) (three_same _ _ _);
        none_nearer = λ two counted w. b23_long_above_nearest k (long_cell_length two counted w);
        margin_stays = spare.above_b23_long;
        divides = λ two l counted on.
            long_divides p _ l (b23_divides_down p false l _ on (class_below_b23 k false)) two counted;
      }

  pub known_b34_short_below : Known p (side B34 Short false) (p.t1.0 + p.t0.0 + swing p)
  unfolding opened crosses
  known_b34_short_below =
      record {
        shows = shown_by _ 0x03 6 _ (lit< tt) (lit< tt) (three_more _ _ _ _ _ (whole_swing k));
        none_nearer = λ two counted w. b34_short_below_nearest k (short_cell_length two counted w);
        margin_stays = spare.below_b34_short;
        divides = λ two l counted on.
            short_divides p _ l (b34_divides_up p true l _ on (class_at_b34 k true)) two counted;
      }

  pub known_b34_short_above : Known p (side B34 Short true) (p.t1.0 + 2 * p.t0.0 + advance p)
  unfolding opened crosses
  known_b34_short_above =
      record {
        shows = shown_by _ 0x0d 6 _ (lit< tt) (lit< tt) (four_more _ _ _ _ _ k.early_point);
        none_nearer = λ two counted w. b34_short_above_nearest k (short_cell_length two counted w);
        margin_stays = spare.above_b34_short;
        divides = λ two l counted on.
            short_divides p _ l (b34_divides_down p true l _ on (class_below_b34 k true)) two counted;
      }

  pub known_b34_long_below : Known p (side B34 Long false) (p.t1.0 + p.t0.0 + delay p)
  unfolding opened crosses
  known_b34_long_below =
      record {
        shows = shown_by _ 0x01 8 _ (lit< tt) (lit< tt) (three_more _ _ _ _ _ k.late_point);
        none_nearer = λ two counted w. b34_long_below_nearest k (long_cell_length two counted w);
        margin_stays = spare.below_b34_long;
        divides = λ two l counted on.
            long_divides p _ l (b34_divides_up p false l _ on (class_at_b34 k false)) two counted;
      }

  pub known_b34_long_above : Known p (side B34 Long true) (p.t1.0 + 2 * p.t0.0)
  unfolding opened crosses
  known_b34_long_above =
      record {
        shows = shown_by _ 0x05 6 _ (lit< tt) (lit< tt) (four_same _ _ _);
        none_nearer = λ two counted w. b34_long_above_nearest k (long_cell_length two counted w);
        margin_stays = spare.above_b34_long;
        divides = λ two l counted on.
            long_divides p _ l (b34_divides_down p false l _ on (class_below_b34 k false)) two counted;
      }

  pub known_rpt : Known p (side Rpt Both false) (p.t1.0 + 2 * p.t0.0 + swing p)
  unfolding opened crosses
  known_rpt =
      record {
        shows = shown_by _ 0x1b 5 _ (lit< tt) (lit< tt) (four_more _ _ _ _ _ (whole_swing k));
        none_nearer = λ two counted w on. rpt_nearest k w;
        margin_stays = spare.below_rpt;
        divides = λ two l counted on. rpt_divides p two l _ on (class_at_rpt k two);
      }
