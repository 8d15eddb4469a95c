-- The margin is the least of ten rooms, so it fits in each, and whatever fits in each is at most the margin. Rests on no
-- axiom.
use Prim.Native.Nat.{ℕ, ◌+◌, ◌-◌, ◌≤◌, ◌<◌, min}
use native.Mathlib.Omega.{arith}
use lib.Dec.{lit<}
use lib.ListN.{get_or}
use Rattle.lists.specs.Span.{least}
use Rattle.lists.proofs.SpanLaws.{least_is_no_more}
use Rattle.timing.specs.Profile.{swing, delay}
use Rattle.timing.specs.declared.Profile.{Profile}
use Rattle.timing.proofs.ProfileLaws.{Kept}
use Rattle.lengths.specs.Margin.{rooms_of, margin_of}
use Rattle.lengths.proofs.WindowLaws.{Spare}

delay_is_short : {p : Profile} → Kept p → delay p ≤ p.t1.0
delay_is_short {p} k = let parts = k.parts in let low = k.above_min in omega arith

-- what is at most a room leaves it
leaves_below : (m edge l : ℕ) → l < edge → m ≤ edge - 1 - l → l + m < edge
leaves_below m edge l h g = omega arith

leaves_above : (m edge l : ℕ) → edge ≤ l → m ≤ l - edge → edge + m ≤ l
leaves_above m edge l h g = omega arith

leaves_above_less : (m edge l d : ℕ) → edge + d ≤ l → m ≤ l - d - edge → edge + d + m ≤ l
leaves_above_less m edge l d h g = omega arith

leaves_below_less : (m edge l d : ℕ) → l < edge + d → d ≤ l → m ≤ edge - 1 - (l - d) → l + m < edge + d
leaves_below_less m edge l d h low g = omega arith

pub margin_leaves_room : {p : Profile} → Kept p → Spare p (margin_of p)
unfolding margin_of rooms_of
margin_leaves_room {p} k =
    let fits : (i : ℕ) → i < 10 → margin_of p ≤ get_or (rooms_of p) i 0 = least_is_no_more (rooms_of p) in
    record {
      parts = k.parts;
      above_min = leaves_above_less _ _ _ _ k.above_min (fits 0 (lit< tt));
      below_b23_short = leaves_below _ _ _ k.below_b23_short (fits 1 (lit< tt));
      above_b23_short = leaves_above _ _ _ k.above_b23_short (fits 2 (lit< tt));
      below_b23_long = leaves_below_less _ _ _ _ k.below_b23_long (delay_is_short k) (fits 3 (lit< tt));
      above_b23_long = leaves_above _ _ _ k.above_b23_long (fits 4 (lit< tt));
      below_b34_short = leaves_below _ _ _ k.below_b34_short (fits 5 (lit< tt));
      above_b34_short = leaves_above _ _ _ k.above_b34_short (fits 6 (lit< tt));
      below_b34_long = leaves_below _ _ _ k.below_b34_long (fits 7 (lit< tt));
      above_b34_long = leaves_above _ _ _ k.above_b34_long (fits 8 (lit< tt));
      below_rpt = leaves_below _ _ _ k.below_rpt (fits 9 (lit< tt));
    }

-- ---- and the other way round

fits_below : (m edge l : ℕ) → l + m < edge → m ≤ edge - 1 - l
fits_below m edge l h = omega arith

fits_above : (m edge l : ℕ) → edge + m ≤ l → m ≤ l - edge
fits_above m edge l h = omega arith

fits_above_less : (m edge l d : ℕ) → edge + d + m ≤ l → m ≤ l - d - edge
fits_above_less m edge l d h = omega arith

fits_below_less : (m edge l d : ℕ) → d ≤ l → l + m < edge + d → m ≤ edge - 1 - (l - d)
fits_below_less m edge l d low h = omega arith

both_fit : (m a b : ℕ) → m ≤ a → m ≤ b → m ≤ min a b
both_fit m a b h g = omega arith

pub spare_is_within_the_margin : {p : Profile} (m : ℕ) → Spare p m → m ≤ margin_of p
unfolding margin_of rooms_of least
spare_is_within_the_margin {p} m s =
    let parts = s.parts in
    let low = s.above_min in
    both_fit m _ _ (fits_above_less m _ _ (swing p) s.above_min)
    (both_fit m _ _ (fits_below m _ _ s.below_b23_short)
    (both_fit m _ _ (fits_above m _ _ s.above_b23_short)
    (both_fit m _ _ (fits_below_less m _ _ (delay p) (omega (arith, parts, low)) s.below_b23_long)
    (both_fit m _ _ (fits_above m _ _ s.above_b23_long)
    (both_fit m _ _ (fits_below m _ _ s.below_b34_short)
    (both_fit m _ _ (fits_above m _ _ s.above_b34_short)
    (both_fit m _ _ (fits_below m _ _ s.below_b34_long)
    (both_fit m _ _ (fits_above m _ _ s.above_b34_long) (fits_below m _ _ s.below_rpt)))))))))
