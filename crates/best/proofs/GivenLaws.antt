-- Which of several equally good profiles is given: a bound in the middle has the most room on its narrower side, and where
-- two have as much it is the lower one; Min and Rpt are where the largest margin just fits. Rests on no axiom.
use Prim.Native.Nat.{ℕ, ◌+◌, ◌-◌, ◌*◌, ◌≤◌, ◌<◌, min}
use mathlib.Core.Path.{◌≡◌, ap, subst, ◌∙◌}
use native.Mathlib.Omega.{arith}
use Rattle.refusal.specs.Answer.{Answer}
use Rattle.timing.specs.Profile.{swing, advance, delay, profile_rule}
use Rattle.timing.specs.declared.Profile.{Profile}
use Rattle.timing.proofs.ProfileLaws.{Kept, kept}
use Rattle.lengths.specs.Margin.{rooms_of, margin_of}
use Rattle.lengths.proofs.WindowLaws.{Spare}
use Rattle.lengths.proofs.MarginLaws.{margin_leaves_room}
use Rattle.best.specs.Best.{writing_of, middle, best_margin, best_profile, best_rule}
use Rattle.best.specs.Claims.{Given, WhichIsGiven}
use Rattle.best.proofs.RoomLaws.{middle_is_above, middle_is_below}
use Rattle.best.proofs.BestLaws.{its_best_answer}

-- the room on the narrower side of a bound, between the longest length below it and the shortest above
abbrev narrower : ℕ → ℕ → ℕ → ℕ
narrower below above b = min (b - 1 - below) (above - b)

lesser_left : (x y : ℕ) → min x y ≤ x
lesser_left x y = omega arith

lesser_right : (x y : ℕ) → min x y ≤ y
lesser_right x y = omega arith

both_fit : (n x y : ℕ) → n ≤ x → n ≤ y → n ≤ min x y
both_fit n x y h g = omega arith

lesser_is_first : (x y : ℕ) → x ≤ y → min x y ≡ x
lesser_is_first x y h = omega arith

module _ (below above : ℕ) where
  abbrev centre : ℕ
  centre = middle below above

  -- what is at most the room on either side of a bound between them fits there
  on_the_left : (b n : ℕ) → below < b → n ≤ b - 1 - below → below + n < b
  on_the_left b n h g = omega arith

  on_the_right : (b n : ℕ) → b ≤ above → n ≤ above - b → b + n ≤ above
  on_the_right b n h g = omega arith

  module _ (b : ℕ) (h : below < b) (g : b ≤ above) where
    left : below + narrower below above b < b
    left = on_the_left b _ h (lesser_left _ _)

    right : b + narrower below above b ≤ above
    right = on_the_right b _ g (lesser_right (b - 1 - below) _)

    pub middle_has_most : narrower below above b ≤ narrower below above centre
    middle_has_most =
        let n = narrower below above b in
        let fits : below + 2 * n < above = let a = left in let c = right in omega (arith, a, c) in
        let low = middle_is_above below above n fits in
        let high = middle_is_below below above n fits in
        both_fit n _ _ (omega (arith, low)) (omega (arith, high))

    -- the narrower side of the middle is the one below it
    lower_side : centre - 1 - below ≤ above - centre
    lower_side = omega arith

    reaches : (c n : ℕ) → n ≡ c - 1 - below → c ≤ below + 1 + n
    reaches c n e = omega arith

    pub middle_is_lower : narrower below above b ≡ narrower below above centre → centre ≤ b
    middle_is_lower e =
        let low = left in
        let high = reaches centre _ (lesser_is_first _ _ lower_side) in
        omega (arith, low, high, e)

module _ (q : Profile) (ok : (profile_rule q).number ≡ 0) where
  abbrev k : Kept q
  k = kept q ok

  abbrev room : Spare q (margin_of q)
  room = margin_leaves_room k

  below_b23_long : q.t1.0 - delay q < q.long.b23.0
  below_b23_long =
      let h = k.below_b23_long in
      let parts = k.parts in
      let low = k.above_min in
      omega (arith, h, parts, low)

  same_margin : margin_of q ≡ (best_rule (writing_of q)).count → margin_of q ≡ best_margin (writing_of q)
  same_margin e = e ∙ ap (λ (a : Answer). a.count) (its_best_answer q ok)

  given : Given (writing_of q) q
  unfolding best_profile rooms_of swing advance delay
  given =
      record {
        b23_short =
            record {
              most_room = middle_has_most _ _ q.short.b23.0 k.below_b23_short k.above_b23_short;
              lower_on_a_tie = middle_is_lower _ _ q.short.b23.0 k.below_b23_short k.above_b23_short;
            };
        b23_long =
            record {
              most_room = middle_has_most _ _ q.long.b23.0 below_b23_long k.above_b23_long;
              lower_on_a_tie = middle_is_lower _ _ q.long.b23.0 below_b23_long k.above_b23_long;
            };
        b34_short =
            record {
              most_room = middle_has_most _ _ q.short.b34.0 k.below_b34_short k.above_b34_short;
              lower_on_a_tie = middle_is_lower _ _ q.short.b34.0 k.below_b34_short k.above_b34_short;
            };
        b34_long =
            record {
              most_room = middle_has_most _ _ q.long.b34.0 k.below_b34_long k.above_b34_long;
              lower_on_a_tie = middle_is_lower _ _ q.long.b34.0 k.below_b34_long k.above_b34_long;
            };
        min = λ e. let m = same_margin e in omega (arith, m, room.above_min);
        rpt = λ e. let m = same_margin e in omega (arith, m, room.below_rpt);
      }

pub which_is_given : WhichIsGiven
which_is_given w q c = subst (λ v. Given v q) c.same_five (given q c.accepted_profile)
