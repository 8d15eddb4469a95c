-- Why at least one side is named: the margin is the least of the ten rooms, one for each side, and the side whose room
-- it is has a length that one half clock more moves across. Rests on no axiom.
use Rattle.std.specs.Prelude.{Option, Some, None}
use Prim.Native.Nat.{ℕ, zero, suc, ◌+◌, ◌-◌, ◌<◌}
use mathlib.Core.Path.{◌≡◌, refl}
use mathlib.Core.Bool.{Bool, true, false}
use mathlib.Core.List.{List, [], ◌∷◌}
use native.Mathlib.Omega.{arith}
use lib.Dec.{lit<}
use lib.ListN.{length, get_or}
use borrow.Author.Tests.{lt-ltb, le-leb}
use Rattle.timing.specs.declared.Profile.{Profile}
use Rattle.timing.proofs.ProfileLaws.{Kept}
use Rattle.lengths.specs.Margin.{rooms_of, margin_of}
use Rattle.lists.proofs.SpanLaws.{least_is_of_one}
use Rattle.limits.specs.Sides.{sides, reaches}
use Rattle.limits.specs.Limits.{one_more, if_seen, limits_from, limits_of}
use Rattle.limits.specs.machine.Search.{shown_at, searched}
use Rattle.limits.specs.declared.side.Side.{Side}
use Rattle.limits.specs.declared.search.Evidence.{Evidence}
use Rattle.limits.specs.declared.Limit.{Limit}
use Rattle.limits.proofs.EdgeLaws.{On, stays_on}
use Rattle.limits.proofs.KnownLaws.{Shown, edge_at, Known}
use Rattle.limits.proofs.SideLaws.{known_min, known_rpt}
use Rattle.limits.proofs.SideLaws.{known_b23_short_below, known_b23_short_above}
use Rattle.limits.proofs.SideLaws.{known_b23_long_below, known_b23_long_above}
use Rattle.limits.proofs.SideLaws.{known_b34_short_below, known_b34_short_above}
use Rattle.limits.proofs.SideLaws.{known_b34_long_below, known_b34_long_above}
use Rattle.limits.proofs.FoundLaws.{Found, at, nowhere, search_finds}

-- how far a length is from crossing
abbrev room_of : Bool → ℕ → ℕ → ℕ
room_of false edge l = edge - 1 - l
room_of true edge l = l - edge

room_is_reached
    : (above : Bool) (edge n l : ℕ) → On above edge l → room_of above edge l < n → reaches above edge n l ≡ true
room_is_reached false edge n l on h = rw (lt-ltb l edge on, le-leb edge (l + n) (omega arith))
room_is_reached true edge n l on h = rw (le-leb edge l on, lt-ltb l (edge + n) (omega arith))

-- each side is known, and its room stands in the same place
pub data Rooms (p : Profile) : List Side → List ℕ → Type 0 where
  no_rooms : Rooms p [] []
  room_more
      : {s : Side} {ss : List Side} {r near : ℕ} {rs : List ℕ}
      → Known p s near
      → room_of s.above (edge_at p s) near ≡ r
      → Rooms p ss rs
      → Rooms p (s ∷ ss) (r ∷ rs)

module _ {p : Profile} (k : Kept p) where
  pub rooms : Rooms p sides (rooms_of p)
  unfolding rooms_of
  rooms =
      room_more (known_min k) refl
      (room_more (known_b23_short_below k) refl
      (room_more (known_b23_short_above k) refl
      (room_more (known_b23_long_below k) refl
      (room_more (known_b23_long_above k) refl
      (room_more (known_b34_short_below k) refl
      (room_more (known_b34_short_above k) refl
      (room_more (known_b34_long_below k) refl
      (room_more (known_b34_long_above k) refl
      (room_more (known_rpt k) refl no_rooms)))))))))

  module _ (s : Side) where
    -- a room that one half clock more does not fit in is seen
    room_is_seen
        : {near : ℕ} → Known p s near → (r : ℕ) → room_of s.above (edge_at p s) near ≡ r → r < one_more p → Shown p s
    room_is_seen {near} known r same over =
        known.shows
        (room_is_reached s.above (edge_at p s) (one_more p) near
        (stays_on s.above (margin_of p) (edge_at p s) near known.margin_stays) (rw same over))

    seen_is_counted
        : (q : Option Evidence) → Found k s 0 28 q → Shown p s → (xs : List Limit) → 0 < length (if_seen p s q xs)
    seen_is_counted q (at item place below c first lowest) y xs = omega arith
    seen_is_counted q (nowhere none) y xs =
        absurd (none y.item y.place (omega arith) (let low = y.is_low in omega (arith, low)) y.there)

    still_counted : (q : Option Evidence) (xs : List Limit) → 0 < length xs → 0 < length (if_seen p s q xs)
    still_counted None xs h = h
    still_counted (Some shown) xs h = omega arith

  some_is_named
      : (ss : List Side) (rs : List ℕ)
      → Rooms p ss rs
      → (i : ℕ)
      → i < length rs
      → get_or rs i 0 < one_more p
      → 0 < length (limits_from p (one_more p) ss)
  unfolding limits_from
  some_is_named [] [] no_rooms i h over = absurd (omega (arith, h))
  some_is_named [] (r ∷ rs) none i h over = elim none [ ]
  some_is_named (s ∷ ss) [] none i h over = elim none [ ]
  some_is_named (s ∷ ss) (r ∷ rs) (room_more known same later) zero h over =
      seen_is_counted s (searched p s (one_more p)) (search_finds k s) (room_is_seen s known r same over) _
  some_is_named (s ∷ ss) (r ∷ rs) (room_more known same later) (suc i) h over =
      still_counted s (searched p s (one_more p)) _ (some_is_named ss rs later i (omega (arith, h)) over)

  pub one_is_named : 0 < length (limits_of p)
  unfolding limits_of margin_of rooms_of
  one_is_named =
      let (i, inside, same) = least_is_of_one (rooms_of p) (lit< tt) in
      some_is_named sides (rooms_of p) rooms i inside (omega (arith, same))
