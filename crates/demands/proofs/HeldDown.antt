-- Why the limits are what document 02, (xii), asks for: what some list shows a one-byte list up to 1B shows, so that
-- the search misses no side; and what it finds, moved by margin + 1, is in another class, which demand 3 says is refused
-- or read as another list. Rests on no axiom.
use Rattle.std.specs.Prelude.{Option}
use Prim.Native.Nat.{ℕ, ◌+◌, ◌≤◌, ◌<◌}
use mathlib.Core.Path.{◌≡◌, refl, sym, subst}
use mathlib.Core.List.{List, [], ◌∷◌}
use native.Mathlib.Omega.{arith}
use lib.ListN.{length, set}
use lib.Seq.{get_or-set_same, get_or-set_other}
use Rattle.timing.specs.declared.Profile.{Profile}
use Rattle.timing.proofs.ProfileLaws.{Kept, kept}
use Rattle.lengths.specs.Stream.{byte_stream, stream_of}
use Rattle.lengths.specs.Margin.{rooms_of}
use Rattle.lengths.proofs.WitnessLaws.{Broken}
use Rattle.lengths.proofs.BrokenLaws.{broken_stream, broken_stream_has_other_classes}
use Rattle.lengths.proofs.PapersMargin.{one_byte_is_accepted, written_one, one_byte_is_written}
use Rattle.codec.specs.Reader.{items_of_stream}
use Rattle.limits.specs.Sides.{sides, beyond}
use Rattle.limits.specs.Limits.{one_more, CrossesAt, if_seen, limits_from, limits_of}
use Rattle.limits.specs.machine.Search.{searched, limit_of}
use Rattle.limits.specs.declared.side.Side.{Side}
use Rattle.limits.specs.declared.search.Evidence.{Evidence as Shown}
use Rattle.limits.specs.declared.Limit.{Limit}
use Rattle.limits.proofs.KnownLaws.{Known}
use Rattle.limits.proofs.FoundLaws.{Found, at, nowhere, search_finds}
use Rattle.limits.proofs.CrossLaws.{beyond_fits, just_beyond, within_one_more, shown_too, other_class}
use Rattle.limits.proofs.CrossLaws.{none_below_min, none_above_rpt}
use Rattle.limits.proofs.RoomLaws.{Rooms, no_rooms, room_more, rooms, one_is_named}
use Rattle.demands.specs.Streams.{AcceptedProfile, Moved, Misread}
use Rattle.demands.specs.Demand3.{stated, Counterexample}
use Rattle.demands.specs.HeldDown.{Evidence, Answered, done, named, passed_over, WhatHoldsTheMarginDown}
use Rattle.demands.proofs.ListLaws.{one_byte_is_listed}
use Rattle.demands.proofs.Demand1.{room_for_its_list_is_enough}
use Rattle.demands.proofs.Demand3.{stated_is_the_margin, misread, moved_beyond}

module _ (p : Profile) (ok : AcceptedProfile p) where
  abbrev k : Kept p
  k = kept p ok

  module _ (s : Side) {near : ℕ} (known : Known p s near) where
    -- what the search has found
    module _ (item place : ℕ) (byte : item < 256) (c : CrossesAt p s (item ∷ []) place) where
      same : stream_of p (item ∷ []) ≡ byte_stream p (item ∷ [])
      same = one_byte_is_written p item byte

      -- moved by margin + 1 the interval breaks the stream
      broken : Broken p (one_more p)
      broken =
          let near_by = within_one_more k s (item ∷ []) place c known in
          record {
            byte = item;
            is_byte = byte;
            place = place;
            in_stream = rw same at c.in_stream;
            moved = beyond p s;
            fits = beyond_fits k s;
            not_longer = rw same at near_by.0;
            not_shorter = rw same at near_by.1;
            other_class = rw (same, written_one item byte) at (other_class k s (item ∷ []) place c known);
          }

      abbrev stream : List ℕ
      stream = stream_of p (item ∷ [])

      abbrev changed : List ℕ → List ℕ
      changed ls = set ls place (beyond p s)

      counterexample : Counterexample p (stated p + 1)
      unfolding broken
      counterexample =
          record {
            byte = item;
            accepted = one_byte_is_listed item byte;
            changed = changed stream;
            moved =
                rw (stated_is_the_margin p ok)
                (subst (λ ls. Moved (one_more p) stream (changed ls)) (sym same) (moved_beyond p ok (one_more p) broken));
            room = length (items_of_stream p (changed stream));
            enough = λ output room. room_for_its_list_is_enough p (changed stream) (length output) room;
            misread = λ output enough.
                subst (λ ls. Misread p (changed ls) output (item ∷ [])) (sym same)
                (misread p ok item (broken_stream broken) output (broken_stream_has_other_classes broken k) _ refl);
          }

      evidence
          : ((j : ℕ) → CrossesAt p s (item ∷ []) j → place ≤ j)
          → ((i j : ℕ) → 0 ≤ i → CrossesAt p s (i ∷ []) j → item ≤ i)
          → Evidence p (limit_of p s item place)
      unfolding counterexample
      evidence first lowest =
          record {
            one_byte = counterexample.accepted;
            there = c;
            lowest_item = λ i j listed d. lowest i j (omega arith) d;
            first_interval = first;
            by_one_more = rw (stated_is_the_margin p ok) (just_beyond k s (item ∷ []) place c known);
            moved_there = get_or-set_same stream place (beyond p s) 0 c.in_stream;
            others_stay = λ j other. get_or-set_other stream place j (beyond p s) 0 other;
            changed = counterexample.moved;
            room = counterexample.room;
            enough = counterexample.enough;
            misread = counterexample.misread;
            for_demand_3 = record { counterexample = counterexample; its_byte = refl; its_change = refl };
          }

    -- it names the side exactly when it should
    side_answered
        : (q : Option Shown) {ss : List Side} {xs : List Limit}
        → Found k s 0 28 q
        → Answered p ss xs
        → Answered p (s ∷ ss) (if_seen p s q xs)
    side_answered q (at item place below c first lowest) later =
        let byte : item < 256 = omega (arith, below) in
        named (limit_of p s item place)
        (record { items = item ∷ []; accepted_list = one_byte_is_accepted item byte; place = place; there = c })
        (evidence item place byte c first lowest) later
    side_answered q (nowhere none) later =
        passed_over s
        (λ x.
        let y = shown_too k s x.items x.place x.there known in
        none y.item y.place (omega arith) (let low = y.is_low in omega (arith, low)) y.there)
        later

  answered : (ss : List Side) (rs : List ℕ) → Rooms p ss rs → Answered p ss (limits_from p (one_more p) ss)
  unfolding limits_from
  answered [] [] no_rooms = done
  answered [] (r ∷ rs) none = elim none [ ]
  answered (s ∷ ss) [] none = elim none [ ]
  answered (s ∷ ss) (r ∷ rs) (room_more known same later) =
      side_answered s known (searched p s (one_more p)) (search_finds k s) (answered ss rs later)

pub what_holds_the_margin_down : WhatHoldsTheMarginDown
unfolding limits_of
what_holds_the_margin_down p ok =
    let k = kept p ok in
    record {
      in_order = answered p ok sides (rooms_of p) (rooms k);
      at_least_one = one_is_named k;
      none_below_min = λ x. none_below_min k x.items x.place x.there;
      none_above_rpt = λ x. none_above_rpt k x.items x.place x.there;
    }
