-- Why a written strip is clear: each length has the margin's room in its window, so that a length changed by c keeps
-- its class when moved by margin − c more. And a one-byte list that margin + 1 breaks has an interval with no more room.
-- Rests on no axiom.
use Prim.Native.Nat.{ℕ, suc, ◌-◌, ◌≤◌, ◌<◌}
use mathlib.Core.Path.{◌≡◌, refl, ap}
use mathlib.Core.Bool.{Bool}
use mathlib.Core.List.{List, [], ◌∷◌}
use native.Mathlib.Omega.{arith}
use native.Mathlib.Nat.{le_refl}
use lib.ListN.{length, get_or}
use Rattle.refusal.specs.Answer.{Answer}
use Rattle.timing.specs.Class.{at_start}
use Rattle.timing.specs.declared.Profile.{Profile}
use Rattle.timing.proofs.ProfileLaws.{kept}
use Rattle.items.specs.Rule.{list_rule}
use Rattle.items.specs.Written.{written}
use Rattle.symbols.specs.Cells.{written_cells}
use Rattle.lengths.specs.Stream.{byte_stream, stream_of}
use Rattle.lengths.specs.Units.{class_of_units}
use Rattle.lengths.proofs.KindLaws.{CellLength, two_short, two_long, three_short, three_long, four_short, four_long}
use Rattle.lengths.proofs.KindLaws.{cell_length_at, stream_has_cells, length_fits}
use Rattle.lengths.specs.Margin.{after_two}
use Rattle.lengths.proofs.NearLaws.{Near, near_streams_are_equally_long, near_at, near_of_each, near_itself}
use Rattle.lengths.proofs.WindowLaws.{near_length_has_class, near_stream_is_passed}
use Rattle.lengths.proofs.MarginLaws.{margin_leaves_room}
use Rattle.lengths.proofs.WitnessLaws.{Broken, above_margin_is_broken}
use Rattle.lengths.proofs.PapersMargin.{one_byte_is_written}
use Rattle.clearance.specs.Clearance.{clearance_in, clearance_of, least_clearance}
use Rattle.clearance.specs.Claims.{cursor_at}
use Rattle.clearance.proofs.LeastLaws.{least_is_no_more, least_is_at_least}
use Rattle.clearance.proofs.AloneLaws.{Inner, kept_is_cleared}
use Rattle.clearance.proofs.AloneLaws.{broken_is_not_cleared}
use Rattle.demands.specs.Streams.{AcceptedProfile, Moved}
use Rattle.demands.specs.Demand3.{stated}
use Rattle.demands.specs.HowNear.{ReadsClear, ExactlyClear, HowNear}
use Rattle.demands.proofs.ListLaws.{written_is_listed, stream_of_written, one_byte_is_listed}
use Rattle.demands.proofs.Demand3.{stated_is_the_margin, demand_3}
use Rattle.demands.proofs.UsedLaws.{strip_has_intervals, field_has_intervals}

-- the class that a window's cell has is one with edges
inner_of_cell : {p : Profile} {l u : ℕ} {two : Bool} → CellLength p l two u → Inner (class_of_units u)
unfolding class_of_units
inner_of_cell (two_short low high) = tt
inner_of_cell (two_long low high) = tt
inner_of_cell (three_short low high) = tt
inner_of_cell (three_long low high) = tt
inner_of_cell (four_short low high) = tt
inner_of_cell (four_long low high) = tt

module _ (p : Profile) (accepts : AcceptedProfile p) where
  -- each interval of a list that is near a stream: no more than c from a length, it has the margin's room less c
  pub near_is_clear
      : (items : List ℕ) (c : ℕ)
      → c ≤ stated p
      → (changed : List ℕ)
      → Near c changed (stream_of p items)
      → (k : ℕ)
      → k < length changed
      → stated p - c ≤ clearance_in (cursor_at p changed k) (get_or changed k 0)
  unfolding stream_of clearance_of
  near_is_clear items c few changed near k h =
      let two = after_two (written_cells (written items)) k in
      let room = rw (← stated_is_the_margin p accepts) at (margin_leaves_room (kept p accepts)) in
      let same = near_streams_are_equally_long c changed (stream_of p items) near in
      let there : k < length (stream_of p items) = rw (← same) h in
      let window =
      cell_length_at 2 (written_cells (written items)) _ (stream_has_cells (kept p accepts) (written items)) k there in
      let within : Near (stated p) changed (stream_of p items) =
      near_of_each (stated p) changed (stream_of p items) same (λ j inside.
      let (longer, shorter) = near_at c changed (stream_of p items) near j in
      (omega (arith, longer, few), omega (arith, shorter, few))) in
      let (longer, shorter) = near_at c changed (stream_of p items) near k in
      let here = near_length_has_class room (get_or changed k 0) window (omega (arith, longer, few)) (omega (arith, shorter, few)) in
      rw (near_stream_is_passed room (kept p accepts) (written items) changed within k (omega arith))
      (kept_is_cleared p two accepts (get_or changed k 0) (stated p - c) (rw here (inner_of_cell window))
      (λ d up down. cc (near_length_has_class room d window (omega arith) (omega arith))))

  module _
      (items : List ℕ) (c : ℕ) (few : c ≤ stated p) (changed : List ℕ) (moved : Moved c (stream_of p items) changed)
    where
      pub each_is_clear
          : (k : ℕ) → k < length changed → stated p - c ≤ clearance_in (cursor_at p changed k) (get_or changed k 0)
      each_is_clear =
          near_is_clear items c few changed
          (near_of_each c changed (stream_of p items) moved.as_many (λ k inside.
          let there : k < length changed = rw moved.as_many inside in
          (moved.no_longer k there, moved.no_shorter k there)))

      pub within_the_margin : Moved (stated p) (stream_of p items) changed
      within_the_margin =
          record {
            as_many = cc;
            sixteen_bits = moved.sixteen_bits;
            no_longer = λ k h. let near = moved.no_longer k h in omega arith;
            no_shorter = λ k h. let near = moved.no_shorter k h in omega arith;
          }

      changed_strip : (list_rule items).number ≡ 0 → ReadsClear p changed (written items) (stated p - c)
      unfolding least_clearance
      changed_strip lists =
          let read =
          (demand_3 p accepts).reads_back (written items) (written_is_listed items lists) changed
          (rw (stream_of_written p items lists) within_the_margin) in
          -- there is an interval, since it is read
          let answer = (read (written items) (le_refl _)).answer in
          let some = strip_has_intervals p changed _ (ap (λ (a : Answer). a.number) answer) in
          record { reads = read; clear = least_is_at_least (at_start p) changed (stated p - c) some each_is_clear }

  -- a stream is itself, moved by nothing
  pub unmoved : (items : List ℕ) → Moved 0 (stream_of p items) (stream_of p items)
  unfolding stream_of
  unmoved items =
      record {
        as_many = refl;
        sixteen_bits = λ k h. length_fits (kept p accepts) (written items) k h;
        no_longer = λ k h. omega arith;
        no_shorter = λ k h. omega arith;
      }

  -- the one-byte list that margin + 1 breaks
  broken_strip : Broken p (suc (stated p)) → ExactlyClear p (stated p)
  unfolding clearance_of least_clearance
  broken_strip x =
      let one = x.byte ∷ [] in
      let listed = one_byte_is_listed x.byte x.is_byte in
      let two = after_two (written_cells one) x.place in
      let k = kept p accepts in
      let inside = x.in_stream in
      let broken =
      broken_is_not_cleared p two accepts (get_or (byte_stream p one) x.place 0) (suc (stated p)) x.moved
      x.not_longer x.not_shorter x.other_class in
      let among =
      rw (near_stream_is_passed (margin_leaves_room k) k one (byte_stream p one) (near_itself _ (byte_stream p one))
      x.place (omega arith)) at (least_is_no_more (at_start p) (byte_stream p one) x.place x.in_stream) in
      let most : least_clearance p (stream_of p one) ≤ stated p =
      rw (one_byte_is_written p x.byte x.is_byte) (omega arith) in
      let least = (changed_strip one 0 (omega arith) _ (unmoved one) listed.passes).clear in
      record { byte = x.byte; accepted = listed; exactly = omega arith }

pub how_near : HowNear
how_near =
    record {
      strips = λ p accepts.
          record {
            changed_strip = λ items lists c few changed moved. changed_strip p accepts items c few changed moved lists;
            written_strip = λ items lists.
                let strip = changed_strip p accepts items 0 (omega arith) _ (unmoved p accepts items) lists in
                record { reads = strip.reads; clear = let least = strip.clear in omega arith };
            some_strip =
                let same = stated_is_the_margin p accepts in
                broken_strip p accepts (above_margin_is_broken (kept p accepts) (suc (stated p)) (omega arith));
          };
      strip_has_intervals = strip_has_intervals;
      field_has_intervals = field_has_intervals;
    }
