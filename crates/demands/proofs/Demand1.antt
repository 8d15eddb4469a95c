-- Why demand 1 holds: every operation's rule makes the tests of its order one after the other, and each test means its
-- cause. Rests on no axiom.
use Prim.Native.Nat.{ℕ, zero, suc, ◌-◌, ◌≤◌}
use mathlib.Core.Path.{◌≡◌, refl}
use mathlib.Core.Bool.{◌||◌, true, false, cond, true≢false}
use mathlib.Core.List.{List}
use mathlib.Core.Logic.{◌⊎◌, inl, inr, ⊎_elim}
use native.Mathlib.Omega.{arith}
use lib.ListN.{length, drop}
use lib.Dec.{ltb}
use Rattle.lists.specs.Place.{anywhere}
use Rattle.refusal.specs.Answer.{accepted, refused}
use Rattle.timing.specs.Class.{classes_of, class_rule}
use Rattle.timing.specs.declared.Profile.{Profile}
use Rattle.timing.specs.declared.Class.{Class}
use Rattle.timing.specs.Profile.{outside, profile_rule}
use Rattle.items.specs.Written.{written}
use Rattle.items.specs.Rule.{list_rule}
use Rattle.fifo.specs.Sides.{Processor, Chip}
use Rattle.symbols.specs.Strip.{strip_rule}
use Rattle.symbols.specs.Bits.{O}
use Rattle.images.specs.Image.{image_of, bytes_in}
use Rattle.images.specs.Rules.{room_rule, make_rule, make_output, words_rule, read_image_rule, read_image_output}
use Rattle.images.proofs.ImageLaws.{length_of_image, length_of_bytes}
use Rattle.lengths.specs.Stream.{stream_of}
use Rattle.lengths.specs.Margin.{margin_rule}
use Rattle.intervals.specs.Cells.{edge_rule, cells_read}
use Rattle.codec.specs.Writer.{stream_rule, write_rule, write_output}
use Rattle.codec.specs.Reader.{items_of_stream, read_rule, read_output}
use Rattle.locks.specs.Lock.{lock_at, first_lock, lock_from, counted_from, search_rule, find_rule}
use Rattle.locks.proofs.FirstLockLaws.{lock_from_found, adrift_has_no_lock}
use Rattle.fields.specs.Field.{field_stop, field_stray}
use Rattle.fields.specs.FieldRule.{field_rule, field_output}
use Rattle.fields.proofs.FieldLaws.{field_items_count}
use Rattle.sectors.specs.Sector.{is_misfit_in_maker, sector_rule, sector_output}
use Rattle.sets.specs.Held.{numbers}
use Rattle.sets.specs.Set.{is_misfit_set, sectors_in}
use Rattle.merge.specs.Merge.{is_crowded, at_odds_at}
use Rattle.merge.specs.Rule.{room_rule as merge_room, merge_rule, merge_answer, merge_output}
use Rattle.report.specs.Report.{report_rule, add_rule}
use Rattle.entries.specs.Entries.{entries_of}
use Rattle.track.specs.Index.{crowd_rule, index_rule}
use Rattle.track_set.specs.TrackSectors.{track_rule, track_answer, track_output}
use Rattle.speed.proofs.ReadLaws.{answer_is_rule}
use Rattle.limits.specs.Limits.{limits_rule}
use Rattle.demands.specs.Order.{accept, turn, at0, Answers}
use Rattle.demands.specs.Causes.{strip_order}
use Rattle.demands.specs.Demand1.{Demand1}
use Rattle.demands.proofs.ProgramLaws.{program_in_turn, program_refuses}
use Rattle.demands.proofs.FifoLaws.{put_in_turn, takes_refuse_nothing}
use Rattle.demands.proofs.RestLaws.{field_answer, rest_of_field, whole_list}
use Rattle.demands.proofs.PageOrders.{pages_read_in_turn, pages_made_in_turn, cells_are_lent, set_is_lent}
use Rattle.demands.proofs.OrderLaws.{turn_by_test, turn_before, profile_first, means_below, last_below, means_or}
use Rattle.demands.proofs.OrderLaws.{means_either, means_at, answers_accepted, answers_here, answers_later}
use Rattle.demands.proofs.OrderLaws.{NoCauseOf, not_answered, told_after, told_by_test}
use Rattle.demands.proofs.OrderLaws.{told_once_accepted, told_room, told_if_room, told_bytes, settled_is_lent}
use Rattle.demands.proofs.OrderLaws.{means_equal}
use Rattle.demands.proofs.BestTurn.{best_in_turn}
use Rattle.demands.proofs.StopLaws.{edges_in_turn, stop_in_turn}
use Rattle.demands.proofs.LockOrder.{lock_in_turn}
use Rattle.demands.proofs.SpeedOrder.{corrected_in_turn, corrected_is_lent}
use Rattle.demands.proofs.TrackSetLaws.{track_rule_in_turn}

-- ---- images

image_count : (items : List ℕ) → length (image_of (written items)) ≡ length (written items)
unfolding image_of
image_count items = length_of_image O (written items)

item_count : (words : List ℕ) → length (bytes_in words) ≡ length words
unfolding bytes_in
item_count words = length_of_bytes O words

pub demand_1 : Demand1
unfolding margin_rule limits_rule class_rule write_rule list_rule stream_rule stream_of sector_rule is_misfit_in_maker read_rule
    strip_rule field_rule find_rule search_rule report_rule add_rule make_rule words_rule read_image_rule room_rule index_rule
    crowd_rule merge_rule merge_room is_crowded write_output read_output field_output sector_output make_output
    read_image_output merge_output merge_answer track_output track_answer
demand_1 =
    record {
      margin = λ p. profile_first p _ answers_accepted;
      margin_limits = λ p. profile_first p _ answers_accepted;
      best_windows = best_in_turn;
      class = λ p two d. profile_first p _ answers_accepted;
      writer = λ p items room.
          profile_first p _
          (turn_before 3 _ _ (means_either 6400 _ 6400 _)
          (turn_before 2 _ _ (means_at _ _) (last_below room _ _)));
      strip_reader = λ p ds room.
          profile_first p _
          (turn_by_test (means_below 51202 _)
          (edges_in_turn (classes_of p ds) _ _
          (turn_before 6 _ _ (means_at _ _)
          (turn_before 3 _ _ (means_below 6400 _)
          (turn_before 7 _ _ (means_at _ _) (last_below room _ _))))));
      finder = λ p ds start. profile_first p _ (lock_in_turn (classes_of p (drop start ds)) start);
      field_reader = λ p ds n room.
          let cs = classes_of p ds in
          profile_first p _
          (turn_by_test (means_either n 1 1030 n)
          (stop_in_turn cs _ _ (turn_by_test (means_at _ _) (last_below room n _)) n));
      corrected_reader = corrected_in_turn;
      maker = λ track side sector code bytes room.
          turn_by_test (means_or (means_equal code 0) (means_at _ _)) (last_below room _ _);
      drive_report = λ p ds. profile_first p _ (last_below 51202 _ _);
      report_sum = λ a b. turn_by_test (means_at _ _) answers_accepted;
      image_maker = λ items room.
          turn_before 3 _ _ (means_either 6400 _ 6400 _)
          (turn_before 2 _ _ (means_at _ _) (rw (image_count items) (last_below room _ _)));
      image_reader = λ words room.
          turn_before 3 _ _ (means_below 6400 _)
          (turn_before 15 _ _ (means_at _ _) (rw (item_count words) (last_below room _ _)));
      track_index = λ p ds. profile_first p _ (last_below 32 _ _);
      track_set = λ p ds room.
          rw (track_rule_in_turn p ds room) (profile_first p _ (turn_by_test (means_below 32 _) (last_below room _ _)));
      merge = λ first second room.
          turn_by_test (means_or (means_at _ _) (means_at _ _))
          (turn_by_test (means_or (means_either 32 _ 32 _) (means_below 32 _))
          (turn_by_test (means_at _ _) (last_below room _ _)));
      page_reader = pages_read_in_turn;
      page_maker = pages_made_in_turn;
      processor_put = put_in_turn Processor;
      chip_put = put_in_turn Chip;
      fifo_takes = takes_refuse_nothing;
      program = program_in_turn;
      program_refuses = program_refuses;
      field_answer = field_answer;
      corrected_answer = answer_is_rule;
      rest_of_field = rest_of_field;
      whole_list = whole_list;
      writer_output = λ p items old.
          settled_is_lent _ _ old (told_after (profile_rule p) (told_after (list_rule items) (told_room _ _ refl)));
      strip_output = λ p ds old.
          settled_is_lent _ _ old
          (told_after (profile_rule p)
          (told_by_test (ltb 51202 (length ds)) 3 _
          (told_after (edge_rule (classes_of p ds)) (told_after (strip_rule (cells_read p ds)) (told_room _ _ refl)))));
      field_reader_output = λ p ds n old.
          let cs = classes_of p ds in
          settled_is_lent _ _ old
          (told_after (profile_rule p)
          (told_by_test (outside 1 1030 n) 11 _
          (told_once_accepted (field_stop cs n) (λ stops.
          told_by_test (field_stray cs n) 7 _ (told_room n _ (field_items_count cs n stops))))));
      corrected_reader_output = corrected_is_lent;
      maker_output = λ track side sector code bytes old.
          settled_is_lent _ _ old (told_by_test (is_misfit_in_maker code bytes) 12 _ (told_room _ _ refl));
      image_output = λ items old.
          settled_is_lent _ _ old (told_after (list_rule items) (told_room _ _ (image_count items)));
      image_items = λ words old.
          settled_is_lent _ _ old (told_after (words_rule words) (told_room _ _ (item_count words)));
      track_set_output = λ p ds old.
          settled_is_lent _ _ old
          (told_bytes (track_rule p ds (length old)) _ _
          (rw (track_rule_in_turn p ds (length old))
          (told_after (profile_rule p)
          (told_by_test (ltb 32 (length (entries_of p ds))) 14 _ (told_if_room _ (length old) _ (λ fits. fits))))));
      merged_output = λ first second old.
          let a = sectors_in first in
          let b = sectors_in second in
          settled_is_lent _ _ old
          (told_bytes (merge_rule first second (length old)) _ _
          (told_by_test (is_misfit_set first || is_misfit_set second) 12 _
          (told_by_test (is_crowded a b) 14 _
          (told_by_test (anywhere (at_odds_at a b) numbers) 16 _ (told_if_room _ (length old) _ (λ fits. fits))))));
      page_cells = cells_are_lent;
      page_set = set_is_lent;
    }

-- 9 is answered for want of room alone
pub room_for_its_list_is_enough
    : (p : Profile) (ds : List ℕ) (room : ℕ)
    → length (items_of_stream p ds) ≤ room
    → (read_rule p ds room).number ≡ 9
    → ⊥
unfolding NoCauseOf
room_for_its_list_is_enough p ds room enough =
    not_answered 8 (strip_order p ds room) (read_rule p ds room) (demand_1.strip_reader p ds room).in_turn
    (omega arith)
