-- Demand 1: refused first, each cause by its number, its place and its turn; a refusal alters nothing that was lent;
-- accepted then, every other input. That no duty is laid on the caller is in the contracts: no entry has a `requires`.
-- No lemmas here.
use Rattle.std.specs.Prelude.{ℕ, ◌≡◌, Bool, List, length, drop}
use Rattle.timing.specs.Class.{classes_of, class_rule}
use Rattle.timing.specs.declared.Profile.{Profile}
use Rattle.items.specs.Written.{written}
use Rattle.fifo.specs.State.{State}
use Rattle.fifo.specs.Sides.{Processor, Chip}
use Rattle.fifo.specs.Rules.{Put, ChipPut, rule_of}
use Rattle.images.specs.Image.{image_of, bytes_in}
use Rattle.images.specs.Rules.{make_rule, make_output, read_image_rule, read_image_output}
use Rattle.lengths.specs.Stream.{stream_of}
use Rattle.lengths.specs.Margin.{margin_rule}
use Rattle.codec.specs.Writer.{write_rule, write_output}
use Rattle.codec.specs.Reader.{items_of_stream, read_rule, read_output}
use Rattle.locks.specs.Lock.{find_rule}
use Rattle.fields.specs.Field.{field_used, field_items}
use Rattle.fields.specs.FieldRule.{field_rule, field_reading, field_output, field_rest, rest_place}
use Rattle.sectors.specs.Sector.{sector_items, sector_rule, sector_output}
use Rattle.sets.specs.Set.{set_bytes, sectors_in}
use Rattle.merge.specs.Merge.{merged}
use Rattle.merge.specs.Rule.{merge_rule, merge_answer, merge_output}
use Rattle.report.specs.Report.{Report, report_rule, add_rule}
use Rattle.track.specs.Index.{index_rule}
use Rattle.track_set.specs.TrackSectors.{sectors_found, track_rule, track_answer, track_output}
use Rattle.page.specs.Reading.{pages_in, read_rule as read_pages_rule, read_answer, read_output as read_pages_output}
use Rattle.page.specs.Making.{made_set, make_rule as make_pages_rule, make_answer, make_output as make_pages_output}
use Rattle.speed.specs.Speed.{corrected_at}
use Rattle.speed.specs.Reading.{lock_of, corrected_rule, corrected_reading, corrected_output}
use Rattle.limits.specs.Limits.{limits_rule}
use Rattle.best.specs.Best.{best_rule}
use Rattle.best.specs.declared.Writing.{Writing}
use Rattle.strip.specs.Output.{refusal_text}
use Rattle.strip.specs.Program.{program_rule, program_text}
use Rattle.demands.specs.Order.{accept, Answers, Lent}
use Rattle.demands.specs.Causes.{profile_order, writer_order, strip_order, finder_order, field_order, maker_order}
use Rattle.demands.specs.ReportCauses.{report_order, add_order}
use Rattle.demands.specs.ImageCauses.{image_maker_order, image_reader_order}
use Rattle.demands.specs.IndexCauses.{index_order, track_set_order}
use Rattle.demands.specs.MergeCauses.{merge_order, counted_in_bytes}
use Rattle.demands.specs.PageCauses.{page_reader_order, page_maker_order, counted_in_cells}
use Rattle.demands.specs.SpeedCauses.{corrected_order}
use Rattle.demands.specs.BestCauses.{best_order}
use Rattle.demands.specs.FifoCauses.{PutsInTurn, TakesRefuseNothing}
use Rattle.demands.specs.ProgramCauses.{program_order}

pub record Demand1 : Type 0 where
  -- refused first, and accepted then: every operation by its order
  pub margin : (p : Profile) → Answers (profile_order p accept) (margin_rule p)
  pub margin_limits : (p : Profile) → Answers (profile_order p accept) (limits_rule p)
  pub best_windows : (w : Writing) → Answers (best_order w) (best_rule w)
  pub class : (p : Profile) (two : Bool) (d : ℕ) → Answers (profile_order p accept) (class_rule p two d)
  pub writer : (p : Profile) (items : List ℕ) (room : ℕ) → Answers (writer_order p items room) (write_rule p items room)
  pub strip_reader : (p : Profile) (ds : List ℕ) (room : ℕ) → Answers (strip_order p ds room) (read_rule p ds room)
  pub finder : (p : Profile) (ds : List ℕ) (start : ℕ) → Answers (finder_order p ds start) (find_rule p ds start)
  pub field_reader
      : (p : Profile) (ds : List ℕ) (n room : ℕ) → Answers (field_order p ds n room) (field_rule p ds n room)
  pub corrected_reader
      : (p : Profile) (ds : List ℕ) (start n room : ℕ)
      → Answers (corrected_order p ds start n room) (corrected_rule p ds start n room)
  pub maker
      : (track side sector code : ℕ) (bytes : List ℕ) (room : ℕ)
      → Answers (maker_order track side sector code bytes room) (sector_rule track side sector code bytes room)
  pub drive_report : (p : Profile) (ds : List ℕ) → Answers (report_order p ds) (report_rule p ds)
  pub report_sum : (a b : Report) → Answers (add_order a b) (add_rule a b)
  pub image_maker : (items : List ℕ) (room : ℕ) → Answers (image_maker_order items room) (make_rule items room)
  pub image_reader : (words : List ℕ) (room : ℕ) → Answers (image_reader_order words room) (read_image_rule words room)
  pub track_index : (p : Profile) (ds : List ℕ) → Answers (index_order p ds) (index_rule p ds)
  pub track_set : (p : Profile) (ds : List ℕ) (room : ℕ) → Answers (track_set_order p ds room) (track_rule p ds room)
  pub merge : (first second : List ℕ) (room : ℕ) → Answers (merge_order first second room) (merge_rule first second room)
  pub page_reader
      : (set : List ℕ) (pages room : ℕ) → Answers (page_reader_order set pages room) (read_pages_rule set pages room)
  pub page_maker
      : (cells : List ℕ) (pages room : ℕ) → Answers (page_maker_order cells pages room) (make_pages_rule cells pages room)
  pub processor_put : (n : ℕ) (s : State) → PutsInTurn Processor n s (rule_of (Put n) s)
  pub chip_put : (n : ℕ) (s : State) → PutsInTurn Chip n s (rule_of (ChipPut n) s)
  pub fifo_takes : TakesRefuseNothing
  pub program : (text : List ℕ) → Answers (program_order text) (program_rule text)
  -- a refusal of the program prints `refused`, number, place, and nothing else
  pub program_refuses
      : (text : List ℕ) → ((program_rule text).number ≡ 0 → ⊥) → program_text text ≡ refusal_text (program_rule text)
  -- the number, place and count that the field reader and the corrected reader give are those of their orders; the field
  -- reader's second entry hands back the
  -- rest of the caller's own list, and on a refusal the whole of it
  pub field_answer : (p : Profile) (ds : List ℕ) (n room : ℕ) → (field_reading p ds n room).answer ≡ field_rule p ds n room
  pub corrected_answer
      : (p : Profile) (ds : List ℕ) (start n room : ℕ)
      → (corrected_reading p ds start n room).field.reading.answer ≡ corrected_rule p ds start n room
  pub rest_of_field
      : (p : Profile) (ds : List ℕ) (n room : ℕ)
      → (field_rule p ds n room).number ≡ 0
      → field_rest p ds n room ≡ drop (field_used (classes_of p ds) n) ds
  pub whole_list
      : (p : Profile) (ds : List ℕ) (n room : ℕ) (start : ℕ × ℕ)
      → ((field_rule p ds n room).number ≡ 0 → ⊥)
      → (field_rest p ds n room ≡ ds) × (rest_place p ds n room start ≡ start)
  -- a refusal alters nothing the caller lent: every operation that lends a buffer
  pub writer_output
      : (p : Profile) (items old : List ℕ)
      → Lent (write_rule p items (length old)) (stream_of p items) old (write_output p items old)
  pub strip_output
      : (p : Profile) (ds old : List ℕ)
      → Lent (read_rule p ds (length old)) (items_of_stream p ds) old (read_output p ds old)
  pub field_reader_output
      : (p : Profile) (ds : List ℕ) (n : ℕ) (old : List ℕ)
      → Lent (field_rule p ds n (length old)) (field_items (classes_of p ds) n) old (field_output p ds n old)
  pub corrected_reader_output
      : (p : Profile) (ds : List ℕ) (start n : ℕ) (old : List ℕ)
      → Lent (corrected_rule p ds start n (length old))
      (field_items (classes_of p (corrected_at p ds (lock_of p ds start))) n) old (corrected_output p ds start n old)
  pub maker_output
      : (track side sector code : ℕ) (bytes old : List ℕ)
      → Lent (sector_rule track side sector code bytes (length old)) (sector_items track side sector code bytes) old
      (sector_output track side sector code bytes old)
  pub image_output
      : (items old : List ℕ) → Lent (make_rule items (length old)) (image_of (written items)) old (make_output items old)
  pub image_items
      : (words old : List ℕ)
      → Lent (read_image_rule words (length old)) (bytes_in words) old (read_image_output words old)
  pub track_set_output
      : (p : Profile) (ds old : List ℕ)
      → Lent (counted_in_bytes (track_answer p ds (length old))) (set_bytes (sectors_found p ds)) old (track_output p ds old)
  pub merged_output
      : (first second old : List ℕ)
      → Lent (counted_in_bytes (merge_answer first second (length old)))
      (set_bytes (merged (sectors_in first) (sectors_in second))) old (merge_output first second old)
  pub page_cells
      : (set : List ℕ) (pages : ℕ) (old : List ℕ)
      → Lent (counted_in_cells (read_answer set pages (length old))) (pages_in (sectors_in set) pages) old
      (read_pages_output set pages old)
  pub page_set
      : (cells : List ℕ) (pages : ℕ) (old : List ℕ)
      → Lent (counted_in_bytes (make_answer cells pages (length old))) (made_set cells pages) old
      (make_pages_output cells pages old)
