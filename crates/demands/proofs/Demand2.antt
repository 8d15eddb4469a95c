-- Why demand 2 holds: the writer's rule gives the paper's lengths by definition; what the strip reader accepts has
-- exactly the cells of the list that it gives, and the cells of every list within the limit read as that list. Rests
-- on no axiom.
use Prim.Native.Nat.{ℕ, ◌≤◌}
use mathlib.Core.Path.{◌≡◌, sym, ap, ◌∙◌}
use mathlib.Core.List.{List}
use native.Mathlib.Omega.{arith}
use lib.ListN.{length, length-map}
use borrow.Author.Tests.{le-ltb}
use Rattle.refusal.proofs.AnswerLaws.{acceptance_fills_the_buffer}
use Rattle.timing.specs.Class.{classes_of, class_number}
use Rattle.timing.specs.declared.Profile.{Profile}
use Rattle.timing.proofs.ClassLaws.{classes_length}
use Rattle.symbols.specs.Strip.{strip_items}
use Rattle.symbols.proofs.RoundTripLaws.{cells_are_read, read_back, rule_of_write, cells_injective, write_of_read}
use Rattle.symbols.proofs.UnitLaws.{cells_at_most}
use Rattle.lengths.specs.Stream.{byte_stream, stream_of}
use Rattle.intervals.specs.Cells.{cells_read}
use Rattle.intervals.proofs.ClassCellLaws.{classes_are_cells, cells_are_classes}
use Rattle.codec.specs.Writer.{stream_rule, write_rule, write_output}
use Rattle.codec.specs.Reader.{items_of_stream}
use Rattle.demands.specs.Demand2.{CellsAreClasses, Demand2}
use Rattle.demands.proofs.ListLaws.{listed, bytes_are_accepted}
use Rattle.demands.proofs.ReadLaws.{passed_of_accepted, reads_as_its_list}

-- a stream whose classes are the cells of a list within the limit has no more intervals than a strip may have
few_intervals : (p : Profile) (ds ws : List ℕ) → CellsAreClasses p ws ds → length ws ≤ 6400 → length ds ≤ 51202
few_intervals p ds ws h few =
    let same = sym (classes_length p ds) ∙ sym (length-map (classes_of p ds) class_number) ∙ ap length h in
    let most = cells_at_most ws in omega arith

pub demand_2 : Demand2
unfolding byte_stream stream_of write_output write_rule stream_rule cells_read items_of_stream
demand_2 =
    record {
      written_lengths = λ p items output h.
          acceptance_fills_the_buffer (write_rule p items (length output)) (stream_of p items) output h;
      written_if_accepted = λ p items output accepts listed_items enough.
          rw (accepts, listed_items, le-ltb (length output) _ enough);
      read_only_lists = λ p ds output h.
          let passed = passed_of_accepted p ds (length output) h in
          let read = write_of_read (cells_read p ds) passed.strip in
          let few : length (strip_items (cells_read p ds)) ≤ 6400 = rw read.count read.few in (
            items_of_stream p ds,
            bytes_are_accepted (strip_items (cells_read p ds)) read.bytes few,
            cc (cells_are_classes (classes_of p ds) passed.edges),
            reads_as_its_list p ds output passed,
          );
      one_list = λ p ds us ws a b g h. cells_injective us ws (listed a).bytes (listed b).bytes (sym g ∙ h);
      every_list_is_read = λ p ds output ws accepts a h enough.
          let l = listed a in
          let (xs, same) = cells_are_read ws in
          let (edges, cells) = classes_are_cells (classes_of p ds) xs (h ∙ sym same) in
          let items : items_of_stream p ds ≡ ws = cc (read_back ws xs l.bytes same).items in
          rw items at (reads_as_its_list p ds output
          (record {
            profile = accepts;
            short = few_intervals p ds ws h l.few;
            edges = ap (λ a. a.number) edges;
            strip = rw cells (ap (λ a. a.number) (rule_of_write ws xs l.bytes l.few same));
            enough = rw items enough;
          }));
    }
