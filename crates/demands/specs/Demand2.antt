-- Demand 2: what is written, and what is read back. No lemmas here.
use Rattle.std.specs.Prelude.{ℕ, ◌≤◌, ◌≡◌, List, map, length}
use Rattle.lists.specs.Filled.{filled}
use Rattle.refusal.specs.Answer.{accepted}
use Rattle.items.specs.Written.{written}
use Rattle.items.specs.Rule.{list_rule}
use Rattle.timing.specs.Class.{classes_of, class_number}
use Rattle.timing.specs.declared.Profile.{Profile}
use Rattle.symbols.specs.Cells.{written_symbols, written_cells}
use Rattle.lengths.specs.Lengths.{lengths_of}
use Rattle.codec.specs.Writer.{write_rule, write_output}
use Rattle.codec.specs.Reader.{read_rule}
use Rattle.demands.specs.Streams.{AcceptedProfile, AcceptedList, ReadsAs}

-- the cells of a list are the classes of the intervals
abbrev pub CellsAreClasses : Profile → List ℕ → List ℕ → Type 0
CellsAreClasses p ws ds = map class_number (classes_of p ds) ≡ written_cells ws

pub record Demand2 : Type 0 where
  -- what is written is, interval by interval, the lengths of the paper's cells for those bytes, marks and check bytes
  pub written_lengths
      : (p : Profile) (items output : List ℕ)
      → (write_rule p items (length output)).number ≡ 0
      → write_output p items output ≡ filled (lengths_of p (written_symbols (written items))) output
  -- an accepted list is written wherever there is room
  pub written_if_accepted
      : (p : Profile) (items output : List ℕ)
      → AcceptedProfile p
      → (list_rule items).number ≡ 0
      → length (lengths_of p (written_symbols (written items))) ≤ length output
      → write_rule p items (length output) ≡ accepted (length (lengths_of p (written_symbols (written items))))
  -- what is read back is a list within the limit whose cells are the classes of the intervals
  pub read_only_lists
      : (p : Profile) (ds output : List ℕ)
      → (read_rule p ds (length output)).number ≡ 0
      → (ws : List ℕ) × AcceptedList ws × CellsAreClasses p ws ds × ReadsAs p ds output ws
  -- it is the one such list
  pub one_list
      : (p : Profile) (ds us ws : List ℕ)
      → AcceptedList us
      → AcceptedList ws
      → CellsAreClasses p us ds
      → CellsAreClasses p ws ds
      → us ≡ ws
  -- a stream of intervals whose classes are the cells of a list within the limit is read as that list; so a stream
  -- that is refused, with output enough, belongs to no such list
  pub every_list_is_read
      : (p : Profile) (ds output ws : List ℕ)
      → AcceptedProfile p
      → AcceptedList ws
      → CellsAreClasses p ws ds
      → length ws ≤ length output
      → ReadsAs p ds output ws
