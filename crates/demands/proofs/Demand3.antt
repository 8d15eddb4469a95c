-- Why demand 3 holds: within the margin every interval keeps the class of its cell, so both streams still read as the
-- lists that were written; one half clock beyond it, an interval of a one-byte list changes its class, and other
-- classes are refused or are another list. Rests on no axiom.
use Prim.Native.Nat.{ℕ, ◌<◌, ◌^◌}
use mathlib.Core.Path.{◌≡◌, refl}
use mathlib.Core.Bool.{Bool, true, false}
use mathlib.Core.List.{List, [], ◌∷◌, map}
use lib.Dec.{eqb}
use lib.ListN.{length, get_or, drop, length-set}
use lib.Seq.{get_or-set_same, get_or-set_other}
use borrow.Author.Tests.{eqb-true, eqb-false}
use Rattle.refusal.specs.Answer.{accepted}
use Rattle.timing.specs.Class.{classes_of, class_number}
use Rattle.timing.specs.declared.Profile.{Profile}
use Rattle.timing.proofs.ProfileLaws.{kept}
use Rattle.timing.proofs.MiddleLaws.{Behind}
use Rattle.items.specs.Written.{written}
use Rattle.symbols.specs.Cells.{written_cells}
use Rattle.symbols.proofs.RoundTripLaws.{cells_are_read}
use Rattle.lengths.specs.Stream.{byte_stream, stream_of}
use Rattle.lengths.specs.Units.{class_of_units}
use Rattle.lengths.proofs.NearLaws.{Near, near_of_each, near_at, near_itself, near_streams_are_equally_long}
use Rattle.lengths.specs.Margin.{margin_of, margin_rule}
use Rattle.lengths.proofs.WindowLaws.{near_stream_has_classes}
use Rattle.lengths.proofs.MiddleLaws.{search_is_behind}
use Rattle.lengths.proofs.MarginLaws.{margin_leaves_room}
use Rattle.lengths.proofs.WitnessLaws.{Broken, above_margin_is_broken}
use Rattle.lengths.proofs.BrokenLaws.{broken_stream, broken_stream_is_near, broken_stream_has_other_classes}
use Rattle.lengths.proofs.KindLaws.{length_fits}
use Rattle.lengths.proofs.PapersMargin.{margin_is_the_papers, one_byte_is_written}
use Rattle.codec.specs.Reader.{items_of_stream, read_rule}
use Rattle.demands.specs.Streams.{AcceptedProfile, AcceptedList, Moved, Misread, turned_away, another}
use Rattle.demands.specs.Demand2.{CellsAreClasses}
use Rattle.demands.specs.Demand3.{stated, Demand3}
use Rattle.demands.proofs.ListLaws.{listed, one_byte_is_listed, written_is_listed, stream_of_written}
use Rattle.demands.proofs.ClassCells.{classes_of_cells, classes_of_numbers}
use Rattle.demands.proofs.Demand1.{room_for_its_list_is_enough}
use Rattle.demands.proofs.Demand2.{demand_2}

pub stated_is_the_margin : (p : Profile) → AcceptedProfile p → stated p ≡ margin_of p
unfolding margin_rule
stated_is_the_margin p h = rw (h, stated)

-- the numbers of the classes that the cells of written bytes ask for are the cells
numbers_of_cells : (ws : List ℕ) → map class_number (map class_of_units (written_cells ws)) ≡ written_cells ws
numbers_of_cells ws = let (xs, same) = cells_are_read ws in cc ((classes_of_cells xs).0, (classes_of_cells xs).1)

module _ (p : Profile) (accepts : AcceptedProfile p) where
  -- a stream near the written one has the cells' classes
  near_has_classes
      : (ws ds : List ℕ)
      → Near (margin_of p) ds (byte_stream p ws)
      → classes_of p ds ≡ map class_of_units (written_cells ws)
  near_has_classes = near_stream_has_classes (margin_leaves_room (kept p accepts)) (kept p accepts)

  moved_is_near
      : (items ds : List ℕ)
      → Moved (stated p) (stream_of p items) ds
      → Near (margin_of p) ds (byte_stream p (written items))
  unfolding stream_of
  moved_is_near items ds moved =
      rw (stated_is_the_margin p accepts) at
      (near_of_each (stated p) ds (stream_of p items) moved.as_many (λ k h.
      let here : k < length ds = rw moved.as_many h in
      (moved.no_longer k here, moved.no_shorter k here)))

  -- a search from any start reads its classes behind the first that it does not take for class 2
  pub moved_is_behind
      : (items ds : List ℕ)
      → Moved (stated p) (stream_of p items) ds
      → (start : ℕ)
      → Behind (classes_of p (drop start ds)) (drop start (map class_of_units (written_cells (written items))))
  moved_is_behind items ds moved =
      search_is_behind (margin_leaves_room (kept p accepts)) (kept p accepts) (written items) ds
      (moved_is_near items ds moved)

  -- so has the stream of any items, moved by at most the margin
  pub moved_has_classes
      : (items ds : List ℕ)
      → Moved (stated p) (stream_of p items) ds
      → classes_of p ds ≡ map class_of_units (written_cells (written items))
  moved_has_classes items ds moved = near_has_classes (written items) ds (moved_is_near items ds moved)

  moved_has_cells
      : (ws ds : List ℕ) → AcceptedList ws → Moved (stated p) (stream_of p ws) ds → CellsAreClasses p ws ds
  moved_has_cells ws ds a moved = cc (moved_has_classes ws ds moved, (listed a).as_written, numbers_of_cells ws)

  -- a stream with other classes than the written one's is refused or read as another list
  pub misread
      : (b : ℕ) (ds output : List ℕ)
      → (classes_of p ds ≡ classes_of p (byte_stream p (b ∷ [])) → ⊥)
      → (accepted_here : Bool)
      → eqb (read_rule p ds (length output)).number 0 ≡ accepted_here
      → Misread p ds output (b ∷ [])
  misread b ds output other false e = turned_away (eqb-false _ 0 e)
  misread b ds output other true e =
      let (ws, a, cells, reads) = demand_2.read_only_lists p ds output (eqb-true _ 0 e) in
      another ws reads (λ same.
      let stream = byte_stream p (b ∷ []) in
      let near = near_itself (margin_of p) stream in
      other (cc (near_has_classes (b ∷ []) stream near, classes_of_numbers (classes_of p ds))))

  -- the stream with one interval moved still holds 16-bit numbers
  broken_fits
      : (n : ℕ) (x : Broken p n) (k : ℕ)
      → k < length (broken_stream x)
      → (at_place : Bool)
      → eqb k x.place ≡ at_place
      → get_or (broken_stream x) k 0 < 2 ^ 16
  broken_fits n x k h true e =
      let there = get_or-set_same (byte_stream p (x.byte ∷ [])) x.place x.moved 0 x.in_stream in
      rw (eqb-true k x.place e, there) x.fits
  broken_fits n x k h false e =
      let ls = byte_stream p (x.byte ∷ []) in
      rw (get_or-set_other ls x.place k x.moved 0 (eqb-false k x.place e))
      (length_fits (kept p accepts) (x.byte ∷ []) k (rw length-set at h))

  pub moved_beyond : (n : ℕ) (x : Broken p n) → Moved n (stream_of p (x.byte ∷ [])) (broken_stream x)
  moved_beyond n x =
      let stream = one_byte_is_written p x.byte x.is_byte in
      let near : Near n (broken_stream x) (stream_of p (x.byte ∷ [])) = rw stream (broken_stream_is_near x) in
      record {
        as_many = near_streams_are_equally_long n _ _ near;
        sixteen_bits = λ k h. broken_fits n x k h (eqb k x.place) refl;
        no_longer = λ k h. (near_at n _ _ near k).0;
        no_shorter = λ k h. (near_at n _ _ near k).1;
      }

pub demand_3 : Demand3
demand_3 p accepts =
    record {
      check_orders_turned = λ items h. (written_is_listed items h, stream_of_written p items h);
      never_equal = λ us ws a b differ ds es moved_us moved_ws same.
          differ (demand_2.one_list p es us ws a b (rw same at (moved_has_cells p accepts us ds a moved_us))
          (moved_has_cells p accepts ws es b moved_ws));
      reads_back = λ ws a changed moved output enough.
          let cells = moved_has_cells p accepts ws changed a moved in
          demand_2.every_list_is_read p changed output ws accepts a cells enough;
      largest = λ n above.
          let x : Broken p n =
          above_margin_is_broken (kept p accepts) n (rw (stated_is_the_margin p accepts) at above) in
          record {
            byte = x.byte;
            accepted = one_byte_is_listed x.byte x.is_byte;
            changed = broken_stream x;
            moved = moved_beyond p accepts n x;
            room = length (items_of_stream p (broken_stream x));
            enough = λ output room. room_for_its_list_is_enough p (broken_stream x) (length output) room;
            misread = λ output enough.
                misread p accepts x.byte (broken_stream x) output
                (broken_stream_has_other_classes x (kept p accepts)) _ refl;
          };
      papers_margin = rw (stated_is_the_margin p accepts) (margin_is_the_papers p accepts);
    }
