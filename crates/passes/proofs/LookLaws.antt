-- A pass that only looks stands where a pass does: a block goes through the machine, or it has no gap while none is
-- open, and its half cells say where the machine stands. Rests on no axiom.
use Rattle.std.proofs.Common.{◌≡◌, ℕ, ◌+◌, ◌-◌, ◌^◌, ◌<◌, ◌≤◌, Bool, true, false, List, [], ◌∷◌, ◌++◌, map, length, take, drop, sym, refl, ap, ◌∙◌, zero-add, arith, length-drop, length-take-le, take_all, take-add}
use mathlib.Core.List.{map-append}
use lib.ListN.{length-map}
use Rattle.lists.specs.Sum.{sum_of}
use Rattle.timing.specs.Class.{at_start, cursor_after}
use Rattle.timing.specs.machine.Edges.{units_from}
use Rattle.timing.specs.declared.Profile.{Profile}
use Rattle.timing.proofs.ClassLaws.{cursor_after-append, cursor_after_none}
use Rattle.timing.proofs.UnitsLaws.{units_none, units_count, units-append}
use Rattle.symbols.specs.Reading.{units}
use Rattle.symbols.specs.machine.Step.{AllCells, fresh_reading, ran}
use Rattle.symbols.specs.machine.Gaps.{gaps_from, NoneOpen}
use Rattle.symbols.specs.declared.Cell.{Cell}
use Rattle.symbols.specs.declared.Reading.{Reading}
use Rattle.symbols.proofs.ReadsLaws.{Reads}
use Rattle.symbols.proofs.AnswerLaws.{counted}
use Rattle.symbols.proofs.StepLaws.{units_at_most}
use Rattle.symbols.proofs.RunLaws.{ran_in_parts, ran_reads}
use Rattle.symbols.proofs.CalmLaws.{none_open_at_first, none_open_after, calm_run}
use Rattle.shifts.specs.machine.Pass.{pass_from, passed}
use Rattle.passes.specs.machine.Look.{calmed, Sees, Looking}
use Rattle.shifts.specs.declared.Pass.{Pass}
use Rattle.passes.specs.declared.look.Seen.{Seen}
use Rattle.passes.specs.declared.look.Look.{Look}
use Rattle.intervals.proofs.CellLaws.{cell_of_units, units_of_its_cell}
use Rattle.shifts.proofs.PassLaws.{pass_over_all}
use Rattle.shifts.proofs.SixteenLaws.{last_sixteen}

cells_of_units : (us : List ℕ) → AllCells us → map units (map cell_of_units us) ≡ us
unfolding AllCells
cells_of_units [] cells = refl
cells_of_units (u ∷ us) cells =
    let (low, high, later) = cells in
    cc (units_of_its_cell u low high, cells_of_units us later)

-- ---- one block more

reads_as : (m : Reading) (cs : List Cell) → m ≡ ran fresh_reading 0 cs → length cs ≤ 2 ^ 32 → Reads m cs
reads_as m cs e few = rw e (ran_reads cs few)

module _ (us : List ℕ) (s : Seen) (sees : Sees us s) (few : length us < 2 ^ 32) where
  abbrev cs : List Cell
  cs = sees.cells

  abbrev m : Reading
  m = s.reading

  as_many : length cs ≡ length us
  as_many = sym (length-map cs units) ∙ ap length sees.same

  reads : Reads m cs
  reads = reads_as m cs sees.reading (omega (arith, as_many))

  -- a byte has sixteen half cells, and a cell four at most
  pub seen_fits : (m.held ≤ 16) × (m.words ≤ length us)
  seen_fits =
      let counts = counted m cs reads in
      (counts.few, omega (arith, counts.some, units_at_most cs, as_many))

  module _ (vs : List ℕ) (cells : AllCells vs) (room : length us + length vs < 2 ^ 32) where
    abbrev ds : List Cell
    ds = map cell_of_units vs

    block : map units ds ≡ vs
    block = cells_of_units vs cells

    block_count : length ds ≡ length vs
    block_count = length-map vs cell_of_units

    goes_on
        : (r : Reading) (clear : Bool)
        → r ≡ ran m (length cs) ds
        → (clear ≡ true → NoneOpen (ran m (length cs) ds) (cs ++ ds))
        → Sees (us ++ vs) (record { reading = r; clear = clear })
    goes_on r clear e none =
        record {
          cells = cs ++ ds;
          same = map-append units cs ds ∙ rw (sees.same, block) refl;
          reading = e ∙ ap (λ (x : Reading). ran x (length cs) ds) sees.reading ∙ sym (rw zero-add at (ran_in_parts fresh_reading 0 cs ds));
          clear = λ h. rw e (none h);
        }

    none_open
        : gaps_from m.held vs ≡ false → 8 ≤ length vs → NoneOpen (ran m (length cs) ds) (cs ++ ds)
    none_open calm some =
        none_open_after m cs ds reads (omega (arith, as_many, block_count)) (rw block calm)
        (omega (arith, block_count))

    -- through the machine
    pub sees_through
        : (most : ℕ) (r : Reading) (clear : Bool)
        → length us + length vs ≤ most
        → most < 2 ^ 32
        → r ≡ (pass_from most (length us) m vs).end.reading
        → (clear ≡ true → (gaps_from m.held vs ≡ false) × (8 ≤ length vs))
        → Sees (us ++ vs) (record { reading = r; clear = clear })
    sees_through most r clear within small e calm =
        let run = (pass_over_all ds most (length us) m (omega (arith, seen_fits.1, block_count)) small).0 in
        let same : r ≡ ran m (length cs) ds =
        e
        ∙ ap (λ (l : List ℕ). (pass_from most (length us) m l).end.reading) (sym block)
        ∙ ap (λ (p : Pass). p.reading) run
        ∙ ap (λ (k : ℕ). ran m k ds) (sym as_many) in
        goes_on r clear same (λ h. none_open (calm h).0 (calm h).1)

    -- or by its half cells alone
    pub sees_calm
        : (r : Reading) (sum : ℕ)
        → s.clear ≡ true
        → gaps_from m.held vs ≡ false
        → 16 ≤ length vs
        → sum ≡ m.held + sum_of vs
        → r ≡ calmed m vs sum
        → Sees (us ++ vs) (record { reading = r; clear = true })
    unfolding calmed
    sees_calm r sum clear calm some counted_sum e =
        let last = drop (length vs - 16) vs in
        let sixteen : take 16 last ≡ last =
        take_all 16 last (rw (length-drop (length vs - 16) vs) (omega arith)) in
        let run = calm_run m cs ds reads (omega (arith, as_many, block_count)) (rw block calm) (sees.clear clear)
        (omega (arith, block_count)) in
        let same : r ≡ ran m (length cs) ds =
        e ∙ rw (sixteen, ← last_sixteen vs m cells some, counted_sum) (rw block at run) in
        goes_on r true same (λ _. none_open calm (omega arith))

-- ---- a list of intervals

pub looks_first
    : (p : Profile) (ds : List ℕ)
    → Looking p ds (record { seen = record { reading = fresh_reading; clear = true }; used = 0; cursor = at_start p })
unfolding ran
looks_first p ds =
    record {
      within = omega arith;
      sees =
          rw (units_none (at_start p))
          (record { cells = []; same = refl; reading = refl; clear = λ _. none_open_at_first });
      cursor = sym (cursor_after_none (at_start p));
    }

module _ (p : Profile) (ds : List ℕ) (at : Look) (looking : Looking p ds at) where
  abbrev done : List ℕ
  done = take at.used ds

  abbrev us : List ℕ
  us = units_from (at_start p) done

  us_count : length us ≡ at.used
  us_count = units_count (at_start p) done ∙ length-take-le at.used ds looking.within

  pub looking_fits : length ds < 2 ^ 32 → (at.seen.reading.held ≤ 16) × (at.seen.reading.words ≤ at.used)
  looking_fits small =
      let (held, words) = seen_fits us at.seen looking.sees (omega (arith, us_count)) in
      (held, omega (arith, words, us_count))

  pub looks_on
      : (most k : ℕ) (next : Look)
      → at.used + k ≤ length ds
      → length ds ≤ most
      → let part = take k (drop at.used ds) in
      next.used ≡ at.used + length part
      → next.cursor ≡ cursor_after at.cursor part
      → ((vs : List ℕ) → Sees vs at.seen → length vs ≡ at.used → at.used + length part ≤ most
      → Sees (vs ++ units_from at.cursor part) next.seen)
      → Looking p ds next
  looks_on most k next inside few used cursor seen =
      let part = take k (drop at.used ds) in
      let size : length part ≡ k =
      length-take-le k (drop at.used ds) (rw (length-drop at.used ds) (omega arith)) in
      let end : next.used ≡ at.used + k = used ∙ ap (◌+◌ at.used) size in
      let all : take next.used ds ≡ done ++ part = ap (λ (j : ℕ). take j ds) end ∙ take-add at.used k ds in
      let sees = seen us looking.sees us_count (omega (arith, size)) in
      record {
        within = omega arith;
        sees = rw (all, units-append, ← looking.cursor) sees;
        cursor = rw (all, cursor_after-append, ← looking.cursor) cursor;
      }

  pub looks_last
      : (most : ℕ)
      → length ds ≤ at.used
      → length ds ≤ most
      → most < 2 ^ 32
      → record { reading = at.seen.reading; used = at.used } ≡ (passed most (units_from (at_start p) ds)).end
  unfolding passed fresh_reading
  looks_last most over few small =
      let sees = looking.sees in
      let all : done ≡ ds = take_all at.used ds over in
      let cs = sees.cells in
      let size : length cs ≡ at.used = sym (length-map cs units) ∙ ap length sees.same ∙ us_count in
      let end : 0 + length cs ≡ at.used = omega arith in
      let run = (pass_over_all cs most 0 fresh_reading (omega arith) small).0 in
      sym (rw (sees.same, all, end, ← sees.reading) at run)
