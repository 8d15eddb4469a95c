-- Why `content::find_data` answers `sought`: by what the finder answers, and by what the lock that it found reads as.
-- Rests on no axiom.
use Prim.Native.Nat.{ℕ, ◌-◌}
use mathlib.Core.Path.{◌≡◌, sym, ap, ◌∙◌}
use mathlib.Core.List.{List}
use native.Mathlib.Omega.{arith}
use lib.ListN.{length, take, drop}
use Rattle.std.specs.Prelude.{Option}
use Rattle.timing.specs.declared.Profile.{Profile}
use Rattle.locks.proofs.LockLaws.{part_to_end}
use Rattle.entries.specs.machine.Steps.{data_read}
use Rattle.entries.specs.declared.opening.Opened.{Opened}
use Rattle.entries.proofs.SearchLaws.{search_means}
use Rattle.entries.proofs.StepLaws.{no_lock_no_data, other_lock_no_data, data_ends_within, data_is_sought}
use Rattle.entries.proofs.content.find_data.Goals as goal

-- what the lock reads as
read
    : (p : Profile) (ds : List ℕ) (k code : ℕ) (found answer : Option Opened)
    → found ≡ data_read p (take (length ds - k) (drop k ds)) code
    → found ≡ answer
    → answer ≡ data_read p (drop k ds) code
read p ds k code found answer same is =
    sym is ∙ same ∙ ap (λ (es : List ℕ). data_read p es code) (part_to_end ds k)

pub offset_bounds-intervals-place : goal.offset_bounds-intervals-place
offset_bounds-intervals-place c =
    let found = search_means _ _ _ c.requires _ c.search.ensures _ c.in-Ok.is in
    omega (arith, found.within, c.well_formed)

pub slice_bounds-read_data-count : goal.slice_bounds-read_data-count
slice_bounds-read_data-count c =
    let found = search_means _ _ _ c.requires _ c.search.ensures _ c.in-Ok.is in
    omega (arith, found.within)

pub slice_bounds-read_data-start : goal.slice_bounds-read_data-start
slice_bounds-read_data-start c =
    let found = search_means _ _ _ c.requires _ c.search.ensures _ c.in-Ok.is in
    omega (arith, found.within)

pub overflow_add-result : goal.overflow_add-result
overflow_add-result c =
    let found = search_means _ _ _ c.requires _ c.search.ensures _ c.in-Ok.is in
    let reads = read _ c.args.intervals.now c.in-Ok.place c.args.code _ _ c.read_data.ensures c.in-Some.is in
    let ends = data_ends_within _ _ _ c.args.code found _ reads in
    omega (arith, ends, c.well_formed)

pub returns-in_default : goal.returns-in_default
returns-in_default c =
    no_lock_no_data _ _ _ _ (search_means _ _ _ c.requires _ c.search.ensures _ c.in_default.is)

pub returns-in_default-read_data : goal.returns-in_default-read_data
returns-in_default-read_data c =
    let found = search_means _ _ _ c.requires _ c.search.ensures _ c.in-Ok.is in
    let place = c.in-Ok.place in
    other_lock_no_data _ _ _ _ found
    (read _ c.args.intervals.now place c.args.code _ _ c.read_data.ensures c.in_default-read_data.is)

pub returns : goal.returns
returns c =
    let found = search_means _ _ _ c.requires _ c.search.ensures _ c.in-Ok.is in
    data_is_sought _ _ _ _ found _
    (read _ c.args.intervals.now c.in-Ok.place c.args.code _ _ c.read_data.ensures c.in-Some.is)
