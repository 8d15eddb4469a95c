-- Why `search::lowest_soiled` answers the lowest page whose fill is soiled: it tries them in ascending order, each in
-- its sector. Rests on no axiom.
use Prim.Native.Nat.{ℕ, ◌≤◌, ◌+◌, ◌<◌}
use mathlib.Core.Path.{◌≡◌, sym, ap, ◌∙◌}
use native.Mathlib.Nat.{add-sub_cancel_left}
use native.Mathlib.Numerals.{add-one}
use native.Mathlib.Omega.{arith}
use lib.ListN.{get_or, take, drop}
use Rattle.lists.proofs.PlaceLaws.{lowest_from_passing_is_here, lowest_from_failing_is_further, lowest_from_end_is_here}
use mathlib.Core.Bool.{false}
use mathlib.Core.List.{List}
use Rattle.lists.specs.Place.{anywhere}
use Rattle.sets.specs.Held.{numbers}
use Rattle.sets.specs.Alone.{is_twice_in}
use Rattle.sets.specs.machine.Index.{Indexed}
use Rattle.sets.specs.Set.{sectors_in}
use Rattle.page.specs.Page.{page_numbers, is_dirt}
use Rattle.page.specs.Reading.{lost_at, soiled_at}
use Rattle.page.proofs.PageLaws.{pages_length, page_number, stands_in_turn, fill_there}
use Rattle.page.proofs.search.lowest_soiled.Goals as goal

-- what a turn finds, of its page
found
    : (set index : List ℕ) (indexed : Indexed set index)
    (once : anywhere (is_twice_in (sectors_in set)) numbers ≡ false) (pages k : ℕ)
    → pages ≤ 16
    → anywhere (lost_at (sectors_in set)) (page_numbers pages) ≡ false
    → k < pages
    → soiled_at (sectors_in set) (get_or (page_numbers pages) k 0)
    ≡ anywhere is_dirt (take 24 (drop (get_or index (k + 1) 0 + 1002) set))
found set index indexed once pages k few none inside =
    let (byte, there) = stands_in_turn set index indexed once pages k few none inside in
    ap (soiled_at (sectors_in set)) (page_number pages k inside ∙ sym (add-one k))
    ∙ fill_there set index indexed once (k + 1) byte there

pub slice_bounds-is_soiled-end : goal.slice_bounds-is_soiled-end
slice_bounds-is_soiled-end c =
    let (byte, there) =
    stands_in_turn _ _ c.requires.0 c.requires.1 c.args.pages c.loop-k.k c.requires.2 c.requires.3 c.loop-k-test.true in
    omega (arith, there.ends)

pub returns-then-is_soiled : goal.returns-then-is_soiled
returns-then-is_soiled c =
    record {
      lowest =
          sym (lowest_from_passing_is_here _ _ 0 c.loop-k.k (rw (pages_length c.args.pages) c.loop-k-test.true)
          (found _ _ c.requires.0 c.requires.1 c.args.pages c.loop-k.k c.requires.2 c.requires.3 c.loop-k-test.true
          ∙ sym (rw add-sub_cancel_left at c.is_soiled.ensures)
          ∙ c.if-is_soiled.true))
          ∙ c.loop-k.invariant;
      page = c.loop-k-test.true;
    }

pub loop-k-preserved : goal.loop-k-preserved
loop-k-preserved c =
    sym (lowest_from_failing_is_further _ _ 0 c.loop-k.k (rw (pages_length c.args.pages) c.loop-k-test.true)
    (found _ _ c.requires.0 c.requires.1 c.args.pages c.loop-k.k c.requires.2 c.requires.3 c.loop-k-test.true
    ∙ sym (rw add-sub_cancel_left at c.is_soiled.ensures)
    ∙ c.if-is_soiled.false))
    ∙ c.loop-k.invariant

pub returns : goal.returns
returns c =
    let last : c.args.pages ≡ c.loop-k.k = omega (arith, c.loop-k.auto.k-end, c.loop-k-test.false) in
    let end = rw (← pages_length c.args.pages) at c.loop-k-test.false in
    record { lowest = last ∙ sym (lowest_from_end_is_here _ _ c.loop-k.k end) ∙ c.loop-k.invariant; page = tt }
