-- Why `search::lowest_lost` answers the lowest page that is lost: it tries them in ascending order. Rests on no axiom.
use Prim.Native.Nat.{ℕ, ◌≤◌, ◌+◌, ◌<◌}
use mathlib.Core.Path.{◌≡◌, sym, ap, ◌∙◌}
use native.Mathlib.Numerals.{add-one}
use native.Mathlib.Omega.{arith}
use lib.ListN.{get_or}
use Rattle.lists.proofs.PlaceLaws.{lowest_from_passing_is_here, lowest_from_failing_is_further, lowest_from_end_is_here}
use mathlib.Core.List.{List}
use Rattle.sets.specs.machine.Index.{shown, Indexed}
use Rattle.sets.specs.Set.{sectors_in}
use Rattle.sets.proofs.EntryLaws.{entry_is_single}
use Rattle.page.specs.Page.{page_numbers}
use Rattle.page.specs.Reading.{is_lost, lost_at}
use Rattle.page.proofs.PageLaws.{pages_length, page_number, lost_by_index}
use Rattle.page.proofs.search.lowest_lost.Goals as goal

-- what a turn finds, of its page
found
    : (set index : List ℕ)
    → Indexed set index
    → (pages k : ℕ)
    → pages ≤ 16
    → k < pages
    → lost_at (sectors_in set) (get_or (page_numbers pages) k 0) ≡ is_lost (shown set (get_or index (k + 1) 0))
found set index indexed pages k few inside =
    ap (lost_at (sectors_in set)) (page_number pages k inside ∙ sym (add-one k))
    ∙ lost_by_index set index indexed (k + 1) (omega arith)

pub is_lost-requires : goal.is_lost-requires
is_lost-requires c =
    let n = c.loop-k.k + 1 in
    let byte : n < 256 = omega (arith, c.loop-k-test.true, c.requires.2) in
    (c.requires.0.within n byte, entry_is_single _ _ c.requires.0 n byte c.requires.1)

pub returns-then-is_lost : goal.returns-then-is_lost
returns-then-is_lost c =
    record {
      lowest =
          sym (lowest_from_passing_is_here _ _ 0 c.loop-k.k (rw (pages_length c.args.pages) c.loop-k-test.true)
          (found _ _ c.requires.0 c.args.pages c.loop-k.k c.requires.2 c.loop-k-test.true
          ∙ sym c.is_lost.ensures
          ∙ c.if-is_lost.true))
          ∙ c.loop-k.invariant;
      page = c.loop-k-test.true;
    }

pub loop-k-preserved : goal.loop-k-preserved
loop-k-preserved c =
    sym (lowest_from_failing_is_further _ _ 0 c.loop-k.k (rw (pages_length c.args.pages) c.loop-k-test.true)
    (found _ _ c.requires.0 c.args.pages c.loop-k.k c.requires.2 c.loop-k-test.true
    ∙ sym c.is_lost.ensures
    ∙ c.if-is_lost.false))
    ∙ c.loop-k.invariant

pub returns : goal.returns
returns c =
    let last : c.args.pages ≡ c.loop-k.k = omega (arith, c.loop-k.auto.k-end, c.loop-k-test.false) in
    let end = rw (← pages_length c.args.pages) at c.loop-k-test.false in
    record { lowest = last ∙ sym (lowest_from_end_is_here _ _ c.loop-k.k end) ∙ c.loop-k.invariant; page = tt }
