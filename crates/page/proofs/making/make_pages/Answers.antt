-- Why `making::make_pages` answers `make_answer` and leaves `make_output`: it makes the tests of the rule in their
-- order, and then stores the sectors. Rests on no axiom.
use Prim.Native.Nat.{◌<◌, ◌≤◌}
use mathlib.Core.Path.{◌∙◌}
use borrow.Author.Tests.{lt-ltb, le-ltb, eq-eqb, ne_eqb}
use lib.ListN.{length}
use Rattle.lists.proofs.StoreLaws.{stored_at_front_fills}
use Rattle.page.specs.Making.{made_set, make_rule, make_answer, make_output}
use Rattle.page.proofs.MakingLaws.{made_size}
use Rattle.page.proofs.making.make_pages.Goals as goal

pub returns-then-pages-lt1 : goal.returns-then-pages-lt1
unfolding make_rule make_answer make_output
returns-then-pages-lt1 c =
    record {
      answer = rw (lt-ltb _ 1 c.if-pages-lt1.true);
      set = rw (lt-ltb _ 1 c.if-pages-lt1.true);
    }

pub returns-then-pages-gt16 : goal.returns-then-pages-gt16
unfolding make_rule make_answer make_output
returns-then-pages-gt16 c =
    record {
      answer = rw (le-ltb _ 1 c.if-pages-lt1.false, lt-ltb 16 _ c.if-pages-gt16.true);
      set = rw (le-ltb _ 1 c.if-pages-lt1.false, lt-ltb 16 _ c.if-pages-gt16.true);
    }

pub returns-then-cells-pages : goal.returns-then-cells-pages
unfolding make_rule make_answer make_output
returns-then-cells-pages c =
    record {
      answer = rw (le-ltb _ 1 c.if-pages-lt1.false, le-ltb 16 _ c.if-pages-gt16.false, ne_eqb _ _ c.if-cells-pages.true);
      set = rw (le-ltb _ 1 c.if-pages-lt1.false, le-ltb 16 _ c.if-pages-gt16.false, ne_eqb _ _ c.if-cells-pages.true);
    }

pub returns-then-set-bytes : goal.returns-then-set-bytes
unfolding make_rule make_answer make_output
returns-then-set-bytes c =
    let args = c.args in
    let size = made_size args.cells.now args.pages c.if-cells-pages.false in
    let short : length args.set.now < length (made_set args.cells.now args.pages) = rw size c.if-set-bytes.true in
    record {
      answer = rw (
        le-ltb _ 1 c.if-pages-lt1.false,
        le-ltb 16 _ c.if-pages-gt16.false,
        eq-eqb _ _ c.if-cells-pages.false,
        lt-ltb _ _ short,
      );
      set = rw (
        le-ltb _ 1 c.if-pages-lt1.false,
        le-ltb 16 _ c.if-pages-gt16.false,
        eq-eqb _ _ c.if-cells-pages.false,
        lt-ltb _ _ short,
      );
    }

pub returns : goal.returns
unfolding make_rule make_answer make_output
returns c =
    let args = c.args in
    let made = made_set args.cells.now args.pages in
    let size = made_size args.cells.now args.pages c.if-cells-pages.false in
    let room : length made ≤ length args.set.now = rw size c.if-set-bytes.false in
    record {
      answer = rw (
        le-ltb _ 1 c.if-pages-lt1.false,
        le-ltb 16 _ c.if-pages-gt16.false,
        eq-eqb _ _ c.if-cells-pages.false,
        le-ltb _ (length made) room,
        size,
      );
      set = rw (
        le-ltb _ 1 c.if-pages-lt1.false,
        le-ltb 16 _ c.if-pages-gt16.false,
        eq-eqb _ _ c.if-cells-pages.false,
        le-ltb _ (length made) room,
      ) (c.put_sectors.ensures ∙ stored_at_front_fills made args.set.now room);
    }
