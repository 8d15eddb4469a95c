-- Why `reading::deliver` answers `pages_rule`: the lowest page that is lost decides, then the lowest whose fill is
-- soiled, then the room. Rests on no axiom.
use Prim.Native.Nat.{ℕ, suc, ◌+◌, ◌≤◌, ◌<◌}
use mathlib.Core.Path.{◌≡◌, sym, ap, ◌∙◌}
use native.Mathlib.Numerals.{add-one}
use native.Mathlib.Omega.{arith}
use mathlib.Core.Bool.{Bool, false}
use mathlib.Core.List.{List}
use lib.ListN.{length}
use Rattle.lists.specs.Place.{anywhere, lowest}
use Rattle.lists.proofs.StoreLaws.{stored_at_front_fills}
use Rattle.refusal.specs.Answer.{Answer, refused}
use Rattle.refusal.specs.declared.Refusal.TheVariants.{PageLost, FillSoiled, OutputTooShort}
use Rattle.refusal.proofs.AnswerLaws.{refusal_keeps_the_buffer, acceptance_fills_the_buffer}
use Rattle.sets.specs.Set.{Sector, sectors_in}
use Rattle.page.specs.Page.{page_numbers}
use Rattle.page.specs.Reading.{lost_at, soiled_at, page_at, pages_in, dots_in, pages_rule}
use Rattle.page.proofs.PageLaws.{none_of_pages, page_is_there, cells_count}
use Rattle.page.proofs.ReadingLaws.{none_by_lowest, lost_decides, soil_decides, room_decides, pages_pass}
use Rattle.page.proofs.ReadingLaws.{pages_size, dots_count}
use Rattle.page.proofs.reading.deliver.Goals as goal

-- a test that passes for no page, as its lowest says
none_passes
    : (ss : List Sector) {pages : ℕ} (test : ℕ → Bool)
    → pages ≡ lowest test (page_numbers pages)
    → anywhere test (page_numbers pages) ≡ false
none_passes ss {pages = pages} test is = none_by_lowest ss pages test (omega (arith, is))

pub returns-in-Some : goal.returns-in-Some
returns-in-Some c =
    let args = c.args in
    let lost = c.in-Some.ensures in
    let decided =
    ap (refused 19) (add-one _ ∙ ap suc lost.lowest)
    ∙ lost_decides (sectors_in args.set.now) args.pages (length args.cells.now) (rw lost.lowest at lost.page) in
    let r = PageLost (c.in-Some.lost + 1) in
    record {
      answer = decided;
      cells = refusal_keeps_the_buffer r _ _ _ decided;
      dots = refusal_keeps_the_buffer r _ _ _ decided;
    }

pub lowest_soiled-requires : goal.lowest_soiled-requires
lowest_soiled-requires c =
    let pre = c.requires in
    let ss = sectors_in c.args.set.now in
    (pre.0, pre.1, pre.2, none_passes ss (lost_at ss) c.in_default.ensures.lowest)

pub returns-in-Some-lowest_soiled : goal.returns-in-Some-lowest_soiled
returns-in-Some-lowest_soiled c =
    let args = c.args in
    let ss = sectors_in args.set.now in
    let soiled = c.in-Some-lowest_soiled.ensures in
    let none_lost = none_passes ss (lost_at ss) c.in_default.ensures.lowest in
    let decided =
    ap (refused 20) (add-one _ ∙ ap suc soiled.lowest)
    ∙ soil_decides ss args.pages (length args.cells.now) none_lost (rw soiled.lowest at soiled.page) in
    let r = FillSoiled (c.in-Some-lowest_soiled.soiled + 1) in
    record {
      answer = decided;
      cells = refusal_keeps_the_buffer r _ _ _ decided;
      dots = refusal_keeps_the_buffer r _ _ _ decided;
    }

pub returns-then-cells-pages : goal.returns-then-cells-pages
returns-then-cells-pages c =
    let args = c.args in
    let ss = sectors_in args.set.now in
    let none_lost = none_passes ss (lost_at ss) c.in_default.ensures.lowest in
    let none_soiled = none_passes ss (soiled_at ss) c.in_default-lowest_soiled.ensures.lowest in
    let decided = room_decides ss args.pages (length args.cells.now) none_lost none_soiled c.if-cells-pages.true in
    record {
      answer = decided;
      cells = refusal_keeps_the_buffer OutputTooShort _ _ _ decided;
      dots = refusal_keeps_the_buffer OutputTooShort _ _ _ decided;
    }

pub put_pages-requires : goal.put_pages-requires
put_pages-requires c =
    let pre = c.requires in
    let ss = sectors_in c.args.set.now in
    (pre.0, pre.1, pre.2, none_passes ss (lost_at ss) c.in_default.ensures.lowest, c.if-cells-pages.false)

pub returns : goal.returns
returns c =
    let args = c.args in
    let ss = sectors_in args.set.now in
    let pages = args.pages in
    let none_lost = none_passes ss (lost_at ss) c.in_default.ensures.lowest in
    let none_soiled = none_passes ss (soiled_at ss) c.in_default-lowest_soiled.ensures.lowest in
    let rule = pages_rule ss pages (length args.cells.now) in
    let passed = pages_pass ss pages (length args.cells.now) none_lost none_soiled c.if-cells-pages.false in
    let zero = sym (ap (λ (a : Answer). a.number) passed) in
    let each : (k : ℕ) → k < pages → length (page_at ss (suc k)) ≡ 1000 = λ k h.
    let byte : suc k < 256 = omega (arith, h, c.requires.2) in
    cells_count _ _ c.requires.0 c.requires.1 (suc k) byte (page_is_there _ _ c.requires.0 c.requires.1
    (suc k) byte (none_of_pages pages (lost_at ss) none_lost k h)) in
    let cells_fit : length (pages_in ss pages) ≤ length args.cells.now =
    rw (pages_size ss pages each) c.if-cells-pages.false in
    let dots_fit : length (dots_in ss pages) ≤ length args.dots.now =
    omega (arith, dots_count ss pages, c.requires.2, c.requires.3) in
    record {
      answer = passed;
      cells = c.put_pages.ensures.cells
          ∙ stored_at_front_fills (pages_in ss pages) args.cells.now cells_fit
          ∙ sym (acceptance_fills_the_buffer rule (pages_in ss pages) args.cells.now zero);
      dots = c.put_pages.ensures.dots
          ∙ stored_at_front_fills (dots_in ss pages) args.dots.now dots_fit
          ∙ sym (acceptance_fills_the_buffer rule (dots_in ss pages) args.dots.now zero);
    }
