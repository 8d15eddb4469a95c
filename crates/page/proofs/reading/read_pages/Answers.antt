-- Why `reading::read_pages` answers `read_answer` and leaves `read_output`: it hands back what was gathered. Rests on
-- no axiom.
use mathlib.Core.Path.{ap, ◌∙◌}
use native.Mathlib.Omega.{arith}
use lib.ListN.{length}
use Rattle.refusal.specs.Answer.{Answer}
use Rattle.page.specs.Reading.{read_answer}
use Rattle.page.proofs.ReadingLaws.{cells_counted}
use Rattle.page.proofs.reading.read_pages.Goals as goal

pub overflow_mul-result : goal.overflow_mul-result
overflow_mul-result c =
    let args = c.args in
    let counted = c.from-read.ensures.2 ∙ ap (λ (a : Answer). a.count) c.gather.ensures.answer in
    omega (arith, counted, (cells_counted args.set.now args.pages (length args.cells.now)).1)

pub returns : goal.returns
unfolding read_answer
returns c =
    let args = c.args in
    let cells = cells_counted args.set.now args.pages (length args.cells.now) in
    let told = c.from-read.ensures in
    record {
      answer = rw (told.0, told.1, told.2, c.gather.ensures.answer, c.gather.ensures.dots, cells.0);
      cells = c.gather.ensures.cells;
    }
