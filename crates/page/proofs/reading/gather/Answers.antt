-- Why `reading::gather` answers `read_rule`: the page count decides, then the set by itself, then its pages. Rests on
-- no axiom.
use Rattle.std.specs.Prelude.{Result, Ok}
use Rattle.refusal.specs.declared.Refusal.{Refusal}
use Rattle.std.proofs.Common.{rules}
use mathlib.Core.Path.{◌≡◌, sym, ap}
use native.Mathlib.Omega.{arith}
use borrow.Author.Tests.{lt-ltb, le-ltb}
use lib.ListN.{length}
use Rattle.refusal.specs.Answer.{Answer, counted_answer}
use Prim.Native.Nat.{ℕ}
use mathlib.Core.List.{List}
use Rattle.refusal.proofs.AnswerLaws.{refusal_decides, refusal_keeps_the_buffer}
use Rattle.sets.specs.Alone.{set_rule}
use Rattle.sets.proofs.SetRuleLaws.{accepted_set}
use Rattle.page.specs.Reading.{read_rule, read_output}
use Rattle.page.proofs.ReadingLaws.{range_passes, set_passes}
use Rattle.page.proofs.reading.gather.Goals as goal

-- the set by itself is accepted
fits
    : (set : List ℕ) {alone : (Result ℕ Refusal)} {n : ℕ}
    → alone ≡ Ok n
    → counted_answer alone ≡ set_rule set
    → (set_rule set).number ≡ 0
fits set counted is = sym (ap (λ (a : Answer). a.number) (rw counted at is))

pub returns-then-pages-lt1 : goal.returns-then-pages-lt1
unfolding read_rule read_output
returns-then-pages-lt1 c =
    record {
      answer = rw (lt-ltb _ 1 c.if-pages-lt1.true);
      cells = rw (lt-ltb _ 1 c.if-pages-lt1.true);
      dots = rw (lt-ltb _ 1 c.if-pages-lt1.true);
    }

pub returns-then-pages-gt16 : goal.returns-then-pages-gt16
unfolding read_rule read_output
returns-then-pages-gt16 c =
    record {
      answer = rw (le-ltb _ 1 c.if-pages-lt1.false, lt-ltb 16 _ c.if-pages-gt16.true);
      cells = rw (le-ltb _ 1 c.if-pages-lt1.false, lt-ltb 16 _ c.if-pages-gt16.true);
      dots = rw (le-ltb _ 1 c.if-pages-lt1.false, lt-ltb 16 _ c.if-pages-gt16.true);
    }

pub deliver-requires : goal.deliver-requires
deliver-requires c =
    let ok = fits c.args.set.now c.in_ok-index_alone.was c.index_alone.ensures.answer in (
      c.index_alone.ensures.index ok,
      (accepted_set _ ok).1,
      omega (arith, c.if-pages-gt16.false),
      c.requires,
    )

pub returns-in_err-index_alone-clause-answer : goal.returns-in_err-index_alone-clause-answer
unfolding read_output
returns-in_err-index_alone-clause-answer c = search (rules, refusal_decides, refusal_keeps_the_buffer, range_passes)

pub returns-in_err-index_alone-clause-cells : goal.returns-in_err-index_alone-clause-cells
unfolding read_output
returns-in_err-index_alone-clause-cells c = search (rules, refusal_decides, refusal_keeps_the_buffer, range_passes)

pub returns-in_err-index_alone-clause-dots : goal.returns-in_err-index_alone-clause-dots
unfolding read_output
returns-in_err-index_alone-clause-dots c = search (rules, refusal_decides, refusal_keeps_the_buffer, range_passes)

pub returns : goal.returns
unfolding read_output
returns c =
    let args = c.args in
    let rule =
    set_passes args.set.now args.pages (length args.cells.now) c.if-pages-lt1.false c.if-pages-gt16.false
    (fits c.args.set.now c.in_ok-index_alone.was c.index_alone.ensures.answer) in
    record {
      answer = rw rule c.deliver.ensures.answer;
      cells = rw rule c.deliver.ensures.cells;
      dots = rw rule c.deliver.ensures.dots;
    }
