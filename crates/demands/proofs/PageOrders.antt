-- Why pages are read and made in the order of their causes: the rules make the tests one after the other, those of the
-- set by itself before those of its pages. Rests on no axiom.
use Prim.Native.Nat.{ℕ, ◌*◌}
use mathlib.Core.Path.{◌≡◌, refl, sym, ◌∙◌}
use mathlib.Core.Bool.{Bool, true, false, not}
use mathlib.Core.List.{List}
use borrow.Author.Tests.{eqb-true, eqb-false, eq-eqb}
use lib.Dec.{eqb}
use lib.ListN.{length}
use Rattle.refusal.specs.Answer.{accepted}
use Rattle.timing.specs.Profile.{outside}
use Rattle.sets.specs.Set.{sectors_in}
use Rattle.sets.specs.Alone.{set_rule}
use Rattle.page.specs.Reading.{pages_in, pages_rule, read_rule, read_answer, read_output}
use Rattle.page.specs.Making.{made_set, make_rule, make_answer, make_output}
use Rattle.page.proofs.SectorLaws.{read_fills}
use Rattle.demands.specs.Order.{at0, Answers, Lent}
use Rattle.demands.specs.MergeCauses.{counted_in_bytes}
use Rattle.demands.specs.PageCauses.{page_reader_order, page_maker_order, counted_in_cells}
use Rattle.demands.proofs.OrderLaws.{Means, holds, fails, means_at, means_below, means_either, turn_by_test}
use Rattle.demands.proofs.OrderLaws.{turn_before, last_below, told_by_test, told_if_room, told_bytes}
use Rattle.demands.proofs.OrderLaws.{settled_is_lent}

pub pages_read_in_turn
    : (set : List ℕ) (pages room : ℕ) → Answers (page_reader_order set pages room) (read_rule set pages room)
unfolding read_rule set_rule pages_rule
pages_read_in_turn set pages room =
    turn_by_test (means_either pages 1 16 pages)
    (turn_before 12 _ _ (means_at _ _)
    (turn_before 14 _ _ (means_below 32 _)
    (turn_before 16 (accepted (length (sectors_in set))) _ (means_at _ _)
    (turn_by_test (means_at _ _)
    (turn_by_test (means_at _ _) (last_below room _ _))))))

means_unequal : (a b : ℕ) → Means 0 (at0 (a ≡ b → ⊥)) (not (eqb a b))
means_unequal a b =
    elim (eqb a b) as (λ t. eqb a b ≡ t → Means 0 (at0 (a ≡ b → ⊥)) (not t)) [
      | true ↦ λ e. fails (λ k c. c.0 (eqb-true a b e))
      | false ↦ λ e. holds (eqb-false a b e, refl)
    ] refl

pub pages_made_in_turn
    : (cells : List ℕ) (pages room : ℕ) → Answers (page_maker_order cells pages room) (make_rule cells pages room)
unfolding make_rule
pages_made_in_turn cells pages room =
    turn_by_test (means_either pages 1 16 pages) (turn_by_test (means_unequal _ _) (last_below room _ _))

pub cells_are_lent
    : (set : List ℕ) (pages : ℕ) (old : List ℕ)
    → Lent (counted_in_cells (read_answer set pages (length old))) (pages_in (sectors_in set) pages) old
    (read_output set pages old)
unfolding read_answer read_output
cells_are_lent set pages old =
    settled_is_lent (counted_in_cells (read_answer set pages (length old))) (pages_in (sectors_in set) pages) old
    (record {
      told = λ e.
          let fills = read_fills set pages (length old) e in
          (rw fills.0 fills.1, rw (eq-eqb (read_rule set pages (length old)).number 0 e) (sym fills.0));
    })

pub set_is_lent
    : (cells : List ℕ) (pages : ℕ) (old : List ℕ)
    → Lent (counted_in_bytes (make_answer cells pages (length old))) (made_set cells pages) old
    (make_output cells pages old)
unfolding make_rule make_answer make_output
set_is_lent cells pages old =
    settled_is_lent _ _ old
    (told_bytes (make_rule cells pages (length old)) _ _
    (told_by_test (outside 1 16 pages) 11 _
    (told_by_test (not (eqb (length cells) (1000 * pages))) 12 _
    (told_if_room _ (length old) _ (λ fits. fits)))))
