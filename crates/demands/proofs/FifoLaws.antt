-- Why a put makes its tests in their turn, and a take turns nothing away: by the cases of each test. Rests on no axiom.
use Prim.Native.Nat.{ℕ}
use mathlib.Core.Path.{◌≡◌, refl, sym, ◌∙◌}
use mathlib.Core.Bool.{Bool, true, false, cond, not, true≢false, false≢true}
use mathlib.Core.List.{List, [], ◌∷◌}
use Rattle.items.specs.Item.{is_item}
use Rattle.fifo.specs.State.{State, Outcome}
use Rattle.fifo.specs.Sides.{Side, puts, takes, fault_bit}
use Rattle.fifo.specs.Rules.{is_full, gives, foreign, putting, taking, put_rule, take_rule}
use Rattle.demands.specs.Order.{Answers}
use Rattle.demands.specs.FifoCauses.{put_order, PutsInTurn, TakesRefuseNothing}
use Rattle.demands.proofs.OrderLaws.{answers_accepted, answers_here, answers_later}

module _ (side : Side) (n : ℕ) (s full in' : State) where
  answer_by
      : (t u v : Bool)
      → puts s.mode side ≡ t
      → is_item n ≡ u
      → Answers (put_order side n s)
      (cond t (cond (not u) (foreign s) (cond v (gives 0 full) (gives 0 in'))) (gives 0 s)).answer
  answer_by true true true e f = answers_later (λ k c. true≢false (sym f ∙ c.0.1)) answers_accepted
  answer_by true true false e f = answers_later (λ k c. true≢false (sym f ∙ c.0.1)) answers_accepted
  answer_by true false v e f = answers_here ((e, f), refl)
  answer_by false u v e f = answers_later (λ k c. false≢true (sym e ∙ c.0.0)) answers_accepted

pub put_in_turn : (side : Side) (n : ℕ) (s : State) → PutsInTurn side n s (put_rule side n s)
unfolding put_rule putting
put_in_turn side n s =
    record {
      answer = answer_by side n s _ _ (puts s.mode side) (is_item n) (is_full s.items) refl refl;
      mode_first = λ e. rw e;
      then_foreign = λ e f. rw (e, f);
      then_full = λ e f g. rw (e, f, g);
      else_in = λ e f g. rw (e, f, g);
    }

-- ---- takes

take_by
    : (t : Bool) (bit mark : ℕ) (ns : List ℕ) (s : State) → (cond t (taking bit mark ns s) (gives 0 s)).answer.number ≡ 0
unfolding taking
take_by true bit mark [] s = refl
take_by true bit mark (n ∷ ns) s = refl
take_by false bit mark ns s = refl

take_refuses_nothing : (side : Side) (mark : ℕ) (s : State) → (take_rule side mark s).answer.number ≡ 0
unfolding take_rule
take_refuses_nothing side mark s = take_by (takes s.mode side) (fault_bit side) mark s.items s

pub takes_refuse_nothing : TakesRefuseNothing
takes_refuse_nothing =
    record {
      data_location = λ s. take_refuses_nothing _ _ s;
      mark_location = λ s. take_refuses_nothing _ _ s;
      chip = λ s. take_refuses_nothing _ _ s;
      register = λ s. refl;
    }
