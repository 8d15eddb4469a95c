-- 5, 6 and 11 in their turn: both readers stop at the first interval that is narrow or wide, so that at most one of the
-- causes holds, at one place. Rests on no axiom.
use Prim.Native.Nat.{ℕ, ◌≤◌, ◌<◌}
use mathlib.Core.Path.{◌≡◌, refl}
use mathlib.Core.Bool.{false, true≢false}
use mathlib.Core.List.{List}
use native.Mathlib.Nat.{zero-add}
use native.Mathlib.Omega.{arith}
use lib.ListN.{take}
use lib.Seq.{take-length}
use Rattle.lists.specs.Place.{anywhere, lowest}
use Rattle.lists.proofs.PlaceLaws.{lowest_of_none}
use Rattle.refusal.specs.Answer.{Answer, refused, first_refusal}
use Rattle.refusal.proofs.AnswerLaws.{first_refusal_of_first}
use Rattle.timing.specs.declared.Class.{Class}
use Rattle.timing.specs.declared.Class.TheVariants.{Narrow, Wide}
use Rattle.symbols.specs.Bits.{O}
use Rattle.symbols.specs.Reading.{read_bits}
use Rattle.intervals.specs.Cells.{edge_rule_from, edge_rule}
use Rattle.fields.specs.Field.{bits_wanted, field_stop}
use Rattle.demands.specs.Order.{Order, turn, at0, Nowhere, Answers}
use Rattle.demands.specs.Causes.{is_unread, FirstUnread, Fewer}
use Rattle.demands.proofs.UnreadLaws.{IsFirst, front_bits, Met, all_read, met_narrow, met_wide, edges_met, Stops}
use Rattle.demands.proofs.UnreadLaws.{enough, fewer, field_stops}
use Rattle.demands.proofs.OrderLaws.{answers_here, answers_later}

module _
    (cs : List Class) (Cause : Class → ℕ → Type 0) (here : (d : Class) → IsFirst d cs → Cause d (lowest is_unread cs))
    (only : (d : Class) (k : ℕ) → Cause d k → FirstUnread d cs k) (order : Order) (later : Answer)
    (rest : anywhere is_unread cs ≡ false → Answers order later)
  where
    none_first : anywhere is_unread cs ≡ false → (d : Class) → Nowhere (Cause d)
    none_first none d k g = let first = (only d k g).0 in true≢false (cc)

    not_narrow : IsFirst Wide cs → Nowhere (Cause Narrow)
    not_narrow f k g = let first = only Narrow k g in let z : ◌≡◌ {A = ℕ} 5 1 = cc in omega arith

    met_in_turn
        : {a : Answer} → Met cs 0 a → Answers (turn 5 (Cause Narrow) (turn 6 (Cause Wide) order)) (first_refusal a later)
    met_in_turn (all_read none e) =
        rw e (answers_later (none_first none Narrow) (answers_later (none_first none Wide) (rest none)))
    met_in_turn (met_narrow f e) = rw (e, zero-add) (answers_here (here Narrow f))
    met_in_turn (met_wide f e) = rw (e, zero-add) (answers_later (not_narrow f) (answers_here (here Wide f)))

module _ (cs : List Class) (order : Order) (later : Answer) (rest : Answers order later) where
  -- ---- the strip reader's first of 5 or 6

  pub edges_in_turn
      : Answers (turn 5 (FirstUnread Narrow cs) (turn 6 (FirstUnread Wide cs) order)) (first_refusal (edge_rule cs) later)
  unfolding edge_rule
  edges_in_turn =
      met_in_turn cs (λ d. FirstUnread d cs) (λ d f. (f.0, refl, f.1)) (λ d k g. g) order later (λ none. rest)
      (edges_met cs 0)

  -- ---- the field reader's 5, 6 or 11

  module _ (n : ℕ) where
    abbrev Stopped : Class → ℕ → Type 0
    Stopped d place = FirstUnread d cs place × Fewer (take place cs) n

    abbrev Ended : Type 0
    Ended = (anywhere is_unread cs ≡ false) × Fewer cs n

    -- with no such interval the front is the whole list
    whole_front : anywhere is_unread cs ≡ false → take (lowest is_unread cs) cs ≡ cs
    whole_front none = cc (lowest_of_none is_unread cs none, take-length cs)

    met_too_late : bits_wanted n ≤ front_bits O cs → (d : Class) → Nowhere (Stopped d)
    unfolding read_bits
    met_too_late h d k s = let few : front_bits O cs < bits_wanted n = rw (← s.0.1) s.1 in omega arith

    ends_too_late : bits_wanted n ≤ front_bits O cs → Nowhere (at0 Ended)
    unfolding read_bits
    ends_too_late h k s =
        let few : front_bits O cs < bits_wanted n = rw (whole_front s.0.0) s.0.1 in omega arith

    stops_in_turn
        : {a : Answer}
        → Stops cs 0 (bits_wanted n) O a
        → Answers (turn 5 (Stopped Narrow) (turn 6 (Stopped Wide) (turn 11 (at0 Ended) order))) (first_refusal a later)
    unfolding read_bits
    stops_in_turn (enough h e) =
        rw e
        (answers_later (met_too_late h Narrow)
        (answers_later (met_too_late h Wide) (answers_later (ends_too_late h) rest)))
    stops_in_turn (fewer h e) =
        rw (e, ← first_refusal_of_first (edge_rule_from 0 cs) (refused 11 0) later)
        (met_in_turn cs Stopped (λ d f. ((f.0, refl, f.1), h)) (λ d k s. s.0) _ _
        (λ none. answers_here ((none, rw (whole_front none) at h), refl)) (edges_met cs 0))

    pub stop_in_turn
        : Answers (turn 5 (Stopped Narrow) (turn 6 (Stopped Wide) (turn 11 (at0 Ended) order)))
        (first_refusal (field_stop cs n) later)
    unfolding field_stop
    stop_in_turn = stops_in_turn (field_stops cs 0 (bits_wanted n) O)
