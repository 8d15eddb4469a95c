-- Laws of answers in their turn: no refusal has number 0, so a refusal is never passed over, and an acceptance always
-- is. Rests on no axiom.
use Prim.Native.Nat.{ℕ, suc}
use mathlib.Core.Path.{◌≡◌, refl, sym, ap, ◌∙◌}
use mathlib.Core.Bool.{Bool, true, false, cond}
use mathlib.Core.List.{List}
use native.Mathlib.Omega.{arith}
use lib.Dec.{eqb}
use borrow.Author.Tests.{eqb-true, eqb-false, eq-eqb}
use Rattle.lists.specs.Filled.{filled}
use Rattle.refusal.specs.Table.{number_of, place_of}
use Rattle.refusal.specs.Answer.{Answer, accepted, refused, refuse_if, first_refusal}
use Rattle.refusal.specs.Answer.{verdict_answer, counted_answer, settled}
use Rattle.refusal.specs.declared.Refusal.{Refusal}
use Rattle.refusal.specs.declared.Refusal.TheVariants.{ProfileOutOfRange, ProfileInconsistent, NotAnItem}
use Rattle.refusal.specs.declared.Refusal.TheVariants.{TooLong, IntervalTooShort, IntervalTooLong, NotWholeBytes}
use Rattle.refusal.specs.declared.Refusal.TheVariants.{MisplacedMark, OutputTooShort, NoLock, EndsEarly}
use Rattle.refusal.specs.declared.Refusal.TheVariants.{CountOutOfRange, SectorSizeMismatch, MalformedInput}
use Rattle.refusal.specs.declared.Refusal.TheVariants.{TooManySectors, UnrulyWord, SectorsAtOdds, OffSpeed}
use Rattle.refusal.specs.declared.Refusal.TheVariants.{PageLost, FillSoiled}
use Rattle.std.specs.Prelude.{Result, Ok, Err, IsErrAnd}

pub number_is_not_zero : (r : Refusal) → eqb (number_of r) 0 ≡ false
number_is_not_zero r =
    elim r as (λ s. eqb (number_of s) 0 ≡ false) [
      | ProfileOutOfRange which ↦ refl
      | ProfileInconsistent ↦ refl
      | NotAnItem at ↦ refl
      | TooLong ↦ refl
      | IntervalTooShort at ↦ refl
      | IntervalTooLong at ↦ refl
      | NotWholeBytes ↦ refl
      | MisplacedMark at ↦ refl
      | OutputTooShort ↦ refl
      | NoLock ↦ refl
      | EndsEarly ↦ refl
      | CountOutOfRange ↦ refl
      | SectorSizeMismatch ↦ refl
      | MalformedInput line ↦ refl
      | TooManySectors ↦ refl
      | UnrulyWord at ↦ refl
      | SectorsAtOdds sector ↦ refl
      | OffSpeed half ↦ refl
      | PageLost page ↦ refl
      | FillSoiled page ↦ refl
    ]

module _ (r : Refusal) (rule : Answer) where
  abbrev told : Answer
  told = refused (number_of r) (place_of r)

  -- a rule that was found to refuse decides; the later tests are not asked
  pub refusal_decides : (later : Answer) → told ≡ rule → told ≡ first_refusal rule later
  refusal_decides later e = rw (sym e, number_is_not_zero r)

  -- a buffer after a refusal is as it was lent
  pub refusal_keeps_the_buffer : (result old : List ℕ) → told ≡ rule → old ≡ settled rule result old
  refusal_keeps_the_buffer result old e = rw (sym e, number_is_not_zero r)

  -- a refusal that came before an acceptance is the earlier answer
  pub refused_earlier : (n : ℕ) → told ≡ first_refusal rule (accepted n) → told ≡ rule
  refused_earlier n e = by_test (eqb rule.number 0) e
    where
      by_test : (t : Bool) → told ≡ cond t (accepted n) rule → told ≡ rule
      by_test true q = absurd (eqb-false _ _ (number_is_not_zero r) (ap (λ (a : Answer). a.number) q))
      by_test false q = q

-- a verdict that was found, as the functions answer it: a refusal decides, an acceptance leaves the answer to the later
-- tests
pub verdict_refuses
    : {T : Type 0} (v : Result T Refusal) (r : Refusal) (rule later : Answer)
    → verdict_answer v ≡ rule
    → v ≡ Err r
    → refused (number_of r) (place_of r) ≡ first_refusal rule later
verdict_refuses v r rule later e q = rw (← e, q, number_is_not_zero r)

pub verdict_passes
    : {T : Type 0} {x : T} (v : Result T Refusal) (rule later : Answer)
    → verdict_answer v ≡ rule
    → v ≡ Ok x
    → later ≡ first_refusal rule later
verdict_passes v rule later e q = rw (← e, q)

pub verdict_accepts
    : {T : Type 0} {x : T} (v : Result T Refusal) (rule : Answer) → verdict_answer v ≡ rule → v ≡ Ok x → rule.number ≡ 0
verdict_accepts v rule e q = rw (← e, q)

-- ---- what acceptance says of the tests on the way

-- where an answer in its turn and the later tests accept together, each does
pub first_refusal_accepts : (a b : Answer) → (first_refusal a b).number ≡ 0 → (a.number ≡ 0) × (b.number ≡ 0)
first_refusal_accepts a b h = by_test (eqb a.number 0) refl h
  where
    by_test : (t : Bool) → eqb a.number 0 ≡ t → (cond t b a).number ≡ 0 → (a.number ≡ 0) × (b.number ≡ 0)
    by_test true e k = (eqb-true _ _ e, k)
    by_test false e k = absurd (eqb-false _ _ e k)

-- an answer that accepts is passed over
pub first_refusal_passes : (a b : Answer) → a.number ≡ 0 → first_refusal a b ≡ b
first_refusal_passes a b h = rw (eq-eqb _ 0 h)

-- of three answers the first refusal, however they are taken together
pub first_refusal_of_first
    : (a b c : Answer) → first_refusal a (first_refusal b c) ≡ first_refusal (first_refusal a b) c
first_refusal_of_first a b c = split (eqb a.number 0) refl
  where
    split
        : (t : Bool)
        → eqb a.number 0 ≡ t
        → cond t (first_refusal b c) a ≡ first_refusal (cond t b a) c
    split true e = refl
    split false e = rw e

-- where a test in its turn let the input pass, it failed, and the later tests accept
pub refuse_if_accepts
    : (t : Bool) (n p : ℕ) (later : Answer)
    → (refuse_if t (suc n) p later).number ≡ 0
    → (t ≡ false) × (later.number ≡ 0)
refuse_if_accepts true n p later h = absurd (omega arith)
refuse_if_accepts false n p later h = (refl, h)

pub refuse_if_passes : (t : Bool) (n p : ℕ) (later : Answer) → t ≡ false → refuse_if t n p later ≡ later
refuse_if_passes t n p later h = rw h

-- a buffer after an acceptance is filled
pub acceptance_fills_the_buffer
    : (rule : Answer) (result old : List ℕ) → rule.number ≡ 0 → settled rule result old ≡ filled result old
acceptance_fills_the_buffer rule result old h = rw (eq-eqb _ 0 h)

-- an acceptance after an earlier answer
pub accepted_later : (rule : Answer) (m n : ℕ)
    → accepted m ≡ first_refusal rule (accepted n)
    → (rule.number ≡ 0) × (m ≡ n)
accepted_later rule m n e =
    let both = first_refusal_accepts rule (accepted n) (rw (← e)) in
    (both.0, ap (λ (a : Answer). a.count) (e ∙ first_refusal_passes rule (accepted n) both.0))

-- a refusal that `?` hands on is that refusal
pub handed_on
    : (r : Result ℕ Refusal) (e : Refusal)
    → IsErrAnd r (λ x. x ≡ e)
    → counted_answer r ≡ refused (number_of e) (place_of e)
handed_on (Err x) e h = rw h refl
handed_on (Ok n) e h = absurd h
