-- Document 01, "Turned-away numbers": an answer as the paper gives it, number 0 standing for acceptance, and the
-- order of tests. No lemmas here.
use Rattle.std.specs.Prelude.{ℕ, List, Bool, cond, eqb, Result, Ok, Err}
use Rattle.lists.specs.Filled.{filled}
use Rattle.refusal.specs.Table.{number_of, place_of}
use Rattle.refusal.specs.declared.Refusal.{Refusal}

pub record Answer : Type 0 where
  pub number : ℕ
  pub place : ℕ
  pub count : ℕ

-- accepted, with the number that the operation gives
abbrev pub accepted : ℕ → Answer
accepted n = record { number = 0; place = 0; count = n }

-- turned away
abbrev pub refused : ℕ → ℕ → Answer
refused n p = record { number = n; place = p; count = 0 }

-- a test in its turn: where it fails the input, number n at place p; else what the later tests say
abbrev pub refuse_if : Bool → ℕ → ℕ → Answer → Answer
refuse_if test n p later = cond test (refused n p) later

-- an answer in its turn: where it is a refusal, that; else what the later tests say
abbrev pub first_refusal : Answer → Answer → Answer
first_refusal earlier later = cond (eqb earlier.number 0) later earlier

-- what a test answers that gives no number, as an answer
abbrev pub verdict_answer : {T : Type 0} → Result T Refusal → Answer
verdict_answer (Ok u) = accepted 0
verdict_answer (Err r) = refused (number_of r) (place_of r)

-- what an operation answers that gives one number, as an answer
abbrev pub counted_answer : Result ℕ Refusal → Answer
counted_answer (Ok n) = accepted n
counted_answer (Err r) = refused (number_of r) (place_of r)

-- a lent buffer afterwards: a refusal changes nothing; on acceptance the result fills the front and the remainder
-- keeps its bytes
abbrev pub settled : Answer → List ℕ → List ℕ → List ℕ
settled answer result old = cond (eqb answer.number 0) (filled result old) old
