-- Document 01, "Turned-away numbers": what it means that an operation answers in an order of causes, and what becomes of
-- a lent buffer. No lemmas here.
use Rattle.std.specs.Prelude.{ℕ, ◌≤◌, ◌≡◌, List, [], ◌∷◌, ◌⊎◌, length, take, drop}
use Rattle.refusal.specs.Answer.{Answer}

-- the causes of an operation in their order: each with its number, and with what it is that it holds at a place
pub data Order : Type 1 where
  accept : Order
  turn : ℕ → (ℕ → Type 0) → Order → Order

-- a cause whose place is given as 0
abbrev pub at0 : Type 0 → ℕ → Type 0
at0 Cause place = Cause × (place ≡ 0)

-- a cause holds at no place
abbrev pub Nowhere : (ℕ → Type 0) → Type 0
Nowhere Cause = (place : ℕ) → Cause place → ⊥

-- number and place are those of the first cause that holds; where none does, the number is 0
unfoldable pub InTurn : Order → Answer → Type 0
InTurn accept answer = answer.number ≡ 0
InTurn (turn n Cause later) answer =
    (Cause answer.place × (answer.number ≡ n)) ⊎ (Nowhere Cause × InTurn later answer)

-- none of the causes holds
unfoldable pub NoCause : Order → Type 0
NoCause accept = Unit
NoCause (turn n Cause later) = Nowhere Cause × NoCause later

-- the numbers that an order names
unfoldable pub order_numbers : Order → List ℕ
order_numbers accept = []
order_numbers (turn n Cause later) = n ∷ order_numbers later

unfoldable pub OneOf : ℕ → List ℕ → Type 0
OneOf n [] = ⊥
OneOf n (m ∷ ms) = (n ≡ m) ⊎ OneOf n ms

-- what an operation answers, by its order
pub record Answers (order : Order) (answer : Answer) : Type 0 where
  -- each cause has its number, its place and its turn
  pub in_turn : InTurn order answer
  -- no number but those that the order names
  pub named : OneOf answer.number (0 ∷ order_numbers order)
  -- accepted: every other input, and no other
  pub accepted_if_no_cause : NoCause order → answer.number ≡ 0
  pub no_cause_if_accepted : answer.number ≡ 0 → NoCause order

-- a lent buffer before and after: a refusal leaves it as it was; an acceptance fills the front with the result, whose
-- length is the count that is given, and the remainder keeps its bytes
pub record Lent (answer : Answer) (result before after : List ℕ) : Type 0 where
  pub as_it_was : (answer.number ≡ 0 → ⊥) → after ≡ before
  pub has_room : answer.number ≡ 0 → length result ≤ length before
  pub counted : answer.number ≡ 0 → answer.count ≡ length result
  pub front : answer.number ≡ 0 → take (length result) after ≡ result
  pub remainder : answer.number ≡ 0 → drop (length result) after ≡ drop (length result) before
