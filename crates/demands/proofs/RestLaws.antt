-- What the field reader's second entry hands back: the rest after the used intervals, and the whole list where it is
-- refused, since it then used none. Rests on no axiom.
use Prim.Native.Nat.{ℕ}
use mathlib.Core.Path.{◌≡◌, refl, ap}
use mathlib.Core.List.{List}
use native.Mathlib.Omega.{arith}
use borrow.Author.Tests.{eq-eqb, ne_eqb}
use lib.ListN.{drop}
use Rattle.timing.specs.Class.{classes_of}
use Rattle.timing.specs.declared.Profile.{Profile}
use Rattle.fields.specs.Field.{field_used}
use Rattle.fields.specs.FieldRule.{field_rule, field_reading, field_rest, rest_place}
use Rattle.fields.proofs.ReaderLaws.{answer_is_its_rule}

module _ (p : Profile) (ds : List ℕ) (n room : ℕ) where
  pub field_answer : (field_reading p ds n room).answer ≡ field_rule p ds n room
  unfolding field_reading
  field_answer = answer_is_its_rule _ _ _

  pub rest_of_field : (field_rule p ds n room).number ≡ 0 → field_rest p ds n room ≡ drop (field_used (classes_of p ds) n) ds
  unfolding field_rest field_reading
  rest_of_field accepts = rw (eq-eqb _ 0 accepts)

  used_nothing : ((field_rule p ds n room).number ≡ 0 → ⊥) → (field_reading p ds n room).used ≡ 0
  unfolding field_reading
  used_nothing refuses = rw (ne_eqb _ 0 refuses)

  pub whole_list
      : (start : ℕ × ℕ)
      → ((field_rule p ds n room).number ≡ 0 → ⊥)
      → (field_rest p ds n room ≡ ds) × (rest_place p ds n room start ≡ start)
  unfolding field_rest
  whole_list start refuses =
      let none = used_nothing refuses in
      (rw none refl, ap {B = ℕ × ℕ} (λ (at : ℕ). (start.0, at)) (omega (arith, none)))
