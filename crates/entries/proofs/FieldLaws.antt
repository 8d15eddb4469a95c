-- What the field reader's answer says of a field, and where the field ends: it uses no more intervals than there are.
-- Rests on no axiom.
use Prim.Native.Nat.{ℕ, ◌≤◌}
use mathlib.Core.Path.{◌≡◌, sym, ap}
use mathlib.Core.Bool.{Bool, true, false}
use mathlib.Core.List.{List}
use native.Mathlib.Omega.{arith}
use lib.ListN.{length, drop, length-drop}
use Rattle.refusal.specs.Table.{number_of, place_of}
use Rattle.refusal.specs.Answer.{accepted, refused}
use Rattle.refusal.specs.declared.Refusal.{Refusal}
use Rattle.refusal.proofs.AnswerLaws.{number_is_not_zero}
use Rattle.timing.specs.declared.Profile.{Profile}
use Rattle.fields.specs.FieldRule.{FieldAnswer, field_turned_away, field_reading}
use Rattle.fields.proofs.ReaderLaws.{used_is_within}
use Rattle.entries.specs.FieldKinds.{field_of, reads}
use Rattle.entries.specs.Entries.{field_end}

-- a field of n bytes that reads
pub record FieldReads (p : Profile) (ds : List ℕ) (n used : ℕ) (holds : Bool) : Type 0 where
  pub does : reads p ds n ≡ true
  pub uses : (field_of p ds n).used ≡ used
  pub sum : (field_of p ds n).holds ≡ holds

module _ (p : Profile) (ds : List ℕ) (n : ℕ) where
  pub refused_field : (r : Refusal) → field_turned_away (refused (number_of r) (place_of r)) ≡ field_reading p ds n n
      → reads p ds n ≡ false
  unfolding reads field_of
  refused_field r e = rw (sym e, number_is_not_zero r)

  pub accepted_field
      : (count used : ℕ) (holds : Bool)
      → record { answer = accepted count; used = used; holds = holds } ≡ field_reading p ds n n
      → FieldReads p ds n used holds
  unfolding reads field_of
  accepted_field count used holds e =
      record {
        does = rw (sym e);
        uses = sym (ap (λ (a : FieldAnswer). a.used) e);
        sum = sym (ap (λ (a : FieldAnswer). a.holds) e);
      }

-- a field ends within the list
pub field_ends_within
    : (p : Profile) (ds : List ℕ) (k n : ℕ) → k ≤ length ds → (k ≤ field_end p ds k n) × (field_end p ds k n ≤ length ds)
unfolding field_end field_of
field_ends_within p ds k n h =
    let within = used_is_within p (drop k ds) n n in
    let rest = length-drop k ds in
    (omega arith, omega arith)
