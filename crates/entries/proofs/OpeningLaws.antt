-- What is read at a lock, taken for a field of a kind: by cases of whether the field reads and how it opens. One that
-- does not begin with the classes of three A1 marks has no kind. Rests on no axiom.
use Prim.Native.Nat.{ℕ, ◌≤◌}
use mathlib.Core.Path.{◌≡◌, refl, sym, ap, ◌∙◌}
use mathlib.Core.Bool.{Bool, true, false, cond, true≢false}
use mathlib.Core.List.{List, [], ◌∷◌}
use mathlib.Mathlib.Data.Bool.Basic.{eq-false_of_not-eq-true}
use native.Mathlib.Omega.{arith}
use borrow.Author.Tests.{eqb-true}
use lib.Dec.{eqb}
use lib.ListN.{length, get_or, take, length-replicate}
use lib.Seq.{take_all, get_or-take}
use Rattle.std.specs.Prelude.{Option, Some, None}
use Rattle.lists.specs.Filled.{stored_at}
use Rattle.lists.proofs.StoreLaws.{front_fills}
use Rattle.lists.proofs.BoolLaws.{both}
use Rattle.refusal.specs.Answer.{Answer}
use Rattle.timing.specs.Class.{classes_of}
use Rattle.timing.specs.declared.Profile.{Profile}
use Rattle.locks.specs.Lock.{begins_with}
use Rattle.locks.specs.machine.Marks.{three_marks}
use Rattle.fields.specs.Field.{field_items}
use Rattle.fields.specs.FieldRule.{field_turned_away, field_rule, field_reading}
use Rattle.fields.specs.machine.Gather.{GathersItems}
use Rattle.fields.proofs.FieldLaws.{field_items_count}
use Rattle.fields.proofs.RuleLaws.{gather_stops_nowhere, gather_accepts}
use Rattle.fields.proofs.ReaderLaws.{output_is_items}
use Rattle.fields.proofs.MarksLaws.{after_marks, marks_ahead}
use Rattle.entries.specs.FieldKinds.{field_of, items_of, reads, opens_with}
use Rattle.entries.specs.machine.Steps.{opens, opened_of, GivesItems}
use Rattle.entries.specs.declared.opening.Opened.{Opened}
use Rattle.entries.proofs.FieldLaws.{FieldReads}

abbrev pub opened_with : ℕ → Bool → Opened
opened_with used holds = record { used = used; holds = holds }

module _ (p : Profile) (ds : List ℕ) (n : ℕ) where
  -- ---- the items of a field that reads

  same_answer
      : (t : Bool) (a : Answer) (used : ℕ) (holds : Bool)
      → (cond t (record { answer = a; used = used; holds = holds }) (field_turned_away a)).answer ≡ a
  same_answer true a used holds = refl
  same_answer false a used holds = refl

  pub reading_is_accepted : reads p ds n ≡ true → (field_rule p ds n n).number ≡ 0
  unfolding reads field_of field_reading
  reading_is_accepted e =
      sym (ap (λ (a : Answer). a.number) (same_answer (eqb (field_rule p ds n n).number 0) (field_rule p ds n n) _ _))
      ∙ eqb-true _ 0 e

  pub items_are_read : reads p ds n ≡ true → items_of p ds n ≡ field_items (classes_of p ds) n
  unfolding items_of
  items_are_read e = output_is_items p ds n _ (reading_is_accepted e) (length-replicate n 0)

  pub items_count : reads p ds n ≡ true → length (items_of p ds n) ≡ n
  items_count e =
      let accepts = gather_accepts p ds n n (reading_is_accepted e) in
      ap length (items_are_read e)
      ∙ field_items_count (classes_of p ds) n (gather_stops_nowhere (classes_of p ds) n accepts)

  -- a buffer for the first of them has these
  pub items_in_place
      : (old new : List ℕ)
      → length old ≤ n
      → GathersItems (classes_of p ds) n old new
      → reads p ds n ≡ true
      → new ≡ take (length old) (items_of p ds n)
  items_in_place old new room gathers e =
      gathers (gather_accepts p ds n n (reading_is_accepted e))
      ∙ ap (stored_at old 0) (sym (items_are_read e))
      ∙ front_fills (items_of p ds n) old (omega (arith, items_count e))

  -- and all of them where it is as long
  pub all_in_place : reads p ds n ≡ true → take n (items_of p ds n) ≡ items_of p ds n
  all_in_place e = take_all n (items_of p ds n) (omega (arith, items_count e))

  -- ---- of a kind or of none

  module _ (kind : ℕ) where
    -- then nothing is said of the items
    pub opens_nothing
        : (old new : List ℕ)
        → opens p ds n kind ≡ false
        → (None ≡ opened_of p ds n kind) × GivesItems p ds n kind old new
    unfolding opened_of
    opens_nothing old new none = (rw none, λ e. absurd (true≢false (sym e ∙ none)))

    pub unread_opens_nothing : reads p ds n ≡ false → opens p ds n kind ≡ false
    unfolding opens
    unread_opens_nothing e = rw e

    module _ {used : ℕ} {holds : Bool} (f : FieldReads p ds n used holds) where
      pub opens_by_kind : opens p ds n kind ≡ opens_with kind (items_of p ds n)
      unfolding opens
      opens_by_kind = rw f.does

      pub opened : opens p ds n kind ≡ true → Some (opened_with used holds) ≡ opened_of p ds n kind
      unfolding opened_of
      opened e = rw (e, f.uses, f.sum)

    -- ---- what the answer means

    abbrev pub Means : Option Opened → Type 0
    Means None = opens p ds n kind ≡ false
    Means (Some o) = (opens p ds n kind ≡ true) × FieldReads p ds n o.used o.holds

    means_by
        : (t : Bool)
        → opens p ds n kind ≡ t
        → Means (cond t (Some (opened_with (field_of p ds n).used (field_of p ds n).holds)) None)
    unfolding opens
    means_by true e = (e, record { does = (both _ (opens_with _ _) e).0; uses = refl; sum = refl })
    means_by false e = e

    pub opened_means : (o : Option Opened) → o ≡ opened_of p ds n kind → Means o
    unfolding opened_of
    opened_means o e = rw e (means_by (opens p ds n kind) refl)

    -- ---- what begins without the classes of three marks

    marks_in_front : (us : List ℕ) → opens_with kind us ≡ true → (vs : List ℕ) × (us ≡ after_marks vs)
    unfolding opens_with
    marks_in_front us e =
        let two = both _ _ (both _ _ e).0 in
        let one = both _ _ two.0 in
        three_of us (eqb-true _ _ one.0) (eqb-true _ _ one.1) (eqb-true _ _ two.1)
      where
        three_of
            : (us : List ℕ)
            → get_or us 0 0 ≡ 0x1a1
            → get_or us 1 0 ≡ 0x1a1
            → get_or us 2 0 ≡ 0x1a1
            → (vs : List ℕ) × (us ≡ after_marks vs)
        three_of [] a b c = absurd (omega arith)
        three_of (x ∷ []) a b c = absurd (omega arith)
        three_of (x ∷ y ∷ []) a b c = absurd (omega arith)
        three_of (x ∷ y ∷ z ∷ vs) a b c = (vs, rw (a, b, c))

    opens_at_marks : opens p ds n kind ≡ true → begins_with three_marks (classes_of p ds) ≡ true
    unfolding opens
    opens_at_marks e =
        let (does, of_kind) = both _ _ e in
        let (vs, marks) = marks_in_front (items_of p ds n) of_kind in
        marks_ahead p ds n vs (reading_is_accepted does) (sym (items_are_read does) ∙ marks)

    pub unmarked_opens_nothing : begins_with three_marks (classes_of p ds) ≡ false → opens p ds n kind ≡ false
    unmarked_opens_nothing none = eq-false_of_not-eq-true (λ e. true≢false (sym (opens_at_marks e) ∙ none))

-- the first four tell how a field opens
pub opens_by_front
    : (kind k : ℕ) (us : List ℕ) → 4 ≤ k → opens_with kind (take k us) ≡ opens_with kind us
unfolding opens_with
opens_by_front kind k us h =
    rw (
      get_or-take k us 0 0 (omega arith),
      get_or-take k us 1 0 (omega arith),
      get_or-take k us 2 0 (omega arith),
      get_or-take k us 3 0 (omega arith),
    )
