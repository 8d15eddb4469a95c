-- Why `opening::read_marked` answers `opened_of`: the field reader's answer says whether the field reads, and the front
-- of its items of which kind it is. Rests on no axiom.
use Prim.Native.Nat.{ℕ, ◌≤◌}
use mathlib.Core.Path.{◌≡◌, sym, ap, ◌∙◌}
use mathlib.Core.Bool.{Bool, false}
use mathlib.Core.List.{List}
use native.Mathlib.Omega.{arith}
use lib.ListN.{length, take}
use Rattle.std.specs.Prelude.{Result, Ok, Err}
use Rattle.refusal.specs.declared.Refusal.{Refusal}
use Rattle.timing.specs.Profile.{profile_rule}
use Rattle.timing.specs.Class.{classes_of}
use Rattle.timing.specs.declared.Profile.{Profile}
use Rattle.fields.specs.FieldRule.{field_answer, field_reading}
use Rattle.fields.specs.machine.Gather.{GathersItems, checked_reading}
use Rattle.fields.specs.declared.reader.Field.{Field}
use Rattle.fields.proofs.ReaderLaws.{range_of_count, checked_reads}
use Rattle.entries.specs.FieldKinds.{items_of, reads, opens_with}
use Rattle.entries.specs.machine.Steps.{opens}
use Rattle.entries.proofs.FieldLaws.{FieldReads, refused_field, accepted_field}
use Rattle.entries.proofs.OpeningLaws.{items_in_place, opens_nothing, unread_opens_nothing, opens_by_kind}
use Rattle.entries.proofs.OpeningLaws.{opens_by_front, opened}
use Rattle.entries.proofs.opening.read_marked.Goals as goal

-- what the field reader answered
module _
    (p : Profile) (ds : List ℕ) (n : ℕ) (old : List ℕ)
    (fair : (profile_rule p).number ≡ 0) (bounds : (4 ≤ length old) × (length old ≤ n) × (n ≤ 1030))
    (read : Result Field Refusal) (same : field_answer read ≡ checked_reading (classes_of p ds) n n)
  where
    answered : (answer : Result Field Refusal) → read ≡ answer → field_answer answer ≡ field_reading p ds n n
    answered answer is =
        sym (ap field_answer is) ∙ same ∙ checked_reads p ds n n fair (range_of_count n (omega arith) bounds.2)

    unread : (r : Refusal) → read ≡ Err r → reads p ds n ≡ false
    unread r is = refused_field p ds n r (answered (Err r) is)

    -- where the field reads, its first items and of which kind it is
    opening
        : (f : Field)
        → read ≡ Ok f
        → (new : List ℕ)
        → GathersItems (classes_of p ds) n old new
        → (kind : ℕ) (test : Bool)
        → test ≡ opens_with kind new
        → FieldReads p ds n f.used f.holds
        × (new ≡ take (length old) (items_of p ds n))
        × (opens p ds n kind ≡ test)
    opening f is new gathers kind test tested =
        let field = accepted_field p ds n f.count f.used f.holds (answered (Ok f) is) in
        let items = items_in_place p ds n old new bounds.1 gathers field.does in (
          field,
          items,
          opens_by_kind _ _ _ kind field
              ∙ sym (tested ∙ ap (opens_with kind) items ∙ opens_by_front kind (length old) _ bounds.0),
        )

pub returns-in_default : goal.returns-in_default
returns-in_default c =
    let args = c.args in
    let unread =
    unread _ args.intervals.now args.n args.items.now c.requires.p_value c.requires.in_bounds _
    c.read_in_place.ensures.answer _ c.in_default.is in
    let none = unread_opens_nothing args.p args.intervals.now args.n args.kind unread in
    let both = opens_nothing _ _ _ _ args.items.now _ none in
    record { answer = both.0; items = both.1 }

pub returns-then-opens_with : goal.returns-then-opens_with
returns-then-opens_with c =
    let (field, items, kind) =
    opening _ c.args.intervals.now c.args.n c.args.items.now c.requires.p_value c.requires.in_bounds _
    c.read_in_place.ensures.answer _ c.in-Ok.is _ c.read_in_place.ensures.items _ _ c.opens_with.ensures in
    record { answer = opened _ _ _ _ field (kind ∙ c.if-opens_with.true); items = λ _. items }

pub returns : goal.returns
returns c =
    let (field, items, kind) =
    opening _ c.args.intervals.now c.args.n c.args.items.now c.requires.p_value c.requires.in_bounds _
    c.read_in_place.ensures.answer _ c.in-Ok.is _ c.read_in_place.ensures.items _ _ c.opens_with.ensures in
    let both = opens_nothing _ _ _ _ c.args.items.now _ (kind ∙ c.if-opens_with.false) in
    record { answer = both.0; items = both.1 }
