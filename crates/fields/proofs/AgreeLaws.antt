-- Two lists that agree in the used intervals get equal answers: the cells and the stop of a field hang on the used
-- intervals alone, and all else hangs on those. Rests on no axiom.
use Prim.Native.Nat.{ℕ}
use mathlib.Core.Path.{◌≡◌, sym, ap, ◌∙◌}
use mathlib.Core.List.{List}
use borrow.Author.Tests.{eq-eqb}
use lib.ListN.{length, take, drop, take-append-drop}
use Rattle.timing.specs.Class.{classes_of}
use Rattle.timing.specs.declared.Profile.{Profile}
use Rattle.timing.specs.declared.Class.{Class}
use Rattle.timing.proofs.ClassLaws.{classes_of-take}
use Rattle.symbols.specs.Bits.{O}
use Rattle.fields.specs.Field.{bits_wanted, field_stop, field_cells, field_used, field_bits, field_items, field_holds}
use Rattle.fields.specs.Field.{field_stray, field_stray_place}
use Rattle.fields.specs.FieldRule.{field_rule, field_reading, field_output}
use Rattle.fields.specs.machine.Gather.{gather_rule, checked_rule}
use Rattle.fields.specs.Claims.{UsedIntervalsDecide}
use Rattle.fields.proofs.TakenLaws.{SameFront, used_decide}
use Rattle.fields.proofs.RuleLaws.{rule_is_checked, gather_stops_nowhere, gather_accepts}

-- ---- what hangs on the cells and the stop

module _ (n : ℕ) {cs ds : List Class} (same : SameFront cs ds 0 (bits_wanted n) O) where
  same_used : field_used ds n ≡ field_used cs n
  unfolding field_used field_cells
  same_used = rw same.cells

  pub same_items : field_items ds n ≡ field_items cs n
  unfolding field_items field_bits field_cells
  same_items = rw same.cells

  pub same_gather : gather_rule ds n ≡ gather_rule cs n
  unfolding gather_rule field_stop field_stray field_stray_place field_bits field_used field_cells
  same_gather = rw (same.stop, same.cells)

-- ---- the law

-- the used intervals are as many as is answered
used_by_answer
    : (p : Profile) (ds : List ℕ) (n room : ℕ)
    → (field_rule p ds n room).number ≡ 0
    → (field_reading p ds n room).used ≡ field_used (classes_of p ds) n
unfolding field_reading
used_by_answer p ds n room accepts = rw (eq-eqb (field_rule p ds n room).number 0 accepts)

same_front
    : (p : Profile) (ds es : List ℕ) (n used : ℕ)
    → (field_stop (classes_of p ds) n).number ≡ 0
    → used ≡ field_used (classes_of p ds) n
    → take used es ≡ take used ds
    → SameFront (classes_of p ds) (classes_of p es) 0 (bits_wanted n) O
unfolding field_used field_cells field_stop
same_front p ds es n used whole is agree =
    let front = sym (classes_of-take p used ds) ∙ ap (classes_of p) (sym agree) ∙ classes_of-take p used es in
    rw (← is, front, take-append-drop) at
    (used_decide (drop used (classes_of p es)) (classes_of p ds) (bits_wanted n) O 0 whole)

pub two_lists_that_agree : UsedIntervalsDecide
unfolding field_reading field_output checked_rule field_holds
two_lists_that_agree p n ds es old accepts agree =
    let whole = gather_stops_nowhere (classes_of p ds) n (gather_accepts p ds n (length old) accepts) in
    let same = same_front p ds es n _ whole (used_by_answer p ds n (length old) accepts) agree in
    let rule : field_rule p es n (length old) ≡ field_rule p ds n (length old) =
    rw (rule_is_checked p es n (length old), rule_is_checked p ds n (length old), same_gather n same) in
    (rw (rule, same_used n same, same_items n same), rw (rule, same_items n same))
