-- How the pass over corrected numbers ends is how the field reader's does, and the extremes of the used ones tell their
-- least clearance. Rests on no axiom.
use Rattle.std.specs.Prelude.{Err}
use Prim.Native.Nat.{ℕ, ◌≤◌, ◌<◌}
use mathlib.Core.Path.{◌≡◌, sym, ap, ◌∙◌}
use mathlib.Core.Bool.{true}
use mathlib.Core.List.{List, [], ◌∷◌}
use native.Mathlib.Omega.{arith}
use lib.Dec.{eqb, ltb}
use lib.ListN.{length, take, length-take}
use lib.Seq.{get_or-take}
use Rattle.refusal.specs.Table.{number_of, place_of}
use Rattle.refusal.specs.Answer.{Answer, accepted, refused, verdict_answer}
use Rattle.refusal.specs.declared.Refusal.{Refusal}
use Rattle.refusal.proofs.AnswerLaws.{refuse_if_accepts, refuse_if_passes}
use Rattle.timing.specs.Profile.{profile_rule}
use Rattle.timing.specs.Class.{cursor_of, at_start, classes_of}
use Rattle.timing.specs.declared.Profile.{Profile}
use Rattle.timing.specs.declared.Class.{Class}
use Rattle.timing.proofs.ClassLaws.{classes_of-take}
use Rattle.items.specs.Written.{fresh_check, after_bytes}
use Rattle.items.specs.declared.Check.{Check}
use Rattle.symbols.specs.Reading.{read_bits, read_from}
use Rattle.symbols.specs.machine.Step.{stray_now}
use Rattle.symbols.specs.declared.Cell.{Cell}
use Rattle.symbols.specs.declared.Reading.{Reading}
use Rattle.intervals.specs.Cells.{edge_rule}
use Rattle.shifts.specs.declared.Pass.{Pass}
use Rattle.fields.specs.Field.{field_cells, field_used, holds_after, field_holds}
use Rattle.fields.specs.machine.End.{end_rule}
use Rattle.fields.specs.machine.Gather.{gather_rule, TellsSum}
use Rattle.fields.proofs.EndLaws.{edges, FieldEnds, field_ends}
use Rattle.fields.proofs.FieldLaws.{field_bits_enough}
use Rattle.fields.proofs.RuleLaws.{gather_stops_nowhere, gather_counts_used}
use Rattle.clearance.specs.Clearance.{least_from, least_clearance}
use Rattle.clearance.specs.machine.Nearest.{least_met}
use Rattle.clearance.specs.declared.seen.Seen.{Seen}
use Rattle.clearance.proofs.CursorLaws.{reachable}
use Rattle.clearance.proofs.SeenLaws.{Fit, least_is_met}
use Rattle.speed.specs.machine.Along.{Ends, TellsLeast}
use Rattle.speed.specs.declared.gather.Along.{Along}

-- ---- what is accepted uses an interval

bits_have_cells : (xs : List Cell) → 0 < length (read_bits xs) → 0 < length xs
unfolding read_bits read_from
bits_have_cells [] h = h
bits_have_cells (x ∷ xs) h = omega arith

uses_some : (cs : List Class) (n : ℕ) → (gather_rule cs n).number ≡ 0 → 0 < field_used cs n
unfolding field_used
uses_some cs n accepts =
    let bits = field_bits_enough cs n (gather_stops_nowhere cs n accepts) in
    bits_have_cells (field_cells cs n) (omega (arith, bits))

-- ---- at the end of a pass

end_counts : (m : Reading) (used n : ℕ) → (end_rule m used n).number ≡ 0 → end_rule m used n ≡ accepted used
unfolding end_rule
end_counts m used n e =
    let (whole, later) = refuse_if_accepts (ltb m.words n) 10 0 _ e in
    let (clean, rest) = refuse_if_accepts (stray_now m) 7 _ _ later in
    refuse_if_passes (ltb m.words n) 11 0 _ whole ∙ refuse_if_passes (stray_now m) 8 _ _ clean

fits_taken : (k : ℕ) (ds : List ℕ) → Fit ds → Fit (take k ds)
fits_taken k ds fits j h =
    let few = length-take k ds in rw (get_or-take k ds j 0 (omega (arith, h, few))) (fits j (omega (arith, h, few)))

module _
    (p : Profile) (ds : List ℕ) (n : ℕ) (a : Along) (accepts : (profile_rule p).number ≡ 0)
    (range : (1 ≤ n) × (n ≤ 1030)) (ends : Ends p ds n a)
  where
    abbrev cs : List Class
    cs = classes_of p ds

    abbrev r : Pass
    r = a.at.pass

    pub ended : FieldEnds p ds n r
    ended = field_ends p ds n r accepts range ends.pass

    pub edges_are : verdict_answer a.edges ≡ edges p ds n r
    edges_are = ends.edges ∙ ap edge_rule (classes_of-take p r.used ds)

    pub edge_refuses : (q : Refusal) → a.edges ≡ Err q → refused (number_of q) (place_of q) ≡ gather_rule cs n
    edge_refuses q told = ended.refuses q (sym (ap verdict_answer told) ∙ edges_are)

    module _ (fair : (edges p ds n r).number ≡ 0) where
      pub tells_sum : TellsSum cs n (eqb a.check.register 0)
      unfolding field_holds holds_after
      tells_sum zero =
          ap (λ (k : Check). eqb k.register 0)
          (ends.check ∙ ap (after_bytes fresh_check) (ended.items fair zero))

      used_is : (gather_rule cs n).number ≡ 0 → field_used cs n ≡ r.used
      used_is zero =
          let same = ended.answers fair in
          let end : (end_rule r.reading r.used n).number ≡ 0 = ap (λ (b : Answer). b.number) same ∙ zero in
          ap (λ (b : Answer). b.count)
          (sym (gather_counts_used cs n zero) ∙ sym same ∙ end_counts r.reading r.used n end)

      pub tells_least : Fit ds → TellsLeast p ds n (least_met p.min.0 p.rpt.0 a.seen.extremes)
      unfolding least_clearance at_start cursor_of
      tells_least fits zero =
          let used = used_is zero in
          let some : 0 < length (take r.used ds) =
          omega (arith, uses_some cs n zero, used, length-take r.used ds, ended.within) in
          ap (λ (s : Seen). least_met p.min.0 p.rpt.0 s.extremes) ends.seen
          ∙ least_is_met (at_start p) (take r.used ds) (reachable p true accepts) (fits_taken r.used ds fits) some
          ∙ ap (λ (k : ℕ). least_from (at_start p) (take k ds)) (sym used)
