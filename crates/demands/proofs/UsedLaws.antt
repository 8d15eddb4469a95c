-- What is accepted uses at least one interval: no interval gives no bits, which is ragged for a strip and too few for a
-- field. Rests on no axiom.
use Prim.Native.Nat.{ℕ, ◌<◌}
use mathlib.Core.Path.{◌≡◌}
use mathlib.Core.List.{List, [], ◌∷◌}
use native.Mathlib.Omega.{arith}
use borrow.Author.Tests.{eq-eqb}
use lib.ListN.{length}
use Rattle.refusal.proofs.AnswerLaws.{first_refusal_accepts, refuse_if_accepts}
use Rattle.timing.specs.Profile.{outside, profile_rule}
use Rattle.timing.specs.Class.{classes_of}
use Rattle.timing.proofs.ClassLaws.{classes_of_none}
use Rattle.timing.specs.declared.Profile.{Profile}
use Rattle.symbols.specs.Reading.{read_bits, read_from}
use Rattle.symbols.specs.Strip.{strip_rule, is_ragged}
use Rattle.symbols.specs.declared.Cell.{Cell}
use Rattle.intervals.specs.Cells.{cells_read, cells_of_classes}
use Rattle.codec.specs.Reader.{read_rule}
use Rattle.fields.specs.Field.{field_cells, field_used}
use Rattle.fields.proofs.FieldLaws.{field_bits_enough}
use Rattle.fields.proofs.ReaderLaws.{answer_is_its_rule}
use Rattle.fields.specs.FieldRule.{field_rule, field_reading}
use Rattle.demands.proofs.ReadLaws.{passed_of_accepted}

-- ---- a strip

no_intervals_are_ragged : (p : Profile) → (strip_rule (cells_read p [])).number ≡ 7
unfolding cells_read cells_of_classes strip_rule is_ragged read_bits read_from
no_intervals_are_ragged p = rw (classes_of_none p)

pub strip_has_intervals : (p : Profile) (ds : List ℕ) (room : ℕ) → (read_rule p ds room).number ≡ 0 → 0 < length ds
strip_has_intervals p [] room h =
    let accepts = (passed_of_accepted p [] room h).strip in
    let refuses = no_intervals_are_ragged p in absurd (omega arith)
strip_has_intervals p (d ∷ ds) room h = omega arith

-- ---- a field

bits_have_cells : (xs : List Cell) → 0 < length (read_bits xs) → 0 < length xs
unfolding read_bits read_from
bits_have_cells [] h = h
bits_have_cells (x ∷ xs) h = omega arith

pub field_has_intervals
    : (p : Profile) (ds : List ℕ) (n room : ℕ)
    → (field_reading p ds n room).answer.number ≡ 0
    → 0 < (field_reading p ds n room).used
unfolding field_reading field_rule field_used
field_has_intervals p ds n room h =
    let accepts : (field_rule p ds n room).number ≡ 0 = rw answer_is_its_rule at h in
    let after_2 = (first_refusal_accepts (profile_rule p) _ accepts).1 in
    let after_12 = (refuse_if_accepts (outside 1 1030 n) 11 0 _ after_2).1 in
    let stops = (first_refusal_accepts _ _ after_12).0 in
    let bits = field_bits_enough (classes_of p ds) n stops in
    rw (eq-eqb _ 0 accepts) (bits_have_cells (field_cells (classes_of p ds) n) (omega arith))
