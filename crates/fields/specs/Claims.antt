-- Document 01, "Finding and reading a field": two lists that agree in the used intervals get equal answers from the
-- first entry, under the same profile and n, where one of them is accepted and the outputs are equally long. No lemmas
-- here.
use Rattle.std.specs.Prelude.{ℕ, ◌≡◌, List, length, take}
use Rattle.timing.specs.declared.Profile.{Profile}
use Rattle.fields.specs.FieldRule.{field_rule, field_reading, field_output}

abbrev pub UsedIntervalsDecide : Type 0
UsedIntervalsDecide =
    (p : Profile) (n : ℕ) (ds es old : List ℕ)
    → (field_rule p ds n (length old)).number ≡ 0
    → take (field_reading p ds n (length old)).used es ≡ take (field_reading p ds n (length old)).used ds
    → (field_reading p es n (length old) ≡ field_reading p ds n (length old))
    × (field_output p es n old ≡ field_output p ds n old)
