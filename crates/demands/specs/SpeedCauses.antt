-- Document 02, (xi): the causes of reading at a drive's own speed, in their turn. No lemmas here.
use Rattle.std.specs.Prelude.{ℕ, ◌*◌, ◌<◌, ◌≡◌, List, drop}
use Rattle.timing.specs.Class.{classes_of}
use Rattle.timing.specs.declared.Profile.{Profile}
use Rattle.pace.specs.Pace.{differs}
use Rattle.speed.specs.Speed.{s0, s1, nominal, corrected_at}
use Rattle.speed.specs.Reading.{lock_of}
use Rattle.demands.specs.Order.{Order, turn, at0}
use Rattle.demands.specs.Causes.{profile_order, Adrift, counted_field_order}

-- 18, off speed: 16 × the difference of a sum, sign dropped, exceeds 32 × T1; at place 0 for S0, 1 for S1
abbrev pub OffSpeed : Profile → ℕ → ℕ → ℕ → Type 0
OffSpeed p s half place = (nominal p < 16 * differs (nominal p) s) × (place ≡ half)

-- corrected reader: 1, 2, 10, 18 (the lower place if both), then as the field reader has it of the corrected numbers
abbrev pub corrected_order : Profile → List ℕ → ℕ → ℕ → ℕ → Order
corrected_order p ds start n room =
    let lock = lock_of p ds start in
    profile_order p
    (turn 10 (at0 (Adrift (classes_of p (drop start ds))))
    (turn 18 (OffSpeed p (s0 ds lock) 0)
    (turn 18 (OffSpeed p (s1 ds lock) 1)
    (counted_field_order (classes_of p (corrected_at p ds lock)) n room))))
