-- Why `units::units_of` gives `units_from` and `cursor_after`: each way does, and where both kinds have the same bounds
-- the classing stands where it stood. Rests on no axiom.
use Rattle.std.proofs.Common.{◌≡◌, ℕ, ◌+◌, ◌≤◌, length, take, replicate, sym, ◌∙◌, arith, length-take-le}
use Rattle.intervals.proofs.EitherLaws.{steady_units, steady_cursor}
use Rattle.intervals.proofs.units.units_of.Goals as goal

room : (k m : ℕ) → (m ≡ k) × (m ≤ 128) → length (take {A = ℕ} (k + 1) (replicate 129 0)) ≡ k + 1
room k m h = length-take-le (k + 1) (replicate 129 0) (omega (arith, h.0, h.1))

pub returns-then-is_steady : goal.returns-then-is_steady
returns-then-is_steady c =
    let steady = sym c.is_steady.ensures ∙ c.if-is_steady.true in
    let ds = c.args.intervals.now in
    record { cursor = steady_cursor _ steady ds; units = c.fill_units.ensures ∙ steady_units _ steady ds }
