-- Why `text::find` answers the end of the piece: while no separator is met, the piece that is left begins at the
-- place reached. Rests on no axiom.
use Prim.Native.Nat.{ℕ, ◌+◌, ◌≤◌, max}
use mathlib.Core.Path.{◌≡◌, refl, ap, ◌∙◌}
use mathlib.Core.List.{List}
use native.Mathlib.Numerals.{add-one}
use native.Mathlib.Decide.{dec_le}
use native.Mathlib.Omega.{arith}
use lib.ListN.{length, drop, drop_of_length-le}
use Rattle.text.specs.Pieces.{up_to}
use Rattle.text.proofs.PieceLaws.{up_to_at_separator, up_to_at_other}
use Rattle.text.proofs.read.find.Goals as goal

-- what is left at the end is empty, and where the piece starts behind the text the loop has no turn
left_at_end
    : (sep : ℕ) (text : List ℕ) (from at : ℕ)
    → length text ≤ at
    → (from ≤ length text → at ≤ length text)
    → at + length (up_to sep (drop at text)) ≡ from + length (up_to sep (drop from text))
    → max from (length text) ≡ from + length (up_to sep (drop from text))
unfolding up_to
left_at_end sep text from at h end e =
    let none = ap (λ (l : List ℕ). length (up_to sep l)) (drop_of_length-le text h) in
    elim (dec_le from (length text)) [
      | yes inside ↦ omega (arith, none, e, end inside, inside, h)
      | no outside ↦
          let same = ap (λ (l : List ℕ). length (up_to sep l)) (drop_of_length-le text {i = from} (omega (arith, outside)))
          in omega (arith, none, same, e, outside)
    ]

pub loop-at-init : goal.loop-at-init
loop-at-init c = refl

pub returns-then-text-at : goal.returns-then-text-at
returns-then-text-at c =
    let text = c.args.text.now in
    omega (arith, ap length (up_to_at_separator _ text _ c.loop-at-test.true c.if-text-at.true))

pub loop-at-preserved : goal.loop-at-preserved
loop-at-preserved c =
    let text = c.args.text.now in
    rw add-one (omega (arith, ap length (up_to_at_other _ text _ c.loop-at-test.true c.if-text-at.false)))

pub returns : goal.returns
returns c =
    c.max.ensures ∙ left_at_end _ _ _ _ c.loop-at-test.false c.loop-at.auto.at-end c.loop-at.invariant
