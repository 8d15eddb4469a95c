-- Why `card::converted` turns the limits that are counted into numbers: after each turn those so far stand in their
-- places. Rests on no axiom.
use Prim.Native.Nat.{min}
use mathlib.Core.Path.{◌≡◌, sym, ap, ◌∙◌}
use mathlib.Core.List.{map}
use native.Mathlib.Omega.{arith}
use Rattle.std.proofs.lemmas.List.{take_min}
use lib.ListN.{length, take, replicate}
use Rattle.lists.specs.Filled.{filled}
use Rattle.lists.proofs.StoreLaws.{stored_none}
use Rattle.answers.specs.Cards.{limit_numbers, no_limit}
use Rattle.answers.proofs.CardLaws.{stored_mapped, mapped_fills}
use Rattle.answers.proofs.card.converted.Goals as goal

pub loop-k-init : goal.loop-k-init
loop-k-init c = sym (stored_none (replicate 10 no_limit) 0)

pub loop-k-preserved : goal.loop-k-preserved
loop-k-preserved c =
    let turn = c.loop-k in
    rw (c.from.ensures, turn.invariant)
    (stored_mapped limit_numbers c.args.limits (replicate 10 no_limit) turn.k _ (omega arith))

pub returns : goal.returns
returns c =
    let limits = c.args.limits in
    let turn = c.loop-k in
    let ten : length limits ≡ 10 = omega arith in
    let all : turn.k ≡ min c.args.count (length limits) =
    omega (arith, ten, c.min-k-end.ensures, c.loop-k-test.false, turn.auto.k-end) in
    turn.invariant
    ∙ mapped_fills limit_numbers limits (replicate 10 no_limit) turn.k (omega (arith, ten, all)) (omega (arith, ten, all))
    ∙ ap (λ front. filled (map limit_numbers front) (replicate 10 no_limit))
    (ap (λ n. take n limits) all ∙ take_min c.args.count limits)
