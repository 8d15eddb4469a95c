-- Why `top::ease` leaves a whole byte behind: sixteen half cells go out at the top, or none. Rests on no axiom.
use Rattle.std.proofs.Common.{refl, ◌∙◌, arith}
use Rattle.lists.proofs.BoolLaws.{one_at_most}
use Rattle.shifts.proofs.TopLaws.{top_whole, top_eases}
use Rattle.shifts.proofs.top.ease.Goals as goal

pub overflow_mul-more : goal.overflow_mul-more
overflow_mul-more c = omega (arith, one_at_most c.is_whole.result)

pub overflow_cast-result : goal.overflow_cast-result
overflow_cast-result c = omega (arith, one_at_most c.is_whole.result)

pub overflow_shl-result : goal.overflow_shl-result
overflow_shl-result c = omega (arith, one_at_most c.is_whole.result)

pub returns : goal.returns
returns c = λ m top.
    let t = c.args.t in
    top_eases t m top _ c.is_whole.result (c.is_whole.ensures ∙ top_whole t m top) (omega arith) refl refl
