-- `Seen::with_all` is `seen_from` either way. Rests on no axiom.
use Rattle.std.proofs.Common.{sym, ap, ◌∙◌}
use Rattle.clearance.specs.declared.extremes.Extremes.{Extremes}
use Rattle.clearance.proofs.SeenLaws.{seen_at, steady_is_seen}
use Rattle.clearance.proofs.seen.Seen.with_all.Goals as goal

pub returns-then-is_steady : goal.returns-then-is_steady
returns-then-is_steady c =
    let s = c.args.self in
    ap (λ (m : Extremes). seen_at m s.cursor) c.extremes_alike.ensures
    ∙ steady_is_seen s _ (sym c.is_steady.ensures ∙ c.if-is_steady.true)

pub returns : goal.returns
returns c = c.all.ensures
