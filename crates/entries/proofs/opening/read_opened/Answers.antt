-- Why `opening::read_opened` answers `opened_of`: what does not begin with the classes of three marks opens as no field of
-- a sector. Rests on no axiom.
use mathlib.Core.Path.{sym, ◌∙◌}
use Rattle.entries.proofs.OpeningLaws.{opens_nothing, unmarked_opens_nothing}
use Rattle.entries.proofs.opening.read_opened.Goals as goal

pub returns : goal.returns
returns c =
    let args = c.args in
    let both = opens_nothing _ _ _ _ args.items.now _
    (unmarked_opens_nothing args.p args.intervals.now args.n args.kind
    (sym c.three_marks_ahead.ensures ∙ c.if-three_marks_ahead.false)) in record { answer = both.0; items = both.1 }
