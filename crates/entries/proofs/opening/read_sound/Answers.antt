-- Why `opening::read_sound` answers `opened_of`: a field of which an interval at the front is no cell does not read.
-- Rests on no axiom.
use mathlib.Core.Path.{sym, ◌∙◌}
use native.Mathlib.Omega.{arith}
use lib.Seq.{length-take-le}
use Rattle.entries.proofs.OpeningLaws.{opens_nothing}
use Rattle.entries.proofs.SoundLaws.{harmed_opens_nothing}
use Rattle.entries.proofs.opening.read_sound.Goals as goal

pub slice_bounds-all_cells-end : goal.slice_bounds-all_cells-end
slice_bounds-all_cells-end c = sym (length-take-le _ _ (omega (arith, c.min-front.ensures)))

pub returns : goal.returns
returns c =
    let args = c.args in
    let both = opens_nothing _ _ _ _ args.items.now _
    (harmed_opens_nothing args.p args.intervals.now args.n args.kind c.min-front.result
    (omega (arith, c.min-front.ensures)) (sym c.all_cells.ensures ∙ c.if-all_cells.false)) in
    record {
      answer = both.0;
      items = both.1;
    }
