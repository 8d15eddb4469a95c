-- Machine, not meaning: laws tie it to Pass (`proofs/BlockLaws`). No lemmas here.
-- A pass in parts.
use Rattle.std.specs.Prelude.{◌≡◌, ℕ, ◌<◌, List, take, drop}
use Rattle.timing.specs.Class.{at_start, cursor_after}
use Rattle.timing.specs.machine.Edges.{units_from}
use Rattle.timing.specs.declared.Profile.{Profile}
use Rattle.symbols.specs.machine.Step.{fresh_reading}
use Rattle.shifts.specs.machine.Pass.{Passed, pass_from}
use Rattle.passes.specs.declared.block.Progress.{Progress}

-- before the first interval
unfoldable pub at_first : Profile → Progress
at_first p = record { pass = record { reading = fresh_reading; used = 0 }; cursor = at_start p }

-- the pass over some intervals more
abbrev pub pass_on : ℕ → Progress → List ℕ → Passed
pass_on most at ds = pass_from most at.pass.used at.pass.reading (units_from at.cursor ds)

-- over all that are left of a list
unfoldable pub rest_from : ℕ → List ℕ → Progress → Passed
rest_from most ds at = pass_on most at (drop at.pass.used ds)

-- and over so many of these
abbrev pub next_of : ℕ → List ℕ → Progress → List ℕ
next_of count ds at = take count (drop at.pass.used ds)

unfoldable pub words_of : ℕ → ℕ → List ℕ → Progress → List ℕ
words_of count most ds at = (pass_on most at (next_of count ds at)).words

-- where it stands then; with all bytes read, it is not said where the classing does
pub record Reaches (count most : ℕ) (ds : List ℕ) (at next : Progress) : Type 0 where
  pub pass : next.pass ≡ (pass_on most at (next_of count ds at)).end
  pub cursor : next.pass.reading.words < most → next.cursor ≡ cursor_after at.cursor (next_of count ds at)
