-- Machine, not meaning: laws tie it to Pass (`proofs/LookLaws`). No lemmas here.
-- A pass that only looks.
use Rattle.std.specs.Prelude.{◌≡◌, ℕ, ◌+◌, ◌-◌, ◌/◌, ◌%◌, ◌^◌, ◌≤◌, true, List, map, length, take, drop}
use Rattle.timing.specs.Class.{at_start, cursor_after}
use Rattle.timing.specs.machine.Edges.{units_from}
use Rattle.timing.specs.declared.Profile.{Profile}
use Rattle.symbols.specs.Reading.{units}
use Rattle.symbols.specs.machine.Step.{fresh_reading, empty_reading, shifted_all, ran}
use Rattle.symbols.specs.machine.Gaps.{NoneOpen}
use Rattle.symbols.specs.declared.Cell.{Cell}
use Rattle.symbols.specs.declared.Reading.{Reading}
use Rattle.passes.specs.declared.look.Seen.{Seen}
use Rattle.passes.specs.declared.look.Look.{Look}

-- the register after cells of which none is put together but the last sixteen, with so many half cells held and theirs
unfoldable pub calmed : Reading → List ℕ → ℕ → Reading
calmed m us sum =
    record {
      bits = (shifted_all empty_reading (take 16 (drop (length us - 16) us))).bits;
      held = (sum - 1) % 16 + 1;
      words = (m.words + (sum - 1) / 16) % 2 ^ 32;
      place = m.place;
      stray = m.stray;
    }

-- after cells of such units the register is the machine's; and no gap is open, where that is said
pub record Sees (us : List ℕ) (s : Seen) : Type 0 where
  pub cells : List Cell
  pub same : map units cells ≡ us
  pub reading : s.reading ≡ ran fresh_reading 0 cells
  pub clear : s.clear ≡ true → NoneOpen s.reading cells

-- so it stands in a list of intervals
pub record Looking (p : Profile) (ds : List ℕ) (at : Look) : Type 0 where
  pub within : at.used ≤ length ds
  pub sees : Sees (units_from (at_start p) (take at.used ds)) at.seen
  pub cursor : at.cursor ≡ cursor_after (at_start p) (take at.used ds)
