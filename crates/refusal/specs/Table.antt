-- Document 01, "Turned-away numbers": the number and the place of each refusal. No lemmas here.
use Rattle.std.specs.Prelude.{ℕ}
use Rattle.refusal.specs.declared.Refusal.{Refusal}
use Rattle.refusal.specs.declared.Refusal.TheVariants.{ProfileOutOfRange, ProfileInconsistent, NotAnItem}
use Rattle.refusal.specs.declared.Refusal.TheVariants.{TooLong, IntervalTooShort, IntervalTooLong}
use Rattle.refusal.specs.declared.Refusal.TheVariants.{NotWholeBytes, MisplacedMark, OutputTooShort, NoLock}
use Rattle.refusal.specs.declared.Refusal.TheVariants.{EndsEarly, CountOutOfRange, SectorSizeMismatch}
use Rattle.refusal.specs.declared.Refusal.TheVariants.{MalformedInput, TooManySectors, UnrulyWord, SectorsAtOdds}
use Rattle.refusal.specs.declared.Refusal.TheVariants.{OffSpeed, PageLost, FillSoiled}

-- the column "No."
abbrev pub number_of : Refusal → ℕ
number_of (ProfileOutOfRange which) = 1
number_of ProfileInconsistent = 2
number_of (NotAnItem at) = 3
number_of TooLong = 4
number_of (IntervalTooShort at) = 5
number_of (IntervalTooLong at) = 6
number_of NotWholeBytes = 7
number_of (MisplacedMark at) = 8
number_of OutputTooShort = 9
number_of NoLock = 10
number_of EndsEarly = 11
number_of CountOutOfRange = 12
number_of SectorSizeMismatch = 13
number_of (MalformedInput line) = 14
number_of TooManySectors = 15
number_of (UnrulyWord at) = 16
number_of (SectorsAtOdds sector) = 17
number_of (OffSpeed half) = 18
number_of (PageLost page) = 19
number_of (FillSoiled page) = 20

-- the column "Place given"
abbrev pub place_of : Refusal → ℕ
place_of (ProfileOutOfRange which) = which
place_of ProfileInconsistent = 0
place_of (NotAnItem at) = at
place_of TooLong = 0
place_of (IntervalTooShort at) = at
place_of (IntervalTooLong at) = at
place_of NotWholeBytes = 0
place_of (MisplacedMark at) = at
place_of OutputTooShort = 0
place_of NoLock = 0
place_of EndsEarly = 0
place_of CountOutOfRange = 0
place_of SectorSizeMismatch = 0
place_of (MalformedInput line) = line
place_of TooManySectors = 0
place_of (UnrulyWord at) = at
place_of (SectorsAtOdds sector) = sector
place_of (OffSpeed half) = half
place_of (PageLost page) = page
place_of (FillSoiled page) = page
