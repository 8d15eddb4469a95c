-- Laws of the merged set's bytes from a number on: those of that number, then those of the numbers above. Rests on no
-- axiom.
use Prim.Native.Nat.{ℕ, ◌+◌, ◌≤◌, ◌<◌}
use mathlib.Core.Path.{◌≡◌, refl, ◌∙◌}
use mathlib.Core.Bool.{false}
use mathlib.Core.List.{List, [], ◌++◌, flat_map}
use lib.ListN.{length, drop, get_or, length-append}
use Rattle.lists.specs.Place.{anywhere}
use Rattle.sets.specs.Set.{set_bytes, sectors_in}
use Rattle.sets.specs.Held.{numbers}
use Rattle.sets.specs.machine.Index.{shown, Indexed, Within}
use Rattle.sets.proofs.NumberLaws.{numbers_from, numbers_end, nowhere_at_number}
use Rattle.merge.specs.Merge.{taken, as_list, taken_at, merged, at_odds, at_odds_at}
use Rattle.merge.specs.Rule.{result}
use Rattle.merge.proofs.OutputLaws.{bytes_of-append}
use Rattle.merge.proofs.ChoiceLaws.{entries_at_odds}

-- those that are left from a number on
unfoldable pub bytes_from : List ℕ → List ℕ → ℕ → List ℕ
bytes_from first second n = set_bytes (flat_map (taken_at (sectors_in first) (sectors_in second)) (drop n numbers))

pub all_bytes : (first second : List ℕ) → result first second ≡ bytes_from first second 0
unfolding bytes_from merged
all_bytes first second = refl

pub bytes_at_end : (first second : List ℕ) (n : ℕ) → 256 ≤ n → bytes_from first second n ≡ []
unfolding bytes_from flat_map set_bytes
bytes_at_end first second n h = rw (numbers_end n h)

-- with the index entries of the number
module _
    (first second a b : List ℕ) (one : Indexed first a) (other : Indexed second b) (n : ℕ) (inside : n < 256)
  where
    abbrev entry_bytes : List ℕ
    entry_bytes = set_bytes (as_list (taken (shown first (get_or a n 0)) (shown second (get_or b n 0))))

    pub bytes_here : bytes_from first second n ≡ entry_bytes ++ bytes_from first second (n + 1)
    unfolding bytes_from flat_map taken_at
    bytes_here = rw (numbers_from n inside, one.shows n inside, other.shows n inside) (bytes_of-append _ _)

    pub size_here
        : length (bytes_from first second n) ≡ length entry_bytes + length (bytes_from first second (n + 1))
    size_here = rw (bytes_here, length-append)

    pub entries_here
        : anywhere (at_odds_at (sectors_in first) (sectors_in second)) numbers ≡ false
        → Within first (get_or a n 0)
        × Within second (get_or b n 0)
        × (at_odds (shown first (get_or a n 0)) (shown second (get_or b n 0)) ≡ false)
    entries_here peace = (
      one.within n inside,
      other.within n inside,
      entries_at_odds first second a b one other n inside ∙ nowhere_at_number _ peace n inside,
    )
