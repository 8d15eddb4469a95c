use Prim.Native.Nat.{ℕ, ◌+◌}
use mathlib.Core.Path.{◌≡◌}
use mathlib.Core.Bool.{Bool}
use mathlib.Core.List.{List}
use lib.ListN.{drop}
use Rattle.lists.specs.Place.{anywhere, lowest, passed}
use Rattle.words.specs.Words.{last_bit}
use Rattle.images.specs.Image.{unruly_from, unruly_in}
use Rattle.images.proofs.read.find_unruly.Given as goal

-- whether a word from k on is unruly, after the byte before, and the lowest place
abbrev pub some_from : List ℕ → ℕ → ℕ → Bool
some_from words previous k = anywhere passed (unruly_from (last_bit previous) (drop k words))

abbrev pub lowest_from : List ℕ → ℕ → ℕ → ℕ
lowest_from words previous k = k + lowest passed (unruly_from (last_bit previous) (drop k words))

abbrev pub invariant-loop-k : goal.invariant-loop-k
invariant-loop-k l =
    (some_from l.words l.previous l.k ≡ anywhere passed (unruly_in l.words))
    × (lowest_from l.words l.previous l.k ≡ lowest passed (unruly_in l.words))
