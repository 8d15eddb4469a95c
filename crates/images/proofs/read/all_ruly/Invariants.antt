use Prim.Native.Nat.{ℕ}
use mathlib.Core.Path.{◌≡◌}
use mathlib.Core.Bool.{Bool, not, ◌&&◌}
use mathlib.Core.List.{List}
use lib.ListN.{drop}
use Rattle.lists.specs.Place.{anywhere, passed}
use Rattle.words.specs.Words.{last_bit}
use Rattle.images.specs.Image.{unruly_from, unruly_in}
use Rattle.images.proofs.read.all_ruly.Given as goal

-- none among the words from k on, after the word before
abbrev pub none_from : List ℕ → ℕ → ℕ → Bool
none_from words previous k = not (anywhere passed (unruly_from (last_bit previous) (drop k words)))

abbrev pub invariant-loop-word : goal.invariant-loop-word
invariant-loop-word l =
    (l.all && none_from l.words l.previous l.word-index) ≡ not (anywhere passed (unruly_in l.words))
