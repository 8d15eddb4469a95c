use Prim.Native.Nat.{◌+◌, ◌≤◌}
use mathlib.Core.Path.{◌≡◌}
use lib.ListN.{drop}
use Rattle.sets.specs.Held.{how_many, numbers}
use Rattle.merge.specs.machine.Tests.{entry_in_either}
use Rattle.merge.proofs.numbers.count_numbers.Given as goal

abbrev pub invariant-loop-n : goal.invariant-loop-n
invariant-loop-n l =
    (l.n ≤ 256)
    × (l.count ≤ l.n)
    × (l.count + how_many (entry_in_either l.a l.b) (drop l.n numbers) ≡ how_many (entry_in_either l.a l.b) numbers)
