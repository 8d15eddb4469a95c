use mathlib.Core.Path.{◌≡◌}
use mathlib.Core.List.{◌++◌}
use lib.ListN.{take, drop}
use Rattle.words.specs.Words.{last_bit}
use Rattle.images.specs.Image.{image_from, image_of}
use Rattle.images.proofs.make.turn_few.Given as goal

abbrev pub invariant-loop-place : goal.invariant-loop-place
invariant-loop-place l =
    take l.place-index l.bytes ++ image_from (last_bit l.previous) (drop l.place-index l.bytes)
    ≡ image_of l.initial.bytes
