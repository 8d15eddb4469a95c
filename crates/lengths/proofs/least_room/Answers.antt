-- Why `lengths::least_room` answers `margin_of`: a turn joins the least so far and the next room. Rests on no axiom.
use Prim.Native.Nat.{ℕ, ◌+◌, ◌<◌, min}
use mathlib.Core.Path.{◌≡◌, refl, sym, ◌∙◌}
use mathlib.Core.List.{List, ◌∷◌}
use native.Mathlib.Numerals.{add-one}
use lib.ListN.{length, get_or, drop, drop_of_length-le}
use lib.Seq.{drop-cons}
use Rattle.lists.specs.Span.{least}
use Rattle.lists.proofs.SpanLaws.{least_of_one, least_of_two}
use Rattle.lengths.specs.Margin.{rooms_of, margin_of}
use Rattle.lengths.proofs.least_room.Goals as goal

next_joins : (so_far : ℕ) (rooms : List ℕ) (k : ℕ)
    → k < length rooms
    → least (min so_far (get_or rooms k 0) ∷ drop (k + 1) rooms) ≡ least (so_far ∷ drop k rooms)
next_joins so_far rooms k h = rw (add-one, drop-cons rooms k 0 h) (sym (least_of_two so_far _ _))

pub loop-room-init : goal.loop-room-init
unfolding margin_of rooms_of
loop-room-init c = rw c.rooms-rooms.ensures refl

pub loop-room-preserved : goal.loop-room-preserved
loop-room-preserved c =
    rw c.min-least.ensures (next_joins _ _ _ c.loop-room-test.true) ∙ c.loop-room.invariant

pub returns : goal.returns
returns c = rw (drop_of_length-le _ c.loop-room-test.false, least_of_one c.loop-room.least) at c.loop-room.invariant
