-- `make::turn_many` is a fold over the bytes: the words so far and the image of the bytes to come are the whole
-- image. Rests on no axiom.
use mathlib.Core.Path.{◌≡◌, refl, ◌∙◌}
use mathlib.Core.List.{append-nil}
use native.Mathlib.Omega.{arith}
use lib.ListN.{length}
use lib.Seq.{take-length, drop-length}
use Rattle.words.specs.Words.{last_bit}
use Rattle.images.specs.Image.{image_from, image_of}
use Rattle.images.proofs.MakeLaws.{word_then_rest}
use Rattle.images.proofs.make.turn_many.Goals as goal

pub loop-place-init : goal.loop-place-init
unfolding image_of last_bit
loop-place-init c = refl

pub loop-place-preserved : goal.loop-place-preserved
loop-place-preserved c =
    let head = c.loop-place in
    word_then_rest head.bytes head.place-index head.previous _ (omega (arith, c.loop-place-test.true, head.auto.bytes))
    c.word_of.ensures
    ∙ head.invariant

pub returns : goal.returns
unfolding image_from
returns c =
    let head = c.loop-place in
    let all : head.place-index ≡ length head.bytes =
    omega (arith, head.auto.place-index-end, head.auto.bytes, c.loop-place-test.false) in
    rw (all, take-length head.bytes, drop-length head.bytes, append-nil head.bytes) at head.invariant
