-- `read::all_ruly` tells whether no word is unruly: that none was so far, and that none is in the rest, stay one answer
-- from turn to turn. Rests on no axiom.
use Prim.Native.Nat.{ℕ, suc, ◌+◌, ◌<◌}
use mathlib.Core.Path.{◌≡◌, refl, ap, ◌∙◌}
use mathlib.Core.Bool.{Bool, ◌&&◌, and_assoc, and-true}
use mathlib.Core.List.{List}
use native.Mathlib.Numerals.{add-one}
use lib.ListN.{length, get_or, drop, drop_of_length-le}
use lib.Seq.{drop-cons}
use Rattle.lists.specs.Place.{anywhere}
use Rattle.half_cells.specs.machine.Candidate.{candidate}
use Rattle.words.specs.Words.{last_bit}
use Rattle.images.specs.Image.{has_word, unruly_from, unruly_in}
use Rattle.images.proofs.WordLaws.{last_bit_is_data}
use Rattle.images.proofs.ImageLaws.{none_unruly_from}
use Rattle.images.proofs.read.all_ruly.Invariants.{none_from}
use Rattle.images.proofs.read.all_ruly.Goals as goal

none_from_here : (words : List ℕ) (previous k : ℕ) (test : Bool)
    → k < length words
    → test ≡ has_word (last_bit previous) (get_or words k 0) (candidate (get_or words k 0))
    → (test && none_from words (get_or words k 0) (k + 1)) ≡ none_from words previous k
none_from_here words previous k test h e =
    let word = get_or words k 0 in
    let here = none_unruly_from (last_bit previous) (last_bit_is_data previous) word (drop (suc k) words) in
    rw (add-one, drop-cons words k 0, here, e)

pub loop-word-init : goal.loop-word-init
unfolding unruly_in last_bit
loop-word-init c = refl

pub loop-word-preserved : goal.loop-word-preserved
loop-word-preserved c =
    let head = c.loop-word in
    let words = c.args.words.now in
    let here = none_from_here words head.previous head.word-index _ c.loop-word-test.true c.is_ruly-all.ensures in
    and_assoc head.all _ _ ∙ ap (λ (t : Bool). head.all && t) here ∙ head.invariant

pub returns : goal.returns
unfolding unruly_from anywhere
returns c = rw (drop_of_length-le _ c.loop-word-test.false, and-true) at c.loop-word.invariant
