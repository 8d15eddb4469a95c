-- `read::read_words` answers `read_image_rule`: the words are accepted, so each one's byte is its candidate, and the room
-- decides. Rests on no axiom.
use mathlib.Core.Path.{refl, ◌∙◌}
use Rattle.symbols.specs.Bits.{O}
use Rattle.images.specs.Image.{unruly_in, bytes_in}
use Rattle.images.specs.Rules.{words_rule, read_image_rule, read_image_output}
use Rattle.images.proofs.RuleLaws.{words_of_accepted, room_refuses, room_accepts}
use Rattle.images.proofs.ImageLaws.{ruly_is_read}
use Rattle.images.proofs.read.read_words.Goals as goal

pub returns-then-out-words : goal.returns-then-out-words
unfolding read_image_rule read_image_output
returns-then-out-words c =
    let both = room_refuses _ _ _ _ c.requires c.if-out-words.true in
    record {
      answer = both.0;
      output = both.1;
    }

pub returns : goal.returns
unfolding read_image_rule read_image_output unruly_in bytes_in
returns c =
    let words = c.args.words.now in
    let (rule, output) = room_accepts (words_rule words) _ (bytes_in words) _ c.requires c.if-out-words.false in
    let read = ruly_is_read O words refl (words_of_accepted words c.requires).1 in
    record { answer = rule; output = c.store_bytes.ensures ∙ rw (← read.candidates) output }
