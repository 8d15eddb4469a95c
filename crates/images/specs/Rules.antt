-- Request (v), turned away: in making an image 4, 3, 9; in reading one 4, 16, 9. No lemmas here.
use Rattle.std.specs.Prelude.{ℕ, List, ltb, length}
use Rattle.lists.specs.Place.{anywhere, lowest, passed}
use Rattle.refusal.specs.Answer.{Answer, accepted, refuse_if, first_refusal, settled}
use Rattle.items.specs.Rule.{list_rule}
use Rattle.items.specs.Written.{written}
use Rattle.images.specs.Image.{image_of, unruly_in, bytes_in}

-- 9, full: a result of so many numbers and an output of `room` places
unfoldable pub room_rule : ℕ → ℕ → Answer
room_rule count room = refuse_if (ltb room count) 9 0 (accepted count)

-- what making an image answers for a list of items and an output of `room` places; the count is the number of words
unfoldable pub make_rule : List ℕ → ℕ → Answer
make_rule items room = first_refusal (list_rule items) (room_rule (length (written items)) room)

-- what the output holds afterwards
unfoldable pub make_output : List ℕ → List ℕ → List ℕ
make_output items old = settled (make_rule items (length old)) (image_of (written items)) old

-- 4, overlong: over 6,400 words; then 16, unruly: the lowest such word
unfoldable pub words_rule : List ℕ → Answer
words_rule words =
    refuse_if (ltb 6400 (length words)) 4 0
    (refuse_if (anywhere passed (unruly_in words)) 16 (lowest passed (unruly_in words))
    (accepted 0))

-- what reading an image answers; the count is the number of items
unfoldable pub read_image_rule : List ℕ → ℕ → Answer
read_image_rule words room = first_refusal (words_rule words) (room_rule (length words) room)

unfoldable pub read_image_output : List ℕ → List ℕ → List ℕ
read_image_output words old = settled (read_image_rule words (length old)) (bytes_in words) old
