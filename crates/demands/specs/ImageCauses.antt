-- Document 02, (v): the causes of making an image and of reading one, in their turn. No lemmas here.
use Rattle.std.specs.Prelude.{ℕ, ◌<◌, ◌≡◌, true, List, ◌⊎◌, length}
use Rattle.lists.specs.Place.{anywhere, lowest, passed}
use Rattle.items.specs.Item.{written_bytes}
use Rattle.items.specs.Written.{written}
use Rattle.images.specs.Image.{image_of, unruly_in, bytes_in}
use Rattle.demands.specs.Order.{Order, accept, turn, at0}
use Rattle.demands.specs.Causes.{Foreign}

-- making an image: 4 (over 6,400 items or written bytes), 3, 9 (the output is shorter than the image)
abbrev pub image_maker_order : List ℕ → ℕ → Order
image_maker_order items room =
    turn 4 (at0 ((6400 < length items) ⊎ (6400 < written_bytes items)))
    (turn 3 (Foreign items)
    (turn 9 (at0 (room < length (image_of (written items))))
    accept))

-- 16, unruly: a word that no item has after its previous bit; the lowest
abbrev pub Unruly : List ℕ → ℕ → Type 0
Unruly words place = (anywhere passed (unruly_in words) ≡ true) × (place ≡ lowest passed (unruly_in words))

-- reading one: 4 (over 6,400 words), 16, 9 (the output is shorter than the list of items)
abbrev pub image_reader_order : List ℕ → ℕ → Order
image_reader_order words room =
    turn 4 (at0 (6400 < length words))
    (turn 16 (Unruly words)
    (turn 9 (at0 (room < length (bytes_in words)))
    accept))
