-- Request (v), the laws of bit images: a field for each sentence. No lemmas here.
use Rattle.std.specs.Prelude.{ℕ, ◌≤◌, ◌≡◌, true, List, length, take}
use Rattle.std.specs.Int.Count.{ones}
use Rattle.lists.specs.Place.{everywhere}
use Rattle.refusal.specs.Answer.{accepted}
use Rattle.items.specs.Item.{is_byte}
use Rattle.items.specs.Written.{written}
use Rattle.items.specs.Rule.{list_rule}
use Rattle.symbols.specs.Bits.{written_bits}
use Rattle.symbols.specs.Cells.{symbols_from, cells_of, written_cells}
use Rattle.words.specs.Words.{word_of, last_bit}
use Rattle.images.specs.Image.{image_of}
use Rattle.images.specs.Rules.{make_rule, make_output, read_image_rule, read_image_output}
use Rattle.images.specs.Distances.{framed, distances}

-- an image reads as a list of data and mark bytes if it is accepted, the count given is the list's length, and the
-- front of the output holds its bytes in order, each mark as a mark
pub record ReadsAs (words output ws : List ℕ) : Type 0 where
  pub answer : read_image_rule words (length output) ≡ accepted (length ws)
  pub front : take (length ws) (read_image_output words output) ≡ ws

pub record Images : Type 0 where
  -- the number of ones in a word is the number of transitions it carries: the cells that end in its eight pairs of bits
  pub ones_are_transitions
      : (before w : ℕ)
      → is_byte w ≡ true
      → ones (word_of (last_bit before) w) ≡ length (cells_of (symbols_from (last_bit before) (written_bits w)))
  -- the distances between ones, with 1 0 set before the image and a clock bit for a 0, then 0 1, set after it, are the
  -- writer's cells
  pub distances_are_cells
      : (ws : List ℕ) → everywhere is_byte ws ≡ true → distances (framed (image_of ws)) ≡ written_cells ws
  -- images become items again: what was made of a list reads as its written bytes
  pub made_reads_back
      : (items made output : List ℕ)
      → (make_rule items (length made)).number ≡ 0
      → length (written items) ≤ length output
      → ReadsAs (take (make_rule items (length made)).count (make_output items made)) output (written items)
  -- and what reading accepts is the image of exactly the list that it gives
  pub read_is_made
      : (words output : List ℕ)
      → (read_image_rule words (length output)).number ≡ 0
      → (ws : List ℕ)
      × (everywhere is_byte ws ≡ true)
      × ((list_rule ws).number ≡ 0)
      × ReadsAs words output ws
      × (image_of (written ws) ≡ words)
  -- two different lists of data and mark bytes never give one image
  pub one_list
      : (us ws : List ℕ)
      → everywhere is_byte us ≡ true
      → everywhere is_byte ws ≡ true
      → image_of us ≡ image_of ws
      → us ≡ ws
