-- Request (v): the image of a list of written bytes, and the bytes of an image. No lemmas here.
use Rattle.std.specs.Prelude.{ℕ, ◌+◌, Bool, not, List, [], ◌∷◌, ◌++◌, eqb, get_or}
use Rattle.lists.specs.Place.{anywhere, lowest}
use Rattle.lists.specs.Table.{tabulated}
use Rattle.symbols.specs.Bits.{Bit, O}
use Rattle.words.specs.Words.{word_of, last_bit}

-- the words of written bytes, after a data bit; the previous bit of a word is the last data bit of the byte before
unfoldable pub image_from : Bit → List ℕ → List ℕ
image_from before [] = []
image_from before (w ∷ ws) = word_of before w ∷ image_from (last_bit w) ws

-- the list starts after data bit 0
unfoldable pub image_of : List ℕ → List ℕ
image_of ws = image_from O ws

-- every data byte and both marks
unfoldable pub all_bytes : List ℕ
all_bytes = tabulated (λ n. n) 0 256 ++ ((256 + 0xa1) ∷ (256 + 0xc2) ∷ [])

-- whether a byte has the word after a data bit
abbrev pub has_word : Bit → ℕ → ℕ → Bool
has_word before word w = eqb (word_of before w) word

-- 16, unruly: a word that no data byte after its previous bit and no mark has
unfoldable pub is_unruly : Bit → ℕ → Bool
is_unruly before word = not (anywhere (has_word before word) all_bytes)

-- the data byte or the mark that has the word
unfoldable pub byte_of : Bit → ℕ → ℕ
byte_of before word = get_or all_bytes (lowest (has_word before word) all_bytes) 0

-- at each word of an image, after a data bit, whether it is unruly
unfoldable pub unruly_from : Bit → List ℕ → List Bool
unruly_from before [] = []
unruly_from before (word ∷ words) = is_unruly before word ∷ unruly_from (last_bit (byte_of before word)) words

unfoldable pub unruly_in : List ℕ → List Bool
unruly_in words = unruly_from O words

-- the bytes of an image, after a data bit
unfoldable pub bytes_from : Bit → List ℕ → List ℕ
bytes_from before [] = []
bytes_from before (word ∷ words) = byte_of before word ∷ bytes_from (last_bit (byte_of before word)) words

unfoldable pub bytes_in : List ℕ → List ℕ
bytes_in words = bytes_from O words
