-- Each word, after either bit, has its byte's half cells, and only its byte is a candidate for it: one test, which antt
-- computes over the 256 data bytes and the two marks after a 0 and after a 1. Rests on no axiom.
use Prim.Native.Nat.{ℕ, ◌%◌}
use mathlib.Core.Path.{◌≡◌, refl}
use mathlib.Core.Bool.{Bool, true, false, cond, ◌&&◌, true≢false}
use mathlib.Core.List.{List, [], ◌∷◌}
use lib.Dec.{T, eqb, eqb→eq}
use Rattle.lists.specs.Place.{everywhere}
use Rattle.lists.proofs.PlaceLaws.{everywhere_passes_at_first, everywhere_in_rest}
use Rattle.items.specs.Item.{is_mark, is_byte}
use Rattle.half_cells.specs.machine.Candidate.{data_bits, candidate}
use Rattle.symbols.specs.Bits.{Bit, O, I, G, byte_bits, with_gaps, mark_bits, written_bits, last_of}
use Rattle.symbols.specs.Bytes.{number_from, is_gap}
use Rattle.symbols.proofs.TestLaws.{holds, parts}
use Rattle.symbols.proofs.RowLaws.{same_bit, same_bits, same_bit_lem, same_bits_lem, passes_below, over_bytes, over_bytes_lem}
use Rattle.symbols.proofs.CellLaws.{follows, sound}
use Rattle.symbols.proofs.HalfCells.{clock_after, data_of, cells_after}
use Rattle.words.specs.Words.{clock_bit, clocked, data_word, mark_word, word_of, last_bit}
use Rattle.images.specs.Distances.{half_cells}
use Rattle.images.specs.machine.TopBits.{top_bits}

-- ---- the test

-- the candidate for a byte's word is the byte; the word's half cells are those of the byte's letters, and it is their
-- number; its letters are sound and end in its last data bit; taken by its highest ones it has the same half cells; it
-- ends in the byte's last data bit
word_kept : Bit → ℕ → Bool
word_kept before w =
    eqb (candidate (word_of before w)) w && same_bits (half_cells (word_of before w)) (cells_after before (written_bits w))
    && eqb (word_of before w) (number_from 0 (cells_after before (written_bits w))) && sound before (written_bits w)
    && same_bit (last_of before (written_bits w)) (last_bit w)
    && (same_bits (top_bits 16 (word_of before w)) (half_cells (word_of before w))
    && same_bit (last_bit (word_of before w)) (last_bit w))

both_kept : ℕ → Bool
both_kept w = word_kept O w && word_kept I w

all_words_kept : T (over_bytes both_kept)
unfolding over_bytes passes_below both_kept word_kept candidate data_bits word_of is_mark mark_word data_word clocked clock_bit
    byte_bits top_bits number_from same_bits same_bit half_cells cells_after clock_after data_of written_bits mark_bits with_gaps
    sound follows last_of last_bit
all_words_kept = tt

-- ---- what it says of each word

pub record Kept (before : Bit) (w : ℕ) : Type 0 where
  pub candidate_is_byte : candidate (word_of before w) ≡ w
  pub half_cells_lem : half_cells (word_of before w) ≡ cells_after before (written_bits w)
  pub number : word_of before w ≡ number_from 0 (cells_after before (written_bits w))
  pub letters_are_sound : T (sound before (written_bits w))
  pub last_letter : last_of before (written_bits w) ≡ last_bit w
  pub top_bits_lem : top_bits 16 (word_of before w) ≡ half_cells (word_of before w)
  pub last_bit_lem : last_bit (word_of before w) ≡ last_bit w

kept_of_test : (before : Bit) (w : ℕ) → T (word_kept before w) → Kept before w
unfolding word_kept
kept_of_test before w t =
    record {
      candidate_is_byte = eqb→eq _ _ (search parts);
      half_cells_lem = same_bits_lem _ _ (search parts);
      number = eqb→eq _ _ (search parts);
      letters_are_sound = search parts;
      last_letter = same_bit_lem _ _ (search parts);
      top_bits_lem = same_bits_lem _ _ (search parts);
      last_bit_lem = same_bit_lem _ _ (search parts);
    }

pub word_is_kept : (before : Bit) (w : ℕ) → is_gap before ≡ false → is_byte w ≡ true → Kept before w
unfolding both_kept
word_is_kept O w d b = kept_of_test O w (search (parts, over_bytes_lem both_kept all_words_kept w (holds (is_byte w) b)))
word_is_kept I w d b = kept_of_test I w (search (parts, over_bytes_lem both_kept all_words_kept w (holds (is_byte w) b)))
word_is_kept G w d b = absurd (true≢false d)

pub last_bit_is_data : (w : ℕ) → is_gap (last_bit w) ≡ false
unfolding last_bit
last_bit_is_data w =
    elim (eqb (w % 2) 1) as (λ t. is_gap (cond t I O) ≡ false) [ true ↦ refl | false ↦ refl ]

-- ---- what it says of each word of a list

pub data AllKept : Bit → List ℕ → Type 0 where
  end : {b : Bit} → is_gap b ≡ false → AllKept b []
  more : {b : Bit} {w : ℕ} {ws : List ℕ} → is_gap b ≡ false → Kept b w → AllKept (last_bit w) ws → AllKept b (w ∷ ws)

pub all_kept : (b : Bit) (ws : List ℕ) → is_gap b ≡ false → everywhere is_byte ws ≡ true → AllKept b ws
all_kept b [] d bytes = end d
all_kept b (w ∷ ws) d bytes =
    more d (word_is_kept b w d (everywhere_passes_at_first is_byte w ws bytes))
    (all_kept (last_bit w) ws (last_bit_is_data w) (everywhere_in_rest is_byte w ws bytes))
