-- A word has one candidate: a byte that has the word is it, and the word is unruly just where the candidate does not
-- have it. So the search of the definition and the one compare of the code agree. Rests on no axiom.
use Prim.Native.Nat.{ℕ, ◌+◌, ◌/◌, ◌<◌}
use mathlib.Core.Path.{◌≡◌, refl, sym, ap, ◌∙◌}
use mathlib.Core.Bool.{Bool, true, false, cond, not, true≢false}
use mathlib.Core.Logic.{⊎_elim}
use native.Mathlib.Omega.{arith}
use lib.Bits.{bit_or, mask_lt}
use lib.Dec.{eqb, lit<}
use lib.ListN.{length, get_or, get_or-append}
use borrow.Author.Tests.{eqb-true, not-false}
use Rattle.lists.specs.Place.{anywhere, everywhere, lowest}
use Rattle.lists.specs.Table.{tabulated}
use Rattle.lists.proofs.PlaceLaws.{passes_at_lowest, anywhere_of_entry, everywhere_at_entry, lowest_of_some}
use Rattle.lists.proofs.TableLaws.{entry_is_rule}
use Rattle.items.specs.Item.{is_byte, is_mark}
use Rattle.items.proofs.ItemLaws.{data_is_byte, byte_is_data_or_mark, mark_is_a1_or_c2}
use Rattle.half_cells.specs.machine.Candidate.{fours, data_bits, candidate}
use Rattle.symbols.specs.Bits.{Bit}
use Rattle.symbols.specs.Bytes.{is_gap}
use Rattle.words.specs.Words.{word_of}
use Rattle.images.specs.Image.{all_bytes, has_word, is_unruly, byte_of}
use Rattle.images.proofs.WordLaws.{word_is_kept}

-- ---- every byte is among them, and nothing else

all_are_bytes : everywhere is_byte all_bytes ≡ true
unfolding everywhere is_byte is_mark all_bytes tabulated
all_are_bytes = refl

count_of_all : length all_bytes ≡ 258
unfolding all_bytes tabulated
count_of_all = refl

count_of_data : length (tabulated (λ (n : ℕ). n) 0 256) ≡ 256
unfolding tabulated
count_of_data = refl

marks_are_there : (get_or all_bytes 256 0 ≡ 0x1a1) × (get_or all_bytes 257 0 ≡ 0x1c2)
unfolding all_bytes tabulated
marks_are_there = (refl, refl)

data_are_there : (w : ℕ) → w < 256 → get_or all_bytes w 0 ≡ w
unfolding all_bytes
data_are_there w h =
    get_or-append (tabulated (λ (n : ℕ). n) 0 256) _ 0 w (rw count_of_data h)
    ∙ entry_is_rule (λ (n : ℕ). n) 256 w 0 h

among_all : (f : ℕ → Bool) (w : ℕ) → is_byte w ≡ true → f w ≡ true → anywhere f all_bytes ≡ true
among_all f w byte e =
    ⊎_elim (λ (h : w < 256). at w (omega arith) (data_are_there w h))
    (λ m. ⊎_elim (λ q. at 256 (lit< tt) (marks_are_there.0 ∙ sym q))
    (λ q. at 257 (lit< tt) (marks_are_there.1 ∙ sym q))
    (mark_is_a1_or_c2 w m))
    (byte_is_data_or_mark w byte)
  where
    at : (k : ℕ) → k < 258 → get_or all_bytes k 0 ≡ w → anywhere f all_bytes ≡ true
    at k h q = anywhere_of_entry f all_bytes 0 k (rw count_of_all h) (rw q e)

-- ---- the candidate

marks_are_bytes : (is_byte 0x1a1 ≡ true) × (is_byte 0x1c2 ≡ true)
unfolding is_byte is_mark
marks_are_bytes = (refl, refl)

data_bits_bound : (word : ℕ) → data_bits word < 256
unfolding data_bits
data_bits_bound word = mask_lt (bit_or (fours word) (fours word / 16)) 8

pub candidate_is_byte : (word : ℕ) → is_byte (candidate word) ≡ true
unfolding candidate
candidate_is_byte word =
    elim (eqb word 0x4489) as (λ t.
    is_byte (cond t (256 + 0xa1) (cond (eqb word 0x5224) (256 + 0xc2) (data_bits word))) ≡ true) [
      | true ↦ marks_are_bytes.0
      | false ↦
          elim (eqb word 0x5224) as (λ t. is_byte (cond t (256 + 0xc2) (data_bits word)) ≡ true)
          [ true ↦ marks_are_bytes.1 | false ↦ data_is_byte (data_bits word) (data_bits_bound word) ]
    ]

module _ (b : Bit) (data_bit : is_gap b ≡ false) (word : ℕ) where
  -- a byte that has the word is the candidate
  pub owner_is_candidate : (w : ℕ) → is_byte w ≡ true → has_word b word w ≡ true → w ≡ candidate word
  owner_is_candidate w byte e =
      sym (word_is_kept b w data_bit byte).candidate_is_byte ∙ ap candidate (eqb-true (word_of b w) word e)

  lowest_is_byte : anywhere (has_word b word) all_bytes ≡ true → is_byte (byte_of b word) ≡ true
  unfolding byte_of
  lowest_is_byte some =
      everywhere_at_entry is_byte all_bytes 0 (lowest (has_word b word) all_bytes) all_are_bytes
      (lowest_of_some (has_word b word) all_bytes some)

  lowest_has_word : anywhere (has_word b word) all_bytes ≡ true → has_word b word (byte_of b word) ≡ true
  unfolding byte_of
  lowest_has_word some = passes_at_lowest (has_word b word) all_bytes 0 some

  -- where the candidate has the word, it is its byte
  pub ruly_where_candidate_has : has_word b word (candidate word) ≡ true
      → (is_unruly b word ≡ false) × (byte_of b word ≡ candidate word)
  unfolding is_unruly
  ruly_where_candidate_has e =
      let some = among_all (has_word b word) (candidate word) (candidate_is_byte word) e in
      (ap not some, owner_is_candidate (byte_of b word) (lowest_is_byte some) (lowest_has_word some))

  -- and where some byte has it, the candidate does
  pub candidate_has_where_ruly : is_unruly b word ≡ false → has_word b word (candidate word) ≡ true
  unfolding is_unruly
  candidate_has_where_ruly e =
      let some = not-false (anywhere (has_word b word) all_bytes) e in
      ap (has_word b word) (sym (owner_is_candidate (byte_of b word) (lowest_is_byte some) (lowest_has_word some)))
      ∙ lowest_has_word some

  pub unruly_where_candidate_lacks : has_word b word (candidate word) ≡ false → is_unruly b word ≡ true
  unruly_where_candidate_lacks e =
      (elim (is_unruly b word) as (λ t. is_unruly b word ≡ t → t ≡ true)
      [ true ↦ λ q. refl | false ↦ λ q. absurd (true≢false (sym (candidate_has_where_ruly q) ∙ e)) ]) refl
