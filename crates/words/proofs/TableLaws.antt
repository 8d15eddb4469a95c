-- Each entry of the table is the word of its previous bit and byte: the rule was computed over the whole table, and a
-- lemma carries it to each index. Rests on no axiom.
use Prim.Native.Nat.{ℕ, ◌+◌, ◌*◌, ◌/◌, ◌%◌}
use mathlib.Core.Path.{◌≡◌, ap, ap₂, ◌∙◌}
use mathlib.Core.Bool.{cond}
use mathlib.Core.List.{List}
use native.Mathlib.Omega.{arith}
use borrow.Author.Tests.{ne_eqb}
use lib.Dec.{eqb}
use lib.ListN.{get_or}
use Rattle.lists.proofs.TableLaws.{entry_is_rule}
use Rattle.items.specs.Item.{is_mark}
use Rattle.symbols.specs.Bits.{Bit, O, I, byte_bits}
use Rattle.symbols.specs.Bytes.{number_from}
use Rattle.words.specs.Words.{clocked, data_word, word_of, last_bit, word_at, code_words}

-- only the eight lowest bits of a number that is no mark count
bits_of_low_byte : (w : ℕ) → byte_bits (w % 256) ≡ byte_bits w
unfolding byte_bits
bits_of_low_byte w =
    rw (
      at 128 (omega arith),
      at 64 (omega arith),
      at 32 (omega arith),
      at 16 (omega arith),
      at 8 (omega arith),
      at 4 (omega arith),
      at 2 (omega arith),
      at 1 (omega arith),
    )
  where
    at : (weight : ℕ) → w % 256 / weight % 2 ≡ w / weight % 2 → w % 256 / weight % 2 ≡ w / weight % 2
    at weight e = e

pub entry_is_word
    : (previous w : ℕ)
    → (w ≡ 0x1a1 → ⊥)
    → (w ≡ 0x1c2 → ⊥)
    → get_or code_words (previous % 2 * 256 + w % 256) 0 ≡ word_of (last_bit previous) w
unfolding code_words word_at word_of is_mark last_bit data_word
entry_is_word previous w not_a1 not_c2 =
    let k = previous % 2 * 256 + w % 256 in
    let bit : k / 256 % 2 ≡ previous % 2 = omega arith in
    let byte : k % 256 ≡ w % 256 = omega arith in
    rw (ne_eqb w 0x1a1 not_a1, ne_eqb w 0x1c2 not_c2) (entry_is_rule word_at 512 k 0 (omega arith)
    ∙ ap₂ (λ (b : ℕ) (v : ℕ). data_word (cond (eqb b 1) I O) v) bit byte
    ∙ ap (λ (bits : List Bit). number_from 0 (clocked (last_bit previous) bits)) (bits_of_low_byte w))
