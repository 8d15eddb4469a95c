-- Why a data byte's bits, moved apart, with the clock bits between them, are its word: one equation, which antt
-- computes over each previous bit and byte, and a lemma that carries it to each. Rests on no axiom.
use Prim.Native.Nat.{ℕ, ◌+◌, ◌*◌, ◌/◌, ◌%◌}
use mathlib.Core.Path.{◌≡◌, refl, sym, ap, ap₂, ◌∙◌}
use mathlib.Core.Bool.{true, false, cond}
use mathlib.Core.List.{List}
use native.Mathlib.Omega.{arith}
use borrow.Author.Tests.{eqb-true, eqb-false}
use lib.Dec.{eqb}
use lib.ListN.{get_or}
use Rattle.lists.specs.Table.{tabulated}
use Rattle.lists.proofs.TableLaws.{entry_is_rule}
use Rattle.items.specs.Item.{is_mark}
use Rattle.symbols.specs.Bits.{byte_bits}
use Rattle.symbols.specs.Bytes.{number_from}
use Rattle.words.specs.Words.{clock_bit, clocked, data_word, mark_word, word_of, last_bit, word_at, code_words}
use Rattle.words.specs.machine.Spread.{spread_word}
use Rattle.words.proofs.TableLaws.{entry_is_word}

spread_at : ℕ → ℕ
spread_at k = spread_word (k / 256) (k % 256)

all_words_spread : tabulated spread_at 0 512 ≡ code_words
unfolding code_words tabulated word_at last_bit data_word clocked clock_bit byte_bits number_from spread_at spread_word
all_words_spread = refl

pub spread_is_word
    : (previous w : ℕ)
    → (w ≡ 0x1a1 → ⊥)
    → (w ≡ 0x1c2 → ⊥)
    → spread_word (previous % 2) (w % 256) ≡ word_of (last_bit previous) w
unfolding spread_at
spread_is_word previous w not_a1 not_c2 =
    let k = previous % 2 * 256 + w % 256 in
    let bit : k / 256 ≡ previous % 2 = omega arith in
    let byte : k % 256 ≡ w % 256 = omega arith in
    ap₂ spread_word (sym bit) (sym byte)
    ∙ sym (entry_is_rule spread_at 512 k 0 (omega arith))
    ∙ ap (λ (table : List ℕ). get_or table k 0) all_words_spread
    ∙ entry_is_word previous w not_a1 not_c2
