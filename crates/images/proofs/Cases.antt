-- The field's own words, and what is refused, by computing the definitions. Rests on no axiom.
use mathlib.Core.Path.{◌≡◌, refl}
use mathlib.Core.List.{[], ◌∷◌, map}
use Rattle.lists.specs.Place.{anywhere, lowest}
use Rattle.lists.specs.Table.{tabulated}
use Rattle.refusal.specs.Answer.{accepted, refused}
use Rattle.items.specs.Item.{is_mark}
use Rattle.symbols.specs.Bits.{O, I, byte_bits, last_of}
use Rattle.symbols.specs.Bytes.{number_from}
use Rattle.words.specs.Words.{clock_bit, clocked, data_word, mark_word, word_of, last_bit}
use Rattle.images.specs.Image.{image_from, image_of, all_bytes, is_unruly, byte_of, unruly_from, unruly_in}
use Rattle.images.specs.Rules.{words_rule}
use Rattle.images.specs.Distances.{half_cells, image_cells, framed, distances_from, distances}

-- sync 00, gap 4E, data A1 and marks A1 and C2 after a 0; 00 and mark A1 after a 1
published_words_after_0 :
    map (word_of O) (0x00 ∷ 0x4e ∷ 0xa1 ∷ 0x1a1 ∷ 0x1c2 ∷ []) ≡ 0xaaaa ∷ 0x9254 ∷ 0x44a9 ∷ 0x4489 ∷ 0x5224 ∷ []
unfolding word_of is_mark mark_word data_word clocked clock_bit byte_bits number_from
published_words_after_0 = refl

published_words_after_1 : map (word_of I) (0x00 ∷ 0x4e ∷ 0x1a1 ∷ []) ≡ 0x2aaa ∷ 0x1254 ∷ 0x4489 ∷ []
unfolding word_of is_mark mark_word data_word clocked clock_bit byte_bits number_from
published_words_after_1 = refl

-- the start of an ID field; its first cells after the lead 0 are those of 00, of mark A1 and of FE
id_field : image_of (0x00 ∷ 0x1a1 ∷ 0xfe ∷ []) ≡ 0xaaaa ∷ 0x4489 ∷ 0x5554 ∷ []
unfolding image_of image_from last_bit word_of is_mark mark_word data_word clocked clock_bit byte_bits number_from
id_field = refl

-- no word; mark A1 alone
few_distances :
    map (λ words. distances (framed words)) ([] ∷ (0x4489 ∷ []) ∷ [])
    ≡ (2 ∷ 2 ∷ []) ∷ (3 ∷ 4 ∷ 3 ∷ 4 ∷ 3 ∷ 3 ∷ []) ∷ []
unfolding distances distances_from framed image_cells half_cells byte_bits clock_bit last_of
few_distances = refl

-- no word; 00 twice; a word that 00 has after a 1 only, after a 0; a word of no clock and no data
refused_words :
    map words_rule ([] ∷ (0xaaaa ∷ 0xaaaa ∷ []) ∷ (0xaaaa ∷ 0x2aaa ∷ []) ∷ (0x0000 ∷ []) ∷ [])
    ≡ accepted 0 ∷ accepted 0 ∷ refused 16 1 ∷ refused 16 0 ∷ []
unfolding words_rule unruly_in unruly_from is_unruly byte_of anywhere lowest all_bytes tabulated last_bit word_of is_mark
    mark_word data_word clocked clock_bit byte_bits number_from
refused_words = refl
