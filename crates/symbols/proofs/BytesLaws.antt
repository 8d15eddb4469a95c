-- The letters of a list of bytes fall into rows of eight, each the row of its byte; and letters that fall into rows
-- without a gap out of place are the letters of the bytes that they read as.
use Rattle.std.proofs.Common.{◌≡◌, ℕ, ◌*◌, ◌%◌, ◌<◌, true, false, cond, List, [], ◌∷◌, ◌++◌, map, length, sym, refl, ap, ◌∙◌, append_assoc, arith, length-append}
use Rattle.lists.specs.Place.{anywhere, everywhere, passed}
use Rattle.lists.proofs.PlaceLaws.{anywhere-append, everywhere_of_none, everywhere_of_passing}
use Rattle.lists.proofs.PlaceLaws.{everywhere_passes_at_first, everywhere_in_rest}
use Rattle.items.specs.Item.{is_mark, is_byte}
use Rattle.symbols.specs.Bits.{Bit, O, byte_bits, mark_bits, with_gaps, written_bits, all_bits}
use Rattle.symbols.specs.Bytes.{item_of, row_strays, rows_of, strays_of, items_read, strays_read}
use Rattle.symbols.proofs.TestLaws.{neither, holds, held}
use Rattle.symbols.proofs.PlaceLaws.{by_rows, rows_append, one_row}
use Rattle.symbols.proofs.RowLaws.{item_of_written_byte, written_byte_has_no_stray, row, row_is_a_byte}
use Rattle.symbols.proofs.RowLaws.{written_of_row}

-- From bytes to rows

-- the letters of a written byte are a row of eight
written_row_is_eight : (w : ℕ) → length (written_bits w) ≡ 8
unfolding written_bits mark_bits with_gaps byte_bits
written_row_is_eight w =
    elim (is_mark w) as (λ t. length (cond t (mark_bits (w % 256)) (byte_bits w)) ≡ 8) [ true ↦ refl | false ↦ refl ]

written_row : (w : ℕ) (bs : List Bit) → rows_of (written_bits w ++ bs) ≡ written_bits w ∷ rows_of bs
written_row w bs =
    let eight = written_row_is_eight w in
    rw (rows_append (written_bits w) bs (rw eight), one_row (written_bits w) eight)

pub length_of_bits : (ws : List ℕ) → length (all_bits ws) ≡ 8 * length ws
unfolding all_bits
length_of_bits [] = refl
length_of_bits (w ∷ ws) =
    omega (arith, length-append (written_bits w) (all_bits ws), written_row_is_eight w, length_of_bits ws)

-- the rows of bytes, with the closing 0 left over
pub bits_of-append : (vs ws : List ℕ) → all_bits (vs ++ ws) ≡ all_bits vs ++ all_bits ws
unfolding all_bits
bits_of-append [] ws = refl
bits_of-append (v ∷ vs) ws =
    rw (bits_of-append vs ws, append_assoc)

pub rows_of_bytes : (ws : List ℕ) → rows_of (all_bits ws ++ (O ∷ [])) ≡ map written_bits ws
unfolding all_bits rows_of
rows_of_bytes [] = refl
rows_of_bytes (w ∷ ws) = rw (append_assoc (written_bits w), written_row w, rows_of_bytes ws)

-- the rows of bytes alone
pub rows_of_whole_bytes : (ws : List ℕ) → rows_of (all_bits ws) ≡ map written_bits ws
unfolding all_bits rows_of
rows_of_whole_bytes [] = refl
rows_of_whole_bytes (w ∷ ws) = rw (written_row w, rows_of_whole_bytes ws)

pub items_of_rows : (ws : List ℕ) → everywhere is_byte ws ≡ true → map item_of (map written_bits ws) ≡ ws
items_of_rows [] e = refl
items_of_rows (w ∷ ws) e =
    rw (
      item_of_written_byte w (holds (is_byte w) (everywhere_passes_at_first is_byte w ws e)),
      items_of_rows ws (everywhere_in_rest is_byte w ws e),
    )

pub rows_have_no_stray :
    (ws : List ℕ) → everywhere is_byte ws ≡ true → anywhere passed (strays_of (map written_bits ws)) ≡ false
unfolding strays_of anywhere
rows_have_no_stray [] e = refl
rows_have_no_stray (w ∷ ws) e =
    rw (
      anywhere-append passed (row_strays (written_bits w)),
      written_byte_has_no_stray w (holds (is_byte w) (everywhere_passes_at_first is_byte w ws e)),
      rows_have_no_stray ws (everywhere_in_rest is_byte w ws e),
    )

-- the bits of bytes, after the lead, read as those bytes
pub items_of_whole_bytes : (ws : List ℕ) → everywhere is_byte ws ≡ true → items_read (O ∷ all_bits ws) ≡ ws
unfolding items_read
items_of_whole_bytes ws e = rw (rows_of_whole_bytes ws) (items_of_rows ws e)

pub whole_bytes_have_no_stray :
    (ws : List ℕ) → everywhere is_byte ws ≡ true → anywhere passed (strays_read (O ∷ all_bits ws)) ≡ false
unfolding strays_read anywhere
whole_bytes_have_no_stray ws e = rw (rows_of_whole_bytes ws) (rows_have_no_stray ws e)

-- From rows to bytes

-- what letters are that have one letter more than whole rows, and no gap out of place
pub record Whole (bs : List Bit) : Type 0 where
  pub last : Bit
  pub letters : bs ≡ all_bits (map item_of (rows_of bs)) ++ (last ∷ [])
  pub bytes : everywhere is_byte (map item_of (rows_of bs)) ≡ true

-- a row without a gap out of place in front of such letters
whole_row :
    (a b c d e f g h : Bit) (bs : List Bit) → anywhere passed (row_strays (row a b c d e f g h)) ≡ false → Whole bs
    → Whole (row a b c d e f g h ++ bs)
unfolding rows_of all_bits
whole_row a b c d e f g h bs fair w =
    record {
      last = w.last;
      letters = rw (written_of_row a b c d e f g h fair) (ap (◌++◌ (row a b c d e f g h)) w.letters);
      bytes = everywhere_of_passing is_byte _ _ (held _ (row_is_a_byte a b c d e f g h fair)) ∙ w.bytes;
    }

one_letter :
    (bs : List Bit) → length bs < 8 → length bs % 8 ≡ 1 → anywhere passed (strays_of (rows_of bs)) ≡ false → Whole bs
unfolding rows_of all_bits
one_letter [] few n fair = absurd (omega arith)
one_letter (a ∷ []) few n fair = record { last = a; letters = refl; bytes = everywhere_of_none is_byte }
one_letter (a ∷ b ∷ bs) few n fair = absurd (omega arith)

pub whole : (bs : List Bit) → length bs % 8 ≡ 1 → anywhere passed (strays_of (rows_of bs)) ≡ false → Whole bs
unfolding rows_of strays_of
whole =
    by_rows (λ bs. length bs % 8 ≡ 1 → anywhere passed (strays_of (rows_of bs)) ≡ false → Whole bs) one_letter
    λ a b c d e f g h bs more n fair.
    let parts = neither _ _ (sym (anywhere-append passed (row_strays (row a b c d e f g h)) _) ∙ fair) in
    whole_row a b c d e f g h bs parts.0 (more (omega arith) parts.1)
