-- An image and the bytes that it reads as determine each other: word by word the byte is the candidate, and the next
-- previous bit is the byte's last. Rests on no axiom.
use Prim.Native.Nat.{ℕ, suc}
use mathlib.Core.Path.{◌≡◌, refl, sym, ap, ap₂, ◌∙◌}
use mathlib.Core.Bool.{Bool, true, false, not, ◌&&◌}
use mathlib.Core.List.{List, [], ◌∷◌, map}
use lib.ListN.{length}
use borrow.Author.Tests.{eqb-true, eq-eqb}
use Rattle.lists.specs.Place.{anywhere, everywhere, lowest, passed}
use Rattle.lists.proofs.PlaceLaws.{nowhere_fails_at_first, nowhere_in_rest, anywhere_of_none, anywhere_of_failing}
use Rattle.lists.proofs.PlaceLaws.{everywhere_of_none, everywhere_of_passing, lowest_of_passing, lowest_of_failing}
use Rattle.items.specs.Item.{is_byte}
use Rattle.half_cells.specs.machine.Candidate.{candidate}
use Rattle.symbols.specs.Bits.{Bit}
use Rattle.symbols.specs.Bytes.{is_gap}
use Rattle.words.specs.Words.{word_of, last_bit}
use Rattle.images.specs.Image.{image_from, has_word, is_unruly, byte_of, unruly_from, bytes_from}
use Rattle.images.proofs.WordLaws.{word_is_kept, last_bit_is_data, AllKept, end, more}
use Rattle.images.proofs.ReadLaws.{candidate_is_byte, ruly_where_candidate_has, candidate_has_where_ruly}
use Rattle.images.proofs.ReadLaws.{unruly_where_candidate_lacks}

-- ---- how many

pub length_of_image : (b : Bit) (ws : List ℕ) → length (image_from b ws) ≡ length ws
unfolding image_from
length_of_image b [] = refl
length_of_image b (w ∷ ws) = ap suc (length_of_image (last_bit w) ws)

pub length_of_flags : (b : Bit) (words : List ℕ) → length (unruly_from b words) ≡ length words
unfolding unruly_from
length_of_flags b [] = refl
length_of_flags b (word ∷ words) = ap suc (length_of_flags (last_bit (byte_of b word)) words)

pub length_of_bytes : (b : Bit) (words : List ℕ) → length (bytes_from b words) ≡ length words
unfolding bytes_from
length_of_bytes b [] = refl
length_of_bytes b (word ∷ words) = ap suc (length_of_bytes (last_bit (byte_of b word)) words)

-- ---- the lowest unruly word, one word more at the front

module _ (b : Bit) (data_bit : is_gap b ≡ false) (word : ℕ) (words : List ℕ) where
  pub lowest_after_ruly : has_word b word (candidate word) ≡ true
      → lowest passed (unruly_from b (word ∷ words)) ≡ suc (lowest passed (unruly_from (last_bit (candidate word)) words))
  unfolding unruly_from
  lowest_after_ruly e =
      let ruly = ruly_where_candidate_has b data_bit word e in
      lowest_of_failing passed (is_unruly b word) _ ruly.0
      ∙ ap (λ (w : ℕ). suc (lowest passed (unruly_from (last_bit w) words))) ruly.1

  pub lowest_is_unruly : has_word b word (candidate word) ≡ false → lowest passed (unruly_from b (word ∷ words)) ≡ 0
  unfolding unruly_from
  lowest_is_unruly e =
      lowest_of_passing passed (is_unruly b word) _ (unruly_where_candidate_lacks b data_bit word e)

  -- whether one is
  pub some_after_ruly : has_word b word (candidate word) ≡ true
      → anywhere passed (unruly_from b (word ∷ words)) ≡ anywhere passed (unruly_from (last_bit (candidate word)) words)
  unfolding unruly_from
  some_after_ruly e =
      let ruly = ruly_where_candidate_has b data_bit word e in
      anywhere_of_failing passed (is_unruly b word) _ ruly.0
      ∙ ap (λ (w : ℕ). anywhere passed (unruly_from (last_bit w) words)) ruly.1

  pub some_is_unruly : has_word b word (candidate word) ≡ false → anywhere passed (unruly_from b (word ∷ words)) ≡ true
  unfolding unruly_from anywhere
  some_is_unruly e = rw (unruly_where_candidate_lacks b data_bit word e)

  -- and whether none is
  pub none_unruly_from
      : not (anywhere passed (unruly_from b (word ∷ words)))
      ≡ (has_word b word (candidate word) && not (anywhere passed (unruly_from (last_bit word) words)))
  unfolding unruly_from anywhere
  none_unruly_from = by (has_word b word (candidate word)) refl
    where
      by
          : (t : Bool)
          → has_word b word (candidate word) ≡ t
          → not (anywhere passed (unruly_from b (word ∷ words)))
          ≡ (t && not (anywhere passed (unruly_from (last_bit word) words)))
      by true e =
          let (ruly, own) = ruly_where_candidate_has b data_bit word e in
          let kept = word_is_kept b (candidate word) data_bit (candidate_is_byte word) in
          let last = sym kept.last_bit_lem ∙ ap last_bit (eqb-true (word_of b (candidate word)) word e) in
          rw (ruly, own, last)
      by false e = rw (unruly_where_candidate_lacks b data_bit word e)

-- ---- words of which none is unruly

pub record Read (b : Bit) (words : List ℕ) : Type 0 where
  pub candidates : bytes_from b words ≡ map candidate words
  pub image : image_from b (bytes_from b words) ≡ words
  pub bytes : everywhere is_byte (bytes_from b words) ≡ true

pub ruly_is_read : (b : Bit) (words : List ℕ) → is_gap b ≡ false → anywhere passed (unruly_from b words) ≡ false
    → Read b words
unfolding unruly_from bytes_from image_from
ruly_is_read b [] d none = record { candidates = refl; image = refl; bytes = everywhere_of_none is_byte }
ruly_is_read b (word ∷ words) d none =
    let has = candidate_has_where_ruly b d word (nowhere_fails_at_first passed (is_unruly b word) _ none) in
    let own = (ruly_where_candidate_has b d word has).1 in
    let rest =
    ruly_is_read (last_bit (byte_of b word)) words (last_bit_is_data (byte_of b word))
    (nowhere_in_rest passed (is_unruly b word) _ none) in
    record {
      candidates = ap₂ ◌∷◌ own rest.candidates;
      image = ap₂ ◌∷◌ (ap (word_of b) own ∙ eqb-true (word_of b (candidate word)) word has) rest.image;
      bytes = everywhere_of_passing is_byte (byte_of b word) _ (ap is_byte own ∙ candidate_is_byte word) ∙ rest.bytes;
    }

-- ---- words that were made

pub read_of_made : {b : Bit} {ws : List ℕ} → AllKept b ws
    → (anywhere passed (unruly_from b (image_from b ws)) ≡ false) × (bytes_from b (image_from b ws) ≡ ws)
unfolding unruly_from bytes_from image_from
read_of_made (end d) = (anywhere_of_none passed, refl)
read_of_made (more {b} {w} {ws} d kept rest) =
    let word = word_of b w in
    let has = ap (has_word b word) kept.candidate_is_byte ∙ eq-eqb word word refl in
    let (ruly, candidate) = ruly_where_candidate_has b d word has in
    let own = candidate ∙ kept.candidate_is_byte in
    let (others, read) = read_of_made rest in (
      anywhere_of_failing passed (is_unruly b word) _ ruly
          ∙ ap (λ (v : ℕ). anywhere passed (unruly_from (last_bit v) (image_from (last_bit w) ws))) own
          ∙ others,
      ap₂ ◌∷◌ own (ap (λ (v : ℕ). bytes_from (last_bit v) (image_from (last_bit w) ws)) own ∙ read),
    )
