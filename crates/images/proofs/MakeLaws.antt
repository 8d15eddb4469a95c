-- What making stores: the written bytes fill the front, and turned into words they are the image. Rests on no axiom.
use Prim.Native.Nat.{ℕ, suc, ◌+◌, ◌≤◌, ◌<◌}
use mathlib.Core.Path.{◌≡◌, sym, ap, ap₂, ◌∙◌}
use mathlib.Core.List.{List, [], ◌∷◌, ◌++◌, append_assoc}
use native.Mathlib.Numerals.{add-one}
use native.Mathlib.Omega.{arith}
use lib.ListN.{length, get_or, set, take, drop}
use lib.Seq.{drop-append_seam, drop-cons, take-suc-set, drop-set-lt}
use Rattle.lists.specs.Filled.{filled, stored_at}
use Rattle.lists.proofs.StoreLaws.{stored_at_front_fills, front_of_filled}
use Rattle.refusal.specs.Answer.{accepted, refused}
use Rattle.items.specs.Item.{written_bytes}
use Rattle.items.specs.Rule.{list_rule}
use Rattle.items.specs.Written.{written}
use Rattle.items.proofs.WrittenLaws.{length_of_written}
use Rattle.symbols.specs.Bits.{O}
use Rattle.words.specs.Words.{word_of, last_bit}
use Rattle.images.specs.Image.{image_from, image_of}
use Rattle.images.specs.Rules.{make_rule, make_output}
use Rattle.images.proofs.ImageLaws.{length_of_image}
use Rattle.images.proofs.RuleLaws.{room_refuses, room_accepts}

-- ---- a turn of the words: a byte's word, and then the image of the rest, are the image from the byte on

pub word_then_rest
    : (bytes : List ℕ) (k previous word : ℕ)
    → k < length bytes
    → word ≡ word_of (last_bit previous) (get_or bytes k 0)
    → take (k + 1) (set bytes k word) ++ image_from (last_bit (get_or bytes k 0)) (drop (k + 1) (set bytes k word))
    ≡ take k bytes ++ image_from (last_bit previous) (drop k bytes)
unfolding image_from
word_then_rest bytes k previous word h e =
    let next : k < suc k = omega arith in
    rw (add-one, take-suc-set, drop-set-lt, drop-cons bytes k 0, ← e) (append_assoc (take k bytes) (word ∷ []) _)

-- ---- an accepted list

module _ (items old : List ℕ) (listed : (list_rule items).number ≡ 0) where
  pub make_refuses
      : (n : ℕ)
      → n ≡ written_bytes items
      → length old < n
      → (refused 9 0 ≡ make_rule items (length old)) × (old ≡ make_output items old)
  unfolding make_rule make_output
  make_refuses n count h = room_refuses (list_rule items) _ _ old listed (rw (length_of_written items, ← count) h)

  -- the buffer after the written bytes, and the words that they become
  module _ (stored : List ℕ) (n : ℕ) (count : n ≡ written_bytes items)
      (stores : stored ≡ stored_at old 0 (written items)) (room : n ≤ length old) where
    written_count : length (written items) ≡ n
    written_count = length_of_written items ∙ sym count

    fills : stored ≡ filled (written items) old
    fills = stores ∙ stored_at_front_fills (written items) old (rw written_count room)

    front_is_written : take n stored ≡ written items
    front_is_written = rw (fills, ← written_count) (front_of_filled (written items) old)

    rest_is_kept : drop n stored ≡ drop n old
    unfolding filled
    rest_is_kept = rw (fills, ← written_count) (drop-append_seam (written items) _)

    pub make_accepts
        : (words : List ℕ)
        → words ≡ image_of (take n stored)
        → (accepted n ≡ make_rule items (length old)) × (words ++ drop n stored ≡ make_output items old)
    unfolding make_rule make_output filled image_of
    make_accepts words turned =
        let image = image_of (written items) in
        let (rule, output) = room_accepts (list_rule items) n image old listed room in
        rw written_count (
          rule,
          ap₂ ◌++◌ (turned ∙ ap image_of front_is_written)
              (rest_is_kept ∙ ap (λ (k : ℕ). drop k old) (sym (length_of_image O (written items) ∙ written_count)))
              ∙ output,
        )
