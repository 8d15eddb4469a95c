-- What an accepted answer says of each test on the way, and that an input which passes them all is accepted: making
-- and reading make the tests of their rules in order. Rests on no axiom.
use Prim.Native.Nat.{ℕ, ◌≤◌, ◌<◌}
use mathlib.Core.Path.{◌≡◌, refl, sym}
use mathlib.Core.Bool.{true, false}
use mathlib.Core.List.{List, []}
use lib.Dec.{ltb}
use lib.ListN.{length, take}
use borrow.Author.Tests.{ltb-false, le-ltb, lt-ltb, eq-eqb}
use Rattle.lists.specs.Place.{anywhere, lowest, passed}
use Rattle.lists.specs.Filled.{filled}
use Rattle.lists.proofs.PlaceLaws.{lowest_of_some}
use Rattle.lists.proofs.StoreLaws.{front_of_filled}
use Rattle.refusal.specs.Answer.{Answer, accepted, refused, first_refusal, settled}
use Rattle.refusal.proofs.AnswerLaws.{first_refusal_accepts, refuse_if_accepts}
use Rattle.items.specs.Rule.{list_rule}
use Rattle.items.specs.Written.{written}
use Rattle.symbols.specs.Bits.{O}
use Rattle.images.specs.Image.{image_of, unruly_in, bytes_in}
use Rattle.images.specs.Rules.{room_rule, make_rule, make_output, words_rule, read_image_rule, read_image_output}
use Rattle.images.specs.Claims.{ReadsAs}
use Rattle.images.proofs.ImageLaws.{length_of_image, length_of_flags}

-- ---- room, after a rule that is passed

pub accepted_in_room : (rule : Answer) (count room : ℕ) → (first_refusal rule (room_rule count room)).number ≡ 0
    → (rule.number ≡ 0) × (count ≤ room)
unfolding room_rule
accepted_in_room rule count room h =
    let (passes, fits) = first_refusal_accepts rule _ h in
    (passes, ltb-false room count (refuse_if_accepts (ltb room count) 8 0 _ fits).0)

module _ (rule : Answer) (count : ℕ) (result old : List ℕ) (passes : rule.number ≡ 0) where
  abbrev pub in_room : Answer
  in_room = first_refusal rule (room_rule count (length old))

  pub room_refuses : length old < count → (refused 9 0 ≡ in_room) × (old ≡ settled in_room result old)
  unfolding room_rule
  room_refuses h = rw (eq-eqb rule.number 0 passes, lt-ltb (length old) count h) (refl, refl)

  pub room_accepts : count ≤ length old → (accepted count ≡ in_room) × (filled result old ≡ settled in_room result old)
  unfolding room_rule
  room_accepts h = rw (eq-eqb rule.number 0 passes, le-ltb (length old) count h) (refl, refl)

-- ---- making

-- the front of the output is the image
pub front_of_made : (items made : List ℕ) → (make_rule items (length made)).number ≡ 0
    → take (make_rule items (length made)).count (make_output items made) ≡ image_of (written items)
unfolding make_rule make_output image_of
front_of_made items made h =
    let count = length_of_image O (written items) in
    let (listed, fits) = accepted_in_room (list_rule items) (length (written items)) (length made) h in
    let rule = (room_accepts (list_rule items) (length (written items)) [] made listed fits).0 in
    rw (← rule, ← count) (front_of_filled (image_of (written items)) made)

-- ---- reading: the words

module _ (words : List ℕ) where
  flags_count : length (unruly_in words) ≡ length words
  unfolding unruly_in
  flags_count = length_of_flags O words

  pub rule_of_too_many : 6400 < length words → refused 4 0 ≡ words_rule words
  unfolding words_rule
  rule_of_too_many h = rw (lt-ltb 6400 (length words) h)

  -- the lowest place
  abbrev pub lowest_unruly : ℕ
  lowest_unruly = lowest passed (unruly_in words)

  pub place_is_inside : anywhere passed (unruly_in words) ≡ true → lowest_unruly < length words
  place_is_inside e = rw flags_count at (lowest_of_some passed (unruly_in words) e)

  pub rule_of_unruly
      : (k : ℕ)
      → length words ≤ 6400
      → anywhere passed (unruly_in words) ≡ true
      → k ≡ lowest_unruly
      → refused 16 k ≡ words_rule words
  unfolding words_rule
  rule_of_unruly k few some place = rw (le-ltb 6400 (length words) few, some, place)

  pub rule_of_ruly : length words ≤ 6400 → anywhere passed (unruly_in words) ≡ false → accepted 0 ≡ words_rule words
  unfolding words_rule
  rule_of_ruly few none = rw (le-ltb 6400 (length words) few, none)

  pub words_of_accepted : (words_rule words).number ≡ 0
      → (length words ≤ 6400) × (anywhere passed (unruly_in words) ≡ false)
  unfolding words_rule
  words_of_accepted h =
      let few = refuse_if_accepts (ltb 6400 (length words)) 3 0 _ h in
      let ruly = refuse_if_accepts (anywhere passed (unruly_in words)) 15 lowest_unruly _ few.1 in
      (ltb-false 6400 (length words) few.0, ruly.0)

  pub accepted_of_words : length words ≤ 6400 → anywhere passed (unruly_in words) ≡ false → (words_rule words).number ≡ 0
  unfolding words_rule
  accepted_of_words few ruly = rw (le-ltb 6400 (length words) few, ruly)

-- ---- reading

-- words that pass read as their bytes
pub reads_as_its_bytes : (words output ws : List ℕ) → (words_rule words).number ≡ 0 → length words ≤ length output
    → length ws ≡ length words → bytes_in words ≡ ws → ReadsAs words output ws
unfolding read_image_rule read_image_output
reads_as_its_bytes words output ws ruly room count e =
    let (rule, stored) = room_accepts (words_rule words) (length words) (bytes_in words) output ruly room in
    record { answer = rw count (sym rule); front = rw (← stored, e) (front_of_filled ws output) }
