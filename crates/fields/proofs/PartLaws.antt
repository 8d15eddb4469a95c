-- One part of a pass: the front of its buffer holds its words, and what is left to read, to store and to sum up after it
-- is what was left before it. Rests on no axiom.
use Prim.Native.Nat.{ℕ, ◌+◌, ◌-◌, ◌*◌, ◌^◌, ◌≤◌, ◌<◌}
use mathlib.Core.Path.{◌≡◌, sym, ap, ◌∙◌}
use mathlib.Core.List.{List, ◌++◌, map, map-append}
use native.Mathlib.Omega.{arith}
use lib.ListN.{length, take, drop, length-map}
use lib.Seq.{length_front}
use Rattle.lists.specs.Filled.{stored_at}
use Rattle.lists.proofs.StoreLaws.{stored_next, stored_length, front_of_stored}
use Rattle.items.specs.Written.{after_bytes}
use Rattle.items.specs.declared.Check.{Check}
use Rattle.items.proofs.CheckLaws.{after_bytes-append}
use Rattle.half_cells.specs.machine.Candidate.{candidate}
use Rattle.shifts.specs.machine.Pass.{after}
use Rattle.passes.specs.machine.Blocks.{rest_from, words_of, Reaches}
use Rattle.passes.specs.declared.block.Progress.{Progress}
use Rattle.passes.proofs.BlockLaws.{Fair, rest_goes_on, words_more, words_fit}

-- the items of what is left of a pass
abbrev pub items_left : ℕ → List ℕ → Progress → List ℕ
items_left n ds at = map candidate (rest_from n ds at).words

-- a part of `size` intervals, and a buffer of `room` words
pub record Part (size room n : ℕ) (ds : List ℕ) (at next : Progress) (buffer : List ℕ) : Type 0 where
  pub reaches : Reaches size n ds at next
  pub small : n < 2 ^ 32
  pub fair : Fair ds at
  pub more : next.pass.reading.words ≡ at.pass.reading.words + length (words_of size n ds at)
  pub few : length (words_of size n ds at) ≤ room
  pub long : length buffer ≡ room
  pub front : take (next.pass.reading.words - at.pass.reading.words) buffer ≡ words_of size n ds at

pub read_part
    : {size room n : ℕ} {ds : List ℕ} {at next : Progress} (old new : List ℕ)
    → Reaches size n ds at next
    → n < 2 ^ 32
    → Fair ds at
    → 16 + 4 * size ≤ 16 * room
    → length old ≡ room
    → new ≡ stored_at old 0 (words_of size n ds at)
    → Part size room n ds at next new
read_part {size} {room} {n} {ds} {at} {next} old new reaches small fair enough long stored =
    let more = words_more n ds at size next reaches small fair in
    let few = words_fit n ds at size next reaches small fair in
    let count = next.pass.reading.words - at.pass.reading.words in
    record {
      reaches = reaches;
      small = small;
      fair = fair;
      more = more;
      few = omega arith;
      long = ap length stored ∙ stored_length _ _ _ ∙ long;
      front = rw stored (front_of_stored (words_of size n ds at) old count (omega arith) (omega arith));
    }

module _ {size room n : ℕ} {ds : List ℕ} {at next : Progress} {buffer : List ℕ} (part : Part size room n ds at next buffer) where
  abbrev words : List ℕ
  words = words_of size n ds at

  abbrev count : ℕ
  count = next.pass.reading.words - at.pass.reading.words

  pub still_long : (new : List ℕ) → length new ≡ length (take count buffer) → length (new ++ drop count buffer) ≡ room
  still_long new e = length_front buffer new count e ∙ part.long

  pub goes_on : rest_from n ds at ≡ after words (rest_from n ds next)
  goes_on = rest_goes_on n ds at size next part.reaches part.small part.fair

  pub items_left_lem : items_left n ds at ≡ map candidate words ++ items_left n ds next
  items_left_lem = rw goes_on (map-append candidate words (rest_from n ds next).words)

  pub sum_goes_on
      : (check new : Check)
      → new ≡ after_bytes check (map candidate words)
      → after_bytes new (items_left n ds next) ≡ after_bytes check (items_left n ds at)
  sum_goes_on check new e =
      rw (e, items_left_lem) (sym (after_bytes-append check (map candidate words) (items_left n ds next)))

  pub store_goes_on
      : (out new : List ℕ)
      → new ≡ stored_at out at.pass.reading.words (map candidate words)
      → stored_at new next.pass.reading.words (items_left n ds next)
      ≡ stored_at out at.pass.reading.words (items_left n ds at)
  store_goes_on out new e =
      rw items_left_lem (stored_next (map candidate words) (items_left n ds next) out new _ _ e
      (omega (arith, part.more, length-map words candidate)))
