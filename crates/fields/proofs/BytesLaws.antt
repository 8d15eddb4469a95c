-- Items stored as bytes, part by part, those before a number passed over: what is left to store after a part is what was
-- left before it. Rests on no axiom.
use Prim.Native.Nat.{ℕ, zero, suc, ◌+◌, ◌-◌, ◌≤◌, ◌<◌, min}
use mathlib.Core.Path.{◌≡◌, refl, sym, ap, ◌∙◌}
use mathlib.Core.List.{List, [], ◌∷◌, ◌++◌, map, map-append}
use native.Mathlib.Decide.{dec_le}
use native.Mathlib.Omega.{arith}
use lib.ListN.{length, drop, get_or, set, length-map, length-drop, drop_of_length-le}
use lib.Seq.{drop-append-le, drop-append-add}
use Rattle.lists.specs.Filled.{stored_at}
use Rattle.lists.proofs.StoreLaws.{stored_none, stored_next, stored_rest}
use Rattle.half_cells.specs.machine.Candidate.{candidate}
use Rattle.passes.specs.machine.Blocks.{words_of}
use Rattle.passes.specs.declared.block.Progress.{Progress}
use Rattle.fields.specs.Bytes.{byte_of}
use Rattle.fields.proofs.PartLaws.{items_left, Part, items_left_lem}

pub byte_at : (items : List ℕ) (k : ℕ) → get_or (map byte_of items) k 0 ≡ byte_of (get_or items k 0)
unfolding byte_of
byte_at [] zero = refl
byte_at [] (suc k) = refl
byte_at (u ∷ us) zero = refl
byte_at (u ∷ us) (suc k) = byte_at us k

-- one byte, and then the rest of them
pub byte_then_rest
    : (out items : List ℕ) (at k : ℕ)
    → k < length items
    → stored_at (set out (at + k) (byte_of (get_or items k 0))) (at + suc k) (drop (suc k) (map byte_of items))
    ≡ stored_at out (at + k) (drop k (map byte_of items))
byte_then_rest out items at k h =
    rw (← byte_at items k) (stored_rest out (map byte_of items) at k 0 (omega (arith, length-map items byte_of)))

-- a part, the first of it the item of a number, and those behind it
pub part_then_rest
    : (out new part rest : List ℕ) (number next skip : ℕ)
    → new ≡ stored_at out (number - skip) (drop (skip - number) part)
    → next ≡ number + length part
    → stored_at new (next - skip) (drop (skip - next) rest)
    ≡ stored_at out (number - skip) (drop (skip - number) (part ++ rest))
part_then_rest out new part rest number next skip e is =
    elim (dec_le (skip - number) (length part)) [
      | yes within ↦
          let stored = length-drop (skip - number) part in
          let none : skip - next ≡ 0 = omega arith in
          rw (none, drop-append-le (skip - number) part rest within)
          (stored_next (drop (skip - number) part) rest out new (number - skip) (next - skip) e (omega arith))
      | no beyond ↦
          let before : next - skip ≡ number - skip = omega arith in
          let left : skip - number ≡ length part + (skip - next) = omega arith in
          let same : new ≡ out =
          e ∙ ap (stored_at out (number - skip)) (drop_of_length-le part {i = skip - number} (omega arith))
          ∙ stored_none out (number - skip) in
          rw (same, before)
          (ap (stored_at out (number - skip))
          (sym (ap (λ (k : ℕ). drop k (part ++ rest)) left ∙ drop-append-add part rest (skip - next))))
    ]

-- ---- one part

map_of_drop : (k : ℕ) (us : List ℕ) → map byte_of (drop k us) ≡ drop k (map byte_of us)
map_of_drop zero us = refl
map_of_drop (suc k) [] = refl
map_of_drop (suc k) (u ∷ us) = map_of_drop k us

module _ (out new items : List ℕ) (number skip : ℕ) where
  abbrev Stored : Type 0
  Stored = new ≡ stored_at out (number - skip) (drop (skip - number) (map byte_of items))

  pub all_stored : skip ≤ number → new ≡ stored_at out (number - skip) (map byte_of items) → Stored
  all_stored h e =
      let none : skip - number ≡ 0 = omega arith in e ∙ rw none refl

  pub rest_stored
      : (first : ℕ)
      → number ≤ skip
      → first ≡ min (skip - number) (length items)
      → new ≡ stored_at out 0 (map byte_of (drop first items))
      → Stored
  rest_stored first h is e =
      let here : number - skip ≡ 0 = omega arith in
      e
      ∙ rw here (ap (stored_at out 0)
      (map_of_drop first items
      ∙ (elim (dec_le (skip - number) (length items)) [
        | yes within ↦
            let same : first ≡ skip - number = omega arith in
            ap (λ (k : ℕ). drop k (map byte_of items)) same
        | no beyond ↦
            let as_many = length-map items byte_of in
            drop_of_length-le (map byte_of items) {i = first} (omega arith)
            ∙ sym (drop_of_length-le (map byte_of items) {i = skip - number} (omega arith))
      ])))

-- ---- part after part

pub bytes_go_on
    : {size room n : ℕ} {ds : List ℕ} {at next : Progress} {buffer : List ℕ} (part : Part size room n ds at next buffer)
    (skip : ℕ) (out new : List ℕ)
    → let number = at.pass.reading.words in
    let then = next.pass.reading.words in
    new ≡ stored_at out (number - skip) (drop (skip - number) (map byte_of (map candidate (words_of size n ds at))))
    → stored_at new (then - skip) (drop (skip - then) (map byte_of (items_left n ds next)))
    ≡ stored_at out (number - skip) (drop (skip - number) (map byte_of (items_left n ds at)))
bytes_go_on {size} {room} {n} {ds} {at} {next} part skip out new e =
    let words = words_of size n ds at in
    let items : List ℕ = map candidate words in
    rw (items_left_lem part, map-append byte_of items (items_left n ds next))
    (part_then_rest out new (map byte_of items) (map byte_of (items_left n ds next)) _ _ skip e
    (omega (arith, part.more, length-map words candidate, length-map items byte_of)))
