-- Items stored in a buffer, one run after the other: two runs are one, and a run from the front fills it as far as it
-- has room, since what is stored past the end changes nothing. Rests on no axiom.
use Rattle.std.specs.Prelude.{Some, None}
use Prim.Native.Nat.{ℕ, ◌+◌, ◌≤◌}
use mathlib.Core.Path.{◌≡◌, refl, sym, ◌∙◌}
use mathlib.Core.Bool.{Bool, true, false, false≢true}
use mathlib.Core.List.{List, [], ◌++◌, append-nil}
use native.Mathlib.Nat.{add-zero}
use native.Mathlib.Omega.{arith}
use lib.Dec.{ltb}
use lib.ListN.{length, length-append}
use lib.Seq.{length-take-le, take_all, drop-length}
use borrow.Author.Tests.{ltb-true, ltb-false}
use Rattle.lists.specs.Filled.{filled, stored_at}
use Rattle.lists.proofs.StoreLaws.{front_fills, stored_at_front_fills, stored_next, stored_none}
use Rattle.script.specs.machine.Read.{ItemsRead, Stored, within}

-- what is left to store comes out as all of it did at first
pub record Storing (buffer : List ℕ) (n : ℕ) (left buffer₀ : List ℕ) (n₀ : ℕ) (items : List ℕ) : Type 0 where
  pub size : n + length left ≡ n₀ + length items
  pub output : stored_at buffer n left ≡ stored_at buffer₀ n₀ items

pub all_is_left : {buffer : List ℕ} {n : ℕ} {items : List ℕ} → Storing buffer n items buffer n items
all_is_left = record { size = refl; output = refl }

module _ {buffer : List ℕ} {n : ℕ} {buffer₀ : List ℕ} {n₀ : ℕ} {items : List ℕ} where
  -- a run was stored, and the rest is left
  pub rest_is_left : {after : List ℕ} {m : ℕ} {run rest : List ℕ}
      → Stored buffer n run m after
      → Storing buffer n (run ++ rest) buffer₀ n₀ items
      → Storing after m rest buffer₀ n₀ items
  rest_is_left {run = run} {rest = rest} s left =
      record {
        size = omega (arith, length-append run rest);
        output = stored_next run rest _ _ _ _ s.output s.size ∙ left.output;
      }

  pub nothing_is_left : Storing buffer n [] buffer₀ n₀ items → Stored buffer₀ n₀ items n buffer
  nothing_is_left left =
      record { size = sym (add-zero n) ∙ left.size; output = sym (stored_none buffer n) ∙ left.output }

-- a run from the front
pub stored_as_far_as_there_is_room : (buffer items : List ℕ)
    → stored_at buffer 0 items ≡ filled (within buffer items) buffer
unfolding filled
stored_as_far_as_there_is_room buffer items =
    let short = ltb-false (length buffer) (length items) in
    (elim (ltb (length buffer) (length items)) as (λ t.
    ltb (length buffer) (length items) ≡ t → stored_at buffer 0 items ≡ filled (within buffer items) buffer) [
      | true ↦ λ e.
          let long : length buffer ≤ length items = omega (arith, ltb-true (length buffer) _ e) in
          front_fills items buffer long ∙ rw (length-take-le _ _ long, drop-length, append-nil)
      | false ↦ λ e. rw (take_all (length buffer) items (short e)) (stored_at_front_fills items buffer (short e))
    ]) refl

-- a line that was read, and one that was not
module _ {good : Bool} {items before : List ℕ} {place : ℕ} {after : List ℕ} where
  pub faulty_read : good ≡ false → ItemsRead good items before place None after
  faulty_read h = record { verdict = sym h; stored = λ n e. absurd (false≢true (cc)) }

  pub items_read : {n : ℕ} → good ≡ true → Stored before place items n after
      → ItemsRead good items before place (Some n) after
  items_read {n = n} h k = record { verdict = sym h; stored = λ m e. let q : m ≡ n = cc in rw q k }
