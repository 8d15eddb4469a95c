-- The fields of a line, one at a time: a field ends at the next tab or with the line. Rests on no axiom.
use Prim.Native.Nat.{ℕ, suc, ◌+◌, ◌-◌, ◌≤◌, ◌<◌}
use mathlib.Core.Path.{◌≡◌}
use mathlib.Core.Bool.{true, false, cond}
use mathlib.Core.List.{List, [], ◌∷◌}
use native.Mathlib.Numerals.{add-one}
use native.Mathlib.Omega.{arith}
use lib.Dec.{eqb}
use lib.ListN.{length, take, drop, length-drop, drop_of_length-le}
use lib.Seq.{drop-cons, drop-drop}
use Rattle.text.specs.Ascii.{tab}
use Rattle.text.specs.Pieces.{before, pieces_of, pieces_after, up_to}
use Rattle.text.proofs.PieceLaws.{pieces_of_text, piece_ends_in_text, piece_is_a_part}
use Rattle.script.specs.machine.Read.{fields_after}

-- the field that starts after the tab at a place of a line
module _ (line : List ℕ) (at end : ℕ) (h : at < length line) (e : end ≡ at + 1 + length (up_to tab (drop (at + 1) line)))
  where
    size : end - (at + 1) ≡ length (up_to tab (drop (at + 1) line))
    size = omega arith

    pub field_ends_in_line : end ≤ length line
    field_ends_in_line = omega (arith, piece_ends_in_text tab (drop (at + 1) line) _ size, length-drop (at + 1) line)

    pub fields_next :
        fields_after (drop at line) ≡ take (end - (at + 1)) (drop (at + 1) line) ∷ fields_after (drop end line)
    unfolding pieces_after
    fields_next =
        rw (
          drop-cons line at 0 h,
          ← add-one at,
          pieces_of_text tab (drop (at + 1) line),
          piece_is_a_part tab (drop (at + 1) line) _ size,
          drop-drop,
          ← e,
        )

pub fields_at_the_end : (line : List ℕ) (at : ℕ) → length line ≤ at → fields_after (drop at line) ≡ []
unfolding pieces_after
fields_at_the_end line at h = rw (drop_of_length-le line h)

-- there is at most one field more than there are bytes
few_pieces : (s : List ℕ) → length (pieces_of tab s) ≤ suc (length s)
unfolding pieces_of
few_pieces [] = omega arith
few_pieces (b ∷ bs) =
    let few = rw (pieces_of_text tab bs) at (few_pieces bs) in
    elim (eqb b tab) as (λ t. length (cond t ([] ∷ pieces_of tab bs) (before b (pieces_of tab bs))) ≤ suc
    (suc (length bs)))
    [ true ↦ rw (pieces_of_text tab bs) (omega arith) | false ↦ rw (pieces_of_text tab bs) (omega arith) ]

pub few_fields : (s : List ℕ) → length (fields_after s) ≤ length s
unfolding pieces_after
few_fields [] = omega arith
few_fields (b ∷ s) = few_pieces s
