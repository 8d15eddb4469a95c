-- The pieces of a text, one at a time: the first is what stands before the first separator, and the others are the
-- pieces of what stands after it. Rests on no axiom.
use Prim.Native.Nat.{ℕ, suc, ◌≤◌, ◌<◌}
use mathlib.Core.Path.{◌≡◌, refl, ap}
use mathlib.Core.Bool.{true, false, cond}
use mathlib.Core.List.{List, [], ◌∷◌}
use native.Mathlib.Omega.{arith}
use lib.Dec.{eqb}
use lib.ListN.{length, take, drop, get_or, length-take, drop_of_length-le}
use lib.Seq.{drop-cons, take_all}
use borrow.Author.Tests.{eq-eqb, ne_eqb}
use Rattle.text.specs.Pieces.{pieces_of, pieces_after, before, up_to}

-- a piece that starts at a separator is empty
pub up_to_at_separator : (sep : ℕ) (s : List ℕ) (at : ℕ) → at < length s → get_or s at 0 ≡ sep → up_to sep (drop at s) ≡ []
unfolding up_to
up_to_at_separator sep s at h e = rw (drop-cons s at 0 h, eq-eqb (get_or s at 0) sep e)

-- a piece that starts at another byte is that byte and the piece that starts after it
pub up_to_at_other : (sep : ℕ) (s : List ℕ) (at : ℕ)
    → at < length s
    → (get_or s at 0 ≡ sep → ⊥)
    → up_to sep (drop at s) ≡ get_or s at 0 ∷ up_to sep (drop (suc at) s)
unfolding up_to
up_to_at_other sep s at h e = rw (drop-cons s at 0 h, ne_eqb (get_or s at 0) sep e)

pub up_to_front : (sep : ℕ) (s : List ℕ) → take (length (up_to sep s)) s ≡ up_to sep s
unfolding up_to
up_to_front sep [] = refl
up_to_front sep (b ∷ bs) =
    elim (eqb b sep) as (λ t.
    let piece = cond t [] (b ∷ up_to sep bs) in
    take (length piece) (b ∷ bs) ≡ piece)
    [ true ↦ refl | false ↦ ap (λ (l : List ℕ). b ∷ l) (up_to_front sep bs) ]

pub pieces_of_text : (sep : ℕ) (s : List ℕ)
    → pieces_of sep s ≡ up_to sep s ∷ pieces_after sep (drop (length (up_to sep s)) s)
unfolding up_to pieces_of pieces_after
pieces_of_text sep [] = refl
pieces_of_text sep (b ∷ bs) =
    elim (eqb b sep) as (λ t.
    let piece = cond t [] (b ∷ up_to sep bs) in
    cond t ([] ∷ pieces_of sep bs) (before b (pieces_of sep bs)) ≡ piece ∷ pieces_after sep (drop (length piece) (b ∷ bs)))
    [ true ↦ refl | false ↦ ap (before b) (pieces_of_text sep bs) ]

-- where the first piece was found to end
module _ (sep : ℕ) (s : List ℕ) (end : ℕ) (e : end ≡ length (up_to sep s)) where
  pub piece_ends_in_text : end ≤ length s
  piece_ends_in_text = omega (arith, ap length (up_to_front sep s), length-take (length (up_to sep s)) s)

  pub piece_is_a_part : take end s ≡ up_to sep s
  piece_is_a_part = rw e (up_to_front sep s)

  -- and a separator follows
  pub pieces_next : end < length s → pieces_of sep s ≡ take end s ∷ pieces_of sep (drop (suc end) s)
  unfolding pieces_after
  pieces_next h = rw (pieces_of_text sep s, ← e, piece_is_a_part, drop-cons s end 0 h)

  -- or none does
  pub pieces_last : end ≡ length s → pieces_of sep s ≡ s ∷ []
  unfolding pieces_after
  pieces_last h =
      rw (
        pieces_of_text sep s,
        ← e,
        drop_of_length-le s {i = end} (omega arith),
        ← piece_is_a_part,
        take_all end s
            (omega arith),
      )
