-- Equality of texts, as the language has it, is that two texts are the same: byte by byte. Rests on no axiom.
use Prim.Native.Nat.{ℕ}
use mathlib.Core.Path.{◌≡◌, refl, ap}
use mathlib.Core.Bool.{Bool, ◌&&◌}
use mathlib.Core.List.{List, [], ◌∷◌}
use lib.Dec.{eqb}
use lib.Pointwise.{pointwise}
use Rattle.text.specs.Ascii.{same_text}

pub equal_texts_are_same : (a b : List ℕ) → pointwise eqb a b ≡ same_text a b
unfolding same_text
equal_texts_are_same [] [] = refl
equal_texts_are_same [] (b ∷ bs) = refl
equal_texts_are_same (a ∷ more) [] = refl
equal_texts_are_same (a ∷ more) (b ∷ bs) = ap (λ (t : Bool). eqb a b && t) (equal_texts_are_same more bs)
