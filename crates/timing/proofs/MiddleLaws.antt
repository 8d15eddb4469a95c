-- A list that is classed from its middle on, as a search from there is, beside the classes that it has as a whole. The
-- first interval is taken as one after class 2 whatever stands before it, so that a longer cell may be read as class 2,
-- and the next again; behind the first interval that is not read as class 2 the two are in step. Rests on no axiom.
use Rattle.std.proofs.Common.{◌≡◌, ℕ, zero, suc, List, [], ◌∷◌, length, get_or, drop, refl, ap}
use Rattle.timing.specs.declared.Class.{Class}
use Rattle.timing.specs.declared.Class.TheVariants.{Two, Three, Four}

-- classes as read from the middle on, and as they are
pub data Behind : List Class → List Class → Type 0 where
  in_step : {cs ws : List Class} → cs ≡ ws → Behind cs ws
  -- a longer cell is read as class 2, and the next is again taken as one after class 2
  missed : {w : Class} {cs ws : List Class} → (w ≡ Two → ⊥) → Behind cs ws → Behind (Two ∷ cs) (w ∷ ws)
  -- a cell of class 4 is read as class 3, after which either way another follows than after class 2
  misread : {ws : List Class} → Behind (Three ∷ ws) (Four ∷ ws)

pub in_step_behind_other
    : {cs ws : List Class}
    → Behind cs ws
    → (k : ℕ)
    → (get_or cs k Two ≡ Two → ⊥)
    → drop (suc k) cs ≡ drop (suc k) ws
in_step_behind_other (in_step e) k other = ap (drop (suc k)) e
in_step_behind_other (missed w b) zero other = absurd (other refl)
in_step_behind_other (missed w b) (suc k) other = in_step_behind_other b k other
in_step_behind_other misread zero other = refl
in_step_behind_other misread (suc k) other = refl

-- there are as many
pub behind_count : {cs ws : List Class} → Behind cs ws → length cs ≡ length ws
behind_count (in_step e) = ap length e
behind_count (missed w b) = ap suc (behind_count b)
behind_count misread = refl
