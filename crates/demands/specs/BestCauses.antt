-- Beyond document 02: the causes of the best windows, in their turn. No lemmas here.
use Rattle.std.specs.Prelude.{suc, ◌≡◌, true}
use Rattle.lists.specs.Place.{anywhere, lowest, passed}
use Rattle.timing.specs.declared.Profile.{Profile}
use Rattle.best.specs.Best.{unset_of}
use Rattle.best.specs.Claims.{Chosen}
use Rattle.best.specs.declared.Writing.{Writing}
use Rattle.demands.specs.Order.{Order, accept, turn, at0}

-- 1 (one of the five numbers is out of range; which, 1 to 5, the lowest), 2 (no profile with these five is accepted)
abbrev pub best_order : Writing → Order
best_order w =
    turn 1 (λ place. (anywhere passed (unset_of w) ≡ true) × (place ≡ suc (lowest passed (unset_of w))))
    (turn 2 (at0 ((q : Profile) → Chosen w q → ⊥))
    accept)
