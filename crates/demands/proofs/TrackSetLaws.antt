-- The set of a track is turned away in its turn: what the index says first is what its own tests say. Rests on no axiom.
use Prim.Native.Nat.{ℕ}
use mathlib.Core.Path.{◌≡◌, refl, ◌∙◌}
use mathlib.Core.Bool.{Bool, true, false, cond}
use mathlib.Core.List.{List}
use lib.Dec.{eqb, ltb}
use lib.ListN.{length}
use Rattle.refusal.specs.Answer.{Answer, accepted, refuse_if, first_refusal}
use Rattle.timing.specs.Profile.{profile_rule}
use Rattle.timing.specs.declared.Profile.{Profile}
use Rattle.sets.specs.Set.{set_bytes}
use Rattle.entries.specs.Entries.{entries_of}
use Rattle.track.specs.Index.{crowd_rule, index_rule}
use Rattle.track_set.specs.TrackSectors.{sectors_found, track_rule}

first_of_first : (a b c : Answer) → first_refusal (first_refusal a b) c ≡ first_refusal a (first_refusal b c)
first_of_first a b c =
    elim (eqb a.number 0) as (λ t.
    eqb a.number 0 ≡ t → first_refusal (cond t b a) c ≡ cond t (first_refusal b c) a) [
      | true ↦ λ e. refl
      | false ↦ λ e. rw e
    ]
    refl

test_then : (t : Bool) (n : ℕ) (later : Answer) → first_refusal (refuse_if t 15 0 (accepted n)) later ≡ refuse_if t 15 0 later
test_then true n later = refl
test_then false n later = refl

pub track_rule_in_turn
    : (p : Profile) (ds : List ℕ) (room : ℕ)
    → track_rule p ds room
    ≡ first_refusal (profile_rule p)
    (refuse_if (ltb 32 (length (entries_of p ds))) 15 0
    (refuse_if (ltb room (length (set_bytes (sectors_found p ds)))) 9 0 (accepted (length (sectors_found p ds)))))
unfolding track_rule index_rule crowd_rule
track_rule_in_turn p ds room =
    first_of_first (profile_rule p) (crowd_rule (entries_of p ds)) _
    ∙ rw (test_then (ltb 32 (length (entries_of p ds))) (length (entries_of p ds)))
