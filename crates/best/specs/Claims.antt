-- Beyond document 02: what is claimed of the best windows. `proofs/` inhabits it.
use Rattle.std.specs.Prelude.{ℕ, suc, min, ◌≤◌, ◌≡◌, get_or}
use Rattle.refusal.specs.Answer.{accepted}
use Rattle.timing.specs.Profile.{profile_rule}
use Rattle.timing.specs.declared.Profile.{Profile}
use Rattle.lengths.specs.Margin.{IsMargin, rooms_of, margin_of, margin_rule}
use Rattle.best.specs.Best.{writing_of, best_profile, best_rule}
use Rattle.best.specs.declared.Writing.{Writing}

-- an accepted profile with these five numbers
pub record Chosen (w : Writing) (q : Profile) : Type 0 where
  pub same_five : writing_of q ≡ w
  pub accepted_profile : (profile_rule q).number ≡ 0

-- ---- the largest margin

pub record Best (w : Writing) : Type 0 where
  -- the profile is accepted, with the same five numbers
  pub profile_is_accepted : (best_rule w).number ≡ 0 → Chosen w (best_profile w)
  -- it has that margin: the margin operation answers it, and it is document 01's
  pub has_that_margin : (best_rule w).number ≡ 0 → margin_rule (best_profile w) ≡ accepted (best_rule w).count
  pub papers_margin : (best_rule w).number ≡ 0 → IsMargin (best_profile w) (best_rule w).count
  -- no accepted profile with the same five numbers has a larger one
  pub largest : (q : Profile) → Chosen w q → margin_of q ≤ (best_rule w).count
  pub papers_largest : (q : Profile) → Chosen w q → (m : ℕ) → IsMargin q m → m ≤ (best_rule w).count
  -- 2 is answered exactly where none is accepted
  pub none_if_crossed : (best_rule w).number ≡ 2 → (q : Profile) → Chosen w q → ⊥
  pub crossed_if_none : ((best_rule w).number ≡ 1 → ⊥) → ((q : Profile) → Chosen w q → ⊥) → (best_rule w).number ≡ 2
  -- 1 as every profile with these five numbers answers it
  pub unset_as_every_profile
      : (best_rule w).number ≡ 1 → (q : Profile) → writing_of q ≡ w → profile_rule q ≡ best_rule w

abbrev pub TheBestWindows : Type 0
TheBestWindows = (w : Writing) → Best w

-- ---- which of several equally good ones

-- the lesser of two rooms that stand one after the other among the ten: those below and above a bound
abbrev pub room_at : Profile → ℕ → ℕ
room_at p k = min (get_or (rooms_of p) k 0) (get_or (rooms_of p) (suc k) 0)

-- at a bound, given where its rooms stand: no other has more room on its narrower side, and none that has as much is
-- lower
pub record Centred (k bound : ℕ) (p : Profile) (other : ℕ) (q : Profile) : Type 0 where
  pub most_room : room_at q k ≤ room_at p k
  pub lower_on_a_tie : room_at q k ≡ room_at p k → bound ≤ other

-- beside any accepted profile with the same five numbers
pub record Given (w : Writing) (q : Profile) : Type 0 where
  pub b23_short : Centred 1 (best_profile w).short.b23.0 (best_profile w) q.short.b23.0 q
  pub b23_long : Centred 3 (best_profile w).long.b23.0 (best_profile w) q.long.b23.0 q
  pub b34_short : Centred 5 (best_profile w).short.b34.0 (best_profile w) q.short.b34.0 q
  pub b34_long : Centred 7 (best_profile w).long.b34.0 (best_profile w) q.long.b34.0 q
  -- of those with the largest margin none has a greater Min or a lesser Rpt
  pub min : margin_of q ≡ (best_rule w).count → q.min.0 ≤ (best_profile w).min.0
  pub rpt : margin_of q ≡ (best_rule w).count → (best_profile w).rpt.0 ≤ q.rpt.0

abbrev pub WhichIsGiven : Type 0
WhichIsGiven = (w : Writing) (q : Profile) → Chosen w q → Given w q
