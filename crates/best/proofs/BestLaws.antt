-- Why the windows are the best: they are accepted and leave room for the largest margin; and whatever margin an accepted
-- profile with these five numbers has, it fits above Min, which is at least 1, and twice between the lengths that B34
-- after any other keeps apart. Rests on no axiom.
use Prim.Native.Nat.{ℕ, suc, ◌+◌, ◌*◌, ◌≤◌, ◌<◌}
use mathlib.Core.Path.{◌≡◌, refl, sym, ap, subst, ◌∙◌}
use mathlib.Core.Bool.{Bool, true, false, not, false≢true}
use mathlib.Core.List.{List, [], ◌∷◌}
use native.Mathlib.Omega.{arith}
use Rattle.lists.specs.Place.{anywhere, lowest, passed}
use Rattle.refusal.specs.Answer.{Answer, accepted, refused, refuse_if}
use Rattle.refusal.proofs.AnswerLaws.{first_refusal_passes}
use Rattle.timing.specs.Numbers.{ranges}
use Rattle.timing.specs.Profile.{unset, swing, delay, profile_rule}
use Rattle.timing.specs.declared.Profile.{Profile}
use Rattle.timing.proofs.RangeLaws.{all_inside_none_outside}
use Rattle.timing.proofs.ProfileLaws.{Kept, kept}
use Rattle.lengths.specs.Margin.{IsMargin, margin_of, margin_rule}
use Rattle.lengths.proofs.MarginLaws.{margin_leaves_room, spare_is_within_the_margin}
use Rattle.lengths.proofs.PapersMargin.{margin_is_the_papers}
use Rattle.best.specs.Best.{writing_of, writing_numbers, unset_of, has_windows, best_margin, best_profile, best_rule}
use Rattle.best.specs.Claims.{Chosen, TheBestWindows}
use Rattle.best.specs.declared.Writing.{Writing}
use Rattle.best.proofs.TrialLaws.{in_range_of}
use Rattle.best.proofs.MarginLaws.{Possible, possible, has_windows_if_possible, fits_is_within_the_margin}
use Rattle.best.proofs.RuleLaws.{possible_decides, Accepts, accepts}
use Rattle.best.proofs.RoomLaws.{best_leaves_room, best_is_accepted}

-- ---- an accepted profile, over its own five numbers

module _ (q : Profile) (ok : (profile_rule q).number ≡ 0) where
  abbrev k : Kept q
  k = kept q ok

  abbrev w : Writing
  w = writing_of q

  above_1 : (low d m t1 : ℕ) → 1 ≤ low → low + d + m ≤ t1 → d + m < t1
  above_1 low d m t1 some h = omega arith

  between : (t1 t0 l m b : ℕ) → t1 + t0 + l + m < b → b + m ≤ t1 + 2 * t0 → l + 2 * m < t0
  between t1 t0 l m b h g = omega arith

  pub its_windows_are_possible : Possible w
  unfolding swing delay
  its_windows_are_possible =
      let low = k.ranges.2.2.2.2.2.0 in
      let min = k.above_min in
      let below = k.below_b34_long in
      let above = k.above_b34_long in
      record {
        early_first = k.early_first;
        late_last = k.late_last;
        below_t1 = omega (arith, low, min);
        below_t0 = omega (arith, below, above);
      }

  pub its_numbers_are_in_range : anywhere passed (unset_of w) ≡ false
  unfolding unset_of
  its_numbers_are_in_range =
      let (t1, t1_most, (t0, t0_most, (early, early_most, (normal, normal_most, (late, late_most, _))))) = k.ranges in
      all_inside_none_outside ranges (writing_numbers w)
      (t1, t1_most, (t0, t0_most, (early, early_most, (normal, normal_most, (late, late_most, tt)))))

  pub its_best_answer : best_rule w ≡ accepted (best_margin w)
  its_best_answer =
      sym (possible_decides w its_numbers_are_in_range (has_windows_if_possible w its_windows_are_possible)).0

  pub its_margin_is_no_larger : margin_of q ≤ best_margin w
  unfolding swing delay
  its_margin_is_no_larger =
      let s = margin_leaves_room k in
      fits_is_within_the_margin w (margin_of q)
      (above_1 q.min.0 _ _ _ k.ranges.2.2.2.2.2.0 s.above_min)
      (between q.t1.0 _ _ _ q.long.b34.0 s.below_b34_long s.above_b34_long)

-- ---- the profile that is given

module _ (w : Writing) (a : Accepts w) where
  abbrev fits : Possible w
  fits = possible w a.some_true

  pub given_is_accepted : (profile_rule (best_profile w)).number ≡ 0
  given_is_accepted = best_is_accepted w fits (in_range_of w a.none_unset)

  given_writes_so : writing_of (best_profile w) ≡ w
  unfolding best_profile
  given_writes_so = refl

  pub given_is_chosen : Chosen w (best_profile w)
  given_is_chosen = record { same_five = given_writes_so; accepted_profile = given_is_accepted }

  both_ways : (a b : ℕ) → a ≤ b → b ≤ a → a ≡ b
  both_ways a b h g = omega arith

  pub given_has_the_margin : margin_of (best_profile w) ≡ (best_rule w).count
  given_has_the_margin =
      both_ways _ _ (subst (λ v. margin_of (best_profile w) ≤ best_margin v) given_writes_so
      (its_margin_is_no_larger (best_profile w) given_is_accepted))
      (spare_is_within_the_margin (best_margin w) (best_leaves_room w fits))
      ∙ sym (ap (λ (x : Answer). x.count) a.answer)

  pub given_answers : margin_rule (best_profile w) ≡ accepted (best_rule w).count
  unfolding margin_rule
  given_answers = first_refusal_passes _ _ given_is_accepted ∙ ap accepted given_has_the_margin

-- ---- a number out of range

-- the first five tests decide where one of them passes
five_decide
    : (a b c d e : Bool) (rest : List Bool) (later other : Answer)
    → anywhere passed (a ∷ b ∷ c ∷ d ∷ e ∷ []) ≡ true
    → refuse_if (anywhere passed (a ∷ b ∷ c ∷ d ∷ e ∷ rest)) 1 (suc (lowest passed (a ∷ b ∷ c ∷ d ∷ e ∷ rest))) later
    ≡ refuse_if (anywhere passed (a ∷ b ∷ c ∷ d ∷ e ∷ [])) 1 (suc (lowest passed (a ∷ b ∷ c ∷ d ∷ e ∷ []))) other
unfolding anywhere lowest
five_decide true b c d e rest later other h = refl
five_decide false true c d e rest later other h = refl
five_decide false false true d e rest later other h = refl
five_decide false false false true e rest later other h = refl
five_decide false false false false true rest later other h = refl
five_decide false false false false false rest later other h = absurd (false≢true h)

its_unset_number
    : (q : Profile) → anywhere passed (unset_of (writing_of q)) ≡ true → profile_rule q ≡ best_rule (writing_of q)
unfolding profile_rule unset best_rule unset_of
its_unset_number q h = five_decide _ _ _ _ _ _ _ _ h

-- ---- the claim

module _ (w : Writing) where
  -- which of the three answers it is
  pub data Which : Answer → Type 0 where
    out_of_range : anywhere passed (unset_of w) ≡ true → Which (refused 1 (suc (lowest passed (unset_of w))))
    impossible : anywhere passed (unset_of w) ≡ false → has_windows w ≡ false → Which (refused 2 0)
    answered : Accepts w → Which (accepted (best_margin w))

  pub which : Which (best_rule w)
  unfolding best_rule
  which = by_test (anywhere passed (unset_of w)) (has_windows w) refl refl
    where
      by_test
          : (any some : Bool)
          → anywhere passed (unset_of w) ≡ any
          → has_windows w ≡ some
          → Which (refuse_if any 1 (suc (lowest passed (unset_of w))) (refuse_if (not some) 2 0 (accepted (best_margin w))))
      by_test true some p q = out_of_range p
      by_test false false p q = impossible p q
      by_test false true p q =
          answered (record { none_unset = p; some_true = q; answer = sym (possible_decides w p q).0 })

  pub none_if_impossible : has_windows w ≡ false → (q : Profile) → Chosen w q → ⊥
  none_if_impossible none q c =
      let some =
      subst (λ v. has_windows v ≡ true) c.same_five
      (has_windows_if_possible (writing_of q) (its_windows_are_possible q c.accepted_profile)) in
      false≢true (sym none ∙ some)

  some_if_chosen : (q : Profile) → Chosen w q → best_rule w ≡ accepted (best_margin w)
  some_if_chosen q c =
      subst (λ v. best_rule v ≡ accepted (best_margin v)) c.same_five (its_best_answer q c.accepted_profile)

  no_larger : (q : Profile) → Chosen w q → margin_of q ≤ (best_rule w).count
  no_larger q c =
      rw (some_if_chosen q c)
      (subst (λ v. margin_of q ≤ best_margin v) c.same_five (its_margin_is_no_larger q c.accepted_profile))

  crossed
      : (a : Answer) → Which a → (a.number ≡ 1 → ⊥) → ((q : Profile) → Chosen w q → ⊥) → a.number ≡ 2
  crossed a (out_of_range p) some none = absurd (some refl)
  crossed a (impossible p q) some none = refl
  crossed a (answered x) some none = absurd (none (best_profile w) (given_is_chosen w x))

  unset_if_1 : (a : Answer) → Which a → a.number ≡ 1 → anywhere passed (unset_of w) ≡ true
  unset_if_1 a (out_of_range p) e = p
  unset_if_1 a (impossible p q) e = absurd (omega (arith, e))
  unset_if_1 a (answered x) e = absurd (omega (arith, e))

  one_margin : (q : Profile) → (profile_rule q).number ≡ 0 → (m : ℕ) → IsMargin q m → m ≤ margin_of q
  one_margin q ok m is = (margin_is_the_papers q ok).largest m is.keeps

pub the_best_windows : TheBestWindows
the_best_windows w =
    record {
      profile_is_accepted = λ e. given_is_chosen w (accepts w e);
      has_that_margin = λ e. given_answers w (accepts w e);
      papers_margin = λ e.
          subst (IsMargin (best_profile w)) (given_has_the_margin w (accepts w e))
          (margin_is_the_papers (best_profile w) (given_is_accepted w (accepts w e)));
      largest = no_larger w;
      papers_largest = λ q c m is.
          let h = one_margin w q c.accepted_profile m is in let g = no_larger w q c in omega (arith, h, g);
      none_if_crossed = λ e q c.
          let same : (best_rule w).number ≡ 0 = ap (λ (a : Answer). a.number) (some_if_chosen w q c) in
          omega (arith, e, same);
      crossed_if_none = crossed w (best_rule w) (which w);
      unset_as_every_profile = λ e q same.
          subst (λ v. profile_rule q ≡ best_rule v) same
          (its_unset_number q
          (subst (λ v. anywhere passed (unset_of v) ≡ true) (sym same) (unset_if_1 w (best_rule w) (which w) e)));
    }
