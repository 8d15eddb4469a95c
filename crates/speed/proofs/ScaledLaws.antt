-- Speed drops out: sums grow by the ratio by which the intervals do, and the ratio cancels in the division. Rests on no
-- axiom.
use Prim.Native.Nat.{ℕ, zero, suc, ◌+◌, ◌-◌, ◌*◌, ◌/◌, ◌<◌}
use mathlib.Core.Path.{◌≡◌, refl, sym, ap, ap₂, ◌∙◌}
use mathlib.Core.List.{List, [], ◌∷◌}
use native.Mathlib.Nat.{mul_right_comm, add-mul, mul-div-mul_right}
use native.Mathlib.Omega.{arith}
use lib.ListN.{take, drop}
use Rattle.lists.specs.Sum.{sum_of}
use Rattle.timing.specs.declared.Profile.{Profile}
use Rattle.pace.specs.Pace.{even_ones, odd_ones, corrected, corrected_from}
use Rattle.speed.specs.Speed.{run_before, nominal, corrected_at}
use Rattle.speed.specs.Claims.{Scaled}

module _ (a b : ℕ) (some_a : 0 < a) (some_b : 0 < b) where
  ratio_cancels
      : (full s r d e : ℕ) → e * a ≡ d * b → r * a ≡ s * b → corrected full r e ≡ corrected full s d
  unfolding corrected
  ratio_cancels full s r d e h g =
      sym (mul-div-mul_right (e * full) r some_a)
      ∙ ap₂ ◌/◌ (mul_right_comm e full a ∙ ap (λ (x : ℕ). x * full) h ∙ mul_right_comm d b full) g
      ∙ mul-div-mul_right (d * full) s some_b

  lists_agree
      : (full s r u v : ℕ)
      → r * a ≡ s * b
      → v * a ≡ u * b
      → (ds es : List ℕ)
      → Scaled a b ds es
      → corrected_from full r v es ≡ corrected_from full s u ds
  unfolding corrected_from Scaled
  lists_agree full s r u v h g [] [] w = refl
  lists_agree full s r u v h g [] (e ∷ es) w = absurd w
  lists_agree full s r u v h g (d ∷ ds) [] w = absurd w
  lists_agree full s r u v h g (d ∷ ds) (e ∷ es) w =
      ap₂ ◌∷◌ (ratio_cancels full s r d e w.0 h) (lists_agree full u v s r g h ds es w.1)

  -- sums and parts grow by the same ratio
  sum_scales : (ds es : List ℕ) → Scaled a b ds es → sum_of es * a ≡ sum_of ds * b
  unfolding sum_of Scaled
  sum_scales [] [] w = omega arith
  sum_scales [] (e ∷ es) w = absurd w
  sum_scales (d ∷ ds) [] w = absurd w
  sum_scales (d ∷ ds) (e ∷ es) w =
      add-mul e (sum_of es) a ∙ ap₂ ◌+◌ w.0 (sum_scales ds es w.1) ∙ sym (add-mul d (sum_of ds) b)

  scaled_drop : (n : ℕ) (ds es : List ℕ) → Scaled a b ds es → Scaled a b (drop n ds) (drop n es)
  unfolding Scaled
  scaled_drop zero ds es w = w
  scaled_drop (suc n) [] [] w = w
  scaled_drop (suc n) [] (e ∷ es) w = absurd w
  scaled_drop (suc n) (d ∷ ds) [] w = absurd w
  scaled_drop (suc n) (d ∷ ds) (e ∷ es) w = scaled_drop n ds es w.1

  scaled_take : (n : ℕ) (ds es : List ℕ) → Scaled a b ds es → Scaled a b (take n ds) (take n es)
  unfolding Scaled
  scaled_take zero ds es w = tt
  scaled_take (suc n) [] [] w = w
  scaled_take (suc n) [] (e ∷ es) w = absurd w
  scaled_take (suc n) (d ∷ ds) [] w = absurd w
  scaled_take (suc n) (d ∷ ds) (e ∷ es) w = (w.0, scaled_take n ds es w.1)

  scaled_even : (ds es : List ℕ) → Scaled a b ds es → Scaled a b (even_ones ds) (even_ones es)
  unfolding even_ones Scaled
  scaled_even [] [] w = w
  scaled_even [] (e ∷ es) w = absurd w
  scaled_even (d ∷ ds) [] w = absurd w
  scaled_even (d ∷ []) (e ∷ []) w = w
  scaled_even (d ∷ []) (e ∷ f ∷ es) w = absurd w.1
  scaled_even (d ∷ c ∷ ds) (e ∷ []) w = absurd w.1
  scaled_even (d ∷ c ∷ ds) (e ∷ f ∷ es) w = (w.0, scaled_even ds es w.1.1)

  scaled_odd : (ds es : List ℕ) → Scaled a b ds es → Scaled a b (odd_ones ds) (odd_ones es)
  unfolding odd_ones Scaled
  scaled_odd [] [] w = w
  scaled_odd [] (e ∷ es) w = absurd w
  scaled_odd (d ∷ ds) [] w = absurd w
  scaled_odd (d ∷ []) (e ∷ []) w = tt
  scaled_odd (d ∷ []) (e ∷ f ∷ es) w = absurd w.1
  scaled_odd (d ∷ c ∷ ds) (e ∷ []) w = absurd w.1
  scaled_odd (d ∷ c ∷ ds) (e ∷ f ∷ es) w = (w.1.0, scaled_odd ds es w.1.1)

  pub same_numbers
      : (p : Profile) (ds es : List ℕ) → Scaled a b ds es → (lock : ℕ) → corrected_at p es lock ≡ corrected_at p ds lock
  unfolding corrected_at run_before
  same_numbers p ds es w lock =
      let run = scaled_take 64 _ _ (scaled_drop (lock - 64) ds es w) in
      lists_agree (nominal p) _ _ _ _ (sum_scales _ _ (scaled_even _ _ run)) (sum_scales _ _ (scaled_odd _ _ run)) _ _
      (scaled_drop lock ds es w)
