-- Why what is kept of the intervals gives their least clearance: an interval more takes the lesser at each bound, and of
-- one interval by itself it is the clearance, since no other edge is nearer than those of its window. Rests on no axiom.
use Rattle.std.proofs.Common.{◌≡◌, ℕ, ◌+◌, ◌-◌, ◌%◌, ◌<◌, ◌≤◌, min, max, sym, refl, ap, ◌∙◌, ap₂, arith, le-ltb, lt-ltb}
use native.Mathlib.Decide.{dec_lt}
use Rattle.timing.specs.declared.Class.{Class}
use Rattle.timing.specs.declared.cursor.Cursor.{Cursor}
use Rattle.clearance.specs.Clearance.{in_window, clearance_by, clearance_in}
use Rattle.clearance.specs.machine.Nearest.{turned, first_of, last_of, past_bound, room, Reachable, none_met, met_with}
use Rattle.clearance.specs.machine.Nearest.{least_met}
use Rattle.clearance.specs.declared.extremes.Extremes.{Extremes}
use Rattle.timing.proofs.StandLaws.{Stands, narrow, two, three, four, wide, stands}

-- ---- places in the order of signed numbers

turned_low : (x : ℕ) → x < 32768 → turned x ≡ x + 32768
turned_low x h = omega arith

less_is_first : (x y : ℕ) → y < x → y ≡ min x y
less_is_first x y h = omega arith

more_is_first : (x y : ℕ) → (y < x → ⊥) → x ≡ min x y
more_is_first x y h = omega arith

less_is_last : (x y : ℕ) → (x < y → ⊥) → x ≡ max x y
less_is_last x y h = omega arith

more_is_last : (x y : ℕ) → x < y → y ≡ max x y
more_is_last x y h = omega arith

turned_first : (a b : ℕ) → turned (first_of a b) ≡ min (turned a) (turned b)
unfolding first_of
turned_first a b =
    elim (dec_lt (turned b) (turned a)) [
      | yes h ↦ rw (lt-ltb (turned b) (turned a) h) (less_is_first _ _ h)
      | no h ↦ rw (le-ltb (turned b) (turned a) (omega arith)) (more_is_first _ _ h)
    ]

turned_last : (a b : ℕ) → turned (last_of a b) ≡ max (turned a) (turned b)
unfolding last_of
turned_last a b =
    elim (dec_lt (turned a) (turned b)) [
      | yes h ↦ rw (lt-ltb (turned a) (turned b) h) (more_is_last _ _ h)
      | no h ↦ rw (le-ltb (turned a) (turned b) (omega arith)) (less_is_last _ _ h)
    ]

-- past a bound, and back
counted_round : (d t : ℕ) → d < 65536 → t < 65536 → ((d + (65536 - t)) % 65536 + t) % 65536 ≡ d
counted_round d t h g = omega arith

past_and_back : (e d : ℕ) → d < 65536 → (past_bound e d + turned e) % 65536 ≡ d
unfolding past_bound
past_and_back e d h = counted_round d (turned e) h (omega arith)

-- ---- a number more

less_of_lesser : (a x n : ℕ) → min a x - n ≡ min (a - n) (x - n)
less_of_lesser a x n = omega arith

less_of_greater : (b x n : ℕ) → n - max b x ≡ min (n - b) (n - x)
less_of_greater b x n = omega arith

lesser_of_lessers : (a x b y : ℕ) → min (min a x) (min b y) ≡ min (min a b) (min x y)
lesser_of_lessers a x b y = omega arith

least_of_three : (w y z : ℕ) → min (min w y) z ≡ min w (min y z)
least_of_three w y z = omega arith

greatest_of_three : (w y z : ℕ) → max w (max y z) ≡ max (max w y) z
greatest_of_three w y z = omega arith

-- an order of three does not depend on which two come first
first_of_three
    : (a p q : ℕ) → turned (first_of a (first_of p q)) ≡ min (min (turned a) (turned p)) (turned q)
first_of_three a p q = rw (turned_first a (first_of p q), turned_first p q) (sym (least_of_three _ _ _))

last_of_three
    : (a p q : ℕ) → turned (last_of a (last_of p q)) ≡ max (max (turned a) (turned p)) (turned q)
last_of_three a p q = rw (turned_last a (last_of p q), turned_last p q) (greatest_of_three _ _ _)

room_with
    : (from to first last a b x : ℕ)
    → first ≡ min a x
    → last ≡ max b x
    → room from to first last ≡ min (room from to a b) (room from to x x)
room_with from to first last a b x f l =
    rw (f, l, less_of_lesser a x from, less_of_greater b x to) (lesser_of_lessers _ _ _ _)

sorted_out : (l h w y z : ℕ) → min (min l h) (min (min w y) z) ≡ min (min l w) (min h (min y z))
sorted_out l h w y z = cc (least_of_three w y z, lesser_of_lessers l h w (min y z))

-- ---- one interval

-- from an edge between two windows
from_edge
    : (e d w : ℕ) → (w + turned e) % 65536 ≡ d → e ≤ d → d < 32768 → room 0 65535 (turned w) (turned w) ≡ d - e
from_edge e d w past h₁ h₂ = omega arith

below_edge
    : (e d w : ℕ) → (w + turned e) % 65536 ≡ d → d < e → e < 32768 → room 0 65535 (turned w) (turned w) ≡ e - 1 - d
below_edge e d w past h₁ h₂ = omega arith

-- from Min and Rpt
from_ends
    : (low high d : ℕ)
    → low < 32768
    → high < 32768
    → d < 65536
    → room (turned low) (turned high) (turned d) (turned d) ≡ min (d - low) (high - d)
from_ends low high d h₁ h₂ fits = rw (turned_low low h₁, turned_low high h₂) (omega arith)

-- of the four ways, those to the edges of its window are the least
at_no_edge : (x n : ℕ) → x ≡ 0 → min x n ≡ 0
at_no_edge x n h = omega arith

at_min_and_b23 : (p q s t : ℕ) → s ≤ q → s ≤ t → min (min p q) (min s t) ≡ min p s
at_min_and_b23 p q s t h₁ h₂ = omega arith

at_b23_and_b34 : (p q s t : ℕ) → s ≤ p → t ≤ q → min (min p q) (min s t) ≡ min s t
at_b23_and_b34 p q s t h₁ h₂ = omega arith

at_b34_and_rpt : (p q s t : ℕ) → t ≤ p → t ≤ s → min (min p q) (min s t) ≡ min t q
at_b34_and_rpt p q s t h₁ h₂ = omega arith

module _ (c : Cursor) (a : Reachable c) (d : ℕ) (fits : d < 65536) where
  abbrev past_b23 : ℕ
  past_b23 = past_bound c.bounds.b23.0 d

  abbrev past_b34 : ℕ
  past_b34 = past_bound c.bounds.b34.0 d

  abbrev between_bounds : ℕ
  between_bounds =
      min (room 0 65535 (turned past_b23) (turned past_b23)) (room 0 65535 (turned past_b34) (turned past_b34))

  one_by_class
      : {x : Class} → Stands c d x → min (in_window c.min.0 c.rpt.0 d) between_bounds ≡ clearance_by x c d
  one_by_class (narrow h) = at_no_edge _ _ (omega arith)
  one_by_class (two h₁ h₂) =
      rw (
        below_edge c.bounds.b23.0 d past_b23 (past_and_back _ d fits) h₂ (omega arith),
        below_edge c.bounds.b34.0 d past_b34 (past_and_back _ d fits) (omega arith) (omega arith),
      ) (at_min_and_b23 _ _ _ _ (omega arith) (omega arith))
  one_by_class (three h₁ h₂) =
      rw (
        from_edge c.bounds.b23.0 d past_b23 (past_and_back _ d fits) h₁ (omega arith),
        below_edge c.bounds.b34.0 d past_b34 (past_and_back _ d fits) h₂ (omega arith),
      ) (at_b23_and_b34 _ _ _ _ (omega arith) (omega arith))
  one_by_class (four h₁ h₂) =
      rw (
        from_edge c.bounds.b23.0 d past_b23 (past_and_back _ d fits) (omega arith) (omega arith),
        from_edge c.bounds.b34.0 d past_b34 (past_and_back _ d fits) h₁ (omega arith),
      ) (at_b34_and_rpt _ _ _ _ (omega arith) (omega arith))
  one_by_class (wide h) = at_no_edge _ _ (omega arith)

  one_met
      : min (room (turned c.min.0) (turned (c.rpt.0 - 1)) (turned d) (turned d)) between_bounds ≡ clearance_in c d
  unfolding clearance_in
  one_met =
      cc
      (from_ends c.min.0 (c.rpt.0 - 1) d (omega (arith, a)) (omega (arith, a)) fits, one_by_class (stands c d))

  -- it joins those met, and so does how far it is past either bound
  pub met_with_lem
      : (m : Extremes)
      → least_met c.min.0 c.rpt.0 (met_with m c.bounds d)
      ≡ min (least_met c.min.0 c.rpt.0 m) (clearance_in c d)
  unfolding least_met met_with
  met_with_lem m =
      ap₂ min (room_with _ _ _ _ _ _ _ (turned_first _ _) (turned_last _ _))
      (room_with 0 65535 _ _ _ _ _ (first_of_three _ _ _) (last_of_three _ _ _)
      ∙ ap₂ min (room_with 0 65535 _ _ _ _ _ refl refl) refl)
      ∙ sorted_out _ _ _ _ _
      ∙ ap (min _) one_met

-- ---- the first interval

none_by_class
    : {c : Cursor} {d : ℕ} {x : Class} → Reachable c → Stands c d x → clearance_by x c d ≤ 65535 - turned c.min.0
none_by_class a (narrow h) = omega arith
none_by_class a (two h₁ h₂) = omega arith
none_by_class a (three h₁ h₂) = omega arith
none_by_class a (four h₁ h₂) = omega arith
none_by_class a (wide h) = omega arith

none_nearer : (p q e : ℕ) → 32768 ≤ p → 32768 ≤ q → e ≤ 65535 - p → min (min (min (65535 - p) (q - 0)) 65535) e ≡ e
none_nearer p q e h₁ h₂ h₃ = omega arith

-- before it nothing is nearer to an edge than any interval
pub first_met
    : (c : Cursor) (d : ℕ)
    → Reachable c
    → min (least_met c.min.0 c.rpt.0 none_met) (clearance_in c d) ≡ clearance_in c d
unfolding least_met none_met clearance_in
first_met c d a =
    none_nearer (turned c.min.0) (turned (c.rpt.0 - 1)) _ (omega arith) (omega arith)
    (none_by_class a (stands c d))
