-- Where no interval lies between the two B23, whether one is of class 2 does not depend on the kind before: so the one
-- before chooses B34, and the classing stands behind the last interval as behind that alone. Whether none does is told
-- by the difference from the lower. Rests on no axiom.
use Rattle.std.proofs.Common.{◌≡◌, ℕ, suc, ◌+◌, ◌-◌, ◌%◌, ◌^◌, ◌<◌, ◌≤◌, min, max, Bool, true, false, cond, not, ◌&&◌, eqb, ltb, leb, List, [], ◌∷◌, map, length, get_or, set, sym, refl, ap, ◌∙◌, ap₂, arith, le-ltb, lt-ltb, eqb-true, le-leb}
use mathlib.Core.Path.{fun_ext}
use mir.Val.{bool_byte}
use native.Mathlib.Decide.{dec_lt}
use borrow.Author.Tests.{lt-leb}
use Rattle.lists.specs.Place.{everywhere}
use Rattle.lists.proofs.BoolLaws.{both}
use Rattle.timing.specs.Class.{class_in, is_two, behind, cursor_past, cursor_after}
use Rattle.timing.specs.machine.Edges.{units_in, units_from, is_steady}
use Rattle.timing.specs.declared.Bounds.{Bounds}
use Rattle.timing.specs.declared.cursor.Cursor.{Cursor}
use Rattle.timing.proofs.EdgeLaws.{two_by_edges}
use Rattle.timing.proofs.ClassLaws.{cursor_after_none, cursor_after-cons}
use Rattle.timing.proofs.UnitsLaws.{units_none, units-cons}
use Rattle.timing.proofs.SteadyLaws.{steady_stays}
use Rattle.intervals.specs.machine.Either.{units_by, one_side, is_sure}

same_bool : (a b : Bool) → bool_byte a ≡ bool_byte b → a ≡ b
same_bool true true e = refl
same_bool true false e = absurd (omega arith)
same_bool false true e = absurd (omega arith)
same_bool false false e = refl

-- ---- the bounds in order, by one compare each

below_both_is_same : (a b d : ℕ) → d < a → d < b → one_side a b d ≡ true
below_both_is_same a b d h g = rw (lt-leb a d h, lt-leb b d g) refl

from_both_is_same : (a b d : ℕ) → a ≤ d → b ≤ d → one_side a b d ≡ true
from_both_is_same a b d h g = rw (le-leb a d h, le-leb b d g) refl

between_is_not_same : (a b d : ℕ) → a ≤ d → d < b → one_side a b d ≡ false
between_is_not_same a b d h g = rw (le-leb a d h, lt-leb b d g) refl

-- by the difference from the lower, which wraps below it
pub same_by_difference
    : (a b d r : ℕ)
    → a ≤ b
    → b < 2 ^ 16
    → r < 2 ^ 16
    → (r + a) % 2 ^ 16 ≡ d
    → leb (b - a) r ≡ one_side a b d
same_by_difference a b d r up fits small wraps =
    elim (dec_lt d a) [
      | yes below ↦ le-leb (b - a) r (omega arith) ∙ sym (below_both_is_same a b d below (omega arith))
      | no over ↦
          elim (dec_lt d b) [
            | yes below ↦ lt-leb (b - a) r (omega arith) ∙ sym (between_is_not_same a b d (omega arith) below)
            | no above ↦ le-leb (b - a) r (omega arith) ∙ sym (from_both_is_same a b d (omega arith) (omega arith))
          ]
    ]

same_swapped : (a b : Bool) → eqb (bool_byte a) (bool_byte b) ≡ eqb (bool_byte b) (bool_byte a)
same_swapped true true = refl
same_swapped true false = refl
same_swapped false true = refl
same_swapped false false = refl

sorted_pair_is_same : (a b d : ℕ) → one_side (min a b) (max a b) d ≡ one_side a b d
sorted_pair_is_same a b d =
    elim (dec_lt a b) [
      | yes up ↦
          let least : min a b ≡ a = omega arith in
          let most : max a b ≡ b = omega arith in
          rw (least, most) refl
      | no down ↦
          let least : min a b ≡ b = omega arith in
          let most : max a b ≡ a = omega arith in
          rw (least, most) (same_swapped (leb b d) (leb a d))
    ]

-- which of them is the lower does not matter
pub sorted_are_sure
    : (s l : Bounds) (ds : List ℕ)
    → everywhere (one_side (min s.b23.0 l.b23.0) (max s.b23.0 l.b23.0)) ds ≡ everywhere (is_sure s l) ds
unfolding is_sure
sorted_are_sure s l ds =
    ap (λ (f : ℕ → Bool). everywhere f ds) (fun_ext (sorted_pair_is_same s.b23.0 l.b23.0))

-- below is not from
ltb_by_leb : (d e : ℕ) → ltb d e ≡ not (leb e d)
ltb_by_leb d e =
    elim (dec_lt d e) [
      | yes h ↦ rw (lt-ltb d e h, lt-leb e d h)
      | no h ↦
          let g : e ≤ d = omega arith in
          rw (le-ltb d e g, le-leb e d g)
    ]

module _ (c : Cursor) where
  sure_b23 : (d : ℕ) → is_sure c.short c.long d ≡ true → leb c.short.b23.0 d ≡ leb c.long.b23.0 d
  unfolding is_sure
  sure_b23 d h = same_bool _ _ (eqb-true _ _ h)

  pub past_is_behind : (two : Bool) (d : ℕ) → cursor_past (behind c two) d ≡ behind c (is_two (class_in (behind c two) d))
  unfolding cursor_past behind
  past_is_behind two d = refl

  -- bounds of which B34 alone is chosen
  abbrev pub upper_chosen : Bool → Bounds
  upper_chosen two = record { b23 = c.short.b23; b34 = record { 0 = cond two c.short.b34.0 c.long.b34.0 } }

  -- one that is sure: its units, and where the classing stands behind it
  module _ (d : ℕ) (h : is_sure c.short c.long d ≡ true) where
    pub sure_units : (two : Bool) → units_in (behind c two) d ≡ units_by (upper_chosen two) d
    unfolding units_in behind units_by
    sure_units true = refl
    sure_units false = rw (sure_b23 d h)

    pub sure_past : (two : Bool) → cursor_past (behind c two) d ≡ cursor_past (behind c true) d
    unfolding cursor_past behind
    sure_past true = refl
    sure_past false =
        ap (behind c) (sym (two_by_edges (behind c false) d) ∙ ap (λ (t : Bool). leb c.min.0 d && t) below
        ∙ two_by_edges (behind c true) d)
      where
        below : ltb d c.long.b23.0 ≡ ltb d c.short.b23.0
        below =
            ltb_by_leb d c.long.b23.0 ∙ ap not (sym (sure_b23 d h)) ∙ sym (ltb_by_leb d c.short.b23.0)

  -- ---- a list

  pub cursor_after_either
      : (two : Bool) (d : ℕ) (ds : List ℕ)
      → everywhere (is_sure c.short c.long) (d ∷ ds) ≡ true
      → cursor_after (behind c two) (d ∷ ds) ≡ cursor_past (behind c true) (get_or (d ∷ ds) (length ds) 0)
  unfolding everywhere
  cursor_after_either two d [] h =
      let (here, rest) = both (is_sure c.short c.long d) _ h in
      cursor_after-cons (behind c two) d [] ∙ cursor_after_none _ ∙ sure_past d here two
  cursor_after_either two d (e ∷ ds) h =
      let (here, rest) = both (is_sure c.short c.long d) _ h in
      cursor_after-cons (behind c two) d (e ∷ ds)
      ∙ ap (λ (f : Cursor). cursor_after f (e ∷ ds)) (past_is_behind two d)
      ∙ cursor_after_either (is_two (class_in (behind c two) d)) e ds rest

-- ---- a list whose first two go by where the classing stands

module _ (c : Cursor) (d e : ℕ) (ds : List ℕ) (h : everywhere (is_sure c.short c.long) (d ∷ e ∷ ds) ≡ true) where
  rest_sure : everywhere (is_sure c.short c.long) (e ∷ ds) ≡ true
  unfolding everywhere
  rest_sure = (both (is_sure c.short c.long d) _ h).1

  second_sure : is_sure c.short c.long e ≡ true
  unfolding everywhere
  second_sure = (both (is_sure c.short c.long e) (everywhere (is_sure c.short c.long) ds) rest_sure).0

  first_past : cursor_past c d ≡ behind c (is_two (class_in c d))
  unfolding cursor_past
  first_past = refl

  -- behind the second it does not matter any more
  in_step : cursor_past (cursor_past (behind c false) d) e ≡ cursor_past (cursor_past c d) e
  in_step =
      ap (λ (f : Cursor). cursor_past f e) (past_is_behind c false d)
      ∙ sure_past c e second_sure _
      ∙ sym (ap (λ (f : Cursor). cursor_past f e) first_past ∙ sure_past c e second_sure _)

  units_of_two
      : (f : Cursor)
      → units_from f (d ∷ e ∷ ds)
      ≡ units_in f d ∷ units_in (cursor_past f d) e ∷ units_from (cursor_past (cursor_past f d) e) ds
  units_of_two f = units-cons f d (e ∷ ds) ∙ ap (◌∷◌ (units_in f d)) (units-cons (cursor_past f d) e ds)

  units_of_block
      : set (set (units_from (behind c false) (d ∷ e ∷ ds)) 0 (units_in c d)) 1 (units_in (cursor_past c d) e)
      ≡ units_from c (d ∷ e ∷ ds)
  units_of_block =
      ap (λ (us : List ℕ). set (set us 0 (units_in c d)) 1 (units_in (cursor_past c d) e)) (units_of_two (behind c false))
      ∙ ap (λ (f : Cursor). units_in c d ∷ units_in (cursor_past c d) e ∷ units_from f ds) in_step
      ∙ sym (units_of_two c)

  cursor_of_block : cursor_past (behind c true) (get_or (d ∷ e ∷ ds) (suc (length ds)) 0) ≡ cursor_after c (d ∷ e ∷ ds)
  cursor_of_block =
      sym (cursor_after-cons c d (e ∷ ds)
      ∙ ap (λ (f : Cursor). cursor_after f (e ∷ ds)) first_past
      ∙ cursor_after_either c _ e ds rest_sure)

-- as a caller has it: a list of two or more
module _ (c : Cursor) where
  pub block_units
      : (ds : List ℕ)
      → 2 ≤ length ds
      → everywhere (is_sure c.short c.long) ds ≡ true
      → set (set (units_from (behind c false) ds) 0 (units_in c (get_or ds 0 0))) 1
      (units_in (cursor_past c (get_or ds 0 0)) (get_or ds 1 0))
      ≡ units_from c ds
  block_units [] some h = absurd (omega arith)
  block_units (d ∷ []) some h = absurd (omega arith)
  block_units (d ∷ e ∷ ds) some h = units_of_block c d e ds h

  pub block_cursor
      : (ds : List ℕ)
      → 2 ≤ length ds
      → everywhere (is_sure c.short c.long) ds ≡ true
      → cursor_past (behind c true) (get_or ds (length ds - 1) 0) ≡ cursor_after c ds
  block_cursor [] some h = absurd (omega arith)
  block_cursor (d ∷ []) some h = absurd (omega arith)
  block_cursor (d ∷ e ∷ ds) some h =
      let last : length (d ∷ e ∷ ds) - 1 ≡ suc (length ds) = omega arith in
      ap (λ (k : ℕ). cursor_past (behind c true) (get_or (d ∷ e ∷ ds) k 0)) last ∙ cursor_of_block c d e ds h

-- ---- where the bounds are the same after either kind

module _ (c : Cursor) (steady : is_steady c ≡ true) where
  units_by_bounds : (d : ℕ) → units_by c.bounds d ≡ units_in c d
  unfolding units_by units_in
  units_by_bounds d = refl

  pub steady_units : (ds : List ℕ) → map (units_by c.bounds) ds ≡ units_from c ds
  steady_units [] = sym (units_none c)
  steady_units (d ∷ ds) =
      ap₂ ◌∷◌ (units_by_bounds d) (steady_units ds)
      ∙ sym (units-cons c d ds ∙ ap (λ (f : Cursor). units_in c d ∷ units_from f ds) (steady_stays c steady d))

  pub steady_cursor : (ds : List ℕ) → c ≡ cursor_after c ds
  steady_cursor [] = sym (cursor_after_none c)
  steady_cursor (d ∷ ds) =
      steady_cursor ds
      ∙ sym (cursor_after-cons c d ds ∙ ap (λ (f : Cursor). cursor_after f ds) (steady_stays c steady d))
