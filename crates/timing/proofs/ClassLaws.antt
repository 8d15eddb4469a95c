-- The class of an interval from the edges on both sides of it: the definition's tests, each decided. And the classes of
-- a list: each step of the cursor gives one, so that lists and their classes are joined and cut alike. Rests on no
-- axiom.
use Rattle.std.proofs.Common.{◌≡◌, ℕ, zero, suc, ◌<◌, ◌≤◌, Bool, true, cond, List, [], ◌∷◌, ◌++◌, length, get_or, take, drop, sym, refl, ap, ◌∙◌, arith, drop-cons, le-ltb, lt-ltb}
use Rattle.timing.specs.Class.{cursor_of, at_start, class_in, is_two, behind, cursor_past, classes_from}
use Rattle.timing.specs.Class.{cursor_after, ends_in_two, classes_of, class_of}
use Rattle.timing.specs.declared.Profile.{Profile}
use Rattle.timing.specs.declared.Bounds.{Bounds}
use Rattle.timing.specs.declared.cursor.Cursor.{Cursor}
use Rattle.timing.specs.declared.Class.{Class}
use Rattle.timing.specs.declared.Class.TheVariants.{Narrow, Two, Three, Four, Wide}

module _ (c : Cursor) (d : ℕ) where
  pub below_min_is_narrow : d < c.min.0 → class_in c d ≡ Narrow
  unfolding class_in
  below_min_is_narrow h = rw lt-ltb

  pub below_b23_is_two : c.min.0 ≤ d → d < c.bounds.b23.0 → class_in c d ≡ Two
  unfolding class_in
  below_b23_is_two h₁ h₂ = rw (le-ltb, lt-ltb)

  pub below_b34_is_three : c.min.0 ≤ d → c.bounds.b23.0 ≤ d → d < c.bounds.b34.0 → class_in c d ≡ Three
  unfolding class_in
  below_b34_is_three h₁ h₂ h₃ = rw (le-ltb, le-ltb, lt-ltb)

  pub below_rpt_is_four
      : c.min.0 ≤ d → c.bounds.b23.0 ≤ d → c.bounds.b34.0 ≤ d → d < c.rpt.0 → class_in c d ≡ Four
  unfolding class_in
  below_rpt_is_four h₁ h₂ h₃ h₄ = rw (le-ltb, le-ltb, le-ltb, lt-ltb)

  pub from_rpt_is_wide
      : c.min.0 ≤ d → c.bounds.b23.0 ≤ d → c.bounds.b34.0 ≤ d → c.rpt.0 ≤ d → class_in c d ≡ Wide
  unfolding class_in
  from_rpt_is_wide h₁ h₂ h₃ h₄ = rw (le-ltb, le-ltb, le-ltb, le-ltb)

-- ---- one interval by itself, by the profile's numbers for the kind before

abbrev pub bounds_of : Profile → Bool → Bounds
bounds_of p two = cond two p.short p.long

module _ (p : Profile) (two : Bool) (d : ℕ) where
  pub class_below_min_is_narrow : d < p.min.0 → class_of p two d ≡ Narrow
  unfolding class_of cursor_of
  class_below_min_is_narrow = below_min_is_narrow (cursor_of p two) d

  pub class_below_b23_is_two : p.min.0 ≤ d → d < (bounds_of p two).b23.0 → class_of p two d ≡ Two
  unfolding class_of cursor_of
  class_below_b23_is_two = below_b23_is_two (cursor_of p two) d

  pub class_below_b34_is_three
      : p.min.0 ≤ d → (bounds_of p two).b23.0 ≤ d → d < (bounds_of p two).b34.0 → class_of p two d ≡ Three
  unfolding class_of cursor_of
  class_below_b34_is_three = below_b34_is_three (cursor_of p two) d

  pub class_below_rpt_is_four
      : p.min.0 ≤ d
      → (bounds_of p two).b23.0 ≤ d
      → (bounds_of p two).b34.0 ≤ d
      → d < p.rpt.0
      → class_of p two d ≡ Four
  unfolding class_of cursor_of
  class_below_rpt_is_four = below_rpt_is_four (cursor_of p two) d

  pub class_from_rpt_is_wide
      : p.min.0 ≤ d
      → (bounds_of p two).b23.0 ≤ d
      → (bounds_of p two).b34.0 ≤ d
      → p.rpt.0 ≤ d
      → class_of p two d ≡ Wide
  unfolding class_of cursor_of
  class_from_rpt_is_wide = from_rpt_is_wide (cursor_of p two) d

-- ---- the classes of a list, from where the classing stands on

pub classes_none : (c : Cursor) → classes_from c [] ≡ []
unfolding classes_from
classes_none c = refl

pub classes_cons
    : (c : Cursor) (d : ℕ) (ds : List ℕ) → classes_from c (d ∷ ds) ≡ class_in c d ∷ classes_from (cursor_past c d) ds
unfolding classes_from
classes_cons c d ds = refl

-- the turn of a loop over a list: the interval at a place, and those after it
pub classes_here
    : (c : Cursor) (ds : List ℕ) (k : ℕ)
    → k < length ds
    → classes_from c (drop k ds)
    ≡ class_in c (get_or ds k 0) ∷ classes_from (cursor_past c (get_or ds k 0)) (drop (suc k) ds)
classes_here c ds k h = rw (drop-cons ds k 0 h, classes_cons)

pub classes_count : (c : Cursor) (ds : List ℕ) → length (classes_from c ds) ≡ length ds
unfolding classes_from
classes_count c [] = refl
classes_count c (d ∷ ds) = ap suc (classes_count (cursor_past c d) ds)

pub classes_append
    : (c : Cursor) (ds es : List ℕ)
    → classes_from c (ds ++ es) ≡ classes_from c ds ++ classes_from (cursor_after c ds) es
unfolding classes_from cursor_after
classes_append c [] es = refl
classes_append c (d ∷ ds) es = ap (λ (cs : List Class). class_in c d ∷ cs) (classes_append (cursor_past c d) ds es)

pub classes_take : (c : Cursor) (k : ℕ) (ds : List ℕ) → classes_from c (take k ds) ≡ take k (classes_from c ds)
unfolding classes_from
classes_take c zero ds = refl
classes_take c (suc k) [] = refl
classes_take c (suc k) (d ∷ ds) = cc (classes_take (cursor_past c d) k ds)

pub classes_drop
    : (c : Cursor) (k : ℕ) (ds : List ℕ)
    → drop k (classes_from c ds) ≡ classes_from (cursor_after c (take k ds)) (drop k ds)
unfolding classes_from cursor_after
classes_drop c zero ds = refl
classes_drop c (suc k) [] = refl
classes_drop c (suc k) (d ∷ ds) = classes_drop (cursor_past c d) k ds

-- ---- the classes of a whole list

pub classes_from_start : (p : Profile) (ds : List ℕ) → classes_of p ds ≡ classes_from (at_start p) ds
unfolding classes_of
classes_from_start p ds = refl

pub classes_length : (p : Profile) (ds : List ℕ) → length (classes_of p ds) ≡ length ds
unfolding classes_of
classes_length p ds = classes_count (at_start p) ds

pub classes_of-take : (p : Profile) (k : ℕ) (ds : List ℕ) → classes_of p (take k ds) ≡ take k (classes_of p ds)
unfolding classes_of
classes_of-take p k ds = classes_take (at_start p) k ds

-- ---- where the classing stands after some intervals

pub cursor_after_none : (c : Cursor) → cursor_after c [] ≡ c
unfolding cursor_after
cursor_after_none c = refl

pub cursor_after-cons : (c : Cursor) (d : ℕ) (ds : List ℕ) → cursor_after c (d ∷ ds) ≡ cursor_after (cursor_past c d) ds
unfolding cursor_after
cursor_after-cons c d ds = refl

pub cursor_after-append
    : (c : Cursor) (ds es : List ℕ) → cursor_after c (ds ++ es) ≡ cursor_after (cursor_after c ds) es
unfolding cursor_after
cursor_after-append c [] es = refl
cursor_after-append c (d ∷ ds) es = cursor_after-append (cursor_past c d) ds es

-- the class of the interval at a place, by where the classing stands before it
pub class_at
    : (c : Cursor) (ds : List ℕ) (k : ℕ)
    → k < length ds
    → get_or (classes_from c ds) k Narrow ≡ class_in (cursor_after c (take k ds)) (get_or ds k 0)
unfolding classes_from cursor_after
class_at c [] k h = absurd (omega arith)
class_at c (d ∷ ds) zero h = refl
class_at c (d ∷ ds) (suc k) h = class_at (cursor_past c d) ds k (omega arith)

-- behind an interval it goes by whether that is of class 2, and by nothing before it
module _ (p : Profile) where
  pub cursor_past_lem : (two : Bool) (d : ℕ) → cursor_past (cursor_of p two) d ≡ cursor_of p (is_two (class_of p two d))
  unfolding cursor_past behind cursor_of class_of
  cursor_past_lem two d = refl

  pub cursor_behind
      : (two : Bool) (ds : List ℕ) (k : ℕ)
      → k < length ds
      → cursor_after (cursor_of p two) (take (suc k) ds)
      ≡ cursor_of p (is_two (get_or (classes_from (cursor_of p two) ds) k Narrow))
  unfolding cursor_after classes_from class_of
  cursor_behind two [] k h = absurd (omega arith)
  cursor_behind two (d ∷ ds) zero h = cursor_past_lem two d
  cursor_behind two (d ∷ ds) (suc k) h =
      cc (cursor_past_lem two d, cursor_behind (is_two (class_of p two d)) ds k (omega arith))

  pub cursor_after_list
      : (two : Bool) (ds : List ℕ)
      → cursor_after (cursor_of p two) ds ≡ cursor_of p (ends_in_two two (classes_from (cursor_of p two) ds))
  unfolding cursor_after classes_from ends_in_two class_of
  cursor_after_list two [] = refl
  cursor_after_list two (d ∷ ds) = cc (cursor_past_lem two d, cursor_after_list (is_two (class_of p two d)) ds)

  -- behind a list that is empty or ends in class 2 the classing stands as at the start
  pub cursor_starts_anew
      : (ds : List ℕ) → ends_in_two true (classes_of p ds) ≡ true → cursor_after (at_start p) ds ≡ at_start p
  unfolding classes_of at_start
  cursor_starts_anew ds two = cursor_after_list true ds ∙ ap (cursor_of p) two

  -- the classes of a list, of which the first follows one of class 2, or one of another
  pub classes_of-cons
      : (two : Bool) (d : ℕ) (ds : List ℕ)
      → classes_from (cursor_of p two) (d ∷ ds)
      ≡ class_of p two d ∷ classes_from (cursor_of p (is_two (class_of p two d))) ds
  unfolding class_of
  classes_of-cons two d ds = classes_cons (cursor_of p two) d ds
      ∙ ap (λ (c : Cursor). class_of p two d ∷ classes_from c ds) (cursor_past_lem two d)

  -- after an interval of class 2 the classing stands as at the start of a list
  pub classes_after_two
      : (ds : List ℕ) (k : ℕ)
      → k < length ds
      → get_or (classes_of p ds) k Narrow ≡ Two
      → classes_of p (drop (suc k) ds) ≡ drop (suc k) (classes_of p ds)
  unfolding classes_of at_start
  classes_after_two ds k h two =
      sym (classes_drop (cursor_of p true) (suc k) ds
      ∙ ap (λ (c : Cursor). classes_from c (drop (suc k) ds))
      (cursor_behind true ds k h ∙ ap (λ (x : Class). cursor_of p (is_two x)) two))

pub classes_of_none : (p : Profile) → classes_of p [] ≡ []
unfolding classes_of classes_from
classes_of_none p = refl
