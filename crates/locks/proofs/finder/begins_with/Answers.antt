-- Why `locks::finder::begins_with` answers `begins_with`: each turn takes one class off the front of both, and too few intervals begin with no pattern. Rests on no axiom.
use Prim.Native.Nat.{ℕ, suc, ◌+◌, ◌<◌, ◌≤◌}
use mathlib.Core.Path.{◌≡◌, refl, sym, ap, ◌∙◌}
use mathlib.Core.Bool.{Bool, true, false, ◌&&◌, and-false}
use mathlib.Core.List.{List, [], ◌∷◌, map}
use native.Mathlib.Numerals.{add-one}
use native.Mathlib.Omega.{arith}
use borrow.Author.Tests.{eq-eqb, ne_eqb}
use lib.Dec.{eqb}
use denote.Enum.Bare.{tag_one, same_true, same_false}
use denote.Enum.Declared.{tag_of}
use lib.ListN.{length-map, get_or-map, length, get_or, drop, length-drop, drop_of_length-le}
use lib.Seq.{drop-cons}
use Rattle.timing.specs.Class.{classes_from, class_in, cursor_past, class_number}
use Rattle.timing.specs.contracts.Class.{the_type}
use Rattle.timing.specs.declared.Class.{Class}
use Rattle.timing.specs.declared.Class.TheVariants.{Narrow, Two, Three, Four, Wide}
use Rattle.timing.specs.declared.cursor.Cursor.{Cursor}
use Rattle.timing.specs.declared.cursor.Classed.{Classed}
use Rattle.timing.proofs.ClassLaws.{classes_count, classes_here}
use Rattle.locks.specs.Lock.{begins_with}
use Rattle.locks.proofs.finder.begins_with.Goals as goal

too_few : (qs : List ℕ) (cs : List Class) → length cs < length qs → begins_with qs cs ≡ false
unfolding begins_with
too_few [] cs h = absurd (omega arith)
too_few (q ∷ qs) [] h = refl
too_few (q ∷ qs) (c ∷ cs) h = rw (too_few qs cs (omega arith), and-false)

-- classes have one number where they are one
number_is_next : (c : Class) → class_number c ≡ suc (tag_of the_type c)
number_is_next Narrow = refl
number_is_next Two = refl
number_is_next Three = refl
number_is_next Four = refl
number_is_next Wide = refl

numbers_differ : (a b : Class) → (a ≡ b → ⊥) → class_number a ≡ class_number b → ⊥
numbers_differ a b other e = other (tag_one the_type tt a b (omega (arith, number_is_next a, number_is_next b, e)))

module _ (ps : List Class) (ds : List ℕ) (cursor : Cursor) (at i : ℕ) where
  abbrev qs : List ℕ
  qs = map class_number ps

  abbrev d : ℕ
  d = get_or ds (at + i) 0

  -- the pattern from place i on and the intervals from as many after `at` on
  abbrev here : Bool
  here = begins_with (drop i qs) (classes_from cursor (drop (at + i) ds))

  pattern_is_over : length ps ≤ i → here ≡ true
  unfolding begins_with
  pattern_is_over h =
      let over : length qs ≤ i = omega (arith, h, length-map ps class_number) in
      rw (drop_of_length-le qs over)

  -- one class of each is compared
  one_class
      : i < length ps
      → at + i < length ds
      → (same : Bool)
      → eqb (class_number (class_in cursor d)) (class_number (get_or ps i Narrow)) ≡ same
      → here ≡ (same && begins_with (drop (i + 1) qs) (classes_from (cursor_past cursor d) (drop (at + (i + 1)) ds)))
  unfolding begins_with
  one_class h inside same is =
      let next : at + (i + 1) ≡ suc (at + i) = omega arith in
      let long : i < length qs = omega (arith, h, length-map ps class_number) in
      rw (
        next,
        add-one i,
        drop-cons qs i (class_number Narrow) long,
        classes_here cursor ds (at + i) inside,
        get_or-map class_number ps i Narrow,
        is,
      )

pub returns-then-intervals-at : goal.returns-then-intervals-at
returns-then-intervals-at c =
    let args = c.args in
    sym (too_few (map class_number args.pattern.now) (classes_from args.start (drop args.at args.intervals.now))
    (omega (
      arith,
      c.if-intervals-at.true,
      classes_count args.start (drop args.at args.intervals.now),
      length-drop args.at args.intervals.now,
      length-map args.pattern.now class_number,
    )))

pub loop-i-init : goal.loop-i-init
loop-i-init c =
    let at = c.args.at in
    let here : at + 0 ≡ at = omega arith in
    rw here

pub loop-i-preserved : goal.loop-i-preserved
loop-i-preserved c =
    let is = ap (λ (r : Classed). r.class) c.step-classed.ensures in
    let same = same_true the_type tt _ _ (sym c.eq.ensures ∙ c.if-eq.true) in
    rw (ap (λ (r : Classed). r.next) c.step-classed.ensures) (sym
    (one_class c.args.pattern.now _ _ _ _ c.loop-i-test.true
    (omega (arith, c.loop-i-test.true, c.if-intervals-at.false)) true
    (eq-eqb _ _ (ap class_number (sym is ∙ same))))
    ∙ c.loop-i.invariant)

pub returns-else-eq : goal.returns-else-eq
returns-else-eq c =
    let is = ap (λ (r : Classed). r.class) c.step-classed.ensures in
    let other = same_false the_type _ _ (sym c.eq.ensures ∙ c.if-eq.false) in
    sym (one_class c.args.pattern.now _ _ _ _ c.loop-i-test.true
    (omega (arith, c.loop-i-test.true, c.if-intervals-at.false)) false
    (ne_eqb _ _ (numbers_differ _ _ (λ e. other (is ∙ e)))))
    ∙ c.loop-i.invariant

pub returns : goal.returns
returns c = sym (pattern_is_over c.args.pattern.now _ _ _ _ c.loop-i-test.false) ∙ c.loop-i.invariant
