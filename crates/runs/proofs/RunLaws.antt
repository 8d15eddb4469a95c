-- Laws of a run of class 2: the class of an interval goes by whether the one before it is of class 2, so that in a run
-- each but the first is of class 2 after class 2, and one that is not can only be the first. Rests on no axiom.
use Prim.Native.Nat.{ℕ, zero, suc, ◌+◌, ◌-◌, ◌<◌, ◌≤◌}
use mathlib.Core.Path.{◌≡◌, refl, sym, ap, ◌∙◌}
use mathlib.Core.Bool.{Bool, true, false, true≢false}
use mathlib.Core.List.{List}
use native.Mathlib.Omega.{arith}
use native.Mathlib.Decide.{dec_lt}
use native.Mathlib.Numerals.{add-one}
use lib.ListN.{length, get_or}
use Rattle.timing.specs.Class.{cursor_of, at_start, class_in, is_two, cursor_past, classes_of, class_of}
use Rattle.timing.specs.declared.Profile.{Profile}
use Rattle.timing.specs.declared.Class.{Class}
use Rattle.timing.specs.declared.Class.TheVariants.{Narrow, Two, Three, Four, Wide}
use Rattle.timing.specs.declared.cursor.Cursor.{Cursor}
use Rattle.timing.proofs.ClassLaws.{class_at, cursor_past_lem, cursor_behind, cursor_after_none}
use Rattle.runs.specs.machine.Scan.{Twos, Following, IsSure, Known, NoTwos}

pub is_two_lem : (c : Class) → is_two c ≡ true → c ≡ Two
is_two_lem Narrow e = absurd (true≢false (sym e))
is_two_lem Two e = refl
is_two_lem Three e = absurd (true≢false (sym e))
is_two_lem Four e = absurd (true≢false (sym e))
is_two_lem Wide e = absurd (true≢false (sym e))

pub is_not_two : (c : Class) → is_two c ≡ false → c ≡ Two → ⊥
is_not_two c e two = true≢false (ap is_two (sym two) ∙ e)

-- ---- intervals that follow in a run

pub none_follow : {short : Cursor} {ds : List ℕ} {low : ℕ} → Following short ds low low
none_follow = record { each = λ j from to. absurd (omega arith) }

pub more_follow
    : {short : Cursor} {ds : List ℕ} {low middle high : ℕ}
    → Following short ds low middle
    → Following short ds middle high
    → Following short ds low high
more_follow {middle = middle} before after =
    record {
      each = λ j from to.
          elim (dec_lt j middle) [
            | yes h ↦ before.each j from h
            | no h ↦ after.each j (omega arith) to
          ];
    }

pub one_follows
    : {short : Cursor} {ds : List ℕ} (j : ℕ)
    → is_two (class_in short (get_or ds j 0)) ≡ true
    → Following short ds j (j + 1)
one_follows {short} {ds} j two =
    record { each = λ i from to. ap (λ (i : ℕ). is_two (class_in short (get_or ds i 0))) (omega arith) ∙ two }

module _ (p : Profile) (ds : List ℕ) where
  abbrev cs : List Class
  cs = classes_of p ds

  pub first_class : 0 < length ds → get_or cs 0 Narrow ≡ class_in (cursor_of p true) (get_or ds 0 0)
  unfolding classes_of at_start
  first_class h =
      class_at (cursor_of p true) ds 0 h
      ∙ ap (λ (c : Cursor). class_in c (get_or ds 0 0)) (cursor_after_none (cursor_of p true))

  -- the class after an interval that is of class 2, or is not
  pub class_after
      : (j : ℕ) (two : Bool)
      → suc j < length ds
      → is_two (get_or cs j Narrow) ≡ two
      → get_or cs (suc j) Narrow ≡ class_in (cursor_of p two) (get_or ds (suc j) 0)
  unfolding classes_of at_start
  class_after j two h e =
      class_at (cursor_of p true) ds (suc j) h
      ∙ ap (λ (c : Cursor). class_in c (get_or ds (suc j) 0))
      (cursor_behind p true ds j (omega arith) ∙ ap (cursor_of p) e)

  -- a run goes on with each interval that is of class 2 after class 2
  goes_on_by
      : (first d : ℕ)
      → first + d < length ds
      → get_or cs first Narrow ≡ Two
      → Following (cursor_of p true) ds (first + 1) (first + d + 1)
      → get_or cs (first + d) Narrow ≡ Two
  goes_on_by first zero h two follow = ap (λ (i : ℕ). get_or cs i Narrow) (omega arith) ∙ two
  goes_on_by first (suc d) h two follow =
      let before =
      goes_on_by first d (omega arith) two (record { each = λ j low high. follow.each j low (omega arith) }) in
      let next : first + suc d ≡ suc (first + d) = omega arith in
      ap (λ (i : ℕ). get_or cs i Narrow) next
      ∙ class_after (first + d) true (omega arith) (ap is_two before)
      ∙ is_two_lem _ (follow.each (suc (first + d)) (omega arith) (omega arith))

  pub run_follows
      : (first end : ℕ)
      → end ≤ length ds
      → get_or cs first Narrow ≡ Two
      → Following (cursor_of p true) ds (first + 1) end
      → Twos cs first end
  run_follows first end within two follow j low high =
      ap (λ (i : ℕ). get_or cs i Narrow) (omega arith)
      ∙ goes_on_by first (j - first) (omega arith) two
      (record { each = λ i from to. follow.each i from (omega arith) })

  -- one that is not of class 2 after class 2 is not of class 2 in a run
  pub run_ends
      : (j : ℕ)
      → suc j < length ds
      → is_two (class_in (cursor_of p true) (get_or ds (suc j) 0)) ≡ false
      → is_two (get_or cs j Narrow) ≡ true
      → is_two (get_or cs (suc j) Narrow) ≡ false
  run_ends j h other two = ap is_two (class_after j true h two) ∙ other

-- ---- where a classing from the middle on stands

module _ (p : Profile) (ds : List ℕ) where
  -- by an interval that is of class 2, or is not, after either kind
  sure_tells
      : (j : ℕ) (two : Bool)
      → suc j < length ds
      → is_two (get_or (classes_of p ds) j Narrow) ≡ two
      → is_two (class_in (cursor_of p true) (get_or ds (suc j) 0)) ≡ is_two (class_in (cursor_of p false) (get_or ds (suc j) 0))
      → is_two (class_in (cursor_of p true) (get_or ds (suc j) 0)) ≡ is_two (get_or (classes_of p ds) (suc j) Narrow)
  sure_tells j true h e sure = sym (ap is_two (class_after p ds j true h e))
  sure_tells j false h e sure = sure ∙ sym (ap is_two (class_after p ds j false h e))

  pub known_if_sure
      : (from at : ℕ)
      → from < length ds
      → IsSure (cursor_of p true) (cursor_of p false) ds from at
      → Known p ds (cursor_of p true) at
  known_if_sure from zero h is =
      record { two = true; is = refl; tells = sym (ap is_two (first_class p ds (omega arith))) }
  known_if_sure from (suc j) h is =
      let low = is.low in
      record { two = true; is = refl; tells = sure_tells j _ (omega arith) refl (is.sure (omega arith)) }

  pub known_after
      : {cursor : Cursor} {i : ℕ}
      → i + 1 < length ds
      → Known p ds cursor i
      → Known p ds (cursor_past cursor (get_or ds i 0)) (i + 1)
  unfolding class_of
  known_after {cursor} {i} h known =
      let two = is_two (class_in cursor (get_or ds i 0)) in
      let next : cursor_past cursor (get_or ds i 0) ≡ cursor_of p two =
      rw known.is (cursor_past_lem p known.two (get_or ds i 0)) in
      record {
        two = two;
        is = next;
        tells =
            rw (next, add-one i)
            (sym (ap is_two (class_after p ds i two (omega arith) (sym known.tells))));
      }

  -- after one that is not of class 2
  pub long_tells
      : (i : ℕ)
      → 0 < i
      → i < length ds
      → is_two (get_or (classes_of p ds) (i - 1) Narrow) ≡ false
      → is_two (class_in (cursor_of p false) (get_or ds i 0)) ≡ is_two (get_or (classes_of p ds) i Narrow)
  long_tells zero low h e = absurd (omega arith)
  long_tells (suc j) low h e =
      sym (ap is_two (class_after p ds j false h
      (ap (λ (i : ℕ). is_two (get_or (classes_of p ds) i Narrow)) (omega arith) ∙ e)))

-- ---- intervals of other classes

pub no_twos_between : {cs : List Class} {low : ℕ} → NoTwos cs low low
no_twos_between = record { each = λ j from to. absurd (omega arith) }

pub no_more_twos
    : {cs : List Class} {low middle high : ℕ} → NoTwos cs low middle → NoTwos cs middle high → NoTwos cs low high
no_more_twos {middle = middle} before after =
    record {
      each = λ j from to.
          elim (dec_lt j middle) [
            | yes h ↦ before.each j from h
            | no h ↦ after.each j (omega arith) to
          ];
    }

pub not_one_two : {cs : List Class} (j : ℕ) → is_two (get_or cs j Narrow) ≡ false → NoTwos cs j (j + 1)
not_one_two {cs} j other =
    record { each = λ i from to. ap (λ (i : ℕ). is_two (get_or cs i Narrow)) (omega arith) ∙ other }
