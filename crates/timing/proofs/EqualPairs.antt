-- Why equal pairs keep document 01's rules: whichever of two equal bounds is chosen, it is that one; of the ten
-- inequalities four follow from the others; and a number that is written twice is out of range at its first place first.
-- Rests on no axiom.
use Rattle.std.proofs.Common.{◌≡◌, ℕ, suc, ◌+◌, ◌*◌, ◌<◌, ◌≤◌, Bool, true, false, cond, not, List, [], ◌∷◌, map, sym, refl, ap, ◌∙◌, ap₂, arith, ltb-true, lt-ltb, le-leb, leb-true}
use Rattle.lists.specs.Place.{anywhere, lowest, passed}
use Rattle.refusal.specs.Answer.{Answer, accepted, refuse_if}
use Rattle.timing.specs.Profile.{unset, outside, swing, advance, delay, is_true_short, is_true_long, is_true, profile_rule}
use Rattle.timing.specs.Class.{cursor_of, at_start, class_in, is_two, classes_from, classes_of, class_of}
use Rattle.timing.specs.EqualPairs.{Nine, paired, nine_class, nine_unset, nine_swing, nine_true, nine_rule, renumbered}
use Rattle.timing.specs.EqualPairs.{EqualPairs}
use Rattle.timing.proofs.ProfileLaws.{first_holds, second_holds}
use Rattle.timing.proofs.ClassLaws.{classes_of-cons}

-- ---- classes

class_of_pair : (n : Nine) (two : Bool) (d : ℕ) → class_of (paired n) two d ≡ nine_class n d
unfolding class_of cursor_of class_in nine_class
class_of_pair n true d = refl
class_of_pair n false d = refl

classes_of_pairs
    : (n : Nine) (two : Bool) (ds : List ℕ) → classes_from (cursor_of (paired n) two) ds ≡ map (nine_class n) ds
unfolding classes_from
classes_of_pairs n two [] = refl
classes_of_pairs n two (d ∷ ds) =
    classes_of-cons (paired n) two d ds ∙ ap₂ ◌∷◌ (class_of_pair n two d) (classes_of_pairs n (is_two (class_of (paired n) two d)) ds)

-- ---- the windows

record Facts (n : Nine) : Type 0 where
  early_first : n.early ≤ n.normal
  late_last : n.normal ≤ n.late
  above_min : n.min + nine_swing n ≤ n.t1
  below_b23 : n.t1 < n.b23
  above_b23 : n.b23 ≤ n.t1 + n.t0
  below_b34 : n.t1 + n.t0 + nine_swing n < n.b34
  above_b34 : n.b34 ≤ n.t1 + 2 * n.t0
  below_rpt : n.t1 + 2 * n.t0 + nine_swing n < n.rpt

by_nine : (n : Nine) → nine_true n ≡ true → Facts n
unfolding nine_true
by_nine n e = search (e, leb-true, ltb-true, first_holds, second_holds) depth 12

by_eleven : (n : Nine) → is_true (paired n) ≡ true → Facts n
unfolding is_true is_true_short is_true_long swing
by_eleven n e = search (e, leb-true, ltb-true, first_holds, second_holds) depth 14

nine_holds : (n : Nine) → Facts n → nine_true n ≡ true
unfolding nine_true
nine_holds n f =
    rw (
      le-leb _ _ f.early_first,
      le-leb _ _ f.late_last,
      le-leb _ _ f.above_min,
      lt-ltb _ _ f.below_b23,
      le-leb _ _ f.above_b23,
      lt-ltb _ _ f.below_b34,
      le-leb _ _ f.above_b34,
      lt-ltb _ _ f.below_rpt,
    )

after_normal : (n : Nine) → Facts n → n.t1 + n.t0 + delay (paired n) < n.b34
unfolding delay
after_normal n f = let a = f.early_first in let b = f.below_b34 in omega arith

eleven_holds : (n : Nine) → Facts n → is_true (paired n) ≡ true
unfolding is_true is_true_short is_true_long swing
eleven_holds n f =
    rw (
      le-leb _ _ f.early_first,
      le-leb _ _ f.late_last,
      le-leb _ _ f.above_min,
      lt-ltb _ _ f.below_b23,
      le-leb n.b23 (n.t1 + n.t0 + advance (paired n)) (let h = f.above_b23 in omega arith),
      lt-ltb _ _ f.below_b34,
      le-leb n.b34 (n.t1 + 2 * n.t0 + advance (paired n)) (let h = f.above_b34 in omega arith),
      lt-ltb n.t1 (n.b23 + delay (paired n)) (let h = f.below_b23 in omega arith),
      le-leb _ _ f.above_b23,
      lt-ltb (n.t1 + n.t0 + delay (paired n)) n.b34 (after_normal n f),
      le-leb _ _ f.above_b34,
      lt-ltb _ _ f.below_rpt,
    )

same_verdict : (a b : Bool) → (a ≡ true → b ≡ true) → (b ≡ true → a ≡ true) → a ≡ b
same_verdict true b f g = sym (f refl)
same_verdict false true f g = g refl
same_verdict false false f g = refl

same_windows : (n : Nine) → is_true (paired n) ≡ nine_true n
same_windows n =
    same_verdict _ _ (λ e. nine_holds n (by_eleven n e)) (λ e. eleven_holds n (by_nine n e))

-- ---- the places

abbrev rule_by : List Bool → Bool → Answer
rule_by tests true_one =
    refuse_if (anywhere passed tests) 1 (suc (lowest passed tests)) (refuse_if (not true_one) 2 0 (accepted 0))

renumbers
    : (a b c d e f g h i t : Bool)
    → rule_by (a ∷ b ∷ c ∷ d ∷ e ∷ f ∷ g ∷ g ∷ h ∷ h ∷ i ∷ []) t
    ≡ renumbered (rule_by (a ∷ b ∷ c ∷ d ∷ e ∷ f ∷ g ∷ h ∷ i ∷ []) t)
unfolding anywhere lowest
renumbers true b c d e f g h i t = refl
renumbers false true c d e f g h i t = refl
renumbers false false true d e f g h i t = refl
renumbers false false false true e f g h i t = refl
renumbers false false false false true f g h i t = refl
renumbers false false false false false true g h i t = refl
renumbers false false false false false false true h i t = refl
renumbers false false false false false false false true i t = refl
renumbers false false false false false false false false true t = refl
renumbers false false false false false false false false false true = refl
renumbers false false false false false false false false false false = refl

same_rule : (n : Nine) → profile_rule (paired n) ≡ renumbered (nine_rule n)
unfolding profile_rule unset nine_rule
same_rule n =
    ap (λ (t : Bool). rule_by (unset (paired n)) t) (same_windows n) ∙ renumbers _ _ _ _ _ _ _ _ _ (nine_true n)

pub equal_pairs : EqualPairs
unfolding classes_of at_start
equal_pairs =
    record { class = class_of_pair; classes = λ n. classes_of_pairs n true; verdict = same_rule }
