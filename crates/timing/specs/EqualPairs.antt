-- Document 02, (ix): "Equal pairs give the old classes." Document 01's rules over nine numbers, which stand here alone, and
-- the claim that a profile whose pairs are equal has their classes and their verdict. The margin is in `lengths`. No
-- lemmas here.
use Rattle.std.specs.Prelude.{◌≡◌, ℕ, suc, ◌+◌, ◌-◌, ◌*◌, Bool, cond, not, ◌&&◌, List, [], ◌∷◌, map, ◌==◌, nat_le, nat_lt}
use Rattle.lists.specs.Place.{anywhere, lowest, passed}
use Rattle.refusal.specs.Answer.{Answer, accepted, refused, refuse_if}
use Rattle.timing.specs.Profile.{outside_of, profile_rule}
use Rattle.timing.specs.Class.{classes_of, class_of}
use Rattle.timing.specs.declared.Profile.{Profile}
use Rattle.timing.specs.declared.Range.{Range}
use Rattle.timing.specs.declared.Class.{Class}
use Rattle.timing.specs.declared.Class.TheVariants.{Narrow, Two, Three, Four, Wide}

-- document 01, "Profile": nine numbers
pub record Nine : Type 0 where
  pub t1 : ℕ
  pub t0 : ℕ
  pub early : ℕ
  pub normal : ℕ
  pub late : ℕ
  pub min : ℕ
  pub b23 : ℕ
  pub b34 : ℕ
  pub rpt : ℕ

-- the eleven: B23 and B34 twice each
abbrev pub paired : Nine → Profile
paired n =
    record {
      t1 = record { 0 = n.t1 };
      t0 = record { 0 = n.t0 };
      early = record { 0 = n.early };
      normal = record { 0 = n.normal };
      late = record { 0 = n.late };
      min = record { 0 = n.min };
      short = record { b23 = record { 0 = n.b23 }; b34 = record { 0 = n.b34 } };
      long = record { b23 = record { 0 = n.b23 }; b34 = record { 0 = n.b34 } };
      rpt = record { 0 = n.rpt };
    }

-- ---- document 01's rules

-- below Min narrow; then below B23 class 2; below B34 class 3; below Rpt class 4; else wide
unfoldable pub nine_class : Nine → ℕ → Class
nine_class n d =
    cond (nat_lt d n.min) Narrow
    (cond (nat_lt d n.b23) Two
    (cond (nat_lt d n.b34) Three
    (cond (nat_lt d n.rpt) Four
    Wide)))

-- T1, T0 (1 to 1,023), Early, Normal, Late (0 to 15), Min, B23, B34, Rpt (1 to 4,095)
abbrev pub nine_unset : Nine → List Bool
nine_unset n =
    outside_of
    (record { low = 1; high = 1023 }
    ∷ record { low = 1; high = 1023 }
    ∷ record { low = 0; high = 15 }
    ∷ record { low = 0; high = 15 }
    ∷ record { low = 0; high = 15 }
    ∷ record { low = 1; high = 4095 }
    ∷ record { low = 1; high = 4095 }
    ∷ record { low = 1; high = 4095 }
    ∷ record { low = 1; high = 4095 }
    ∷ [])
    (n.t1 ∷ n.t0 ∷ n.early ∷ n.normal ∷ n.late ∷ n.min ∷ n.b23 ∷ n.b34 ∷ n.rpt ∷ [])

-- D is 2 × (Late − Early)
abbrev pub nine_swing : Nine → ℕ
nine_swing n = 2 * (n.late - n.early)

-- Early ≤ Normal ≤ Late and
-- Min ≤ T1 − D, T1 < B23 ≤ T1 + T0, T1 + T0 + D < B34 ≤ T1 + 2 × T0, T1 + 2 × T0 + D < Rpt
unfoldable pub nine_true : Nine → Bool
nine_true n =
    nat_le n.early n.normal
    && nat_le n.normal n.late
    && nat_le (n.min + nine_swing n) n.t1
    && nat_lt n.t1 n.b23
    && nat_le n.b23 (n.t1 + n.t0)
    && nat_lt (n.t1 + n.t0 + nine_swing n) n.b34
    && nat_le n.b34 (n.t1 + 2 * n.t0)
    && nat_lt (n.t1 + 2 * n.t0 + nine_swing n) n.rpt

-- 1, unset: the lowest place, 1 to 9. 2, crossed: not true
unfoldable pub nine_rule : Nine → Answer
nine_rule n =
    refuse_if (anywhere passed (nine_unset n)) 1 (suc (lowest passed (nine_unset n)))
    (refuse_if (not (nine_true n)) 2 0
    (accepted 0))

-- ---- among eleven

-- B34 stands at place 9, and at 8 before; Rpt at 11, and at 9 before
abbrev pub place_of_eleven : ℕ → ℕ
place_of_eleven place = cond (place == 8) 9 (cond (place == 9) 11 place)

abbrev pub renumbered : Answer → Answer
renumbered a = cond (a.number == 1) (refused 1 (place_of_eleven a.place)) a

pub record EqualPairs : Type 0 where
  pub class : (n : Nine) (two : Bool) (d : ℕ) → class_of (paired n) two d ≡ nine_class n d
  pub classes : (n : Nine) (ds : List ℕ) → classes_of (paired n) ds ≡ map (nine_class n) ds
  pub verdict : (n : Nine) → profile_rule (paired n) ≡ renumbered (nine_rule n)
