-- Laws of the tests of one set by itself, in their order: each step of the code settles a part of the rule. Rests on no
-- axiom.
use Prim.Native.Nat.{ℕ, ◌≤◌, ◌<◌}
use mathlib.Core.Path.{◌≡◌, refl, sym, ap, ◌∙◌}
use mathlib.Core.Bool.{false}
use mathlib.Core.List.{List}
use mathlib.Core.Option.{Option, none, some}
use native.Mathlib.Nat.{zero-add}
use native.Mathlib.Omega.{arith}
use borrow.Author.Tests.{lt-ltb, le-ltb, ltb-false, eqb-false}
use lib.Dec.{ltb}
use lib.ListN.{length}
use Rattle.lists.specs.Place.{anywhere, lowest}
use Rattle.refusal.specs.Table.{number_of, place_of}
use Rattle.refusal.specs.Answer.{Answer, accepted, refused, refuse_if}
use Rattle.refusal.specs.declared.Refusal.{Refusal}
use Rattle.refusal.proofs.AnswerLaws.{number_is_not_zero, refuse_if_accepts}
use Rattle.sets.specs.Set.{Sector, set_of, is_none, or_empty, is_misfit_set, sectors_in}
use Rattle.sets.specs.Held.{numbers}
use Rattle.sets.specs.Alone.{is_twice_in, set_rule}
use Rattle.sets.specs.machine.Index.{count_rule}
use Rattle.sets.proofs.ShortLaws.{set_is_short}
use Rattle.sets.proofs.NumberLaws.{lowest_below_256}

-- a set that is let pass
pub record Fits (bs : List ℕ) : Type 0 where
  pub whole : is_misfit_set bs ≡ false
  pub few : length (sectors_in bs) ≤ 32

-- a set that was counted
pub record Counts (bs : List ℕ) (count : ℕ) : Type 0 where
  pub whole : is_misfit_set bs ≡ false
  pub all : count ≡ length (sectors_in bs)

module _ (bs : List ℕ) where
  -- ---- the count decides, or is handed on

  pub misfit_decides
      : (r : Refusal)
      → refused (number_of r) (place_of r) ≡ count_rule 0 (set_of bs)
      → refused (number_of r) (place_of r) ≡ set_rule bs
  unfolding set_rule is_misfit_set
  misfit_decides r e = by (set_of bs) refl e
    where
      by
          : (o : Option (List Sector))
          → set_of bs ≡ o
          → refused (number_of r) (place_of r) ≡ count_rule 0 o
          → refused (number_of r) (place_of r) ≡ set_rule bs
      by none q k = k ∙ sym (rw (ap is_none q))
      by (some ss) q k = absurd (eqb-false (number_of r) 0 (number_is_not_zero r) (ap (λ (a : Answer). a.number) k))

  pub counted_set : (count : ℕ) → accepted count ≡ count_rule 0 (set_of bs) → Counts bs count
  unfolding is_misfit_set sectors_in
  counted_set count e = let told = by (set_of bs) e in record { whole = told.0; all = told.1 }
    where
      by
          : (o : Option (List Sector))
          → accepted count ≡ count_rule 0 o
          → (is_none o ≡ false) × (count ≡ length (or_empty o))
      by none k =
          absurd (let q : ◌≡◌ {A = ℕ} 0 13 = ap (λ (a : Answer). a.number) k in omega arith)
      by (some ss) k = (refl, ap (λ (a : Answer). a.count) k ∙ zero-add (length ss))

  module _ (count : ℕ) (counts : Counts bs count) where
    pub crowd_decides : 32 < count → refused 15 0 ≡ set_rule bs
    unfolding set_rule
    crowd_decides h = rw (counts.whole, ← counts.all, lt-ltb 32 count h)

    pub short_set : count ≤ 32 → length bs ≤ 32864
    short_set h = set_is_short bs counts.whole (rw (← counts.all) h)

    pub lowest_decides
        : (low : ℕ)
        → count ≤ 32
        → low ≡ lowest (is_twice_in (sectors_in bs)) numbers
        → refuse_if (ltb low 256) 17 low (accepted count) ≡ set_rule bs
    unfolding set_rule
    lowest_decides low h e = rw (e, counts.whole, ← counts.all, le-ltb 32 count h, lowest_below_256)

  -- ---- after a refusal there is no index

  pub refused_is_not_accepted
      : (r : Refusal) → refused (number_of r) (place_of r) ≡ set_rule bs → (set_rule bs).number ≡ 0 → ⊥
  refused_is_not_accepted r e h =
      eqb-false (number_of r) 0 (number_is_not_zero r) (ap (λ (a : Answer). a.number) e ∙ h)

  -- ---- what acceptance says

  pub accepted_set
      : (set_rule bs).number ≡ 0 → Fits bs × (anywhere (is_twice_in (sectors_in bs)) numbers ≡ false)
  unfolding set_rule
  accepted_set h =
      let fits = refuse_if_accepts (is_misfit_set bs) 12 0 _ h in
      let few = refuse_if_accepts _ 14 0 _ fits.1 in
      let once = refuse_if_accepts (anywhere (is_twice_in (sectors_in bs)) numbers) 16 _ _ few.1 in
      (record { whole = fits.0; few = ltb_few few.0 }, once.0)
    where
      ltb_few : ltb 32 (length (sectors_in bs)) ≡ false → length (sectors_in bs) ≤ 32
      ltb_few e = ltb-false 32 (length (sectors_in bs)) e

  -- ---- and enough for it

  pub set_is_accepted
      : Fits bs → anywhere (is_twice_in (sectors_in bs)) numbers ≡ false → (set_rule bs).number ≡ 0
  unfolding set_rule
  set_is_accepted fits once = rw (fits.whole, le-ltb 32 (length (sectors_in bs)) fits.few, once)
