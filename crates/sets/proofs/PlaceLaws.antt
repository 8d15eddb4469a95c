-- Laws of a walk over a set, sector by sector: what one turn finds at its place, as the count and the index need it.
-- Rests on no axiom.
use Prim.Native.Nat.{ℕ, ◌+◌, ◌-◌, ◌≤◌, ◌<◌}
use mathlib.Core.Path.{◌≡◌, refl, ap, ◌∙◌}
use mathlib.Core.Logic.{◌⊎◌, inl, inr, ⊎_elim}
use mathlib.Core.Bool.{Bool, true, false}
use mathlib.Core.List.{List}
use mathlib.Core.Option.{Option, none, some}
use native.Mathlib.Omega.{arith}
use lib.Dec.{ltb}
use lib.ListN.{length, drop, get_or}
use borrow.Author.Tests.{ltb-true, ltb-false, eqb-false}
use Rattle.refusal.specs.Table.{number_of, place_of}
use Rattle.refusal.specs.declared.Refusal.{Refusal}
use Rattle.refusal.specs.Answer.{Answer, accepted, refused}
use Rattle.refusal.proofs.AnswerLaws.{number_is_not_zero}
use Rattle.sectors.specs.Sector.{sector_size}
use Rattle.sets.specs.Set.{Sector, with_first, set_of}
use Rattle.sets.specs.machine.Index.{sector_at, end_rule, count_rule}
use Rattle.sets.proofs.SetLaws.{set_from_place, short_end_is_no_set}

module _ (set : List ℕ) (start : ℕ) where
  abbrev size : ℕ
  size = sector_size (get_or set (start + 1) 0)

  -- a whole sector stands at the place
  pub record Whole (end : ℕ) : Type 0 where
    pub here : end ≡ start + 3 + sector_size (get_or set (start + 1) 0)
    pub ends : end ≤ length set
    pub rule : end_rule set start ≡ accepted end
    pub then : set_of (drop start set) ≡ with_first (sector_at set (start + 1)) (set_of (drop end set))

  pub record Misfit : Type 0 where
    pub rule : end_rule set start ≡ refused 13 0
    pub no_set : set_of (drop start set) ≡ none

  module _ (inside : start < length set) where
    -- one of the two is so
    pub whole_or_misfit : Whole (start + 3 + size) ⊎ Misfit
    unfolding end_rule
    whole_or_misfit =
        by (ltb (length set - start) 3) (ltb 3 (get_or set (start + 1) 0)) (ltb (length set - start - 3) size) refl refl
        refl
      where
        three : ltb (length set - start) 3 ≡ false → start + 3 ≤ length set
        three e = let h = ltb-false (length set - start) 3 e in omega arith

        by
            : (t u v : Bool)
            → ltb (length set - start) 3 ≡ t
            → ltb 3 (get_or set (start + 1) 0) ≡ u
            → ltb (length set - start - 3) size ≡ v
            → Whole (start + 3 + size) ⊎ Misfit
        by true u v e f g =
            let h = ltb-true (length set - start) 3 e in
            inr (record { rule = rw e; no_set = short_end_is_no_set set start inside (omega arith) })
        by false true v e f g = inr (record { rule = rw (e, f); no_set = set_from_place set start (three e) ∙ rw f })
        by false false true e f g =
            inr (record { rule = rw (e, f, g); no_set = set_from_place set start (three e) ∙ rw (f, g) })
        by false false false e f g =
            let fits = ltb-false (length set - start - 3) size g in
            inl (record {
              here = refl;
              ends = omega (arith, three e);
              rule = rw (e, f, g);
              then = set_from_place set start (three e) ∙ rw (f, g);
            })

    -- ---- the count's turn

    pub misfit_ends_the_count
        : (r : Refusal) (k : ℕ)
        → refused (number_of r) (place_of r) ≡ end_rule set start
        → refused (number_of r) (place_of r) ≡ count_rule k (set_of (drop start set))
    misfit_ends_the_count r k e =
        ⊎_elim (λ w. absurd (eqb-false _ _ (number_is_not_zero r) (ap (λ (a : Answer). a.number) (e ∙ w.rule))))
        (λ m. rw m.no_set (e ∙ m.rule)) whole_or_misfit

    pub sector_is_whole : (end : ℕ) → accepted end ≡ end_rule set start → Whole end
    sector_is_whole end e =
        ⊎_elim (λ w. rw (ap (λ (a : Answer). a.count) (e ∙ w.rule)) w)
        (λ m. absurd (let q : ◌≡◌ {A = ℕ} 0 13 = ap (λ (a : Answer). a.number) (e ∙ m.rule) in omega arith))
        whole_or_misfit

pub count_with_first
    : (k : ℕ) (s : Sector) (o : Option (List Sector)) → count_rule k (with_first s o) ≡ count_rule (k + 1) o
count_with_first k s none = refl
count_with_first k s (some ss) = ap accepted (omega arith)
