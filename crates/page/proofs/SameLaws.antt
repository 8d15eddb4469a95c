-- A set and the result of its merge with the empty set give the same pages: both are taken, and have the same of each
-- number. And reading and that merge turn a set away alike, since both begin with the tests of the set by itself. Rests
-- on no axiom.
use Prim.Native.Nat.{ℕ, suc, ◌*◌, ◌≤◌, ◌<◌}
use mathlib.Core.Path.{◌≡◌, refl, sym, ap, ◌∙◌}
use mathlib.Core.Bool.{Bool, true, false, cond, true≢false}
use mathlib.Core.List.{List, []}
use native.Mathlib.Omega.{arith}
use borrow.Author.Tests.{eq-eqb}
use lib.Dec.{eqb, ltb}
use lib.ListN.{length}
use Rattle.lists.specs.Place.{anywhere, lowest}
use Rattle.refusal.specs.Answer.{Answer, accepted, refused, refuse_if, first_refusal}
use Rattle.refusal.proofs.AnswerLaws.{first_refusal_accepts}
use Rattle.timing.specs.Profile.{outside}
use Rattle.sets.specs.Set.{Sector, sectors_in}
use Rattle.sets.specs.Held.{held_of}
use Rattle.sets.specs.Alone.{set_rule}
use Rattle.merge.specs.Rule.{merge_rule, room_rule, result}
use Rattle.merge.proofs.Claims.{merge_laws}
use Rattle.merge.proofs.RuleLaws.{room_refuses_with_9}
use Rattle.page.specs.Page.{page_numbers, is_soiled, cells_in, dots_of}
use Rattle.page.specs.Reading.{is_lost, data_in, lost_at, soiled_at, page_at, pages_in, dots_in, pages_rule, read_rule}
use Rattle.page.specs.Reading.{read_answer, read_output}
use Rattle.page.specs.Claims.{is_of_set}
use Rattle.page.proofs.EachPageLaws.{in_range, pages_alike, counts_alike, anywhere_alike, lowest_alike}
use Rattle.page.proofs.ReadingLaws.{range_passes}

-- ---- sectors that are the same of each page's number

module _
    (ss ts : List Sector) (pages : ℕ) (few : pages ≤ 16)
    (same : (n : ℕ) → n < 256 → held_of n ss ≡ held_of n ts)
  where
    lost_alike : (n : ℕ) → 1 ≤ n → n ≤ pages → lost_at ss n ≡ lost_at ts n
    unfolding lost_at
    lost_alike n low high = ap is_lost (same n (omega (arith, high, few)))

    soil_alike : (n : ℕ) → 1 ≤ n → n ≤ pages → soiled_at ss n ≡ soiled_at ts n
    unfolding soiled_at
    soil_alike n low high = ap (λ h. is_soiled (data_in h)) (same n (omega (arith, high, few)))

    page_alike : (n : ℕ) → 1 ≤ n → n ≤ pages → page_at ss n ≡ page_at ts n
    unfolding page_at
    page_alike n low high = ap (λ h. cells_in (data_in h)) (same n (omega (arith, high, few)))

    pub rules_alike : (room : ℕ) → pages_rule ss pages room ≡ pages_rule ts pages room
    unfolding pages_rule
    rules_alike room =
        rw (
          anywhere_alike pages (lost_at ss) (lost_at ts) lost_alike,
          lowest_alike pages (lost_at ss) (lost_at ts) lost_alike,
          anywhere_alike pages (soiled_at ss) (soiled_at ts) soil_alike,
          lowest_alike pages (soiled_at ss) (soiled_at ts) soil_alike,
        )

    pub cells_alike : pages_in ss pages ≡ pages_in ts pages
    unfolding pages_in
    cells_alike = pages_alike pages (page_at ss) (page_at ts) page_alike

    pub dots_alike : dots_in ss pages ≡ dots_in ts pages
    unfolding dots_in
    dots_alike = counts_alike pages _ _ (λ n low high. ap dots_of (page_alike n low high))

-- ---- a set and the merge's result

module _ (set : List ℕ) (room : ℕ) (taken : (merge_rule set [] room).number ≡ 0) where
  alone : (bs : List ℕ) (r : ℕ) → (merge_rule bs [] r).number ≡ 0 → (set_rule bs).number ≡ 0
  alone bs r e =
      (first_refusal_accepts (set_rule bs) (room_rule (sectors_in bs) (sectors_in []) r)
      (sym (ap (λ (a : Answer). a.number) (merge_laws.with_the_empty_set bs r)) ∙ e)).0

  again : (set_rule (result set [])).number ≡ 0
  again =
      let merged = result set [] in
      let more = length (result merged []) in
      alone merged more
      (ap (λ (a : Answer). a.number) ((merge_laws.merged_is_taken set [] room taken).0 more (omega arith)))

  abbrev ss : List Sector
  ss = sectors_in set

  abbrev ts : List Sector
  ts = sectors_in (result set [])

  same : (n : ℕ) → n < 256 → held_of n ts ≡ held_of n ss
  same n h = merge_laws.each_number_kept set room n taken h

  pub read_alike : (pages other : ℕ) → read_rule (result set []) pages other ≡ read_rule set pages other
  unfolding read_rule
  read_alike pages other = by (outside 1 16 pages) refl
    where
      by
          : (t : Bool)
          → outside 1 16 pages ≡ t
          → refuse_if t 12 0 (first_refusal (set_rule (result set [])) (pages_rule ts pages other))
          ≡ refuse_if t 12 0 (first_refusal (set_rule set) (pages_rule ss pages other))
      by true e = refl
      by false e =
          rw (eq-eqb (set_rule (result set [])).number 0 again, eq-eqb (set_rule set).number 0 (alone set room taken))
          (rules_alike ts ss pages (in_range pages e).1 same other)

  module _ (old : List ℕ) (pages : ℕ) where
    abbrev Alike : Type 0
    Alike =
        (read_answer (result set []) pages (length old) ≡ read_answer set pages (length old))
        × (read_output (result set []) pages old ≡ read_output set pages old)

    refused_alike : outside 1 16 pages ≡ true → Alike
    unfolding read_rule read_answer read_output
    refused_alike e = rw e (refl, refl)

    range_alike : outside 1 16 pages ≡ false → Alike
    unfolding read_answer read_output
    range_alike e =
        let few = (in_range pages e).1 in
        rw (
          read_alike pages (length old),
          dots_alike ts ss pages few same,
          cells_alike ts ss pages few same,
        )
        (refl, refl)

    pub both_alike : Alike
    both_alike =
        (elim (outside 1 16 pages) as (λ t. outside 1 16 pages ≡ t → Alike)
        [ true ↦ refused_alike | false ↦ range_alike ]) refl

-- ---- 13, 15 and 17

-- a refusal that the later tests do not give comes from the earlier ones, whatever the later are
passes_on
    : (a later other : Answer) (n p : ℕ)
    → (later.number ≡ n → ⊥)
    → first_refusal a later ≡ refused n p
    → first_refusal a other ≡ refused n p
passes_on a later other n p never e = by (eqb a.number 0) e
  where
    by : (t : Bool) → cond t later a ≡ refused n p → cond t other a ≡ refused n p
    by true q = absurd (never (ap (λ (b : Answer). b.number) q))
    by false q = q

pages_rule_is_later
    : (ss : List Sector) (pages room n : ℕ) → is_of_set n ≡ true → (pages_rule ss pages room).number ≡ n → ⊥
unfolding pages_rule
pages_rule_is_later ss pages room n h e =
    by (anywhere (lost_at ss) (page_numbers pages)) (anywhere (soiled_at ss) (page_numbers pages)) (ltb room (1000 * pages))
    e
  where
    by
        : (t u v : Bool)
        → (refuse_if t 19 (suc (lowest (lost_at ss) (page_numbers pages)))
        (refuse_if u 20 (suc (lowest (soiled_at ss) (page_numbers pages))) (refuse_if v 9 0 (accepted pages)))
        ).number
        ≡ n
        → ⊥
    by true u v q = true≢false (sym h ∙ ap is_of_set (sym q))
    by false true v q = true≢false (sym h ∙ ap is_of_set (sym q))
    by false false true q = true≢false (sym h ∙ ap is_of_set (sym q))
    by false false false q = true≢false (sym h ∙ ap is_of_set (sym q))

room_rule_is_later
    : (ss ts : List Sector) (room n : ℕ) → is_of_set n ≡ true → (room_rule ss ts room).number ≡ n → ⊥
room_rule_is_later ss ts room n h e =
    true≢false (sym h ∙ ap is_of_set (room_refuses_with_9 ss ts room n e (λ z. true≢false (sym h ∙ ap is_of_set z))))

pub turned_away_alike
    : (set : List ℕ) (pages room other number place : ℕ)
    → 1 ≤ pages
    → pages ≤ 16
    → is_of_set number ≡ true
    → (read_rule set pages room ≡ refused number place → merge_rule set [] other ≡ refused number place)
    × (merge_rule set [] other ≡ refused number place → read_rule set pages room ≡ refused number place)
turned_away_alike set pages room other number place low high h =
    let reading = range_passes set pages room low high in
    let merging = merge_laws.with_the_empty_set set other in (
      λ e.
          merging
          ∙ passes_on (set_rule set) _ _ number place (pages_rule_is_later (sectors_in set) pages room number h)
          (sym reading ∙ e),
      λ e.
          reading
          ∙ passes_on (set_rule set) _ _ number place
          (room_rule_is_later (sectors_in set) (sectors_in []) other number h) (sym merging ∙ e),
    )
