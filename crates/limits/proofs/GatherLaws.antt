-- Laws of the gathering: a side that is seen is stored behind those before it; so the places handed back are the limits
-- in the order of the sides, then blank ones. Rests on no axiom.
use Rattle.std.specs.Prelude.{Result, Ok, Err}
use Rattle.std.specs.Prelude.{Option, Some, None}
use Prim.Native.Nat.{ℕ, suc, ◌+◌, ◌≤◌, ◌<◌}
use mathlib.Core.Path.{◌≡◌, refl, sym, ap, ◌∙◌}
use mathlib.Core.List.{List, [], ◌∷◌}
use native.Mathlib.Omega.{arith}
use native.Mathlib.Numerals.{add-one}
use native.Mathlib.Nat.{le_refl}
use lib.ListN.{length, take, set, replicate}
use lib.Seq.{take_all, length-take-le}
use borrow.Author.Tests.{lt-ltb, le-ltb}
use Rattle.lists.specs.Filled.{filled, stored_at}
use Rattle.lists.proofs.StoreLaws.{stored_at_front_fills, front_of_filled}
use Rattle.refusal.specs.Answer.{accepted, refused}
use Rattle.refusal.specs.Table.{number_of, place_of}
use Rattle.refusal.specs.declared.Refusal.{Refusal}
use Rattle.refusal.proofs.AnswerLaws.{refused_earlier, accepted_later, number_is_not_zero}
use Rattle.timing.specs.Profile.{profile_rule}
use Rattle.timing.specs.declared.Profile.{Profile}
use Rattle.lengths.specs.Margin.{margin_rule}
use Rattle.limits.specs.Sides.{sides}
use Rattle.limits.specs.Limits.{one_more, if_seen, limits_from, limits_of, limits_rule, limits_table, limits_answer}
use Rattle.limits.specs.machine.Search.{shown_at, searched, limit_of, blank, no_limits, pushed, gathered_from, gathered}
use Rattle.limits.specs.declared.side.Side.{Side}
use Rattle.limits.specs.declared.search.Evidence.{Evidence}
use Rattle.limits.specs.declared.Limit.{Limit}
use Rattle.limits.specs.declared.Limits.{Limits}

-- ---- one side

module _ (p : Profile) (n : ℕ) (a : Limits) (s : Side) where
  pub pushed_nothing : searched p s n ≡ None → pushed p n a s ≡ a
  unfolding pushed
  pushed_nothing e = rw e

  module _ (i k : ℕ) (e : searched p s n ≡ shown_at i k) where
    pub pushed_one
        : a.count < 10
        → pushed p n a s
        ≡ record { count = a.count + 1; limits = set a.limits a.count (limit_of p s i k) }
    unfolding pushed
    pushed_one h = rw (e, lt-ltb a.count 10 h)

    pub pushed_over : 10 ≤ a.count → pushed p n a s ≡ a
    unfolding pushed
    pushed_over h = rw (e, le-ltb a.count 10 h)

-- ---- all sides

module _ (p : Profile) (n : ℕ) where
  -- a limit is stored for each side that is seen, from the next place on
  pub record Stored (a : Limits) (ss : List Side) : Type 0 where
    pub count : (gathered_from p n a ss).count ≡ a.count + length (limits_from p n ss)
    pub places : (gathered_from p n a ss).limits ≡ stored_at a.limits a.count (limits_from p n ss)

  module _ (a : Limits) (s : Side) (ss : List Side) where
    gathered_with : (b : Limits) → pushed p n a s ≡ b → gathered_from p n a (s ∷ ss) ≡ gathered_from p n b ss
    unfolding gathered_from
    gathered_with b e = ap (λ (x : Limits). gathered_from p n x ss) e

    pub limits_with : (q : Option Evidence) → searched p s n ≡ q → limits_from p n (s ∷ ss) ≡ if_seen p s q (limits_from p n ss)
    unfolding limits_from
    limits_with q e = ap (λ (x : Option Evidence). if_seen p s x (limits_from p n ss)) e

    one_more_stored
        : (i k : ℕ)
        → searched p s n ≡ shown_at i k
        → a.count < 10
        → Stored (record { count = a.count + 1; limits = set a.limits a.count (limit_of p s i k) }) ss
        → Stored a (s ∷ ss)
    unfolding stored_at
    one_more_stored i k e h later =
        let next = gathered_with _ (pushed_one p n a s i k e h) in
        record {
          count = rw (next, limits_with (shown_at i k) e) (later.count ∙ omega arith);
          places =
              rw (next, limits_with (shown_at i k) e)
              (later.places
              ∙ ap (λ (at : ℕ). stored_at (set a.limits a.count (limit_of p s i k)) at (limits_from p n ss))
              (add-one a.count));
        }

    none_more_stored : searched p s n ≡ None → Stored a ss → Stored a (s ∷ ss)
    none_more_stored e later =
        let next = gathered_with a (pushed_nothing p n a s e) in
        record {
          count = rw (next, limits_with None e) later.count;
          places = rw (next, limits_with None e) later.places;
        }

    side_is_stored
        : a.count + suc (length ss) ≤ 10
        → ((b : Limits) → b.count + length ss ≤ 10 → Stored b ss)
        → (q : Option Evidence)
        → searched p s n ≡ q
        → Stored a (s ∷ ss)
    side_is_stored h later None e = none_more_stored e (later a (omega arith))
    side_is_stored h later (Some shown) e = one_more_stored shown.item shown.interval e (omega arith) (later _ (omega arith))

    one_at_most
        : length (limits_from p n ss) ≤ length ss
        → (q : Option Evidence)
        → length (if_seen p s q (limits_from p n ss)) ≤ suc (length ss)
    one_at_most h None = omega arith
    one_at_most h (Some shown) = omega arith

  limits_are_few : (ss : List Side) → length (limits_from p n ss) ≤ length ss
  unfolding limits_from
  limits_are_few [] = omega arith
  limits_are_few (s ∷ ss) = one_at_most no_limits s ss (limits_are_few ss) (searched p s n)

  limits_are_stored : (ss : List Side) (a : Limits) → a.count + length ss ≤ 10 → Stored a ss
  unfolding gathered_from limits_from stored_at
  limits_are_stored [] a h = record { count = omega arith; places = refl }
  limits_are_stored (s ∷ ss) a h = side_is_stored a s ss h (limits_are_stored ss) (searched p s n) refl

  pub gathered_count : (gathered p n).count ≡ length (limits_from p n sides)
  unfolding gathered
  gathered_count = let stored = limits_are_stored sides no_limits (omega arith) in stored.count ∙ omega arith

  pub gathered_places : (gathered p n).limits ≡ filled (limits_from p n sides) (replicate 10 blank)
  unfolding gathered
  gathered_places =
      (limits_are_stored sides no_limits (omega arith)).places
      ∙ stored_at_front_fills (limits_from p n sides) (replicate 10 blank) (limits_are_few sides)

-- ---- the answer

module _ (p : Profile) where
  abbrev all : List Limit
  all = limits_of p

  pub refused_as_margin
      : (r : Refusal)
      → refused (number_of r) (place_of r) ≡ margin_rule p
      → (refused (number_of r) (place_of r) ≡ limits_rule p) × (replicate 10 blank ≡ limits_table p)
  unfolding margin_rule limits_rule limits_table filled
  refused_as_margin r e =
      let same = refused_earlier r (profile_rule p) _ e in
      rw (← same, number_is_not_zero r) (refl, refl)

  pub accepted_with_limits
      : (profile_rule p).number ≡ 0
      → (accepted (gathered p (one_more p)).count ≡ limits_rule p) × ((gathered p (one_more p)).limits ≡ limits_table p)
  unfolding limits_rule limits_table limits_of
  accepted_with_limits ok =
      rw (ok, take_all (length all) all (le_refl (length all)))
      (ap accepted (gathered_count p (one_more p)), gathered_places p (one_more p))

  -- as many as are counted are at the front, and none is without a place
  all_are_few : length all ≤ 10
  unfolding limits_of
  all_are_few = limits_are_few p (one_more p) sides

  counted_by : (c : Result Limits Refusal) → limits_answer c ≡ limits_rule p → (limits_rule p).count ≤ length all
  unfolding limits_rule
  counted_by (Ok found) e =
      let same = (accepted_later (profile_rule p) found.count (length all) e).1 in rw (← e) (omega (arith, same))
  counted_by (Err r) e = rw (← e) (omega arith)

  pub count_is_few : (c : Result Limits Refusal) → limits_answer c ≡ limits_rule p → (limits_rule p).count ≤ 10
  count_is_few c e = omega (arith, counted_by c e, all_are_few)

  pub front_of_table
      : (c : Result Limits Refusal)
      → limits_answer c ≡ limits_rule p
      → take (limits_rule p).count (limits_table p) ≡ take (limits_rule p).count all
  unfolding limits_table
  front_of_table c e =
      let front = take (limits_rule p).count all in
      let long : length front ≡ (limits_rule p).count = length-take-le (limits_rule p).count all (counted_by c e) in
      ap (λ (n : ℕ). take n (filled front (replicate 10 blank))) (sym long) ∙ front_of_filled front (replicate 10 blank)
