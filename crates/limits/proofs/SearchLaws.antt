-- Laws of the search: an interval that crosses ends it, one that does not moves it on. Rests on no axiom.
use Rattle.std.specs.Prelude.{Option, Some, None, is_some}
use Prim.Native.Nat.{ℕ, suc, ◌+◌, ◌-◌, ◌≤◌, ◌<◌}
use mathlib.Core.Path.{◌≡◌}
use mathlib.Core.Bool.{Bool, true, false, true≢false, false≢true}
use mathlib.Core.List.{List}
use native.Mathlib.Numerals.{add-one}
use native.Mathlib.Omega.{arith}
use lib.ListN.{length, get_or, drop, drop_of_length-le}
use lib.Seq.{drop-cons}
use Rattle.timing.specs.Class.{is_two, class_of}
use Rattle.timing.specs.declared.Profile.{Profile}
use Rattle.limits.specs.Sides.{crosses}
use Rattle.limits.specs.machine.Search.{shown_at, seen_from, seen_in, searched_from}
use Rattle.limits.specs.declared.side.Side.{Side}
use Rattle.limits.specs.declared.search.Evidence.{Evidence}

module _ (p : Profile) (s : Side) (n item : ℕ) (two : Bool) (ds : List ℕ) (k : ℕ) where
  pub seen_here
      : k < length ds → crosses p s n two (get_or ds k 0) ≡ true → seen_from p s n item two k (drop k ds) ≡ shown_at item k
  unfolding seen_from
  seen_here h e = rw (drop-cons ds k 0 h, e)

  pub seen_further
      : k < length ds
      → crosses p s n two (get_or ds k 0) ≡ false
      → seen_from p s n item two k (drop k ds)
      ≡ seen_from p s n item (is_two (class_of p two (get_or ds k 0))) (k + 1) (drop (k + 1) ds)
  unfolding seen_from
  seen_further h e = rw (drop-cons ds k 0 h, e, add-one)

  pub seen_nowhere : length ds ≤ k → seen_from p s n item two k (drop k ds) ≡ None
  unfolding seen_from
  seen_nowhere h = rw (drop_of_length-le ds h)

-- a list with such an interval ends the search, one without moves it on
module _ (p : Profile) (s : Side) (n item : ℕ) where
  one_list_less : item < 28 → 28 - item ≡ suc (28 - (item + 1))
  one_list_less h = omega arith

  pub found_here
      : item < 28
      → (seen : Option Evidence)
      → seen ≡ seen_in p s n item
      → is_some seen ≡ true
      → searched_from p s n (28 - item) item ≡ seen
  unfolding searched_from
  found_here h None e q = absurd (false≢true q)
  found_here h (Some evidence) e q = rw (one_list_less h, ← e)

  pub found_later
      : item < 28
      → (seen : Option Evidence)
      → seen ≡ seen_in p s n item
      → is_some seen ≡ false
      → searched_from p s n (28 - item) item ≡ searched_from p s n (28 - (item + 1)) (item + 1)
  unfolding searched_from
  found_later h None e q = rw (one_list_less h, ← e)
  found_later h (Some evidence) e q = absurd (true≢false q)

  pub found_nowhere : 28 ≤ item → searched_from p s n (28 - item) item ≡ None
  unfolding searched_from
  found_nowhere h = let e : 28 - item ≡ 0 = omega arith in rw e
