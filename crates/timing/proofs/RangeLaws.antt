-- Laws of the ranges, for any number of them: where no number is out of its range, each is inside, and the other way
-- round; and a scan from the first number on finds the lowest that is out, since a number that is inside moves the scan
-- on by one. Rests on no axiom.
use Rattle.std.proofs.Common.{◌≡◌, ℕ, suc, ◌+◌, ◌<◌, ◌≤◌, Bool, true, false, cond, ltb, List, [], ◌∷◌, length, get_or, drop, ◌∙◌, add-zero, add-suc, suc-add, drop_of_length-le, drop-cons, ltb-false, le-ltb}
use Rattle.std.specs.Prelude.{Option, Some, None}
use mathlib.Mathlib.Data.Bool.Basic.{or-eq-false-eq-eq-false-and-eq-false}
use Rattle.lists.specs.Place.{anywhere, lowest, passed}
use Rattle.lists.proofs.PlaceLaws.{anywhere_of_none, anywhere_of_failing, nowhere_fails_at_first, nowhere_in_rest}
use Rattle.timing.specs.Profile.{outside, outside_of, Inside}
use Rattle.timing.specs.declared.Range.{Range}

-- ---- no test passed

pub none_outside_all_inside : (rs : List Range) (ns : List ℕ) → anywhere passed (outside_of rs ns) ≡ false → Inside rs ns
none_outside_all_inside [] ns e = tt
none_outside_all_inside (range ∷ rs) [] e = tt
none_outside_all_inside (range ∷ rs) (n ∷ ns) e =
    let here = nowhere_fails_at_first passed (outside range.low range.high n) (outside_of rs ns) e in
    let later = nowhere_in_rest passed (outside range.low range.high n) (outside_of rs ns) e in
    let within = (or-eq-false-eq-eq-false-and-eq-false (ltb n range.low) (ltb range.high n)).0 here in
    (ltb-false n range.low within.0, ltb-false range.high n within.1, none_outside_all_inside rs ns later)

pub inside_is_not_outside : (low high x : ℕ) → low ≤ x → x ≤ high → outside low high x ≡ false
inside_is_not_outside low high x h g = rw (le-ltb x low h, le-ltb high x g)

pub all_inside_none_outside : (rs : List Range) (ns : List ℕ) → Inside rs ns → anywhere passed (outside_of rs ns) ≡ false
all_inside_none_outside [] ns within = anywhere_of_none passed
all_inside_none_outside (range ∷ rs) [] within = anywhere_of_none passed
all_inside_none_outside (range ∷ rs) (n ∷ ns) within =
    anywhere_of_failing passed _ _ (inside_is_not_outside range.low range.high n within.0 within.1)
    ∙ all_inside_none_outside rs ns within.2

-- ---- a scan

-- where the first of some tests passes, counted from 1, the first of them having place k
abbrev pub place_from : ℕ → List Bool → Option ℕ
place_from k ts = cond (anywhere passed ts) (Some (suc (k + lowest passed ts))) None

-- what a scan that has passed k numbers is still to find
abbrev pub unset_from : List Range → List ℕ → ℕ → Option ℕ
unset_from rs ns k = place_from k (outside_of (drop k rs) (drop k ns))

module _ (rs : List Range) (ns : List ℕ) (d : Range) (k : ℕ) (hr : k < length rs) (hn : k < length ns) where
  abbrev test : Bool
  test = outside (get_or rs k d).low (get_or rs k d).high (get_or ns k 0)

  pub scan_ends_here : test ≡ true → unset_from rs ns k ≡ Some (suc k)
  unfolding anywhere lowest
  scan_ends_here e = rw (drop-cons rs k d hr, drop-cons ns k 0 hn, e, add-zero)

  pub scan_goes_on : test ≡ false → unset_from rs ns k ≡ unset_from rs ns (suc k)
  unfolding anywhere lowest
  scan_goes_on e = rw (drop-cons rs k d hr, drop-cons ns k 0 hn, e, add-suc, suc-add)

pub scan_finds_none : (rs : List Range) (ns : List ℕ) (k : ℕ) → length rs ≤ k → unset_from rs ns k ≡ None
unfolding anywhere
scan_finds_none rs ns k h = rw (drop_of_length-le rs h)
