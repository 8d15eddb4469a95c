-- Why the sets of stretches of pages, merged, are the set of all of them: the sectors of neighbouring stretches are never
-- at odds, and by number they stand one after the other. Rests on no axiom.
use Prim.Native.Nat.{ℕ, zero, suc, ◌+◌, ◌*◌, ◌≤◌}
use mathlib.Core.Path.{◌≡◌, refl, sym, ap, ap₂, ◌∙◌}
use mathlib.Core.Bool.{true}
use mathlib.Core.List.{List, [], ◌∷◌, map}
use mathlib.Core.Option.{some}
use native.Mathlib.Omega.{arith}
use lib.ListN.{length, length-map}
use Rattle.lists.specs.Place.{everywhere}
use Rattle.lists.specs.Sum.{sum_of}
use Rattle.lists.specs.Table.{tabulated}
use Rattle.lists.proofs.PlaceLaws.{everywhere_of_none, everywhere_of_passing}
use Rattle.sets.specs.Set.{Sector, set_bytes, set_of, sectors_in}
use Rattle.sets.specs.Held.{held_of}
use Rattle.sets.specs.Claims.{is_sector}
use Rattle.sets.proofs.FormLaws.{sets_as_bytes, sectors_of_set}
use Rattle.sets.proofs.NumberLaws.{lists_agree, counts_agree, nowhere_if_never}
use Rattle.sets.proofs.SetRuleLaws.{Fits}
use Rattle.merge.specs.Merge.{as_list, taken_at, merged, is_there, in_either, at_odds_at}
use Rattle.merge.specs.Claims.{Takes}
use Rattle.merge.specs.Rule.{result}
use Rattle.merge.proofs.AcceptLaws.{accepts_takes}
use Rattle.merge.proofs.AloneLaws.{numbers_at_most_sectors}
use Rattle.merge.proofs.MergedLaws.{taken_is_there}
use Rattle.page.specs.Page.{page_numbers}
use Rattle.page.specs.Making.{made_sectors, made_set, stretch_set}
use Rattle.page.specs.Claims.{merged_all, AllTaken, stretch_sets}
use Rattle.page.proofs.BackLaws.{made, numbered, sector_is_whole, page_is_whole}
use Rattle.page.proofs.PageLaws.{length_from}
use Rattle.page.proofs.StretchLaws.{taken_of_both, at_peace, in_order}

module _ (cells : List ℕ) (pages : ℕ) (few : pages ≤ 16) (size : length cells ≡ 1000 * pages) where
  abbrev part : ℕ → ℕ → List Sector
  part k m = map (made cells) (tabulated suc k m)

  all_whole : (k m : ℕ) → k + m ≤ pages → everywhere is_sector (part k m) ≡ true
  unfolding tabulated
  all_whole k zero h = everywhere_of_none is_sector
  all_whole k (suc m) h =
      everywhere_of_passing is_sector (made cells (suc k)) (part (suc k) m)
      (sector_is_whole cells (suc k) (page_is_whole cells pages size (suc k) (omega arith) (omega arith)))
      ∙ all_whole (suc k) m (omega arith)

  read_back : (k m : ℕ) → k + m ≤ pages → set_of (stretch_set cells k m) ≡ some (part k m)
  unfolding stretch_set
  read_back k m h = sets_as_bytes.print_then_read (part k m) (all_whole k m h)

  sectors_are : (k m : ℕ) → k + m ≤ pages → sectors_in (stretch_set cells k m) ≡ part k m
  sectors_are k m h = (sectors_of_set (stretch_set cells k m) (part k m) (read_back k m h)).1

  count_is : (k m : ℕ) → length (part k m) ≡ m
  count_is k m = length-map (tabulated suc k m) (made cells) ∙ length_from suc k m

  fits : (k m : ℕ) → k + m ≤ pages → Fits (stretch_set cells k m)
  fits k m h =
      record {
        whole = (sectors_of_set (stretch_set cells k m) (part k m) (read_back k m h)).0;
        few = rw (sectors_are k m h, count_is k m) (omega (arith, few, h));
      }

  module _ (k m l : ℕ) (inside : k + m + l ≤ pages) where
    first_inside : k + m ≤ pages
    first_inside = omega arith

    pub stretches_merge : result (stretch_set cells k m) (stretch_set cells (k + m) l) ≡ stretch_set cells k (m + l)
    unfolding merged taken_at stretch_set
    stretches_merge =
        ap set_bytes (ap₂ merged (sectors_are k m first_inside) (sectors_are (k + m) l inside)
        ∙ lists_agree _ _ (λ n h. ap as_list (taken_of_both (made cells) (numbered cells) k m l n))
        ∙ in_order (made cells) (numbered cells) k (m + l) (omega (arith, few)))

    pub stretches_taken : Takes (stretch_set cells k m) (stretch_set cells (k + m) l)
    unfolding in_either at_odds_at
    stretches_taken =
        accepts_takes _ _ (record {
          first_fits = fits k m first_inside;
          second_fits = fits (k + m) l inside;
          different =
              rw (sectors_are k m first_inside, sectors_are (k + m) l inside)
              (rw (counts_agree _ (λ n. is_there (held_of n (part k (m + l)))) (λ n h.
              sym (taken_is_there _ _) ∙ ap is_there (taken_of_both (made cells) (numbered cells) k m l n)))
              (omega (arith, few, numbers_at_most_sectors (part k (m + l)), count_is k (m + l))));
          peace =
              rw (sectors_are k m first_inside, sectors_are (k + m) l inside)
              (nowhere_if_never _ (λ n h. at_peace (made cells) (numbered cells) k m l n));
        })

  pub shares_merge
      : (shares : List ℕ) (k : ℕ)
      → k + sum_of shares ≤ pages
      → AllTaken (stretch_sets cells k shares)
      × (merged_all (stretch_sets cells k shares) ≡ stretch_set cells k (sum_of shares))
  unfolding merged_all stretch_sets sum_of stretch_set set_bytes tabulated
  shares_merge [] k h = (tt, refl)
  shares_merge (share ∷ shares) k h =
      let rest = shares_merge shares (k + share) (omega arith) in
      let inside : k + share + sum_of shares ≤ pages = omega arith in
      let taken = stretches_taken k share (sum_of shares) inside in (
        (rw rest.1 taken, rest.0),
        ap (result (stretch_set cells k share)) rest.1 ∙ stretches_merge k share (sum_of shares) inside,
      )

  pub all_of_them : stretch_set cells 0 pages ≡ made_set cells pages
  unfolding stretch_set made_set made_sectors page_numbers
  all_of_them = refl
