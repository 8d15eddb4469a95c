-- Why pages made into sectors read as the same pages: the set has sector n, and it alone, of number n, with the page in
-- front of 24 bytes of 00. Rests on no axiom.
use Prim.Native.Nat.{ℕ, zero, suc, ◌+◌, ◌-◌, ◌*◌, ◌≤◌, ◌<◌}
use mathlib.Core.Path.{◌≡◌, refl, sym, ap, ◌∙◌}
use mathlib.Core.Bool.{Bool, true, false, not}
use mathlib.Core.List.{List, ◌∷◌, ◌++◌, map, flat_map}
use mathlib.Core.Option.{some}
use native.Mathlib.Omega.{arith}
use borrow.Author.Tests.{eq-eqb, eqb-true, eqb-false, not-false}
use lib.Dec.{eqb}
use lib.ListN.{length, take, drop, replicate, length-append, length-replicate, length-map, take-append-drop}
use lib.ListN.{drop_of_length-le}
use lib.Seq.{take_at, drop_at, drop-drop}
use Rattle.lists.specs.Place.{anywhere, everywhere}
use Rattle.lists.specs.Table.{tabulated}
use Rattle.lists.proofs.PlaceLaws.{everywhere_of_none, everywhere_of_passing}
use Rattle.refusal.specs.Answer.{accepted}
use Rattle.refusal.proofs.AnswerLaws.{refuse_if_accepts}
use Rattle.timing.specs.Profile.{outside}
use Rattle.sectors.specs.Sector.{sector_size}
use Rattle.sets.specs.Set.{Sector, set_of, sectors_in}
use Rattle.sets.specs.Held.{Nothing, One, with_copy, held_of, is_twice}
use Rattle.sets.specs.Alone.{is_twice_in, set_rule}
use Rattle.sets.specs.Claims.{is_sector}
use Rattle.sets.proofs.FormLaws.{sets_as_bytes, sectors_of_set}
use Rattle.sets.proofs.NumberLaws.{nowhere_if_never}
use Rattle.sets.proofs.SetRuleLaws.{set_is_accepted}
use Rattle.merge.proofs.HeldLaws.{held_of_none, held_of_own_first, held_of_other_first}
use Rattle.page.specs.Page.{page_numbers, cells_in, fill_in, is_dirt, is_soiled, dots_of}
use Rattle.page.specs.Reading.{is_lost, data_in, lost_at, soiled_at, page_at, pages_in, dots_in, read_rule}
use Rattle.page.specs.Making.{page_of, sector_of_page, made_sectors, made_set, make_rule}
use Rattle.page.proofs.EachPageLaws.{in_range, each_page, nowhere_on_pages, pages_alike, counts_alike}
use Rattle.page.proofs.PageLaws.{pages_length, pages_from}
use Rattle.page.proofs.MakingLaws.{page_here, page_size}
use Rattle.page.proofs.ReadingLaws.{set_passes, pages_pass}

-- ---- sectors numbered in ascending order

module _ (g : ℕ → Sector) (own : (n : ℕ) → (g n).number ≡ n) where
  abbrev from : ℕ → ℕ → List Sector
  from k m = map g (tabulated suc k m)

  pub not_before : (n k m : ℕ) → n ≤ k → held_of n (from k m) ≡ Nothing
  unfolding tabulated
  not_before n k zero h = held_of_none n
  not_before n k (suc m) h =
      held_of_other_first n (g (suc k)) (from (suc k) m) (λ e. omega (arith, own (suc k), h, e))
      ∙ not_before n (suc k) m (omega arith)

  pub once_each : (n k m : ℕ) → is_twice (held_of n (from k m)) ≡ false
  unfolding tabulated
  once_each n k zero = ap is_twice (held_of_none n)
  once_each n k (suc m) = by (eqb (suc k) n) refl (once_each n (suc k) m)
    where
      by
          : (t : Bool)
          → eqb (suc k) n ≡ t
          → is_twice (held_of n (from (suc k) m)) ≡ false
          → is_twice (held_of n (g (suc k) ∷ from (suc k) m)) ≡ false
      by true e r =
          let here = eqb-true (suc k) n e in
          ap is_twice (held_of_own_first n (g (suc k)) (from (suc k) m) (own (suc k) ∙ here))
          ∙ ap (λ h. is_twice (with_copy (g (suc k)) h)) (not_before n (suc k) m (omega (arith, here)))
      by false e r =
          let there = eqb-false (suc k) n e in
          ap is_twice (held_of_other_first n (g (suc k)) (from (suc k) m) (λ q. there (sym (own (suc k)) ∙ q))) ∙ r

  pub own_held : (d k m : ℕ) → d < m → held_of (suc (k + d)) (from k m) ≡ One (g (suc (k + d)))
  unfolding tabulated
  own_held d k zero h = absurd (omega arith)
  own_held zero k (suc m) h =
      let same : suc (k + 0) ≡ suc k = omega arith in
      rw same (held_of_own_first (suc k) (g (suc k)) (from (suc k) m) (own (suc k))
      ∙ ap (with_copy (g (suc k))) (not_before (suc k) (suc k) m (omega arith)))
  own_held (suc d) k (suc m) h =
      let same : suc (k + suc d) ≡ suc (suc k + d) = omega arith in
      rw same (held_of_other_first (suc (suc k + d)) (g (suc k)) (from (suc k) m) (λ e.
      omega (arith, own (suc k), e))
      ∙ own_held d (suc k) m (omega arith))

-- ---- the made set

module _ (cells : List ℕ) where
  abbrev pub made : ℕ → Sector
  made n = sector_of_page n (page_of cells n)

  pub numbered : (n : ℕ) → (made n).number ≡ n
  unfolding sector_of_page
  numbered n = refl

  pub sector_is_whole : (n : ℕ) → length (page_of cells n) ≡ 1000 → is_sector (made n) ≡ true
  unfolding is_sector sector_of_page sector_size
  sector_is_whole n h =
      let all : length (page_of cells n ++ replicate 24 0) ≡ 1024 = rw (length-append, length-replicate, h) in
      rw (eq-eqb _ 1024 all)

  pub page_is_whole
      : (pages : ℕ) → length cells ≡ 1000 * pages → (n : ℕ) → 1 ≤ n → n ≤ pages → length (page_of cells n) ≡ 1000
  page_is_whole pages size n low high =
      let same : suc (n - 1) ≡ n = omega arith in
      rw (← same) (page_size cells pages size (n - 1) (omega arith))

module _ (cells : List ℕ) (pages : ℕ) (few : pages ≤ 16) (size : length cells ≡ 1000 * pages) where
  abbrev ss : List Sector
  ss = sectors_in (made_set cells pages)

  all_whole : everywhere is_sector (made_sectors cells pages) ≡ true
  unfolding made_sectors
  all_whole =
      each_page pages (λ ns. everywhere is_sector (map (made cells) ns) ≡ true) (everywhere_of_none is_sector)
      (λ n ns low high r.
      everywhere_of_passing is_sector (made cells n) (map (made cells) ns) (sector_is_whole cells n (page_is_whole cells pages size n low high)) ∙ r)

  reads_back : set_of (made_set cells pages) ≡ some (made_sectors cells pages)
  unfolding made_set
  reads_back = sets_as_bytes.print_then_read (made_sectors cells pages) all_whole

  sectors_read : ss ≡ made_sectors cells pages
  sectors_read = (sectors_of_set (made_set cells pages) (made_sectors cells pages) reads_back).1

  sector_count : length ss ≡ pages
  unfolding made_sectors
  sector_count = ap length sectors_read ∙ length-map (page_numbers pages) (made cells) ∙ pages_length pages

  none_twice : (n : ℕ) → is_twice_in ss n ≡ false
  unfolding is_twice_in made_sectors page_numbers
  none_twice n =
      ap (λ (ts : List Sector). is_twice (held_of n ts)) sectors_read ∙ once_each (made cells) (numbered cells) n 0 pages

  pub set_accepted : (set_rule (made_set cells pages)).number ≡ 0
  set_accepted =
      set_is_accepted (made_set cells pages)
      (record {
        whole = (sectors_of_set (made_set cells pages) (made_sectors cells pages) reads_back).0;
        few = omega (arith, sector_count, few);
      })
      (nowhere_if_never (is_twice_in ss) (λ n h. none_twice n))

  -- ---- its pages

  module _ (n : ℕ) (low : 1 ≤ n) (high : n ≤ pages) where
    held : held_of n ss ≡ One (made cells n)
    unfolding made_sectors page_numbers
    held =
        let same : suc (0 + (n - 1)) ≡ n = omega arith in
        ap (held_of n) sectors_read
        ∙ rw same at (own_held (made cells) (numbered cells) (n - 1) 0 pages (omega arith))

    pub page_found : lost_at ss n ≡ false
    unfolding lost_at is_lost sector_of_page
    page_found = ap is_lost held

    pub page_kept : page_at ss n ≡ page_of cells n
    unfolding page_at cells_in sector_of_page
    page_kept =
        ap (λ h. cells_in (data_in h)) held
        ∙ take_at (page_of cells n) (replicate 24 0) 1000 (page_is_whole cells pages size n low high)

    pub page_clean : soiled_at ss n ≡ false
    unfolding soiled_at is_soiled fill_in sector_of_page anywhere is_dirt
    page_clean =
        ap (λ h. is_soiled (data_in h)) held
        ∙ ap (anywhere is_dirt) (drop_at (page_of cells n) (replicate 24 0) 1000 (page_is_whole cells pages size n low high))

  -- ---- all of them together

  joined_after
      : (left k : ℕ)
      → k + left ≡ pages
      → flat_map (page_of cells) (drop k (page_numbers pages)) ≡ drop (1000 * k) cells
  unfolding flat_map
  joined_after zero k e =
      let no_numbers : length (page_numbers pages) ≤ k = rw (pages_length pages) (omega arith) in
      let no_cells : length cells ≤ 1000 * k = omega (arith, size) in
      rw (drop_of_length-le (page_numbers pages) no_numbers, drop_of_length-le cells no_cells)
  joined_after (suc left) k e =
      let next : 1000 * k + 1000 ≡ 1000 * suc k = omega arith in
      rw (pages_from pages k (omega arith), joined_after left (suc k) (omega arith), page_here cells pages k)
      (ap (λ (rest : List ℕ). take 1000 (drop (1000 * k) cells) ++ rest)
      (ap (λ (j : ℕ). drop j cells) (sym next) ∙ sym (drop-drop 1000 (1000 * k) cells))
      ∙ take-append-drop 1000 (drop (1000 * k) cells))

  pub cells_kept : pages_in ss pages ≡ cells
  unfolding pages_in
  cells_kept = pages_alike pages (page_at ss) (page_of cells) page_kept ∙ joined_after pages 0 (omega arith)

  pub dots_kept : dots_in ss pages ≡ map (λ n. dots_of (page_of cells n)) (page_numbers pages)
  unfolding dots_in
  dots_kept = counts_alike pages _ _ (λ n low high. ap dots_of (page_kept n low high))

  pub made_reads : (room : ℕ) → 1 ≤ pages → 1000 * pages ≤ room → read_rule (made_set cells pages) pages room ≡ accepted pages
  made_reads room low h =
      set_passes (made_set cells pages) pages room low few set_accepted
      ∙ sym (pages_pass ss pages room (nowhere_on_pages pages (lost_at ss) page_found)
      (nowhere_on_pages pages (soiled_at ss) page_clean) h)

-- what the maker accepts
pub made_says
    : (cells : List ℕ) (pages room : ℕ)
    → (make_rule cells pages room).number ≡ 0
    → (1 ≤ pages) × (pages ≤ 16) × (length cells ≡ 1000 * pages)
unfolding make_rule
made_says cells pages room e =
    let range = refuse_if_accepts (outside 1 16 pages) 11 0 _ e in
    let whole = refuse_if_accepts (not (eqb (length cells) (1000 * pages))) 12 0 _ range.1 in
    let pages_in_lem = in_range pages range.0 in
    (pages_in_lem.0, pages_in_lem.1, eqb-true _ _ (not-false _ whole.0))
