-- Laws of the sectors that pages are made into: 1,027 bytes each, one after the other. Rests on no axiom.
use Prim.Native.Nat.{ℕ, zero, suc, ◌+◌, ◌-◌, ◌*◌, ◌≤◌, ◌<◌}
use mathlib.Core.Path.{◌≡◌, refl, sym, ap, ◌∙◌}
use mathlib.Core.List.{List, [], ◌++◌, map}
use native.Mathlib.Omega.{arith}
use lib.ListN.{length, set, take, drop, replicate, length-append, length-drop, length-replicate, drop_of_length-le}
use lib.Seq.{length-take-le}
use Rattle.lists.specs.Filled.{stored_at}
use Rattle.sets.specs.Set.{Sector, sector_bytes, set_bytes}
use Rattle.sets.proofs.FormLaws.{bytes_of_first}
use Rattle.page.specs.Page.{page_numbers}
use Rattle.page.specs.Making.{page_of, sector_of_page, made_sectors, made_set}
use Rattle.page.proofs.PageLaws.{pages_length, pages_from}

-- ---- one sector

module _ (n : ℕ) (page : List ℕ) where
  pub sector_length : length page ≡ 1000 → length (sector_bytes (sector_of_page n page)) ≡ 1027
  unfolding sector_bytes sector_of_page
  sector_length size = rw (length-append, length-replicate, size)

  -- its stores, one after the other
  pub sector_stored
      : (old : List ℕ) (start : ℕ)
      → stored_at (set (set (set old start n) (start + 1) 3) (start + 2) 1) (start + 3) (page ++ replicate 24 0)
      ≡ stored_at old start (sector_bytes (sector_of_page n page))
  unfolding stored_at sector_bytes sector_of_page
  sector_stored old start =
      let one : start + 1 ≡ suc start = omega arith in
      let two : start + 2 ≡ suc (suc start) = omega arith in
      let three : start + 3 ≡ suc (suc (suc start)) = omega arith in
      rw (one, two, three)

-- ---- all of them

module _ (cells : List ℕ) (pages : ℕ) where
  abbrev made_sector : ℕ → Sector
  made_sector n = sector_of_page n (page_of cells n)

  -- those after the first k
  unfoldable pub bytes_after : ℕ → List ℕ
  bytes_after k = set_bytes (map made_sector (drop k (page_numbers pages)))

  pub all_bytes : bytes_after 0 ≡ made_set cells pages
  unfolding bytes_after made_set made_sectors
  all_bytes = refl

  pub bytes_here : (k : ℕ) → k < pages → bytes_after k ≡ sector_bytes (made_sector (suc k)) ++ bytes_after (suc k)
  unfolding bytes_after
  bytes_here k h = rw (pages_from pages k h) (bytes_of_first _ _)

  pub bytes_at_end : (k : ℕ) → pages ≤ k → bytes_after k ≡ []
  unfolding bytes_after set_bytes
  bytes_at_end k h =
      let end : length (page_numbers pages) ≤ k = rw (pages_length pages) h in
      rw (drop_of_length-le (page_numbers pages) end)

  pub page_here : (k : ℕ) → page_of cells (suc k) ≡ take 1000 (drop (1000 * k) cells)
  unfolding page_of
  page_here k =
      let same : suc k - 1 ≡ k = omega arith in
      ap (λ (j : ℕ). take 1000 (drop (1000 * j) cells)) same

  module _ (size : length cells ≡ 1000 * pages) where
    pub page_size : (k : ℕ) → k < pages → length (page_of cells (suc k)) ≡ 1000
    page_size k h =
        ap length (page_here k)
        ∙ length-take-le 1000 (drop (1000 * k) cells) (rw length-drop (omega (arith, size)))

    pub sector_size_here : (k : ℕ) → k < pages → length (sector_bytes (made_sector (suc k))) ≡ 1027
    sector_size_here k h = sector_length (suc k) (page_of cells (suc k)) (page_size k h)

    size_after : (left k : ℕ) → k + left ≡ pages → length (bytes_after k) ≡ 1027 * left
    size_after zero k e = ap length (bytes_at_end k (omega arith))
    size_after (suc left) k e =
        let rest = size_after left (suc k) (omega arith) in
        let here = sector_size_here k (omega arith) in
        ap length (bytes_here k (omega arith))
        ∙ length-append (sector_bytes (made_sector (suc k))) (bytes_after (suc k))
        ∙ omega (arith, rest, here)

    pub made_size : length (made_set cells pages) ≡ 1027 * pages
    made_size = sym (ap length all_bytes) ∙ size_after pages 0 (omega arith)
