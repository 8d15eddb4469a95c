-- What reading accepts: each sector 1 to p is of code 3 with a sum that holds, and its data is the page read and 24 bytes
-- of 00. Rests on no axiom.
use Prim.Native.Nat.{ℕ, zero, suc, ◌+◌, ◌*◌, ◌≤◌, ◌<◌}
use mathlib.Core.Path.{◌≡◌, refl, sym, ap, ap₂, ◌∙◌}
use mathlib.Core.Bool.{Bool, true, false, true≢false}
use mathlib.Core.List.{List, [], ◌∷◌, ◌++◌}
use native.Mathlib.Omega.{arith}
use borrow.Author.Tests.{eqb-true, ltb-false, not-false}
use lib.Dec.{eqb, leb, ltb}
use lib.ListN.{length, take, drop, replicate, length-drop, take-append-drop}
use lib.Seq.{take_at, drop_at, drop-drop, length-take-le}
use Rattle.lists.specs.Place.{anywhere, everywhere}
use Rattle.lists.proofs.BoolLaws.{both}
use Rattle.lists.proofs.PlaceLaws.{nowhere_fails_at_first, nowhere_in_rest, everywhere_passes_at_first}
use Rattle.refusal.proofs.AnswerLaws.{refuse_if_accepts, first_refusal_accepts}
use Rattle.timing.specs.Profile.{outside}
use Rattle.sectors.specs.Sector.{sector_size}
use Rattle.sets.specs.Set.{Sector, sectors_in}
use Rattle.sets.specs.Held.{Held, Nothing, One, Twice, held_of}
use Rattle.sets.specs.Alone.{set_rule}
use Rattle.sets.specs.Claims.{is_sector}
use Rattle.sets.proofs.FormLaws.{sets_as_bytes, fits_is_some}
use Rattle.sets.proofs.SetRuleLaws.{accepted_set}
use Rattle.merge.proofs.HeldLaws.{held_has_number}
use Rattle.merge.proofs.MergedLaws.{held_is_sectors}
use Rattle.page.specs.Page.{page_numbers, cells_in, fill_in, is_dirt, is_soiled}
use Rattle.page.specs.Reading.{is_lost, data_in, lost_at, soiled_at, page_at, pages_in, pages_rule, read_rule}
use Rattle.page.specs.Making.{page_of, sector_of_page}
use Rattle.page.proofs.PageLaws.{none_of_pages}
use Rattle.page.proofs.MakingLaws.{page_here}
use Rattle.page.proofs.ReadingLaws.{cells_after, all_cells, cells_here, pages_size}

-- ---- what acceptance says

pub record Reads (set : List ℕ) (pages room : ℕ) : Type 0 where
  pub fits : (set_rule set).number ≡ 0
  pub found : anywhere (lost_at (sectors_in set)) (page_numbers pages) ≡ false
  pub clean : anywhere (soiled_at (sectors_in set)) (page_numbers pages) ≡ false
  pub roomy : 1000 * pages ≤ room

pub read_says : (set : List ℕ) (pages room : ℕ) → (read_rule set pages room).number ≡ 0 → Reads set pages room
unfolding read_rule pages_rule
read_says set pages room e =
    let range = refuse_if_accepts (outside 1 16 pages) 11 0 _ e in
    let parts = first_refusal_accepts (set_rule set) _ range.1 in
    let lost = refuse_if_accepts (anywhere (lost_at (sectors_in set)) (page_numbers pages)) 18 _ _ parts.1 in
    let soil = refuse_if_accepts (anywhere (soiled_at (sectors_in set)) (page_numbers pages)) 19 _ _ lost.1 in
    let full = refuse_if_accepts (ltb room (1000 * pages)) 8 0 _ soil.1 in
    record { fits = parts.0; found = lost.0; clean = soil.0; roomy = ltb-false room (1000 * pages) full.0 }

-- ---- a page that is not lost

record Good (h : Held) : Type 0 where
  pub sector : Sector
  pub here : h ≡ One sector
  pub code : sector.code ≡ 3
  pub holds : sector.holds ≡ true

good_if_found : (h : Held) → is_lost h ≡ false → Good h
unfolding is_lost
good_if_found Nothing e = absurd (true≢false e)
good_if_found (One s) e =
    let tests = both (eqb s.code 3) s.holds (not-false _ e) in
    record { sector = s; here = refl; code = eqb-true _ 3 tests.0; holds = tests.1 }
good_if_found Twice e = absurd (true≢false e)

-- bytes that are all 00
blank_if_clean : (bytes : List ℕ) → anywhere is_dirt bytes ≡ false → bytes ≡ replicate (length bytes) 0
unfolding is_dirt
blank_if_clean [] e = refl
blank_if_clean (b ∷ bs) e =
    ap₂ ◌∷◌ (eqb-true b 0 (not-false _ (nowhere_fails_at_first is_dirt b bs e)))
    (blank_if_clean bs (nowhere_in_rest is_dirt b bs e))

abbrev sector_with : ℕ → ℕ → Bool → List ℕ → Sector
sector_with n c h bs = record { number = n; code = c; holds = h; bytes = bs }

module _ (set : List ℕ) (pages : ℕ) (room : ℕ) (reads : Reads set pages room) where
  abbrev ss : List Sector
  ss = sectors_in set

  all_sectors : everywhere is_sector ss ≡ true
  all_sectors =
      sets_as_bytes.read_is_sectors set ss (fits_is_some set (accepted_set set reads.fits).0.whole)

  module _ (k : ℕ) (inside : k < pages) where
    good : Good (held_of (suc k) ss)
    unfolding lost_at
    good = good_if_found (held_of (suc k) ss) (none_of_pages pages (lost_at ss) reads.found k inside)

    abbrev bytes : List ℕ
    bytes = good.sector.bytes

    size : length bytes ≡ 1024
    unfolding is_sector sector_size
    size =
        let whole = rw good.here at (held_is_sectors (suc k) ss all_sectors) in
        let s = good.sector in
        let tests =
        both (leb s.code 3) (eqb (length bytes) (sector_size s.code))
        (everywhere_passes_at_first is_sector s [] whole) in
        eqb-true _ _ tests.1 ∙ ap sector_size good.code

    page_is : page_at ss (suc k) ≡ take 1000 bytes
    unfolding page_at cells_in
    page_is = ap (λ h. cells_in (data_in h)) good.here

    pub page_size : length (page_at ss (suc k)) ≡ 1000
    page_size = ap length page_is ∙ length-take-le 1000 bytes (omega (arith, size))

    fill_is : drop 1000 bytes ≡ replicate 24 0
    unfolding soiled_at is_soiled fill_in
    fill_is =
        let clean =
        ap (λ h. is_soiled (data_in h)) (sym good.here)
        ∙ none_of_pages pages (soiled_at ss) reads.clean k inside in
        let count : length (drop 1000 bytes) ≡ 24 = rw length-drop (omega (arith, size)) in
        blank_if_clean (drop 1000 bytes) clean ∙ ap (λ (n : ℕ). replicate n 0) count

    number_is : good.sector.number ≡ suc k
    number_is = eqb-true _ (suc k) (rw good.here at (held_has_number (suc k) ss))

    pub sector_is : held_of (suc k) ss ≡ One (sector_of_page (suc k) (page_at ss (suc k)))
    unfolding sector_of_page
    sector_is =
        good.here
        ∙ ap One (ap₂ (λ (n c : ℕ). sector_with n c good.sector.holds bytes) number_is good.code
        ∙ ap₂ (sector_with (suc k) 3) good.holds
        (sym (take-append-drop 1000 bytes) ∙ ap₂ ◌++◌ (sym page_is) fill_is))

  -- ---- the page read is the sector's

  after_first : (k : ℕ) → k ≤ pages → drop (1000 * k) (pages_in ss pages) ≡ cells_after ss pages k
  after_first zero h = sym (all_cells ss pages)
  after_first (suc k) h =
      let here = page_size k h in
      let next : 1000 * suc k ≡ 1000 * k + 1000 = omega arith in
      ap (λ (j : ℕ). drop j (pages_in ss pages)) next
      ∙ sym (drop-drop 1000 (1000 * k) (pages_in ss pages))
      ∙ ap (drop 1000) (after_first k (omega arith) ∙ cells_here ss pages k h)
      ∙ drop_at (page_at ss (suc k)) (cells_after ss pages (suc k)) 1000 here

  pub page_read : (k : ℕ) → k < pages → page_of (pages_in ss pages) (suc k) ≡ page_at ss (suc k)
  page_read k h =
      page_here (pages_in ss pages) pages k
      ∙ ap (take 1000) (after_first k (omega arith) ∙ cells_here ss pages k h)
      ∙ take_at (page_at ss (suc k)) (cells_after ss pages (suc k)) 1000 (page_size k h)

-- as many cells as the pages have, and room for them
pub read_fills
    : (set : List ℕ) (pages room : ℕ)
    → (read_rule set pages room).number ≡ 0
    → (length (pages_in (sectors_in set) pages) ≡ 1000 * pages) × (1000 * pages ≤ room)
read_fills set pages room e =
    let reads = read_says set pages room e in
    (pages_size (sectors_in set) pages (page_size set pages room reads), reads.roomy)
