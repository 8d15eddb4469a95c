-- Laws of the pages of a set by its index: a page that is not lost stands in a sector of code 3, whose place the index
-- has. Rests on no axiom.
use Prim.Native.Nat.{ℕ, zero, suc, ◌+◌, ◌≤◌, ◌<◌}
use mathlib.Core.Path.{◌≡◌, refl, sym, ap, ◌∙◌}
use mathlib.Core.Bool.{Bool, true, false, not, ◌&&◌, ◌||◌, true≢false}
use mathlib.Core.List.{List, ◌∷◌}
use native.Mathlib.Numerals.{add-one}
use native.Mathlib.Omega.{arith}
use borrow.Author.Tests.{eqb-true, eqb-false, not-false}
use lib.Dec.{eqb}
use lib.ListN.{length, get_or, take, drop, length-drop}
use lib.Seq.{drop-cons, drop-drop, drop_at, length-take-le, take-add, take-take}
use Rattle.lists.specs.Place.{anywhere}
use Rattle.lists.specs.Table.{tabulated}
use Rattle.lists.proofs.BoolLaws.{both}
use Rattle.lists.proofs.PlaceLaws.{lowest_of_none, below_lowest_fails}
use Rattle.lists.proofs.TableLaws.{entry_is_rule}
use Rattle.sectors.specs.Sector.{sector_size}
use Rattle.sets.specs.Set.{sectors_in}
use Rattle.sets.specs.Held.{One, held_of, numbers}
use Rattle.sets.specs.Alone.{is_twice_in}
use Rattle.sets.specs.machine.Index.{sector_at, shown, Indexed}
use Rattle.sets.proofs.ShownLaws.{place_shows_one}
use Rattle.sets.proofs.EntryLaws.{code_at, holds_at, bytes_at, no_entry_is_missing, entry_is_sector, sector_ends}
use Rattle.page.specs.Page.{page_numbers, cells_in, fill_in, is_dirt, is_soiled}
use Rattle.page.specs.Reading.{is_lost, data_in, lost_at, soiled_at, page_at}

-- ---- the numbers of the pages

pub length_from : (rule : ℕ → ℕ) (k n : ℕ) → length (tabulated rule k n) ≡ n
unfolding tabulated
length_from rule k zero = refl
length_from rule k (suc n) = ap suc (length_from rule (suc k) n)

module _ (pages : ℕ) where
  pub pages_length : length (page_numbers pages) ≡ pages
  unfolding page_numbers
  pages_length = length_from suc 0 pages

  pub page_number : (k : ℕ) → k < pages → get_or (page_numbers pages) k 0 ≡ suc k
  unfolding page_numbers
  page_number k h = entry_is_rule suc pages k 0 h

  pub pages_from : (k : ℕ) → k < pages → drop k (page_numbers pages) ≡ suc k ∷ drop (suc k) (page_numbers pages)
  pages_from k h =
      drop-cons (page_numbers pages) k 0 (rw pages_length h)
      ∙ ap (λ (n : ℕ). n ∷ drop (suc k) (page_numbers pages)) (page_number k h)

  -- a test that passes for no page
  pub none_of_pages
      : (test : ℕ → Bool) → anywhere test (page_numbers pages) ≡ false → (k : ℕ) → k < pages → test (suc k) ≡ false
  none_of_pages test e k h =
      let last = lowest_of_none test (page_numbers pages) e ∙ pages_length in
      sym (ap test (page_number k h)) ∙ below_lowest_fails test (page_numbers pages) 0 k (omega (arith, last))

-- ---- whether a page is lost, by its index entry

pub lost_by_place
    : (set : List ℕ) (entry : ℕ)
    → (entry ≡ 0 → ⊥)
    → (entry ≡ 65535 → ⊥)
    → is_lost (shown set entry) ≡ (not (eqb (get_or set entry 0) 3) || eqb (get_or set (entry + 1) 0) 0)
unfolding is_lost
lost_by_place set entry there single =
    rw (place_shows_one set entry there single, code_at, holds_at)
    (by (eqb (get_or set entry 0) 3) (eqb (get_or set (entry + 1) 0) 0))
  where
    by : (t u : Bool) → not (t && not u) ≡ (not t || u)
    by true true = refl
    by true false = refl
    by false u = refl

pub lost_by_index
    : (set index : List ℕ)
    → Indexed set index
    → (n : ℕ)
    → n < 256
    → lost_at (sectors_in set) n ≡ is_lost (shown set (get_or index n 0))
unfolding lost_at
lost_by_index set index indexed n byte = ap is_lost (sym (indexed.shows n byte))

-- ---- a page that is not lost

drop_of_take : (m n : ℕ) (l : List ℕ) → m ≤ length l → drop m (take (m + n) l) ≡ take n (drop m l)
drop_of_take m n l h =
    ap (drop m) (take-add m n l) ∙ drop_at (take m l) (take n (drop m l)) m (length-take-le m l h)

module _
    (set index : List ℕ) (indexed : Indexed set index)
    (once : anywhere (is_twice_in (sectors_in set)) numbers ≡ false) (n : ℕ) (byte : n < 256)
  where
    abbrev entry : ℕ
    entry = get_or index n 0

    pub record There : Type 0 where
      pub held : held_of n (sectors_in set) ≡ One (sector_at set entry)
      pub code : get_or set entry 0 ≡ 3
      pub ends : entry + 1026 ≤ length set

    pub page_is_there : lost_at (sectors_in set) n ≡ false → There
    unfolding lost_at is_lost sector_size
    page_is_there found = by (eqb entry 0) refl
      where
        by : (t : Bool) → eqb entry 0 ≡ t → There
        by true e =
            absurd (true≢false (sym (ap is_lost (no_entry_is_missing set index indexed n byte (eqb-true entry 0 e)))
            ∙ found))
        by false e =
            let there : entry ≡ 0 → ⊥ = eqb-false entry 0 e in
            let held = entry_is_sector set index indexed n byte once there in
            let s = sector_at set entry in
            let good =
            both (eqb s.code 3) s.holds (not-false _ (sym (ap is_lost held) ∙ found)) in
            let code = sym (code_at set entry) ∙ eqb-true s.code 3 good.0 in
            let ends = sector_ends set index indexed n byte once there in
            record { held = held; code = code; ends = omega (arith, rw code at ends) }

    module _ (there : There) where
      data_there : data_in (held_of n (sectors_in set)) ≡ take 1024 (drop (entry + 2) set)
      unfolding sector_size
      data_there =
          ap data_in there.held
          ∙ bytes_at set entry
          ∙ ap (λ (c : ℕ). take (sector_size c) (drop (entry + 2) set)) there.code

      pub cells_there : page_at (sectors_in set) n ≡ take 1000 (drop (entry + 2) set)
      unfolding page_at cells_in
      cells_there =
          ap (take 1000) data_there ∙ take-take 1000 1024 (drop (entry + 2) set) (omega arith)

      pub cells_count : length (page_at (sectors_in set) n) ≡ 1000
      cells_count =
          ap length cells_there
          ∙ length-take-le 1000 (drop (entry + 2) set) (rw length-drop (omega (arith, there.ends)))

      pub fill_there : soiled_at (sectors_in set) n ≡ anywhere is_dirt (take 24 (drop (entry + 1002) set))
      unfolding soiled_at is_soiled fill_in
      fill_there =
          let rest = drop (entry + 2) set in
          let long : 1000 ≤ length rest = rw length-drop (omega (arith, there.ends)) in
          let at : entry + 2 + 1000 ≡ entry + 1002 = omega arith in
          ap (λ (bytes : List ℕ). anywhere is_dirt (drop 1000 bytes)) data_there
          ∙ ap (anywhere is_dirt) (drop_of_take 1000 24 rest long
          ∙ ap (take 24) (drop-drop 1000 (entry + 2) set ∙ ap (λ (k : ℕ). drop k set) at))

-- the page of a turn stands in its sector, where none is lost
pub stands_in_turn
    : (set index : List ℕ) (indexed : Indexed set index)
    (once : anywhere (is_twice_in (sectors_in set)) numbers ≡ false) (pages k : ℕ)
    → pages ≤ 16
    → anywhere (lost_at (sectors_in set)) (page_numbers pages) ≡ false
    → k < pages
    → (byte : k + 1 < 256) × There set index indexed once (k + 1) byte
stands_in_turn set index indexed once pages k few none inside =
    let byte : k + 1 < 256 = omega arith in (
      byte,
      page_is_there set index indexed once (k + 1) byte
          (rw add-one (none_of_pages pages (lost_at (sectors_in set)) none k inside)),
    )
