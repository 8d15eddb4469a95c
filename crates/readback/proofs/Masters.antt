-- The sectors of pages on a track: the layout takes them, their numbers ascend, and as sectors of a set they are the
-- page maker's. Rests on no axiom.
use Prim.Native.Nat.{ℕ, zero, suc, ◌+◌, ◌-◌, ◌*◌, ◌≤◌, ◌<◌}
use mathlib.Core.Path.{◌≡◌, refl, sym, ap, ◌∙◌}
use mathlib.Core.Bool.{true, false, ◌&&◌}
use mathlib.Core.List.{List, [], ◌∷◌, ◌++◌, map}
use native.Mathlib.Omega.{arith}
use borrow.Author.Tests.{ltb-true, le-leb, eq-eqb}
use lib.ListN.{length, take, drop, replicate, length-append, length-replicate, length-map, take-append-drop}
use Rattle.lists.specs.Place.{everywhere}
use Rattle.lists.specs.Table.{tabulated}
use Rattle.lists.proofs.BoolLaws.{both}
use Rattle.lists.proofs.PlaceLaws.{everywhere_of_none, everywhere_of_passing, everywhere-append}
use Rattle.lists.proofs.PlaceLaws.{everywhere_passes_at_first, everywhere_in_rest}
use Rattle.items.specs.Item.{is_byte}
use Rattle.items.proofs.ItemLaws.{data_is_byte}
use Rattle.sectors.specs.Sector.{sector_size, is_misfit}
use Rattle.sets.specs.Set.{Sector as SetSector}
use Rattle.page.specs.Making.{page_of, sector_of_page}
use Rattle.page.proofs.BackLaws.{page_is_whole}
use Rattle.page.proofs.PageLaws.{length_from}
use Rattle.readback.specs.TrackIndexed.{Sector, Makes, AllMade, not_below, NumbersAscend}
use Rattle.readback.specs.MastersReadBack.{is_cell, master_sector, masters}

-- ---- cells are bytes

parts_are_cells
    : (n : ℕ) (cells : List ℕ)
    → everywhere is_cell cells ≡ true
    → (everywhere is_cell (take n cells) ≡ true) × (everywhere is_cell (drop n cells) ≡ true)
parts_are_cells n cells e =
    both (everywhere is_cell (take n cells)) (everywhere is_cell (drop n cells))
    (sym (everywhere-append is_cell (take n cells) (drop n cells))
    ∙ ap (everywhere is_cell) (take-append-drop n cells)
    ∙ e)

page_is_cells : (cells : List ℕ) (n : ℕ) → everywhere is_cell cells ≡ true → everywhere is_cell (page_of cells n) ≡ true
unfolding page_of
page_is_cells cells n e =
    (parts_are_cells 1000 (drop (1000 * (n - 1)) cells) (parts_are_cells (1000 * (n - 1)) cells e).1).0

cells_are_bytes : (cells : List ℕ) → everywhere is_cell cells ≡ true → everywhere is_byte cells ≡ true
unfolding is_cell
cells_are_bytes [] e = everywhere_of_none is_byte
cells_are_bytes (c ∷ cs) e =
    everywhere_of_passing is_byte c cs
    (data_is_byte c (ltb-true c 256 (everywhere_passes_at_first is_cell c cs e)))
    ∙ cells_are_bytes cs (everywhere_in_rest is_cell c cs e)

fill_is_cells : everywhere is_cell (replicate 24 0) ≡ true
unfolding everywhere is_cell
fill_is_cells = refl

-- ---- the sectors

module _
    (cells : List ℕ) (pages : ℕ) (few : pages ≤ 16) (size : length cells ≡ 1000 * pages)
    (bytes : everywhere is_cell cells ≡ true) (track side : ℕ) (low_track : track < 256) (low_side : side < 256)
  where
    abbrev data_of : ℕ → List ℕ
    data_of n = page_of cells n ++ replicate 24 0

    pub data_is_cells : (n : ℕ) → everywhere is_cell (data_of n) ≡ true
    data_is_cells n =
        everywhere-append is_cell (page_of cells n) (replicate 24 0)
        ∙ rw (page_is_cells cells n bytes, fill_is_cells)

    master_makes : (n : ℕ) → 1 ≤ n → n ≤ pages → Makes (master_sector track side cells n)
    unfolding is_misfit sector_size
    master_makes n low high =
        let whole = page_is_whole cells pages size n low high in
        let count : length (data_of n) ≡ 1024 = rw (length-append, length-replicate, whole) in
        record {
          track = low_track;
          side = low_side;
          sector = omega (arith, few, high);
          fits = rw (eq-eqb (length (data_of n)) 1024 count);
          data_are_bytes = cells_are_bytes (data_of n) (data_is_cells n);
        }

    pub masters_are_made : (k m : ℕ) → k + m ≤ pages → AllMade (masters track side cells k m)
    unfolding masters tabulated
    masters_are_made k zero h = tt
    masters_are_made k (suc m) h =
        (master_makes (suc k) (omega arith) (omega arith), masters_are_made (suc k) m (omega arith))

    none_below : (n k m : ℕ) → n ≤ k → everywhere (not_below (master_sector track side cells n)) (masters track side cells k m) ≡ true
    unfolding masters tabulated not_below
    none_below n k zero h = everywhere_of_none _
    none_below n k (suc m) h =
        everywhere_of_passing (not_below (master_sector track side cells n)) (master_sector track side cells (suc k))
        (masters track side cells (suc k) m) (le-leb n (suc k) (omega arith))
        ∙ none_below n (suc k) m (omega arith)

    pub masters_ascend : (k m : ℕ) → NumbersAscend (masters track side cells k m)
    unfolding masters tabulated
    masters_ascend k zero = tt
    masters_ascend k (suc m) = (none_below (suc k) (suc k) m (omega arith), masters_ascend (suc k) m)

    pub masters_count : (k m : ℕ) → length (masters track side cells k m) ≡ m
    unfolding masters
    masters_count k m = length-map (tabulated suc k m) (master_sector track side cells) ∙ length_from suc k m
