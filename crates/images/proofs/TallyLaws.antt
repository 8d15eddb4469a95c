-- A tally along a list: it is a fold, it only grows, and with what the closing 0s end it is the number of cells, so
-- that it stays small. Rests on no axiom.
use Prim.Native.Nat.{ℕ, ◌+◌, ◌%◌, ◌≤◌, ◌<◌}
use mathlib.Core.Path.{◌≡◌, refl, sym, ap, ◌∙◌}
use mathlib.Core.Bool.{true, cond}
use mathlib.Core.List.{List, [], ◌∷◌, ◌++◌}
use native.Mathlib.Nat.{zero-add}
use native.Mathlib.Omega.{arith}
use native.Mathlib.Numerals.{add-one}
use lib.Dec.{eqb}
use lib.ListN.{length, get_or, drop}
use lib.Seq.{drop-cons}
use Rattle.lists.specs.Place.{everywhere}
use Rattle.lists.proofs.PlaceLaws.{everywhere_in_rest, everywhere_passes_at_first}
use Rattle.items.specs.Item.{is_byte}
use Rattle.items.specs.Rule.{list_rule}
use Rattle.items.specs.Written.{written}
use Rattle.items.proofs.RuleLaws.{listed}
use Rattle.items.proofs.WrittenLaws.{length_of_written, written_are_bytes}
use Rattle.symbols.specs.Bits.{O}
use Rattle.symbols.specs.Cells.{written_cells}
use Rattle.symbols.proofs.UnitLaws.{cells_at_most}
use Rattle.words.specs.Words.{last_bit}
use Rattle.images.specs.machine.Tally.{no_tally, tallied_byte, tallied}
use Rattle.images.specs.declared.count.Tally.{Tally}
use Rattle.images.proofs.WordLaws.{last_bit_is_data, word_is_kept}
use Rattle.images.proofs.CountLaws.{cells_left, cells_left_of_none, cells_left_of_byte, cells_left_at_start}

-- ---- a fold

pub tallied-append : (t : Tally) (us ws : List ℕ) → tallied t (us ++ ws) ≡ tallied (tallied t us) ws
unfolding tallied
tallied-append t [] ws = refl
tallied-append t (u ∷ us) ws = tallied-append (tallied_byte t u) us ws

-- from place k on
pub tallied_from : (t : Tally) (ws : List ℕ) (k : ℕ) → k < length ws
    → tallied t (drop k ws) ≡ tallied (tallied_byte t (get_or ws k 0)) (drop (k + 1) ws)
unfolding tallied
tallied_from t ws k h = rw (add-one, drop-cons ws k 0) refl

pub tallied_none : (t : Tally) → tallied t [] ≡ t
unfolding tallied
tallied_none t = refl

-- ---- small

pub tally_at_least : (t : Tally) (ws : List ℕ) → t.cells ≤ (tallied t ws).cells
unfolding tallied tallied_byte
tally_at_least t [] = omega arith
tally_at_least t (w ∷ ws) = let rest = tally_at_least (tallied_byte t w) ws in omega arith

-- ---- the number of cells

cells_with_the_rest : (t : Tally) (ws : List ℕ) → everywhere is_byte ws ≡ true
    → (tallied t ws).cells + cells_left (last_bit (tallied t ws).previous) []
    ≡ t.cells + cells_left (last_bit t.previous) ws
unfolding tallied tallied_byte
cells_with_the_rest t [] bytes = refl
cells_with_the_rest t (w ∷ ws) bytes =
    let rest = cells_with_the_rest (tallied_byte t w) ws (everywhere_in_rest is_byte w ws bytes) in
    let before = last_bit t.previous in
    let first =
    cells_left_of_byte before w ws (word_is_kept before w (last_bit_is_data t.previous)
    (everywhere_passes_at_first is_byte w ws bytes)) in
    rest ∙ omega arith

pub tally_is_count : (ws : List ℕ) → everywhere is_byte ws ≡ true
    → (tallied no_tally ws).cells + cond (eqb ((tallied no_tally ws).previous % 2) 1) 1 2 ≡ length (written_cells ws)
unfolding last_bit
tally_is_count ws bytes =
    let end = (tallied no_tally ws).previous in
    ap (λ (n : ℕ). (tallied no_tally ws).cells + n) (sym (cells_left_of_none end))
    ∙ cells_with_the_rest no_tally ws bytes
    ∙ zero-add (cells_left O ws)
    ∙ cells_left_at_start ws bytes

-- no accepted list writes more than 51,202 cells
pub tally_of_list_fits : (items : List ℕ) → (list_rule items).number ≡ 0 → (tallied no_tally (written items)).cells < 65536
tally_of_list_fits items accepted =
    let l = listed items accepted in
    let count = tally_is_count (written items) (written_are_bytes items l.none_foreign) in
    let most = cells_at_most (written items) in
    let bytes = length_of_written items in
    let few = l.few_bytes in
    omega arith
