-- A field that reads as three A1 marks and more begins with the classes of three such marks: bytes without a gap out of
-- place have but one way to be bits, and the cells of bits that were read are computed. Rests on no axiom.
use Prim.Native.Nat.{ℕ}
use mathlib.Core.Path.{◌≡◌, refl, sym, ap, ◌∙◌}
use mathlib.Core.Bool.{true, false, true≢false}
use mathlib.Core.List.{List, [], ◌∷◌, ◌++◌, map}
use native.Mathlib.Omega.{arith}
use borrow.Author.Tests.{eq-eqb}
use lib.Dec.{eqb}
use lib.ListN.{length}
use Rattle.lists.specs.Place.{anywhere, passed}
use Rattle.lists.proofs.BoolLaws.{both}
use Rattle.lists.proofs.PlaceLaws.{anywhere-append}
use Rattle.timing.specs.Class.{classes_of, class_number}
use Rattle.timing.specs.declared.Profile.{Profile}
use Rattle.timing.specs.declared.Class.{Class}
use Rattle.items.specs.Item.{is_mark}
use Rattle.symbols.specs.Bits.{Bit, O, I, byte_bits, mark_bits, with_gaps, written_bits, all_bits}
use Rattle.symbols.specs.Cells.{pair_symbols, symbols_from, symbols_of, cells_from, cells_of}
use Rattle.symbols.specs.Reading.{units, given, last_after, read_from, read_bits}
use Rattle.symbols.specs.Bytes.{item_of, row_strays, rows_of, strays_of, items_read, strays_read}
use Rattle.symbols.specs.Strip.{is_stray}
use Rattle.symbols.specs.declared.Cell.{Cell}
use Rattle.symbols.specs.declared.Cell.TheVariants.{Short, Medium, Long}
use Rattle.symbols.proofs.TestLaws.{neither}
use Rattle.symbols.proofs.PlaceLaws.{by_rows, rows_of_few}
use Rattle.symbols.proofs.RowLaws.{written_of_row}
use Rattle.symbols.proofs.ReadingLaws.{cells_of_read}
use Rattle.fields.specs.Field.{bits_wanted, cells_taken, field_cells, field_items}
use Rattle.fields.specs.FieldRule.{field_rule}
use Rattle.locks.specs.Lock.{begins_with}
use Rattle.locks.specs.machine.Marks.{three_marks}
use Rattle.fields.proofs.TakenLaws.{taken_one_more, by_taking}
use Rattle.fields.proofs.FieldLaws.{field_items_of_cells, field_stray_of_cells}
use Rattle.fields.proofs.RuleLaws.{gather_stops_nowhere, gather_meets_no_stray, gather_accepts}
use Rattle.locks.proofs.MarkLaws.{number_of_read}

-- ---- bits without a gap out of place are those of the bytes that they read as, and what is left over

abbrev Letters : List Bit → Type 0
Letters bs = (left : List Bit) × (bs ≡ all_bits (map item_of (rows_of bs)) ++ left)

letters : (bs : List Bit) → anywhere passed (strays_of (rows_of bs)) ≡ false → Letters bs
unfolding rows_of strays_of all_bits
letters =
    by_rows (λ bs. anywhere passed (strays_of (rows_of bs)) ≡ false → Letters bs)
    (λ bs few fair. (bs, rw (rows_of_few bs few))) λ a b c d e f g h bs more fair.
    let row = a ∷ b ∷ c ∷ d ∷ e ∷ f ∷ g ∷ h ∷ [] in
    let parts =
    neither (anywhere passed (row_strays row)) (anywhere passed (strays_of (rows_of bs)))
    (sym (anywhere-append passed (row_strays row) (strays_of (rows_of bs))) ∙ fair) in
    let (left, same) = more parts.1 in (
      left,
      rw (written_of_row a b c d e f g h parts.0)
          (ap (λ (x : List Bit). a ∷ b ∷ c ∷ d ∷ e ∷ f ∷ g ∷ h ∷ x) same),
    )

-- the lead of cells that read as some byte is a 0
lead_is_zero
    : (xs : List Cell) (w : ℕ) (ws : List ℕ)
    → is_stray (read_bits xs) ≡ false
    → items_read (read_bits xs) ≡ w ∷ ws
    → (bs : List Bit) × (read_bits xs ≡ O ∷ bs)
unfolding is_stray strays_read items_read anywhere read_bits read_from given last_after
lead_is_zero [] w ws fair read = absurd (let q = ap length read in omega arith)
lead_is_zero (Short ∷ xs) w ws fair read = (read_from O xs, refl)
lead_is_zero (Medium ∷ xs) w ws fair read = (I ∷ read_from I xs, refl)
lead_is_zero (Long ∷ xs) w ws fair read = absurd (true≢false fair)

-- ---- cells that read as three A1 marks and more

abbrev pub after_marks : List ℕ → List ℕ
after_marks us = 0x1a1 ∷ 0x1a1 ∷ 0x1a1 ∷ us

cells_of_marks
    : (us : List ℕ) (left : List Bit)
    → (vs : List ℕ) × (cells_of (symbols_of ((O ∷ all_bits (after_marks us) ++ left) ++ (O ∷ []))) ≡ three_marks ++ vs)
unfolding three_marks cells_of cells_from symbols_of symbols_from pair_symbols all_bits written_bits mark_bits with_gaps byte_bits
    is_mark
cells_of_marks us left = (cells_from 2 (symbols_from I ((all_bits us ++ left) ++ (O ∷ []))), refl)

cells_begin
    : (xs : List Cell) (us : List ℕ)
    → is_stray (read_bits xs) ≡ false
    → items_read (read_bits xs) ≡ after_marks us
    → (vs : List ℕ) × (map units xs ≡ three_marks ++ vs)
unfolding is_stray strays_read items_read anywhere strays_of rows_of
cells_begin xs us fair read =
    let (bs, lead) = lead_is_zero xs _ _ fair read in
    let (left, same) = letters bs (rw lead at fair) in
    let items : map item_of (rows_of bs) ≡ after_marks us = rw lead at read in
    let (vs, computed) = cells_of_marks us left in (
      vs,
      sym (cells_of_read xs)
          ∙ ap (λ (x : List Bit). cells_of (symbols_of (x ++ (O ∷ []))))
          (lead ∙ ap (λ (x : List Bit). O ∷ x) (same ∙ ap (λ (ws : List ℕ). all_bits ws ++ left) items))
          ∙ computed,
    )

-- ---- the classes of a field's cells stand at the front

taken_begin : (cs : List Class) (want : ℕ) (b : Bit) → begins_with (map units (cells_taken cs want b)) cs ≡ true
unfolding begins_with
taken_begin =
    by_taking _ (λ cs want b none fair. rw none) (λ c x read cs want b rest.
    rw (taken_one_more read cs want b, eq-eqb (class_number c) (units x) (number_of_read read)) rest)

begins_with_front : (qs vs : List ℕ) (cs : List Class) → begins_with (qs ++ vs) cs ≡ true → begins_with qs cs ≡ true
unfolding begins_with
begins_with_front [] vs cs e = refl
begins_with_front (q ∷ qs) vs [] e = e
begins_with_front (q ∷ qs) vs (c ∷ cs) e =
    let (here, rest) = both (eqb (class_number c) q) _ e in rw here (begins_with_front qs vs cs rest)

pub marks_ahead
    : (p : Profile) (ds : List ℕ) (n : ℕ) (us : List ℕ)
    → (field_rule p ds n n).number ≡ 0
    → field_items (classes_of p ds) n ≡ after_marks us
    → begins_with three_marks (classes_of p ds) ≡ true
unfolding field_cells
marks_ahead p ds n us accepts items =
    let cs : List Class = classes_of p ds in
    let gathers = gather_accepts p ds n n accepts in
    let whole = gather_stops_nowhere cs n gathers in
    let (vs, begin) =
    cells_begin (field_cells cs n) us (sym (field_stray_of_cells cs n whole) ∙ gather_meets_no_stray cs n gathers)
    (sym (field_items_of_cells cs n whole) ∙ items) in
    begins_with_front three_marks vs cs (rw begin at (taken_begin cs (bits_wanted n) O))
