-- Writing and reading are inverse: reading the cells of a list of bytes gives that list, and what reading accepts has
-- exactly those cells and is such a list. So two different lists never have the same cells. Nothing here looks into a
-- cell or a byte: it follows from the laws of reading (letters and cells) and of bytes (letters and rows).
use Rattle.std.proofs.Common.{◌≡◌, ℕ, ◌+◌, ◌*◌, ◌%◌, ◌≤◌, true, false, not, eqb, ltb, List, [], ◌∷◌, ◌++◌, map, length, sym, refl, ap, ◌∙◌, true≢false, append_assoc, arith, length-append, ltb-false, le-ltb, eq-eqb, eqb-true}
use borrow.Author.Tests.{not-false}
use Rattle.lists.specs.Place.{anywhere, everywhere}
use Rattle.refusal.specs.Answer.{accepted}
use Rattle.refusal.proofs.AnswerLaws.{refuse_if_accepts}
use Rattle.items.specs.Item.{is_byte}
use Rattle.symbols.specs.Bits.{Bit, O, I, G, is_one, last_of, all_bits, bits_of}
use Rattle.symbols.specs.Cells.{written_symbols, written_cells}
use Rattle.symbols.specs.Reading.{units, given, last_after, read_from, read_bits}
use Rattle.symbols.specs.Bytes.{is_gap, item_of, rows_of, items_read, strays_read}
use Rattle.symbols.specs.Strip.{is_ragged, ends_in_one, bytes_read, is_stray, stray_place, strip_rule, strip_items}
use Rattle.symbols.specs.declared.Cell.{Cell}
use Rattle.symbols.specs.declared.Cell.TheVariants.{Short, Medium, Long}
use Rattle.symbols.proofs.ReadingLaws.{units_injective, cells_of_read, last_is_no_gap, last_of_snoc}
use Rattle.symbols.proofs.TestLaws.{neither}
use Rattle.symbols.proofs.TokenLaws.{written_bits_are_read}
use Rattle.symbols.proofs.BytesLaws.{length_of_bits, rows_of_bytes, items_of_rows, rows_have_no_stray, Whole}
use Rattle.symbols.proofs.BytesLaws.{whole}

-- cells that give the letters of bytes, with lead and first closing 0, are the cells of those bytes
written_cells_of_read :
    (ws : List ℕ) (cs : List Cell) → read_bits cs ≡ O ∷ all_bits ws ++ (O ∷ []) → written_cells ws ≡ map units cs
unfolding written_cells written_symbols bits_of
written_cells_of_read ws cs h = rw (← cells_of_read cs, h, append_assoc)

-- Reading what was written

pub cells_are_read : (ws : List ℕ) → (cs : List Cell) × (map units cs ≡ written_cells ws)
cells_are_read ws =
    let (cs, e) = written_bits_are_read ws in (cs, sym (written_cells_of_read ws cs e))

pub read_of_write :
    (ws : List ℕ) (cs : List Cell) → map units cs ≡ written_cells ws → read_bits cs ≡ O ∷ all_bits ws ++ (O ∷ [])
read_of_write ws cs h =
    let (ds, e) = written_bits_are_read ws in
    ap read_bits (units_injective cs ds (h ∙ written_cells_of_read ws ds e)) ∙ e

pub bits_count : (ws : List ℕ) → length (O ∷ all_bits ws ++ (O ∷ [])) ≡ 8 * length ws + 2
bits_count ws = simp (length-append, length_of_bits) (omega arith)

bits_are_whole_bytes : (ws : List ℕ) → is_ragged (O ∷ all_bits ws ++ (O ∷ [])) ≡ false
unfolding is_ragged ends_in_one last_of
bits_are_whole_bytes ws =
    rw
    (eq-eqb (length (O ∷ all_bits ws ++ (O ∷ [])) % 8) 2 (omega (arith, bits_count ws)), last_of_snoc O O (all_bits ws))

-- what reading the cells of a list of bytes gives
pub record ReadBack (ws : List ℕ) (cs : List Cell) : Type 0 where
  pub whole_bytes : is_ragged (read_bits cs) ≡ false
  pub in_place : is_stray (read_bits cs) ≡ false
  pub count : bytes_read (read_bits cs) ≡ length ws
  pub items : strip_items cs ≡ ws

pub read_back :
    (ws : List ℕ) (cs : List Cell) → everywhere is_byte ws ≡ true → map units cs ≡ written_cells ws → ReadBack ws cs
unfolding is_stray strip_items items_read strays_read anywhere
read_back ws cs t h =
    let e = read_of_write ws cs h in
    record {
      whole_bytes = rw e (bits_are_whole_bytes ws);
      in_place = rw (e, rows_of_bytes ws) (rows_have_no_stray ws t);
      count = rw e (omega (arith, bits_count ws));
      items = rw (e, rows_of_bytes ws) (items_of_rows ws t);
    }

-- a list of at most 6,400 bytes is accepted
pub rule_of_write :
    (ws : List ℕ) (cs : List Cell) → everywhere is_byte ws ≡ true → length ws ≤ 6400 → map units cs ≡ written_cells ws
    → strip_rule cs ≡ accepted (length ws)
unfolding strip_rule
rule_of_write ws cs t few h =
    let r = read_back ws cs t h in
    rw (r.whole_bytes, r.in_place, r.count, le-ltb 6400 (length ws) few)

-- two different lists never have the same cells
pub cells_injective :
    (ws ws' : List ℕ) → everywhere is_byte ws ≡ true → everywhere is_byte ws' ≡ true
    → written_cells ws ≡ written_cells ws'
    → ws ≡ ws'
cells_injective ws ws' t t' h =
    let (cs, e) = cells_are_read ws in sym (read_back ws cs t e).items ∙ (read_back ws' cs t' (e ∙ h)).items

-- Writing what was read

-- the lead is a 0
lead_is_zero :
    (cs : List Cell) → is_ragged (read_bits cs) ≡ false → is_stray (read_bits cs) ≡ false
    → (bs : List Bit) × (read_bits cs ≡ O ∷ bs)
unfolding is_ragged is_stray strays_read anywhere read_bits read_from given last_after
lead_is_zero [] whole_bytes in_place = absurd (true≢false whole_bytes)
lead_is_zero (Short ∷ cs) whole_bytes in_place = (_, refl)
lead_is_zero (Medium ∷ cs) whole_bytes in_place = (_, refl)
lead_is_zero (Long ∷ cs) whole_bytes in_place = absurd (true≢false in_place)

zero_of : (b : Bit) → is_one b ≡ false → is_gap b ≡ false → b ≡ O
zero_of O one gap = refl
zero_of I one gap = absurd (true≢false one)
zero_of G one gap = absurd (true≢false gap)

module _
    (bs : List Bit) (whole_bytes : is_ragged (O ∷ bs) ≡ false) (in_place : is_stray (O ∷ bs) ≡ false)
    (no_gap : is_gap (last_of O bs) ≡ false)
  where
    ends : (not (eqb (length (O ∷ bs) % 8) 2) ≡ false) × (ends_in_one (O ∷ bs) ≡ false)
    unfolding is_ragged
    ends = neither (not (eqb (length (O ∷ bs) % 8) 2)) (ends_in_one (O ∷ bs)) whole_bytes

    rows : Whole bs
    unfolding is_stray strays_read anywhere
    rows = whole bs (omega (arith, eqb-true (length (O ∷ bs) % 8) 2 (not-false _ ends.0))) in_place

    closing_is_zero : rows.last ≡ O
    unfolding ends_in_one last_of
    closing_is_zero =
        let e : last_of O bs ≡ rows.last =
        ap (last_of O) rows.letters ∙ last_of_snoc O rows.last (all_bits (map item_of (rows_of bs))) in
        zero_of rows.last (rw e at ends.1) (rw e at no_gap)

    read_letters :
        (O ∷ bs ≡ O ∷ all_bits (items_read (O ∷ bs)) ++ (O ∷ [])) × (everywhere is_byte (items_read (O ∷ bs)) ≡ true)
    unfolding items_read
    read_letters = (ap (◌∷◌ O) (rw closing_is_zero at rows.letters), rows.bytes)

-- what the cells of an accepted strip are
pub record Accepted (cs : List Cell) : Type 0 where
  pub cells : written_cells (strip_items cs) ≡ map units cs
  pub bytes : everywhere is_byte (strip_items cs) ≡ true
  pub in_place : is_stray (read_bits cs) ≡ false
  pub count : length (strip_items cs) ≡ bytes_read (read_bits cs)
  pub few : bytes_read (read_bits cs) ≤ 6400

accepted_letters :
    (cs : List Cell) → is_ragged (read_bits cs) ≡ false → is_stray (read_bits cs) ≡ false
    → (read_bits cs ≡ O ∷ all_bits (strip_items cs) ++ (O ∷ [])) × (everywhere is_byte (strip_items cs) ≡ true)
unfolding strip_items last_of
accepted_letters cs whole_bytes in_place =
    let lead = lead_is_zero cs whole_bytes in_place in
    rw lead.1 (read_letters lead.0 (rw lead.1 at whole_bytes) (rw lead.1 at in_place)
    (rw lead.1 at (last_is_no_gap cs)))

pub write_of_read : (cs : List Cell) → (strip_rule cs).number ≡ 0 → Accepted cs
unfolding strip_rule
write_of_read cs h =
    let bs = read_bits cs in
    let (whole_bytes, later) = refuse_if_accepts (is_ragged bs) 6 0 _ h in
    let (few, last) = refuse_if_accepts (ltb 6400 (bytes_read bs)) 3 0 _ later in
    let (in_place, done) = refuse_if_accepts (is_stray bs) 7 (stray_place cs) _ last in
    let l = accepted_letters cs whole_bytes in_place in
    record {
      cells = written_cells_of_read (strip_items cs) cs l.0;
      bytes = l.1;
      in_place = in_place;
      count = omega (arith, bits_count (strip_items cs), ap length l.0);
      few = ltb-false 6400 (bytes_read bs) few;
    }
