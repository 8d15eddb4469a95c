-- A word is whole: its half cells are those of the row of eight letters after the letters before it, so its item and
-- the gaps that it shows are those of the definitions, and of all gaps out of place the machine keeps the lowest.
use Rattle.std.proofs.Common.{◌≡◌, ℕ, ◌+◌, ◌-◌, ◌*◌, ◌/◌, ◌%◌, ◌^◌, ◌<◌, ◌≤◌, Bool, true, false, cond, not, ◌&&◌, ◌||◌, List, [], ◌∷◌, ◌++◌, map, length, get_or, take, drop, sym, refl, ap, ◌∙◌, ap₂, true≢false, append_assoc, append-nil, mod-eq_of_lt, arith, length-append, length-drop, take-append-drop, length-take, length-take-le}
use mathlib.Core.Bool.{or_comm}
use mathlib.Core.List.{map-append}
use lib.Count.{ones, count_leading_zeros}
use lib.Seq.{append_snoc}
use Rattle.lists.specs.Place.{anywhere, lowest, passed}
use Rattle.lists.proofs.PlaceLaws.{anywhere-append, lowest_of_some}
use Rattle.half_cells.specs.machine.Candidate.{candidate}
use Rattle.half_cells.specs.machine.Word.{missing, misfits, cells_since, first_of_cells}
use Rattle.symbols.specs.Bits.{Bit, O, last_of}
use Rattle.symbols.specs.Bytes.{number_from, is_gap, item_of, row_strays, rows_of, strays_of, items_read}
use Rattle.symbols.specs.Reading.{read_bits, sources}
use Rattle.symbols.specs.Strip.{is_stray}
use Rattle.symbols.specs.machine.Step.{surplus, word_of, code_word, closed}
use Rattle.symbols.specs.declared.Cell.{Cell}
use Rattle.symbols.specs.declared.Reading.{Reading}
use Rattle.symbols.proofs.TestLaws.{neither}
use Rattle.symbols.proofs.CellLaws.{last_append, sound_front, sound_rest, read_is_sound}
use Rattle.symbols.proofs.PlaceLaws.{rows_append, strays_append, one_row, lowest-append}
use Rattle.symbols.proofs.HalfCells.{cells_after, track, clock_at_end}
use Rattle.symbols.proofs.HalfLaws.{cells_after_append, cells_after_length, halves_length, track_of_letters}
use Rattle.symbols.proofs.WordLaws.{word_after, shown_tests, Verdict, word_verdict, row_strays_end}
use Rattle.symbols.proofs.NumberLaws.{number_append, last_digit_is_data, word_of_digits}
use Rattle.symbols.proofs.SourceLaws.{place_by_ones}
use Rattle.symbols.proofs.ReadsLaws.{Open, Held, whole_rows, front_length, letters_count, items_so_far}
use Rattle.symbols.proofs.ReadsLaws.{strays_so_far}

-- m has a word whole: of the letters that are left the first eight are its row
module _
    (m : Reading) (cs : List Cell) (o : Open m cs) (range : (17 ≤ m.held) × (m.held ≤ 20))
    (room : length cs ≤ 2 ^ 32) (rows : (8 ≤ length o.rest) × (length o.rest < 16))
  where
    abbrev lead : Bit
    lead = o.lead

    abbrev before : List Bit
    before = o.before

    abbrev front : List Bool
    front = o.front

    abbrev row : List Bit
    row = take 8 o.rest

    abbrev rest : List Bit
    rest = drop 8 o.rest

    abbrev a : Bit
    a = last_of lead before

    eight : length row ≡ 8
    eight = length-take-le 8 o.rest rows.0

    letters : read_bits cs ≡ (lead ∷ before) ++ (row ++ rest)
    letters = o.letters ∙ ap (◌++◌ (lead ∷ before)) (sym (take-append-drop 8 o.rest))

    abbrev tail : List Bit
    tail = cells_after (last_of a row) rest ++ clock_at_end (last_of O (read_bits cs))

    track_split : track cs ≡ cells_after O (lead ∷ before) ++ (cells_after a row ++ tail)
    unfolding last_of
    track_split =
        track_of_letters cs
        ∙ ap (λ (l : List Bit). cells_after O l ++ clock_at_end (last_of O (read_bits cs))) letters
        ∙ rw (
          cells_after_append O (lead ∷ before) (row ++ rest),
          cells_after_append a row rest,
          append_assoc (cells_after O (lead ∷ before)),
          append_assoc (cells_after a row),
        )

    tail_length : length tail + 17 ≡ m.held
    unfolding track
    tail_length =
        omega (
          arith,
          rw (length-append, length-append, cells_after_length, cells_after_length) at (ap length track_split),
          halves_length cs,
          o.held,
          o.whole,
          eight,
        )

    surplus_is_tail : surplus m ≡ length tail
    unfolding surplus
    surplus_is_tail =
        let e : m.held - 17 ≡ length tail = omega (arith, tail_length) in
        rw e (mod-eq_of_lt (let r = range.1 in omega (arith, tail_length)))

    pub word_is_row : word_of m ≡ word_after a row
    unfolding word_of
    word_is_row =
        let front = cells_after O (lead ∷ before) in
        let n : ℕ = number_from 0 front in
        let digits : m.bits ≡ number_from n (cells_after a row ++ tail) % 2 ^ 32 =
        o.bits
        ∙ ap (λ (x : ℕ). x % 2 ^ 32)
        (ap (number_from 0) track_split ∙ number_append 0 front (cells_after a row ++ tail)) in
        ap₂ (λ (x k : ℕ). x / 2 ^ k % 2 ^ 17) digits surplus_is_tail
        ∙ word_of_digits 32 n a row tail (15 - length tail) (last_digit_is_data 0 O lead before) eight
        (let r = range.1 in omega (arith, tail_length))

    pub verdict : Verdict a row (word_of m)
    unfolding last_of
    verdict =
        rw word_is_row (word_verdict a row eight (sound_front a row rest
        (sound_rest O (lead ∷ before) (row ++ rest) (rw letters at (read_is_sound cs)))))

    -- The gaps that it shows

    abbrev tests : List Bool
    tests = shown_tests a row

    pub rows_grown : rows_of (before ++ row) ≡ rows_of before ++ (row ∷ [])
    rows_grown =
        rows_append before row (whole_rows m cs o)
        ∙ ap (◌++◌ (rows_of before)) (one_row row eight)

    strays_grown :
        is_gap lead ∷ strays_of (rows_of (before ++ row))
        ≡ (front ++ tests) ++ (is_gap (last_of lead (before ++ row)) ∷ [])
    unfolding strays_of
    strays_grown =
        rw (
          rows_grown,
          strays_append (rows_of before) (row ∷ []),
          append-nil (row_strays row),
          last_append lead before row,
        )
        (ap (λ (x : List Bool). x ++ row_strays row) o.strays
        ∙ append_snoc front (is_gap a) (row_strays row)
        ∙ ap (◌++◌ front) (row_strays_end a row eight)
        ∙ sym (append_assoc front tests (is_gap (last_of a row) ∷ [])))

    stray_grown : (misfits (word_of m) || m.stray) ≡ anywhere passed (front ++ tests)
    stray_grown =
        or_comm (misfits (word_of m)) m.stray
        ∙ ap₂ ◌||◌ o.stray (sym verdict.stray)
        ∙ sym (anywhere-append passed front tests)

    -- the first gap that it shows is the lowest, where none was out of place before
    lowest_here :
        anywhere passed front ≡ false → misfits (word_of m) ≡ true
        → first_of_cells (length cs - 1) (cells_since m.bits (surplus m) (missing (word_of m)))
        ≡ get_or (sources cs) (lowest passed (front ++ tests)) 0
    unfolding cells_since first_of_cells shown_tests
    lowest_here none here =
        let k = lowest passed tests in
        let zeros : count_leading_zeros 32 (missing (word_of m)) ≡ 15 + 2 * k = verdict.place here in
        let few : k < 8 =
        omega (arith, lowest_of_some passed tests (verdict.stray ∙ here), length-take 7 (row_strays row)) in
        let i : ℕ = 8 * m.words + k in
        let q : ℕ = length tail + 16 - 2 * k in
        let at : lowest passed (front ++ tests) ≡ i =
        rw (lowest-append passed front tests, none, front_length m cs o) in
        let exponent : (surplus m + 32 - count_leading_zeros 32 (missing (word_of m))) % 32 ≡ q + 1 =
        ap (λ (n : ℕ). n % 32) (omega (arith, surplus_is_tail))
        ∙ mod-eq_of_lt (let r = range.1 in omega (arith, tail_length)) in
        let inside : i < length (read_bits cs) =
        (let r = rows.0 in omega (arith, letters_count m cs o)) in
        let small : q < 32 = (let r = range.1 in omega (arith, tail_length)) in
        let counted = place_by_ones cs i q inside (omega (arith, tail_length, o.held)) small in
        let some = counted.0 in
        let all = counted.1 in
        let same = ap₂ (λ (n e : ℕ). ones (n % 2 ^ e)) o.bits exponent in
        rw at (omega arith)

    lowest_grown :
        (s t : Bool) → m.stray ≡ s → misfits (word_of m) ≡ t → (t || s) ≡ true
        → cond (t && not s)
        (first_of_cells (length cs - 1) (cells_since m.bits (surplus m) (missing (word_of m)))) m.place
        ≡ get_or (sources cs) (lowest passed (front ++ tests)) 0
    lowest_grown true true es et h = rw (lowest-append, sym o.stray ∙ es) (o.place es)
    lowest_grown true false es et h = rw (lowest-append, sym o.stray ∙ es) (o.place es)
    lowest_grown false true es et h = lowest_here (sym o.stray ∙ es) et
    lowest_grown false false es et h = absurd (true≢false (sym h))

    pub word_closed_lem : m.words + 1 < 2 ^ 32 → Held (closed m (length cs - 1)) cs
    unfolding closed
    word_closed_lem words = (
      record {
        lead = lead;
        before = before ++ row;
        rest = rest;
        front = front ++ tests;
        letters = letters ∙ ap (λ (l : List Bit). lead ∷ l) (sym (append_assoc before row rest));
        whole = rw (mod-eq_of_lt words) (omega (arith, length-append before row, eight, o.whole));
        held = rw (mod-eq_of_lt words) (let r = range.0 in omega (arith, o.held));
        bits = o.bits;
        strays = strays_grown;
        stray = stray_grown;
        place = lowest_grown m.stray (misfits (word_of m)) refl refl;
      },
      (let r = rows.1 in rw (length-drop 8 o.rest) (omega arith)),
    )

    -- where no gap is out of place, its item is that of the row
    pub fair_word :
        m.words + 1 < 2 ^ 32 → is_stray (read_bits cs) ≡ false
        → (anywhere passed (front ++ (is_gap a ∷ [])) ≡ false)
        × (items_read (read_bits cs) ≡ map item_of (rows_of before) ++ (candidate (code_word m) ∷ []))
    unfolding is_stray word_closed_lem anywhere shown_tests code_word
    fair_word words fair =
        let after : Held (closed m (length cs - 1)) cs = word_closed_lem words in
        let last : Bool = is_gap (last_of lead (before ++ row)) in
        let apart = neither (anywhere passed (front ++ tests)) (last || false)
        (sym (anywhere-append passed (front ++ tests) (last ∷ []))
        ∙ ap (anywhere passed) (sym (strays_so_far (closed m (length cs - 1)) cs after)) ∙ fair) in
        let shown = neither (anywhere passed front) (anywhere passed tests)
        (sym (anywhere-append passed front tests) ∙ apart.0) in
        let a_is_none = (neither (is_gap a) (anywhere passed (take 7 (row_strays row))) shown.1).0 in
        let item : item_of row ≡ candidate (code_word m) =
        verdict.item (sym verdict.stray ∙ shown.1)
        (ap is_gap (sym (last_append lead before row)) ∙ (neither last false apart.1).0) in (
          rw (anywhere-append passed front (is_gap a ∷ []), shown.0, a_is_none),
          rw (items_so_far (closed m (length cs - 1)) cs after, rows_grown, map-append, item),
        )
