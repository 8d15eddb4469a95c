-- What a caller learns from the reading machine: the number of bits and of bytes and whether they are whole bytes, by
-- their units; and the lowest gap out of place, also one on the last letter, which the register shows.
use Rattle.std.proofs.Common.{◌≡◌, ℕ, ◌+◌, ◌-◌, ◌*◌, ◌/◌, ◌%◌, ◌<◌, ◌≤◌, Bool, true, false, cond, not, ◌||◌, T, eqb, ltb, List, [], ◌∷◌, ◌++◌, length, get_or, sym, refl, ap, ◌∙◌, inl, inr, true≢false, append_assoc, add-zero, arith, eqb→eq, eq-eqb, ne_eqb, eqb-true}
use mathlib.Core.Bool.{or-false}
use borrow.Author.Tests.{not-false}
use lib.Count.{ones, ones_in}
use lib.Pow.{mod-mod-pow}
use lib.ListN.{length-map}
use Rattle.lists.specs.Place.{anywhere, lowest, passed}
use Rattle.lists.proofs.PlaceLaws.{anywhere-append}
use Rattle.refusal.specs.Answer.{refuse_if, Answer}
use Rattle.symbols.specs.Bits.{Bit, O, I, G, last_of}
use Rattle.symbols.specs.Bytes.{digit, number_from, is_gap, item_of, rows_of, items_read, strays_read}
use Rattle.symbols.specs.Reading.{read_from, read_bits, sources}
use Rattle.symbols.specs.Strip.{is_ragged, bytes_read, stray_place, is_stray, strip_rule}
use Rattle.symbols.specs.machine.Step.{fresh_reading, ends_in_gap, stray_now, place_now, strip_answer}
use Rattle.symbols.specs.declared.Cell.{Cell}
use Rattle.symbols.specs.declared.Reading.{Reading}
use Rattle.symbols.proofs.TestLaws.{same_test, holds, parts}
use Rattle.symbols.proofs.ReadingLaws.{last_is_no_gap}
use Rattle.symbols.proofs.UnitLaws.{units_sum, bits_known, length_by_units, ragged_by_units}
use Rattle.symbols.proofs.CellLaws.{follows, sound, sound_rest, read_is_sound, last_append}
use Rattle.symbols.proofs.HalfCells.{clock_after, data_of, cells_after, track}
use Rattle.symbols.proofs.HalfLaws.{cells_after_append, track_of_letters}
use Rattle.symbols.proofs.NumberLaws.{number_append, last_digit_is_data}
use Rattle.symbols.proofs.SourceLaws.{place_by_ones}
use Rattle.symbols.proofs.ReadsLaws.{Open, Held, Reads, front_length, letters_count, strays_so_far}
use Rattle.symbols.proofs.PlaceLaws.{rows_of_few, lowest-append, by_rows}

-- Counts

pub record Counted (m : Reading) (cs : List Cell) : Type 0 where
  pub held : m.held + 16 * m.words ≡ units_sum cs
  pub few : m.held ≤ 16
  pub some : 16 * m.words ≤ units_sum cs - 1

pub counted : (m : Reading) (cs : List Cell) → Reads m cs → Counted m cs
unfolding fresh_reading units_sum
counted m cs (inl e) = rw (e.0, e.1) (record { held = refl; few = omega arith; some = omega arith })
counted m cs (inr so_far) =
    let o = so_far.0 in
    record {
      held = o.held;
      few = omega (arith, letters_count m cs o, length_by_units cs, o.held, so_far.1);
      some = omega (arith, letters_count m cs o, length_by_units cs, o.held);
    }

rows_count : (xs : List Bit) → length (rows_of xs) ≡ length xs / 8
unfolding rows_of
rows_count =
    by_rows (λ xs. length (rows_of xs) ≡ length xs / 8) (λ xs few. rw (rows_of_few xs few) (omega arith))
    (λ a b c d e f g h xs more. omega arith)

pub items_count : (bs : List Bit) → length (items_read bs) ≡ (length bs - 1) / 8
unfolding items_read
items_count [] = refl
items_count (b ∷ bs) = length-map (rows_of bs) item_of ∙ rows_count bs ∙ omega arith

module _ (m : Reading) (cs : List Cell) (r : Reads m cs) where
  abbrev counts : Counted m cs
  counts = counted m cs r

  -- the lead and n bytes
  pub reads_enough : (n : ℕ) → 0 < n → n ≤ m.words → 1 + 8 * n ≤ length (read_bits cs)
  reads_enough n h few = omega (arith, length_by_units cs, counts.held, counts.some)

  pub reads_too_few : (n : ℕ) → m.words < n → length (read_bits cs) < 1 + 8 * n
  reads_too_few n h = omega (arith, length_by_units cs, counts.held, counts.few)

  -- 7
  pub reads_ragged : is_ragged (read_bits cs) ≡ not (eqb m.held 4)
  reads_ragged =
      ragged_by_units cs
      ∙ ap not (same_test (units_sum cs % 16) 4 m.held 4 (λ e. omega (arith, counts.held, counts.few))
      (λ e. rw (sym counts.held) (omega arith)))

  pub reads_bytes : m.held ≡ 4 → bytes_read (read_bits cs) ≡ m.words
  reads_bytes h = omega (arith, length_by_units cs, counts.held)

-- 8: a gap on the last letter of the whole bytes, where at most one letter follows, has left 0 0 0 1

gap_by_digits : (a : Bit) (p : ℕ) → p % 2 ≡ digit a → is_gap a ≡ eqb (number_from p (clock_after a O ∷ O ∷ I ∷ []) % 16) 1
unfolding number_from clock_after
gap_by_digits O p e = let n : (((p * 2 + 1) * 2 + 0) * 2 + 1) % 16 ≡ 5 = omega arith in rw n
gap_by_digits I p e = let n : (((p * 2 + 0) * 2 + 0) * 2 + 1) % 16 ≡ 9 = omega arith in rw n
gap_by_digits G p e = let n : (((p * 2 + 0) * 2 + 0) * 2 + 1) % 16 ≡ 1 = omega arith in rw n

no_gap_before_one : (a : Bit) → T (sound a (I ∷ [])) → is_gap a ≡ false
unfolding sound follows
no_gap_before_one O t = refl
no_gap_before_one I t = refl
no_gap_before_one G t = absurd t

module _ (m : Reading) (cs : List Cell) (so_far : Held m cs) where
  abbrev o : Open m cs
  o = so_far.0

  abbrev a : Bit
  a = last_of o.lead o.before

  abbrev known : List Bit
  known = o.lead ∷ o.before

  letters_with : (rest : List Bit) → o.rest ≡ rest → read_bits cs ≡ known ++ rest
  letters_with rest e = o.letters ∙ ap (◌++◌ known) e

  last_letter : (rest : List Bit) → o.rest ≡ rest → last_of O (read_bits cs) ≡ last_of a rest
  unfolding last_of
  last_letter rest e = ap (last_of O) (letters_with rest e) ∙ last_append O known rest

  held_by_letters : m.held + digit (last_of O (read_bits cs)) ≡ 2 + 2 * length o.rest
  held_by_letters = omega (arith, bits_known cs, letters_count m cs o, o.held)

  -- where a 0 follows
  gap_by_register : o.rest ≡ O ∷ [] → is_gap a ≡ eqb (m.bits % 16) 1
  unfolding last_of cells_after data_of
  gap_by_register e =
      let front = cells_after O known in
      let digits : track cs ≡ front ++ (clock_after a O ∷ O ∷ I ∷ []) =
      rw (track_of_letters cs, last_letter (O ∷ []) e, letters_with (O ∷ []) e)
      (ap (λ (l : List Bit). l ++ (I ∷ [])) (cells_after_append O known (O ∷ [])) ∙ append_assoc front _ _) in
      gap_by_digits a (number_from 0 front) (last_digit_is_data 0 O o.lead o.before)
      ∙ ap (λ (n : ℕ). eqb (n % 16) 1) (sym (ap (number_from 0) digits ∙ number_append 0 front _))
      ∙ ap (λ (n : ℕ). eqb n 1) (sym (ap (λ (n : ℕ). n % 16) o.bits ∙ mod-mod-pow (number_from 0 (track cs)) 28 4))

  last_gap : (rest : List Bit) → o.rest ≡ rest → m.held ≤ 4 → is_gap a ≡ ends_in_gap m
  unfolding last_of
  last_gap [] e few =
      let held = held_by_letters in
      let none = ap is_gap (sym (last_letter [] e)) ∙ last_is_no_gap cs in
      rw (none, ne_eqb m.held 4 (λ h. omega (arith, ap length e)))
  last_gap (O ∷ []) e few =
      let held = held_by_letters in
      rw (eq-eqb m.held 4 (omega (arith, ap length e, ap digit (last_letter (O ∷ []) e)))) (gap_by_register e)
  last_gap (I ∷ []) e few =
      let held = held_by_letters in
      let none =
      no_gap_before_one a (sound_rest O known (I ∷ []) (rw (letters_with (I ∷ []) e) at (read_is_sound cs))) in
      rw (none, ne_eqb m.held 4 (λ h. omega (arith, ap length e, ap digit (last_letter (I ∷ []) e))))
  last_gap (G ∷ []) e few = absurd (true≢false (ap is_gap (sym (last_letter (G ∷ []) e)) ∙ last_is_no_gap cs))
  last_gap (b ∷ c ∷ rest) e few =
      absurd (omega (arith, ap length e, letters_count m cs o, length_by_units cs, o.held))

  open_strays : m.held ≤ 4 → strays_read (read_bits cs) ≡ o.front ++ (ends_in_gap m ∷ [])
  open_strays few = rw (strays_so_far m cs so_far, last_gap o.rest refl few)

  open_stray : m.held ≤ 4 → stray_now m ≡ is_stray (read_bits cs)
  unfolding is_stray anywhere
  open_stray few = rw (open_strays few, anywhere-append, or-false, o.stray)

  -- its cell is the last
  place_of_last : ends_in_gap m ≡ true → length cs - 1 ≡ get_or (sources cs) (8 * m.words) 0
  unfolding ones ones_in
  place_of_last h =
      let t = holds (ends_in_gap m) h in
      let four : m.held ≡ 4 = eqb→eq _ _ (search parts) in
      let one : m.bits % 16 ≡ 1 = eqb→eq _ _ (search parts) in
      let counted =
      (place_by_ones cs (8 * m.words) 3 (omega (arith, letters_count m cs o)) (omega (arith, o.held)) (omega arith)).1
      in
      let last = ap ones (sym one ∙ ap (λ (n : ℕ). n % 16) o.bits) in
      omega arith

  open_place :
      (s t : Bool) → m.stray ≡ s → ends_in_gap m ≡ t → (s || t) ≡ true
      → cond s m.place (length cs - 1) ≡ get_or (sources cs) (lowest passed (o.front ++ (t ∷ []))) 0
  unfolding lowest
  open_place true t es et h =
      rw (lowest-append, sym o.stray ∙ es) (o.place es)
  open_place false true es et h =
      rw (lowest-append, sym o.stray ∙ es, front_length m cs o, add-zero (8 * m.words)) (place_of_last et)
  open_place false false es et h = absurd (true≢false (sym h))

-- What the machine holds at the end, where at most one letter follows the whole bytes

pub reads_stray : (m : Reading) (cs : List Cell) → Reads m cs → m.held ≤ 4 → stray_now m ≡ is_stray (read_bits cs)
unfolding fresh_reading is_stray read_bits read_from strays_read anywhere
reads_stray m cs (inl e) few = rw (e.0, e.1)
reads_stray m cs (inr so_far) few = open_stray m cs so_far few

pub reads_place :
    (m : Reading) (cs : List Cell) → Reads m cs → m.held ≤ 4 → is_stray (read_bits cs) ≡ true
    → place_now m (length cs - 1) ≡ stray_place cs
unfolding is_stray read_bits read_from strays_read anywhere stray_place
reads_place m cs (inl e) few h =
    absurd (true≢false (sym h ∙ ap (λ (l : List Cell). anywhere passed (strays_read (read_from O l))) e.1))
reads_place m cs (inr so_far) few h =
    rw (open_strays m cs so_far few)
    (open_place m cs so_far m.stray (ends_in_gap m) refl refl (open_stray m cs so_far few ∙ h))

-- a test in its turn: the place counts where it refuses, what comes after it where it does not
same_refusal :
    (t : Bool) (n p p' : ℕ) (a a' : Answer) → (t ≡ true → p ≡ p') → (t ≡ false → a ≡ a')
    → refuse_if t n p a ≡ refuse_if t n p' a'
same_refusal true n p p' a a' place later = rw (place refl)
same_refusal false n p p' a a' place later = later refl

-- the strip reader's answer
pub rule_of_reads : (m : Reading) (cs : List Cell) → Reads m cs → strip_rule cs ≡ strip_answer m (length cs - 1)
unfolding strip_rule strip_answer
rule_of_reads m cs r =
    let ragged = reads_ragged m cs r in
    let four : is_ragged (read_bits cs) ≡ false → m.held ≡ 4 =
    (λ h. eqb-true m.held 4 (not-false _ (sym ragged ∙ h))) in
    rw (← ragged) (same_refusal (is_ragged (read_bits cs)) 7 0 0 _ _ (λ h. refl)
    (λ h. let held = four h in
    rw (reads_bytes m cs r held, reads_stray m cs r (omega arith)) (ap (refuse_if (ltb 6400 m.words) 4 0)
    (same_refusal _ 8 _ _ _ _ (λ s. sym (reads_place m cs r (omega arith) s)) (λ s. refl)))))
