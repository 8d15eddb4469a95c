-- A field at the front of cells that read as its bytes and more: the cells that are used give the lead and its bits,
-- so its bytes are the items, none of them stray. Where the next byte begins with 0 1 the used cells end with the
-- field's last bit, since no cell gives a 1 right after a 0 that is known, and the rest reads as the bytes after it.
-- Rests on no axiom.
use Prim.Native.Nat.{ℕ, ◌+◌, ◌-◌, ◌≤◌}
use mathlib.Core.Path.{◌≡◌, refl, sym, ap, ◌∙◌}
use mathlib.Core.Bool.{true, false, true≢false}
use mathlib.Core.List.{List, [], ◌∷◌, ◌++◌, append_assoc}
use mathlib.Core.Logic.{⊎_elim}
use native.Mathlib.Nat.{eq-or-lt_of_le}
use native.Mathlib.Omega.{arith}
use borrow.Author.Tests.{eq-eqb, le-ltb}
use lib.ListN.{length, take, drop, length-append}
use lib.Seq.{append_snoc, take-append-le, take_at, drop_at}
use Rattle.lists.specs.Place.{anywhere, everywhere, passed}
use Rattle.lists.specs.Filled.{filled}
use Rattle.refusal.specs.Answer.{Answer, accepted}
use Rattle.timing.specs.Profile.{outside, profile_rule}
use Rattle.timing.specs.Class.{classes_of}
use Rattle.timing.specs.declared.Profile.{Profile}
use Rattle.timing.specs.declared.Class.{Class}
use Rattle.items.specs.Item.{is_byte}
use Rattle.symbols.specs.Bits.{Bit, O, I, last_of, all_bits}
use Rattle.symbols.specs.Reading.{read_from, read_bits}
use Rattle.symbols.specs.Bytes.{items_read, strays_read}
use Rattle.symbols.specs.Strip.{is_stray}
use Rattle.symbols.specs.declared.Cell.{Cell}
use Rattle.symbols.proofs.BytesLaws.{length_of_bits, items_of_whole_bytes, whole_bytes_have_no_stray, bits_of-append}
use Rattle.symbols.proofs.ReadingLaws.{read_append, last_of_snoc, begins_with_one, no_one_after_zero}
use Rattle.fields.specs.Field.{bits_wanted, field_stop, field_cells, field_used, field_bits, field_items, holds_after}
use Rattle.fields.specs.Field.{field_holds, field_stray}
use Rattle.fields.specs.FieldRule.{field_rule, field_reading, field_output}
use Rattle.fields.proofs.EnoughLaws.{classes_of_cells, short_by, OfCells, used_of_cells}
use Rattle.fields.proofs.FieldLaws.{field_bits_few, field_bits_enough}

-- ---- two ways to part a list, at the same length

same_parts
    : {A : Type 0} (xs ys us vs : List A) → xs ++ ys ≡ us ++ vs → length xs ≡ length us → (xs ≡ us) × (ys ≡ vs)
same_parts xs ys us vs h long = (
  sym (take_at xs ys (length us) long) ∙ ap (take (length us)) h ∙ take_at us vs (length us) refl,
  sym (drop_at xs ys (length us) long) ∙ ap (drop (length us)) h ∙ drop_at us vs (length us) refl,
)

-- ---- the bits that are used

module _ (us vs : List ℕ) (xs : List Cell) (reads : read_bits xs ≡ O ∷ all_bits (us ++ vs) ++ (O ∷ [])) where
  abbrev classes : List Class
  classes = classes_of_cells xs

  abbrev n : ℕ
  n = length us

  -- the lead and the field's bits come first
  bits_in_front : read_bits xs ≡ (O ∷ all_bits us) ++ (all_bits vs ++ (O ∷ []))
  bits_in_front = rw (reads, bits_of-append us vs, append_assoc)

  front_length : length (O ∷ all_bits us) ≡ bits_wanted n
  front_length = let bits = length_of_bits us in omega arith

  taken : OfCells xs 0 (bits_wanted n) O (field_cells classes n)
  unfolding field_cells
  taken = used_of_cells xs 0 (bits_wanted n) O

  stops_nowhere : field_stop classes n ≡ accepted 0
  unfolding field_stop read_bits
  stops_nowhere =
      let all = ap length bits_in_front ∙ length-append (O ∷ all_bits us) (all_bits vs ++ (O ∷ [])) in
      let front = front_length in
      let none : bits_wanted n - length (read_from O xs) ≡ 0 = omega arith in
      taken.stop ∙ taken.same ∙ ap short_by none

  -- the cells after the field
  pub rest_of_cells : List Cell
  rest_of_cells = taken.rest

  pub used_and_rest : field_cells classes n ++ rest_of_cells ≡ xs
  unfolding rest_of_cells
  used_and_rest = taken.split

  abbrev used_bits : List Bit
  used_bits = read_bits (field_cells classes n)

  bits_split : used_bits ++ read_from (last_of O used_bits) rest_of_cells ≡ (O ∷ all_bits us) ++ (all_bits vs ++ (O ∷ []))
  unfolding read_bits
  bits_split =
      sym (read_append O (field_cells classes n) rest_of_cells) ∙ ap (read_from O) used_and_rest ∙ bits_in_front

  enough : bits_wanted n ≤ length used_bits
  enough = field_bits_enough classes n (ap (λ (a : Answer). a.number) stops_nowhere)

  bits_are : field_bits classes n ≡ O ∷ all_bits us
  unfolding field_bits
  bits_are =
      sym (take-append-le (bits_wanted n) used_bits _ enough)
      ∙ ap (take (bits_wanted n)) bits_split
      ∙ take_at (O ∷ all_bits us) (all_bits vs ++ (O ∷ [])) (bits_wanted n) front_length

  -- ---- what the field reader answers

  module _ (bytes : everywhere is_byte us ≡ true) where
    items_are : field_items classes n ≡ us
    unfolding field_items
    items_are = ap items_read bits_are ∙ items_of_whole_bytes us bytes

    none_is_stray : field_stray classes n ≡ false
    unfolding field_stray is_stray
    none_is_stray =
        ap (λ (bs : List Bit). anywhere passed (strays_read bs)) bits_are ∙ whole_bytes_have_no_stray us bytes

    module _
        (p : Profile) (ds : List ℕ) (accepts : (profile_rule p).number ≡ 0) (same : classes_of p ds ≡ classes)
        (in_range : outside 1 1030 n ≡ false)
      where
        rule_accepts : (room : ℕ) → n ≤ room → field_rule p ds n room ≡ accepted n
        unfolding field_rule
        rule_accepts room h =
            rw (eq-eqb _ 0 accepts, in_range, same, stops_nowhere, none_is_stray, le-ltb room n h)

        pub written_field_is_read
            : (room : ℕ)
            → n ≤ room
            → field_reading p ds n room
            ≡ record { answer = accepted n; used = field_used (classes_of p ds) n; holds = holds_after us }
        unfolding field_reading field_holds
        written_field_is_read room h = rw (rule_accepts room h, same, items_are)

        pub written_field_is_stored : (old : List ℕ) → n ≤ length old → field_output p ds n old ≡ filled us old
        unfolding field_output
        written_field_is_stored old h = rw (rule_accepts (length old) h, same, items_are)

  -- ---- what follows the field

  module _ (tail : List Bit) (begins : all_bits vs ++ (O ∷ []) ≡ O ∷ I ∷ tail) where
    split_before_one : used_bits ++ read_from (last_of O used_bits) rest_of_cells ≡ (O ∷ all_bits us) ++ (O ∷ I ∷ tail)
    split_before_one = bits_split ∙ ap (λ (bs : List Bit). (O ∷ all_bits us) ++ bs) begins

    no_surplus : length used_bits ≡ length (O ∷ all_bits us) + 1 → ⊥
    no_surplus long =
        let front : List Bit = O ∷ all_bits us in
        let longer = length-append front (O ∷ []) in
        let parts =
        same_parts used_bits (read_from (last_of O used_bits) rest_of_cells) (front ++ (O ∷ [])) (I ∷ tail)
        (split_before_one ∙ sym (append_snoc front O (I ∷ tail))) (omega arith) in
        let zero_known : last_of O used_bits ≡ O = ap (last_of O) parts.0 ∙ last_of_snoc O O front in
        true≢false (ap begins_with_one (sym parts.1 ∙ ap (λ (b : Bit). read_from b rest_of_cells) zero_known)
        ∙ no_one_after_zero rest_of_cells)

    pub rest_of_field_is_read : read_from (last_of O used_bits) rest_of_cells ≡ all_bits vs ++ (O ∷ [])
    rest_of_field_is_read =
        let high = field_bits_few classes n in
        let front = front_length in
        ⊎_elim (λ same.
        (same_parts used_bits (read_from (last_of O used_bits) rest_of_cells) (O ∷ all_bits us) (O ∷ I ∷ tail) split_before_one
        (omega arith)).1
        ∙ sym begins)
        (λ more. absurd (no_surplus (omega arith))) (eq-or-lt_of_le enough)
