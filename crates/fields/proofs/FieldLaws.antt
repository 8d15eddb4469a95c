-- What a field reads as: the surplus bit makes no byte, so that the bits of the used cells are the lead and n bytes,
-- and the answer hangs on the used intervals alone. Rests on no axiom.
use Prim.Native.Nat.{ℕ, ◌+◌, ◌*◌, ◌%◌, ◌≤◌, ◌<◌}
use mathlib.Core.Path.{◌≡◌, sym, ap, ◌∙◌}
use mathlib.Core.List.{List, [], ◌∷◌, append-nil}
use native.Mathlib.Nat.{mul-mod_right}
use native.Mathlib.Numerals.{one-add}
use native.Mathlib.Omega.{arith}
use lib.ListN.{length, take, drop, length-drop, take-append-drop}
use lib.Seq.{length-take-le}
use Rattle.timing.specs.declared.Class.{Class}
use Rattle.symbols.specs.Bits.{Bit, O}
use Rattle.symbols.specs.Bytes.{rows_of, items_read, strays_read}
use Rattle.symbols.specs.Reading.{read_bits}
use Rattle.symbols.specs.Strip.{is_stray, stray_place}
use Rattle.symbols.proofs.PlaceLaws.{rows_append, rows_of_few}
use Rattle.symbols.proofs.AnswerLaws.{items_count}
use Rattle.fields.specs.Field.{bits_wanted, field_stop, field_cells, field_used, field_bits, field_items, field_stray}
use Rattle.fields.specs.Field.{field_stray_place}
use Rattle.fields.proofs.EnoughLaws.{Enough, used_give_enough}

-- ---- a surplus bit makes no byte

whole_rows : (n : ℕ) (bs : List Bit) → 8 * n ≤ length bs → length bs ≤ 8 * n + 1 → rows_of (take (8 * n) bs) ≡ rows_of bs
whole_rows n bs low high =
    let whole : length (take (8 * n) bs) % 8 ≡ 0 = rw (length-take-le (8 * n) bs low) (mul-mod_right 8 n) in
    let few : length (drop (8 * n) bs) < 8 = rw (length-drop (8 * n) bs) (omega arith) in
    sym (rw (take-append-drop (8 * n) bs, rows_of_few (drop (8 * n) bs) few, append-nil) at
    (rows_append (take (8 * n) bs) (drop (8 * n) bs) whole))

record Surplus (n : ℕ) (bits : List Bit) : Type 0 where
  items : items_read (take (bits_wanted n) bits) ≡ items_read bits
  strays : strays_read (take (bits_wanted n) bits) ≡ strays_read bits

surplus_is_dropped
    : (n : ℕ) (bits : List Bit) → bits_wanted n ≤ length bits → length bits ≤ bits_wanted n + 1 → Surplus n bits
unfolding items_read strays_read
surplus_is_dropped n [] low high = absurd (omega arith)
surplus_is_dropped n (lead ∷ bs) low high =
    let rows = whole_rows n bs (omega arith) (omega arith) in
    record { items = rw (one-add, rows); strays = rw (one-add, rows) }

-- ---- a field's intervals

module _ (cs : List Class) (n : ℕ) where
  abbrev bits : List Bit
  bits = read_bits (field_cells cs n)

  given_bits : Enough cs (bits_wanted n) O (field_cells cs n)
  unfolding field_cells
  given_bits = used_give_enough cs (bits_wanted n) O

  pub field_bits_few : length bits ≤ bits_wanted n + 1
  unfolding read_bits
  field_bits_few = given_bits.one_over

  pub field_used_at_most : field_used cs n ≤ length cs
  unfolding field_used
  field_used_at_most = given_bits.most

  -- the intervals used are the least number whose bits are the lead and n bytes or more
  pub field_uses_fewest : (j : ℕ) → j < field_used cs n → length (read_bits (take j (field_cells cs n))) < bits_wanted n
  unfolding field_used read_bits
  field_uses_fewest = given_bits.fewer

  -- ---- that were all met

  module _ (whole : (field_stop cs n).number ≡ 0) where
    pub field_bits_enough : bits_wanted n ≤ length bits
    unfolding field_stop read_bits
    field_bits_enough = given_bits.enough 0 whole

    dropped : Surplus n bits
    dropped = surplus_is_dropped n bits field_bits_enough field_bits_few

    pub field_items_of_cells : field_items cs n ≡ items_read bits
    unfolding field_items field_bits
    field_items_of_cells = dropped.items

    pub field_stray_of_cells : field_stray cs n ≡ is_stray bits
    unfolding field_stray field_bits is_stray
    field_stray_of_cells = rw dropped.strays

    pub field_place_of_cells : field_stray_place cs n ≡ stray_place (field_cells cs n)
    unfolding field_stray_place field_bits stray_place
    field_place_of_cells = rw dropped.strays

    -- n items
    pub field_items_count : length (field_items cs n) ≡ n
    field_items_count =
        let enough = field_bits_enough in
        let few = field_bits_few in
        ap length field_items_of_cells ∙ items_count bits ∙ omega arith
