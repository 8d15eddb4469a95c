-- Why no lock stands in data: a pattern of either mark reads a mark's missing clock whichever bit was last known, and
-- what is written from data bytes alone reads back without one, since the letters of a data byte have no gap. Rests on
-- no axiom.
use Prim.Native.Nat.{ℕ, ◌<◌}
use mathlib.Core.Path.{◌≡◌, refl, ◌∙◌}
use mathlib.Core.Bool.{Bool, true, false, cond}
use mathlib.Core.List.{List, ◌∷◌, []}
use mathlib.Core.Logic.{⊎_elim}
use native.Mathlib.Omega.{arith}
use lib.ListN.{drop}
use Rattle.lists.specs.Place.{anywhere}
use Rattle.lists.proofs.PlaceLaws.{anywhere_of_none, anywhere-append, nowhere_fails_at_first, nowhere_in_rest}
use Rattle.timing.specs.Class.{classes_of}
use Rattle.timing.specs.declared.Profile.{Profile}
use Rattle.register.specs.Register.{high_byte, low_byte}
use Rattle.items.specs.Item.{is_mark}
use Rattle.items.specs.Written.{fresh_check, item_bytes, after_item, written_from, written}
use Rattle.items.specs.declared.Check.{Check}
use Rattle.items.proofs.ItemLaws.{check_or_not, data_is_no_mark}
use Rattle.items.proofs.CheckLaws.{fresh_bound, after_item_bound, high_byte_bound, low_byte_bound}
use Rattle.items.proofs.WrittenLaws.{item_bytes_of_check, item_bytes_of_byte, written_from_none, written_from_item}
use Rattle.symbols.specs.Bits.{O, I, byte_bits, written_bits, all_bits}
use Rattle.symbols.specs.Bytes.{is_gap}
use Rattle.symbols.specs.Reading.{read_bits}
use Rattle.lengths.specs.Stream.{stream_of}
use Rattle.locks.specs.Lock.{lock_at}
use Rattle.locks.proofs.MarkLaws.{no_lock_behind}
use Rattle.locks.proofs.FirstLockLaws.{none_is_found}
use Rattle.demands.specs.Streams.{AcceptedProfile, Moved}
use Rattle.demands.specs.Demand3.{stated}
use Rattle.demands.proofs.Demand3.{moved_has_classes, moved_is_behind}
use Rattle.demands.proofs.HowNear.{unmoved, within_the_margin}
use Rattle.readback.specs.NoLockInData.{NoLock, DataAlone, NoLockInData}
use Rattle.readback.proofs.CellClasses.{ReadBehind, cells, cells_bits, cells_classes}

-- ---- the letters of data bytes

letter_is_no_gap : (t : Bool) → is_gap (cond t I O) ≡ false
letter_is_no_gap true = refl
letter_is_no_gap false = refl

data_bits_have_no_gap : (w : ℕ) → is_mark w ≡ false → anywhere is_gap (written_bits w) ≡ false
unfolding anywhere written_bits byte_bits
data_bits_have_no_gap w e =
    simp (e, letter_is_no_gap)

all_bits_have_no_gap : (ws : List ℕ) → anywhere is_mark ws ≡ false → anywhere is_gap (all_bits ws) ≡ false
unfolding all_bits
all_bits_have_no_gap [] e = anywhere_of_none is_gap
all_bits_have_no_gap (w ∷ ws) e =
    anywhere-append is_gap (written_bits w) (all_bits ws)
    ∙ rw (
      data_bits_have_no_gap w (nowhere_fails_at_first is_mark w ws e),
      all_bits_have_no_gap ws (nowhere_in_rest is_mark w ws e),
    )

data_is_read_without_gap : (ws : List ℕ) → anywhere is_mark ws ≡ false → anywhere is_gap (read_bits (cells ws)) ≡ false
unfolding anywhere
data_is_read_without_gap ws e =
    rw (cells_bits ws) (anywhere-append is_gap (all_bits ws) (O ∷ []) ∙ rw (all_bits_have_no_gap ws e))

-- ---- the written bytes of data

no_mark_in_item
    : (c : Check) (n : ℕ) → c.register < 0x10000 → is_mark n ≡ false → anywhere is_mark (item_bytes c n) ≡ false
unfolding anywhere
no_mark_in_item c n bound e =
    ⊎_elim (λ check.
    let r : ℕ = c.register in
    rw (item_bytes_of_check c n check)
    (rw (data_is_no_mark (high_byte r) (high_byte_bound r bound), data_is_no_mark (low_byte r) (low_byte_bound r))))
    (λ other. cc (item_bytes_of_byte c n other)) (check_or_not n)

no_mark_from
    : (c : Check) (ns : List ℕ)
    → c.register < 0x10000
    → anywhere is_mark ns ≡ false
    → anywhere is_mark (written_from c ns) ≡ false
no_mark_from c [] bound e = cc (written_from_none c, anywhere_of_none is_mark)
no_mark_from c (n ∷ ns) bound e =
    rw (written_from_item c n ns) (anywhere-append is_mark (item_bytes c n) (written_from (after_item c n) ns)
    ∙ rw (
      no_mark_in_item c n bound (nowhere_fails_at_first is_mark n ns e),
      no_mark_from (after_item c n) ns (after_item_bound c n bound) (nowhere_in_rest is_mark n ns e),
    ))

written_has_no_mark : (ns : List ℕ) → anywhere is_mark ns ≡ false → anywhere is_mark (written ns) ≡ false
unfolding written
written_has_no_mark ns e = no_mark_from fresh_check ns fresh_bound e

-- ---- their intervals

-- a search from any start of a moved stream is behind the whole
pub moved_reads_behind
    : (p : Profile) (accepts : AcceptedProfile p) (items changed : List ℕ)
    → Moved (stated p) (stream_of p items) changed
    → ReadBehind p changed
moved_reads_behind p accepts items changed moved start =
    rw (moved_has_classes p accepts items changed moved) (moved_is_behind p accepts items changed moved start)

module _ (p : Profile) (accepts : AcceptedProfile p) (items : List ℕ) (data_alone : DataAlone items) where
  module _ (changed : List ℕ) (moved : Moved (stated p) (stream_of p items) changed) where
    -- a search from the middle is in step behind the first interval that it does not take for class 2, as a mark's first
    none_stands : (start k : ℕ) → lock_at (classes_of p (drop start changed)) k ≡ false
    unfolding read_bits
    none_stands start =
        no_lock_behind O (cells (written items))
        (data_is_read_without_gap (written items) (written_has_no_mark items data_alone.no_marks)) start
        (classes_of p (drop start changed))
        (rw (cells_classes (written items)) at (moved_is_behind p accepts items changed moved start))

    moved_has_no_lock : NoLock p changed
    moved_has_no_lock =
        record {
          none_stands = none_stands;
          adrift = λ start. none_is_found p changed start accepts (none_stands start);
        }

pub no_lock_in_data : NoLockInData
no_lock_in_data p accepts items data_alone =
    let stays = within_the_margin p accepts items 0 (omega arith) _ (unmoved p accepts items) in
    (moved_has_no_lock p accepts items data_alone _ stays, moved_has_no_lock p accepts items data_alone)
