-- Why the operation's number is the paper's margin: it leaves room, so every length within it keeps the class of its
-- cell's units; and whatever number keeps every class is no larger, since a larger one breaks the class of an interval
-- of a one-byte list.
use Prim.Native.Nat.{ℕ, ◌<◌}
use mathlib.Core.Path.{◌≡◌, sym, ◌∙◌}
use mathlib.Core.List.{[], ◌∷◌}
use native.Mathlib.Omega.{arith}
use native.Mathlib.Decide.{dec_le}
use borrow.Author.Tests.{lt-ltb, ne_eqb}
use Rattle.lists.specs.Place.{anywhere}
use Rattle.timing.specs.declared.Profile.{Profile}
use Rattle.timing.proofs.ProfileLaws.{kept}
use Rattle.items.specs.Item.{is_byte, is_item, is_check, is_foreign, bytes_of, written_bytes}
use Rattle.items.specs.Written.{written}
use Rattle.items.specs.Rule.{list_rule}
use Rattle.items.proofs.ItemLaws.{data_is_byte, byte_is_no_check}
use Rattle.items.proofs.WrittenLaws.{written_of_no_check}
use Rattle.symbols.specs.Cells.{written_cells}
use Rattle.lengths.specs.Stream.{byte_stream, stream_of}
use Rattle.lengths.specs.Margin.{Keeps, margin_of}
use Rattle.lengths.specs.Claims.{MarginIsThePapers}
use Rattle.lengths.proofs.KindLaws.{cell_length_at, stream_has_cells}
use Rattle.lengths.proofs.WindowLaws.{near_length_has_class}
use Rattle.lengths.proofs.MarginLaws.{margin_leaves_room}
use Rattle.lengths.proofs.WitnessLaws.{Broken, above_margin_is_broken}

-- ---- a list of one data byte is accepted, and it is what is written

pub one_byte_is_accepted : (b : ℕ) → b < 256 → (list_rule (b ∷ [])).number ≡ 0
unfolding list_rule anywhere is_foreign is_byte is_item written_bytes bytes_of is_check
one_byte_is_accepted b h = rw (lt-ltb b 256 h, ne_eqb b 512 (omega arith))

pub written_one : (b : ℕ) → b < 256 → written (b ∷ []) ≡ b ∷ []
unfolding anywhere
written_one b h = written_of_no_check (b ∷ []) (rw (byte_is_no_check b (data_is_byte b h)))

pub one_byte_is_written : (p : Profile) (b : ℕ) → b < 256 → stream_of p (b ∷ []) ≡ byte_stream p (b ∷ [])
unfolding stream_of anywhere
one_byte_is_written p b h = cc (written_one b h)

-- ---- the margin keeps every class, and nothing larger does

broken_is_not_kept : {p : Profile} (n : ℕ) → Broken p n → Keeps p n → ⊥
broken_is_not_kept {p} n x keeps =
    let accepted = keeps (x.byte ∷ []) (one_byte_is_accepted x.byte x.is_byte) in
    let kept = rw (one_byte_is_written p x.byte x.is_byte, written_one x.byte x.is_byte) at accepted in
    x.other_class (kept x.place x.in_stream x.moved x.not_longer x.not_shorter)

pub margin_is_the_papers : MarginIsThePapers
unfolding stream_of
margin_is_the_papers p ok =
    let k = kept p ok in
    let s = margin_leaves_room k in
    record {
      keeps =
          λ items listed i h d above below.
          let w = cell_length_at 2 (written_cells (written items)) _ (stream_has_cells k (written items)) i h in
          near_length_has_class s d w above below ∙ sym (near_length_has_class s _ w (omega arith) (omega arith));
      largest =
          λ n keeps. elim (dec_le n (margin_of p)) [
            | yes h ↦ h
            | no h ↦ absurd (broken_is_not_kept n (above_margin_is_broken k n (omega arith)) keeps)
          ];
    }
