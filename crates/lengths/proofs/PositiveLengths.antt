-- Why every length is positive and nothing of it is cut off: compare points lie between Early and Late, so a shift
-- takes away D at most, and T1 is longer than D by Min or more. Rests on no axiom.
use Prim.Native.Nat.{ℕ, suc, ◌≤◌}
use mathlib.Core.Path.{sym}
use mathlib.Core.Bool.{Bool, true, false}
use mathlib.Core.List.{List, [], ◌∷◌}
use native.Mathlib.Omega.{arith}
use Rattle.timing.specs.declared.Profile.{Profile}
use Rattle.timing.proofs.ProfileLaws.{Kept, kept}
use Rattle.items.specs.Written.{written}
use Rattle.symbols.specs.Cells.{written_symbols}
use Rattle.lengths.specs.Lengths.{point, symbol_after, cell_length, lengths_from, lengths_of}
use Rattle.lengths.specs.Stream.{byte_stream, stream_of}
use Rattle.lengths.specs.Claims.{signed_length, SignedLengths, LengthsArePositive}
use Rattle.lengths.proofs.ShiftLaws.{signed_sum}
use Rattle.lengths.proofs.PointLaws.{point_is_in_range}

module _ {p : Profile} (k : Kept p) where
  lengths_are_signed
      : (ss : List Bool) (start zeros : ℕ) (before : Bool)
      → start ≤ p.late.0
      → SignedLengths p start zeros before ss (lengths_from p start zeros before ss)
  unfolding SignedLengths lengths_from cell_length signed_length
  lengths_are_signed [] start zeros before h = tt
  lengths_are_signed (false ∷ ss) start zeros before h = lengths_are_signed ss start (suc zeros) false h
  lengths_are_signed (true ∷ ss) start zeros before h =
      let end = point p before (symbol_after ss) in
      let range = point_is_in_range k before (symbol_after ss) in
      (omega arith, sym (signed_sum _ _ _ (omega arith)), lengths_are_signed ss end 0 true range.1)

pub lengths_are_positive : LengthsArePositive
unfolding stream_of byte_stream lengths_of
lengths_are_positive p accepts items listed =
    let ss = written_symbols (written items) in
    let k = kept p accepts in
    lengths_are_signed k ss _ 0 true (point_is_in_range k true (symbol_after ss)).1
