-- Why compensation stretches no track: the compare points between the first and the last cancel out, the first lies
-- between Early and Normal since a symbol 1 counts before it, and the last between Normal and Late since one counts
-- after it. Rests on no axiom.
use Prim.Native.Nat.{ℕ, ◌+◌, ◌*◌}
use mathlib.Core.Path.{◌≡◌}
use mathlib.Core.List.{List}
use native.Mathlib.Nat.{add-mul, mul_assoc, mul_comm}
use native.Mathlib.Omega.{arith}
use lib.ListN.{length}
use Rattle.timing.specs.declared.Profile.{Profile}
use Rattle.timing.proofs.ProfileLaws.{Kept, kept}
use Rattle.items.specs.Item.{written_bytes}
use Rattle.items.specs.Written.{written}
use Rattle.items.proofs.WrittenLaws.{length_of_written}
use Rattle.symbols.proofs.UnitLaws.{units_of_written}
use Rattle.lengths.specs.Stream.{stream_of}
use Rattle.lengths.proofs.SumLaws.{sum_of_stream, units_of_stream, first_point_is_early, last_point_is_late}
use Rattle.demands.specs.Stretch.{track_length, first_point_of, last_point_of, zeros_of, CompensationStretchesNothing}

-- c cells of 2 t and z 0s of t are u units of t
in_one_unit : (c z u t : ℕ) → 2 * c + z ≡ u → c * (2 * t) + z * t ≡ u * t
in_one_unit c z u t e = cc (mul_assoc c 2 t, mul_comm c 2, add-mul (2 * c) z t)

module _ (p : Profile) (k : Kept p) (items : List ℕ) where
  units : 2 * length (stream_of p items) + zeros_of items ≡ 16 * written_bytes items + 4
  unfolding stream_of
  units = cc (units_of_stream p k (written items), units_of_written (written items), length_of_written items)

  by_written_bytes
      : p.t1.0 ≡ 2 * p.t0.0
      → track_length p items + 2 * first_point_of p items
      ≡ (16 * written_bytes items + 4) * p.t0.0 + 2 * last_point_of p items
  unfolding stream_of
  by_written_bytes double =
      cc (sum_of_stream p k (written items), double, in_one_unit (length (stream_of p items)) _ _ _ units)

pub compensation_stretches_nothing : CompensationStretchesNothing
unfolding stream_of
compensation_stretches_nothing p accepts =
    let k = kept p accepts in
    record {
      by_cells_and_zeros = λ items listed. sum_of_stream p k (written items);
      in_units = λ items listed. units p k items;
      by_bytes = λ double items listed. by_written_bytes p k items double;
      -- both sums lie between (16n + 4) × T0 and that with 2 × (Late − Early) added
      near_each_other = λ double items others listed listed_too same.
          let sum = rw same at (by_written_bytes p k items double) in
          let other = by_written_bytes p k others double in
          omega (
            arith,
            first_point_is_early p k (written items),
            last_point_is_late p k (written items),
            first_point_is_early p k (written others),
            last_point_is_late p k (written others),
          );
    }
