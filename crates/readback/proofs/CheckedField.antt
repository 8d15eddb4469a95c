-- A field with its check bytes is read whole: they are bytes too, and the register is zero after them.
use Prim.Native.Nat.{ℕ, ◌+◌, ◌≤◌}
use mathlib.Core.Path.{◌≡◌, refl, ◌∙◌}
use mathlib.Core.Bool.{true, false}
use mathlib.Core.List.{List, [], ◌∷◌, ◌++◌, map}
use native.Mathlib.Omega.{arith}
use borrow.Author.Tests.{le-ltb}
use lib.ListN.{length, length-append}
use Rattle.lists.specs.Place.{everywhere}
use Rattle.lists.proofs.PlaceLaws.{everywhere-append}
use Rattle.timing.specs.Profile.{outside}
use Rattle.timing.specs.Class.{classes_of}
use Rattle.timing.specs.declared.Profile.{Profile}
use Rattle.items.specs.Item.{is_byte}
use Rattle.register.specs.Register.{high_byte, low_byte}
use Rattle.items.specs.Written.{fresh_check, after_bytes}
use Rattle.items.proofs.ItemLaws.{data_is_byte}
use Rattle.items.proofs.CheckLaws.{fresh_bound, after_bytes_bound, high_byte_bound, low_byte_bound}
use Rattle.items.proofs.CheckLaws.{crc_of_check_bytes_is_zero}
use Rattle.symbols.specs.Bits.{O, all_bits}
use Rattle.symbols.specs.Reading.{read_bits}
use Rattle.symbols.specs.declared.Cell.{Cell}
use Rattle.intervals.proofs.CellLaws.{class_of_cell}
use Rattle.fields.specs.Field.{holds_after}
use Rattle.fields.proofs.WrittenFieldLaws.{written_field_is_read, written_field_is_stored}
use Rattle.demands.specs.Streams.{AcceptedProfile}
use Rattle.readback.specs.SectorReads.{with_check, ReadsField}

module _ (ws : List ℕ) where
  pub checked_length : length (with_check ws) ≡ length ws + 2
  checked_length = length-append ws _

  zero_after : (after_bytes fresh_check (with_check ws)).register ≡ 0
  zero_after = rw (crc_of_check_bytes_is_zero fresh_check ws fresh_bound)

  checked_bytes : everywhere is_byte ws ≡ true → everywhere is_byte (with_check ws) ≡ true
  unfolding everywhere
  checked_bytes e =
      let bound = after_bytes_bound fresh_check ws fresh_bound in
      let r : ℕ = (after_bytes fresh_check ws).register in
      everywhere-append is_byte ws _
      ∙ rw (e, data_is_byte (high_byte r) (high_byte_bound r bound), data_is_byte (low_byte r) (low_byte_bound r))

  pub checked_field_is_read
      : (vs : List ℕ) (xs : List Cell) (n : ℕ) (p : Profile) (ds : List ℕ)
      → everywhere is_byte ws ≡ true
      → length ws + 2 ≡ n
      → n ≤ 1030
      → read_bits xs ≡ O ∷ all_bits (with_check ws ++ vs) ++ (O ∷ [])
      → AcceptedProfile p
      → classes_of p ds ≡ map class_of_cell xs
      → ReadsField p ds n (with_check ws)
  unfolding holds_after
  checked_field_is_read vs xs n p ds bytes count few reads accepts same =
      let us : List ℕ = with_check ws in
      let all = checked_bytes bytes in
      let long = checked_length in
      let in_range : outside 1 1030 (length us) ≡ false =
      rw (le-ltb (length us) 1 (omega arith), le-ltb 1030 (length us) (omega arith)) in
      rw (← long ∙ count) (record {
        count = refl;
        answer = λ room h. written_field_is_read us vs xs reads all p ds accepts same in_range room h ∙ rw zero_after;
        output = written_field_is_stored us vs xs reads all p ds accepts same in_range;
      })
