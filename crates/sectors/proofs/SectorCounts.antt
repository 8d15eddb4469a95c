-- How many items and written bytes a sector has: 114 items and 116 written bytes beside its data. Rests on no axiom.
use Prim.Native.Nat.{ℕ, ◌+◌, ◌≤◌}
use mathlib.Core.Path.{◌≡◌, refl, ap, ap₂, ◌∙◌}
use mathlib.Core.Bool.{Bool, true, false, cond, not, ◌||◌, true≢false}
use mathlib.Core.List.{List, [], ◌∷◌, ◌++◌}
use native.Mathlib.Omega.{arith}
use borrow.Author.Tests.{eqb-true, not-false}
use lib.Dec.{eqb, ltb}
use lib.ListN.{length, length-append}
use Rattle.lists.specs.Place.{everywhere}
use Rattle.lists.proofs.PlaceLaws.{everywhere_passes_at_first, everywhere_in_rest}
use Rattle.items.specs.Item.{is_byte, is_check, bytes_of, written_bytes}
use Rattle.items.proofs.ItemLaws.{byte_is_no_check, bytes_of_others_is_1}
use Rattle.sectors.specs.Sector.{sector_size, opening, identity, sector_items, is_misfit}

written_bytes-append : (ms ns : List ℕ) → written_bytes (ms ++ ns) ≡ written_bytes ms + written_bytes ns
unfolding written_bytes
written_bytes-append [] ns = omega arith
written_bytes-append (m ∷ ms) ns = rw (written_bytes-append ms ns) (omega arith)

bytes_count_one_each : (ns : List ℕ) → everywhere is_byte ns ≡ true → written_bytes ns ≡ length ns
unfolding written_bytes
bytes_count_one_each [] e = refl
bytes_count_one_each (n ∷ ns) e =
    ap₂ ◌+◌ (bytes_of_others_is_1 n (byte_is_no_check n (everywhere_passes_at_first is_byte n ns e)))
    (bytes_count_one_each ns (everywhere_in_rest is_byte n ns e))
    ∙ omega arith

module _ (track side sector code : ℕ) (bytes : List ℕ) where
  -- 114 items beside the data
  pub sector_length : length (sector_items track side sector code bytes) ≡ length bytes + 114
  unfolding sector_items opening identity
  sector_length = simp length-append (omega arith)

  -- every number that the caller gives is a byte
  abbrev pub AllBytes : Type 0
  AllBytes = everywhere is_byte (track ∷ side ∷ sector ∷ code ∷ bytes) ≡ true

  pub sector_written_bytes : AllBytes → written_bytes (sector_items track side sector code bytes) ≡ length bytes + 116
  unfolding sector_items opening identity written_bytes bytes_of is_check
  sector_written_bytes e =
      let given = bytes_count_one_each (track ∷ side ∷ sector ∷ code ∷ bytes) e in
      rw (written_bytes-append _ _, written_bytes-append bytes (512 ∷ [])) (omega (arith, given))

fits_size : (above : Bool) (n m : ℕ) → (above || not (eqb n m)) ≡ false → n ≡ m
fits_size true n m e = absurd (true≢false e)
fits_size false n m e = eqb-true n m (not-false (eqb n m) e)

pub size_at_most_1024 : (code : ℕ) → sector_size code ≤ 1024
unfolding sector_size
size_at_most_1024 code = by (eqb code 0) (eqb code 1) (eqb code 2)
  where
    by : (is_0 is_1 is_2 : Bool) → cond is_0 128 (cond is_1 256 (cond is_2 512 1024)) ≤ 1024
    by true is_1 is_2 = omega arith
    by false true is_2 = omega arith
    by false false true = omega arith
    by false false false = omega arith

module _ (track side sector code : ℕ) (bytes : List ℕ) (fits : is_misfit code bytes ≡ false) where
  pub size_of_code : length bytes ≡ sector_size code
  unfolding is_misfit
  size_of_code = fits_size (ltb 3 code) (length bytes) (sector_size code) fits

  -- the counts for every code
  pub sector_counts
      : AllBytes track side sector code bytes
      → (length (sector_items track side sector code bytes) ≡ sector_size code + 114)
      × (written_bytes (sector_items track side sector code bytes) ≡ sector_size code + 116)
  sector_counts e = (
    sector_length track side sector code bytes ∙ ap (λ (n : ℕ). n + 114) size_of_code,
    sector_written_bytes track side sector code bytes e ∙ ap (λ (n : ℕ). n + 116) size_of_code,
  )

-- with 256 bytes: 370 items, 372 written bytes
pub sector_of_256_bytes
    : (track side sector : ℕ) (bytes : List ℕ)
    → is_misfit 1 bytes ≡ false
    → AllBytes track side sector 1 bytes
    → (length (sector_items track side sector 1 bytes) ≡ 370)
    × (written_bytes (sector_items track side sector 1 bytes) ≡ 372)
unfolding sector_size
sector_of_256_bytes track side sector bytes fits e = sector_counts track side sector 1 bytes fits e
