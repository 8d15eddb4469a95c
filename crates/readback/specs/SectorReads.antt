-- A sector reads back, of any of the four length codes, code 0 too, which the maker turns away: what the finder and the
-- field reader give on the stream of its items. No lemmas here.
use Rattle.std.specs.Prelude.{ℕ, ◌+◌, ◌≤◌, ◌≡◌, true, false, List, [], ◌∷◌, ◌++◌, length, drop, replicate}
use Rattle.lists.specs.Filled.{filled}
use Rattle.lists.specs.Place.{everywhere}
use Rattle.refusal.specs.Answer.{accepted}
use Rattle.timing.specs.Class.{classes_of}
use Rattle.timing.specs.declared.Profile.{Profile}
use Rattle.items.specs.Item.{is_byte}
use Rattle.items.specs.Written.{fresh_check, after_bytes, check_bytes}
use Rattle.items.specs.Rule.{list_rule}
use Rattle.symbols.specs.Bits.{O, all_bits}
use Rattle.symbols.specs.Cells.{symbols_of, cells_of}
use Rattle.lengths.specs.Stream.{stream_of}
use Rattle.locks.specs.Lock.{find_rule}
use Rattle.fields.specs.Field.{field_used}
use Rattle.fields.specs.FieldRule.{field_reading, field_output}
use Rattle.sectors.specs.Sector.{sector_size, sector_items, is_misfit}
use Rattle.demands.specs.Streams.{AcceptedProfile, Moved}
use Rattle.demands.specs.Demand3.{stated}

-- the place of the first interval of what is written after bytes that end in two 0s: so many cells stand before it
abbrev pub place_after : List ℕ → ℕ
place_after us = length (cells_of (symbols_of (O ∷ all_bits us)))

-- bytes and the two check bytes of the register after them
abbrev pub with_check : List ℕ → List ℕ
with_check ws = ws ++ check_bytes (after_bytes fresh_check ws)

-- the field reader at the front of ds, with n: it gives these items, the register being zero after them, given room
-- for them
pub record ReadsField (p : Profile) (ds : List ℕ) (n : ℕ) (items : List ℕ) : Type 0 where
  pub count : length items ≡ n
  pub answer
      : (room : ℕ)
      → n ≤ room
      → field_reading p ds n room
      ≡ record { answer = accepted n; used = field_used (classes_of p ds) n; holds = true }
  pub output : (old : List ℕ) → n ≤ length old → field_output p ds n old ≡ filled items old

-- where the ID's marks stand
unfoldable pub id_place : ℕ
id_place = place_after (replicate 12 0x00)

module _ (track side sector code : ℕ) (bytes : List ℕ) where
  -- numbers of which a sector is made, by its layout: a length code of 0 to 3, and as many bytes. The maker takes data
  -- bytes and no code 0; the law holds with mark bytes among them too, and of every code
  pub record Made : Type 0 where
    pub fits : is_misfit code bytes ≡ false
    pub id_are_bytes : everywhere is_byte (track ∷ side ∷ sector ∷ code ∷ []) ≡ true
    pub data_are_bytes : everywhere is_byte bytes ≡ true

  -- three marks, FE, the four bytes and the check bytes
  unfoldable pub id_field : List ℕ
  id_field = with_check (replicate 3 (256 + 0xa1) ++ (0xfe ∷ track ∷ side ∷ sector ∷ code ∷ []))

  -- three marks, FB, exactly the data and the check bytes
  unfoldable pub data_field : List ℕ
  data_field = with_check (replicate 3 (256 + 0xa1) ++ (0xfb ∷ bytes))

  -- where the data's marks stand
  unfoldable pub data_place : ℕ
  data_place = place_after (replicate 12 0x00 ++ id_field ++ replicate 22 0x4e ++ replicate 12 0x00)

  -- what is read of the intervals of such a sector
  pub record SectorReads (p : Profile) (changed : List ℕ) : Type 0 where
    -- the writer takes the sector's items
    pub written : (list_rule (sector_items track side sector code bytes)).number ≡ 0
    -- the first lock from 0 stands at the ID's marks
    pub id_lock : find_rule p changed 0 ≡ accepted id_place
    -- the field reader there with n = 10 gives the three marks, FE, the four bytes and the check bytes, the sum holding
    pub id_reads : ReadsField p (drop id_place changed) 10 id_field
    -- the next lock after the used intervals stands at the data's marks
    pub data_lock
        : find_rule p changed (id_place + field_used (classes_of p (drop id_place changed)) 10) ≡ accepted data_place
    -- the field reader there with n = size + 6 gives the three marks, FB, exactly the data, the sum holding
    pub data_reads : ReadsField p (drop data_place changed) (sector_size code + 6) data_field

-- under any accepted profile, every interval moved by at most the margin
abbrev pub MadeSectorsReadBack : Type 0
MadeSectorsReadBack =
    (track side sector code : ℕ) (bytes : List ℕ)
    → Made track side sector code bytes
    → (p : Profile)
    → AcceptedProfile p
    → (changed : List ℕ)
    → Moved (stated p) (stream_of p (sector_items track side sector code bytes)) changed
    → SectorReads track side sector code bytes p changed
