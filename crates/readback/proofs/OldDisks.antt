-- Why old disks still read: a sector of 128 bytes under code 0 has the layout of a sector, of which the laws of reading
-- back speak, and is a sector of a set. Rests on no axiom.
use Prim.Native.Nat.{ℕ}
use mathlib.Core.Path.{◌≡◌, refl, ◌∙◌}
use mathlib.Core.Bool.{true}
use mathlib.Core.List.{List, ◌∷◌, []}
use borrow.Author.Tests.{eqb-true}
use lib.Dec.{eqb}
use lib.ListN.{length}
use Rattle.lists.specs.Place.{everywhere}
use Rattle.lists.proofs.BoolLaws.{both}
use Rattle.lists.proofs.PlaceLaws.{everywhere_of_none, everywhere_of_passing, everywhere_passes_at_first}
use Rattle.lists.proofs.PlaceLaws.{everywhere_in_rest}
use Rattle.refusal.specs.Answer.{refused}
use Rattle.sectors.specs.Sector.{sector_size, is_misfit, sector_rule}
use Rattle.sectors.proofs.Claims.{no_128_byte_sectors}
use Rattle.sets.specs.Set.{Sector as SetSector, set_bytes, is_misfit_set, sectors_in}
use Rattle.sets.specs.Claims.{is_sector}
use Rattle.sets.proofs.FormLaws.{print_then_read}
use Rattle.merge.specs.Rule.{merge_rule}
use Rattle.readback.specs.TrackIndexed.{Sector, Makes, AllMade}
use Rattle.readback.specs.OldDisks.{Old, AllOld, is_old, without_misfit, OldDisksRead}
use Rattle.readback.proofs.SectorReads.{made_sectors_read_back}
use Rattle.readback.proofs.SectorClears.{made_sectors_clear}
use Rattle.readback.proofs.SectorIndexed.{made_of}
use Rattle.readback.proofs.TrackIndexed.{made_tracks_are_indexed}

-- ---- on a track

old_makes : (s : Sector) → Old s → Makes s
unfolding is_misfit sector_size
old_makes s old =
    record {
      track = old.track;
      side = old.side;
      sector = old.sector;
      fits = rw (old.code, old.size) refl;
      data_are_bytes = old.data_are_bytes;
    }

all_old_makes : (ss : List Sector) → AllOld ss → AllMade ss
all_old_makes [] old = tt
all_old_makes (s ∷ ss) (first, rest) = (old_makes s first, all_old_makes ss rest)

unmade
    : (s : Sector) (room : ℕ)
    → Old s
    → sector_rule s.track s.side s.sector s.code s.bytes room ≡ refused 13 0
unmade s room old =
    rw old.code (no_128_byte_sectors.code_0_is_misfit s.track s.side s.sector s.bytes room)

-- ---- in a set

old_is_sector : (s : SetSector) → is_old s ≡ true → is_sector s ≡ true
unfolding is_old is_sector sector_size
old_is_sector s e =
    let (code, size) = both (eqb s.code 0) (eqb (length s.bytes) 128) e in
    rw (eqb-true s.code 0 code, eqb-true (length s.bytes) 128 size)

old_are_sectors : (ss : List SetSector) → everywhere is_old ss ≡ true → everywhere is_sector ss ≡ true
old_are_sectors [] e = everywhere_of_none is_sector
old_are_sectors (s ∷ ss) e =
    everywhere_of_passing is_sector s ss (old_is_sector s (everywhere_passes_at_first is_old s ss e))
    ∙ old_are_sectors ss (everywhere_in_rest is_old s ss e)

sets_merged
    : (first second : List SetSector) (room : ℕ)
    → everywhere is_old first ≡ true
    → everywhere is_old second ≡ true
    → merge_rule (set_bytes first) (set_bytes second) room ≡ without_misfit first second room
unfolding merge_rule is_misfit_set sectors_in without_misfit
sets_merged first second room e f =
    rw (print_then_read first (old_are_sectors first e), print_then_read second (old_are_sectors second f))

pub old_disks_read : OldDisksRead
old_disks_read =
    record {
      unmade = unmade;
      sector_reads = λ s old. made_sectors_read_back _ _ _ _ _ (made_of s (old_makes s old));
      sector_clears = λ s old. made_sectors_clear.written_sector _ _ _ _ _ (made_of s (old_makes s old));
      track_indexed = λ ss few old. made_tracks_are_indexed ss few (all_old_makes ss old);
      sets_merged = sets_merged;
    }
