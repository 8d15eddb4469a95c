-- Why `store_entry` stores the sector of an entry: its three bytes, and then the data, which reads as the index has
-- read it. Rests on no axiom.
use Prim.Native.Nat.{ℕ, ◌+◌, ◌≤◌}
use mathlib.Core.List.{List}
use mathlib.Core.Path.{◌≡◌, ap, ◌∙◌}
use native.Mathlib.Omega.{arith}
use lib.ListN.{length, set, length-set}
use Rattle.lists.proofs.StoreLaws.{stored_length}
use Rattle.locks.proofs.LockLaws.{part_to_end}
use Rattle.sectors.proofs.SectorCounts.{size_at_most_1024}
use Rattle.timing.specs.declared.Profile.{Profile}
use Rattle.sectors.specs.Sector.{sector_size}
use Rattle.sets.specs.Set.{set_bytes}
use Rattle.track.specs.declared.index.IndexEntry.{IndexEntry}
use Rattle.track_set.specs.machine.Handed.{handed_sectors, Stands}
use Rattle.entries.specs.FieldKinds.{data_bytes}
use Rattle.track_set.proofs.HandedLaws.{bytes_count, size_with_data}
use Rattle.track_set.proofs.StoredLaws.{data_gathers, as_long, nothing_stored, entry_stored}
use Rattle.track_set.proofs.store_entry.Goals as goal

-- room for the sector, and its data within the list
fits
    : {p : Profile} {ds : List ℕ} {e : IndexEntry} (at size room : ℕ)
    → Stands p ds e × (at + length (set_bytes (handed_sectors p ds e)) ≤ room)
    → (e.found ≡ 0 → ⊥)
    → size ≡ sector_size e.code
    → (at + 3 + size ≤ room) × (size ≤ 1024) × (e.data_place ≤ length ds)
fits {e = e} at size room (stands, enough) some is = (
  omega (arith, bytes_count _ _ e stands, size_with_data e some),
  omega (arith, size_at_most_1024 e.code),
  stands.within some,
)

-- the writes keep the output's length
writes_keep
    : (out : List ℕ) (at number code sum : ℕ)
    → (length (set out at number) ≡ length out)
    × (length (set (set out at number) (at + 1) code) ≡ length out)
    × (length (set (set (set out at number) (at + 1) code) (at + 2) sum) ≡ length out)
writes_keep out at number code sum =
    let first = length-set out at number in
    let second = length-set (set out at number) (at + 1) code ∙ first in
    (first, second, length-set (set (set out at number) (at + 1) code) (at + 2) sum ∙ second)

pub returns-then-entry-eq0 : goal.returns-then-entry-eq0
returns-then-entry-eq0 c =
    let args = c.args in
    nothing_stored args.p args.intervals.now args.entry args.out.now args.at c.if-entry-eq0.true

pub overflow_add-end : goal.overflow_add-end
overflow_add-end c =
    let (room, small, within) =
    fits c.args.at _ (length c.args.out.now) c.requires.stands c.if-entry-eq0.false c.sector_size-size.ensures in
    record { fits = omega (arith, room, c.well_formed) }

pub bounds-out-at : goal.bounds-out-at
bounds-out-at c =
    let (room, small, within) =
    fits c.args.at _ (length c.args.out.now) c.requires.stands c.if-entry-eq0.false c.sector_size-size.ensures in
    omega (arith, room)

pub bounds-out-at-2 : goal.bounds-out-at-2
bounds-out-at-2 c =
    let (room, small, within) =
    fits c.args.at _ (length c.args.out.now) c.requires.stands c.if-entry-eq0.false c.sector_size-size.ensures in
    let (first, second, third) =
    writes_keep c.args.out.now c.args.at c.args.entry.sector c.args.entry.code c.args.entry.holds in
    omega (arith, room, first)

pub bounds-out-at-3 : goal.bounds-out-at-3
bounds-out-at-3 c =
    let (room, small, within) =
    fits c.args.at _ (length c.args.out.now) c.requires.stands c.if-entry-eq0.false c.sector_size-size.ensures in
    let (first, second, third) =
    writes_keep c.args.out.now c.args.at c.args.entry.sector c.args.entry.code c.args.entry.holds in
    omega (arith, room, second)

pub overflow_add-size : goal.overflow_add-size
overflow_add-size c =
    let (room, small, within) =
    fits c.args.at _ (length c.args.out.now) c.requires.stands c.if-entry-eq0.false c.sector_size-size.ensures in
    omega (arith, small)

pub slice_bounds-read_bytes-end-2 : goal.slice_bounds-read_bytes-end-2
slice_bounds-read_bytes-end-2 c =
    let (room, small, within) =
    fits c.args.at _ (length c.args.out.now) c.requires.stands c.if-entry-eq0.false c.sector_size-size.ensures in
    let (first, second, third) =
    writes_keep c.args.out.now c.args.at c.args.entry.sector c.args.entry.code c.args.entry.holds in
    omega (arith, room, third)

pub read_bytes-requires : goal.read_bytes-requires
unfolding data_bytes
read_bytes-requires c =
    let (room, small, within) =
    fits c.args.at _ (length c.args.out.now) c.requires.stands c.if-entry-eq0.false c.sector_size-size.ensures in
    let entry = c.args.entry in
    let gathers =
    data_gathers c.args.p c.args.intervals.now entry.data_place entry.code
    (c.requires.stands.0.reads c.if-entry-eq0.false) in
    record {
      p_value = c.requires.p_value;
      le_n = (
        omega arith,
        omega (arith, small),
        rw (part_to_end c.args.intervals.now entry.data_place, c.sector_size-size.ensures) gathers,
      );
    }

pub returns : goal.returns
returns c =
    let (room, small, within) =
    fits c.args.at _ (length c.args.out.now) c.requires.stands c.if-entry-eq0.false c.sector_size-size.ensures in
    let args = c.args in
    entry_stored args.p args.intervals.now args.entry args.out.now args.at c.sector_size-size.result _
    _ _ c.requires.stands.0 c.if-entry-eq0.false c.sector_size-size.ensures room
    (as_long args.out.now args.at c.sector_size-size.result _ _ _ room)
    (part_to_end args.intervals.now args.entry.data_place) c.read_bytes.ensures
