-- What the functions hand to each other is what the definitions give: by cases of what was found and read. Rests on no
-- axiom.
use Prim.Native.Nat.{ℕ, ◌+◌, ◌≤◌, ◌<◌}
use mathlib.Core.Path.{◌≡◌}
use mathlib.Core.Bool.{true, false}
use mathlib.Core.List.{List}
use native.Mathlib.Numerals.{add-one}
use native.Mathlib.Omega.{arith}
use lib.ListN.{length, drop}
use Rattle.std.specs.Prelude.{Some, None}
use Rattle.timing.specs.declared.Profile.{Profile}
use Rattle.entries.specs.FieldKinds.{data_bytes, is_data}
use Rattle.entries.specs.Entries.{has_lock, field_end, has_data, data_from, id_byte, entry_at, entry_end, next_start}
use Rattle.entries.specs.machine.Steps.{opens, id_read, data_read, sought, step_at, step_from}
use Rattle.entries.specs.declared.id.Id.{Id}
use Rattle.entries.specs.declared.opening.Opened.{Opened}
use Rattle.entries.specs.declared.content.Sought.{Sought}
use Rattle.entries.specs.declared.Step.TheVariants.{End, Other, Begins}
use Rattle.entries.proofs.FieldLaws.{FieldReads, field_ends_within}
use Rattle.entries.proofs.OpeningLaws.{opened_means}
use Rattle.entries.proofs.IdLaws.{IdMeans, id_means}
use Rattle.entries.proofs.SearchLaws.{Lock}

module _ (p : Profile) (ds : List ℕ) where
  -- ---- the data from a start on

  module _ (start code : ℕ) where
    pub no_lock_no_data : has_lock p ds start ≡ false → record { field = None; end = start } ≡ sought p ds start code
    unfolding data_from entry_end has_data
    no_lock_no_data e = rw e

    module _ {k : ℕ} (found : Lock p ds start k) where
      pub other_lock_no_data
          : None ≡ data_read p (drop k ds) code → record { field = None; end = start } ≡ sought p ds start code
      unfolding data_from entry_end has_data is_data data_read opens
      other_lock_no_data e = rw (found.lock, found.place, opened_means p (drop k ds) (data_bytes code) 0xfb None e)

      module _ (o : Opened) (e : Some o ≡ data_read p (drop k ds) code) where
        data_means : (is_data p (drop k ds) code ≡ true) × FieldReads p (drop k ds) (data_bytes code) o.used o.holds
        unfolding is_data data_read opens
        data_means = opened_means p (drop k ds) (data_bytes code) 0xfb (Some o) e

        pub data_ends_within : k + o.used ≤ length ds
        unfolding field_end
        data_ends_within =
            let within = found.within in
            omega (arith, (field_ends_within p ds k (data_bytes code) (omega arith)).1, data_means.1.uses)

        pub data_is_sought
            : record { field = Some (record { place = k; holds = o.holds }); end = k + o.used }
            ≡ sought p ds start code
        unfolding data_from entry_end has_data field_end
        data_is_sought =
            let (is_data_lem, reads) = data_means in rw (found.lock, found.place, is_data_lem, reads.uses, reads.sum)

  -- ---- a lock looked at

  module _ (k : ℕ) where
    pub no_id_no_entry : None ≡ id_read p (drop k ds) → Other (k + 1) ≡ step_at p ds k
    unfolding step_at next_start
    no_id_no_entry e = rw (id_means p (drop k ds) None e, add-one)

    module _ (id : Id) (e : Some id ≡ id_read p (drop k ds)) where
      means : IdMeans p (drop k ds) (Some id)
      means = id_means p (drop k ds) _ e

      pub id_ends_within : k < length ds → k + id.used ≤ length ds
      unfolding field_end
      id_ends_within h = omega (arith, (field_ends_within p ds k 10 (omega arith)).1, means.5)

      pub entry_begins
          : (s : Sought)
          → s ≡ sought p ds (k + id.used) id.code
          → Begins
          (record {
            track = id.track;
            side = id.side;
            sector = id.sector;
            code = id.code;
            place = k;
            field = s.field;
          })
          s.end
          ≡ step_at p ds k
      unfolding step_at next_start entry_at field_end id_byte
      entry_begins s sought_is =
          let (is_id_lem, is_track, is_side, is_sector, is_code, uses) = means in
          rw (is_id_lem, sought_is, uses, is_track, is_side, is_sector, is_code)

  -- ---- one search

  module _ (start : ℕ) where
    pub no_lock_is_end : has_lock p ds start ≡ false → End ≡ step_from p ds start
    unfolding step_from
    no_lock_is_end e = rw e

    pub found_is_looked_at : {k : ℕ} → Lock p ds start k → step_at p ds k ≡ step_from p ds start
    unfolding step_from
    found_is_looked_at found = rw (found.lock, found.place)
