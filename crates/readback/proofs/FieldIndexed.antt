-- What the index sees of a field that was found: it reads, its items are the field's bytes, and its sum holds. Rests on
-- no axiom.
use Prim.Native.Nat.{ℕ, ◌<◌}
use mathlib.Core.Path.{◌≡◌, sym}
use mathlib.Core.Bool.{true}
use mathlib.Core.List.{List, append-nil}
use native.Mathlib.Omega.{arith}
use lib.ListN.{length, replicate, drop_of_length-le, length-replicate}
use Rattle.lists.specs.Filled.{filled}
use Rattle.timing.specs.Class.{classes_of}
use Rattle.timing.specs.declared.Profile.{Profile}
use Rattle.fields.specs.Field.{field_used}
use Rattle.entries.specs.FieldKinds.{items_of}
use Rattle.entries.specs.Entries.{has_lock, lock_place}
use Rattle.entries.proofs.FieldLaws.{FieldReads, accepted_field}
use Rattle.entries.proofs.SearchLaws.{found_is_lock, lock_is_ahead}
use Rattle.readback.specs.SectorReads.{ReadsField}
use Rattle.readback.proofs.FieldAhead.{FieldFound}

module _ {p : Profile} {ds : List ℕ} {n : ℕ} {items : List ℕ} (r : ReadsField p ds n items) where
  pub field_is_read : FieldReads p ds n (field_used (classes_of p ds) n) true
  field_is_read = accepted_field p ds n n _ true (sym (r.answer n (omega arith)))

  pub items_are_its_bytes : items_of p ds n ≡ items
  unfolding items_of filled
  items_are_its_bytes =
      let zeros : List ℕ = replicate n 0 in
      let room : length zeros ≡ n = length-replicate {A = ℕ} n 0 in
      cc (r.output zeros (omega arith), drop_of_length-le zeros {i = length items} (omega arith), append-nil items)

module _ {p : Profile} {changed : List ℕ} {start : ℕ} {field rest : List ℕ} (f : FieldFound p changed start field rest)
  where
    pub lock_there : (has_lock p changed start ≡ true) × (lock_place p changed start ≡ f.place)
    lock_there = found_is_lock p changed start f.place (cc)

    pub lock_within : f.place < length changed
    lock_within =
        let (lock, place) = lock_there in
        let ahead = lock_is_ahead p changed start lock in
        omega arith
