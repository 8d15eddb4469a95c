-- What is read at a lock, taken for an ID: by cases of whether the field reads, holds and identifies. Rests on no
-- axiom.
use Prim.Native.Nat.{ℕ, ◌<◌}
use mathlib.Core.Path.{◌≡◌, refl, ◌∙◌}
use mathlib.Core.Bool.{Bool, true, false, cond, ◌&&◌, true≢false, and-true, and-false}
use mathlib.Core.List.{List}
use native.Mathlib.Omega.{arith}
use borrow.Author.Tests.{ltb-true, leb-true}
use lib.ListN.{get_or}
use Rattle.std.specs.Prelude.{Option, Some, None}
use Rattle.lists.proofs.BoolLaws.{both}
use Rattle.timing.specs.declared.Profile.{Profile}
use Rattle.entries.specs.FieldKinds.{field_of, items_of, opens_with, identifies, is_id}
use Rattle.entries.specs.machine.Steps.{opens, id_with, identified, id_read}
use Rattle.entries.specs.declared.id.Id.{Id}
use Rattle.entries.proofs.FieldLaws.{FieldReads}

-- ---- the four bytes are data bytes

pub identity_has_data_bytes
    : (us : List ℕ)
    → identifies us ≡ true
    → (get_or us 4 0 < 256) × (get_or us 5 0 < 256) × (get_or us 6 0 < 256) × (get_or us 7 0 < 256)
unfolding identifies
identity_has_data_bytes us e =
    let (to_sector, code) = both _ _ e in
    let (to_side, sector) = both _ _ to_sector in
    let (to_track, side) = both _ _ to_side in (
      ltb-true _ _ (both (opens_with 0xfe us) _ to_track).1,
      ltb-true _ _ side,
      ltb-true _ _ sector,
      omega (arith, leb-true (get_or us 7 0) 3 code),
    )

-- ---- the field at the front of intervals

module _ (p : Profile) (ds : List ℕ) where
  abbrev pub us : List ℕ
  us = items_of p ds 10

  unopened
      : (r o t s n c h : Bool) → (r && o) ≡ false → (r && (o && t && s && n && c) && h) ≡ false
  unopened false o t s n c h e = refl
  unopened true false t s n c h e = refl
  unopened true true t s n c h e = absurd (true≢false e)

  pub unopened_is_no_id : opens p ds 10 0xfe ≡ false → None ≡ id_read p ds
  unfolding id_read is_id identifies opens
  unopened_is_no_id e = rw unopened

  pub field_is_identified
      : {used : ℕ} {holds : Bool}
      → FieldReads p ds 10 used holds
      → (t : Bool)
      → holds ≡ t
      → cond t (identified us used) None ≡ id_read p ds
  unfolding id_read is_id identified
  field_is_identified f true is = rw (f.does, f.sum ∙ is, f.uses, and-true)
  field_is_identified f false is = rw (f.does, f.sum ∙ is, and-false)

  -- ---- what the answer means

  abbrev pub IdMeans : Option Id → Type 0
  IdMeans None = is_id p ds ≡ false
  IdMeans (Some id) =
      (is_id p ds ≡ true)
      × (get_or us 4 0 ≡ id.track)
      × (get_or us 5 0 ≡ id.side)
      × (get_or us 6 0 ≡ id.sector)
      × (get_or us 7 0 ≡ id.code)
      × ((field_of p ds 10).used ≡ id.used)

  means_by : (t : Bool) → is_id p ds ≡ t → IdMeans (cond t (Some (id_with us (field_of p ds 10).used)) None)
  means_by true e = (e, refl, refl, refl, refl, refl)
  means_by false e = e

  pub id_means : (r : Option Id) → r ≡ id_read p ds → IdMeans r
  unfolding id_read
  id_means r e = rw e (means_by (is_id p ds) refl)
