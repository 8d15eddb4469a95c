-- What the set of a track answers and leaves, from its index: a refusal of the index decides, then the room. Rests on no
-- axiom.
use Prim.Native.Nat.{ℕ, ◌+◌, ◌-◌, ◌≤◌, ◌<◌}
use mathlib.Core.Path.{◌≡◌, refl, sym, ap, ◌∙◌}
use mathlib.Core.Bool.{Bool, true, false, cond}
use mathlib.Core.List.{List, [], ◌∷◌, ◌++◌, map, flat_map}
use native.Mathlib.Numerals.{add-one}
use native.Mathlib.Omega.{arith}
use borrow.Author.Tests.{eq-eqb, le-ltb, lt-ltb, ltb-false}
use lib.Dec.{ltb}
use lib.ListN.{length, get_or, drop, replicate, length-append, length-map, length-replicate, drop_of_length-le}
use lib.Seq.{drop-cons}
use Rattle.lists.specs.Filled.{stored_at}
use Rattle.lists.proofs.StoreLaws.{stored_at_front_fills}
use Rattle.refusal.specs.Table.{number_of, place_of}
use Rattle.refusal.specs.Answer.{Answer, accepted, refused, refuse_if}
use Rattle.refusal.specs.declared.Refusal.{Refusal}
use Rattle.refusal.proofs.AnswerLaws.{number_is_not_zero, refusal_decides, first_refusal_accepts}
use Rattle.refusal.proofs.AnswerLaws.{first_refusal_passes}
use Rattle.timing.specs.Profile.{profile_rule}
use Rattle.timing.specs.declared.Profile.{Profile}
use Rattle.sets.specs.Set.{set_bytes}
use Rattle.merge.specs.Rule.{MergeAnswer}
use Rattle.merge.proofs.OutputLaws.{bytes_of-append}
use Rattle.entries.specs.Entries.{entries_of}
use Rattle.entries.specs.declared.Entry.{Entry}
use Rattle.track.specs.Order.{in_order}
use Rattle.track.specs.Index.{crowd_rule, index_rule, no_entry, padded, handed_back, index_entries}
use Rattle.track.specs.HandedBack.{index_entry_of, index_answer_of}
use Rattle.track.specs.machine.Insertion.{blank}
use Rattle.track.specs.declared.index.IndexEntry.{IndexEntry}
use Rattle.track.specs.declared.index.TrackIndex.{TrackIndex}
use Rattle.track.proofs.InsertionLaws.{ordered_length}
use Rattle.track_set.specs.TrackSectors.{sectors_found, track_rule, track_answer, track_output}
use Rattle.track_set.specs.machine.Handed.{handed_sectors, handed_bytes, size_of, sizes_of, founds_of}
use Rattle.track_set.proofs.HandedLaws.{AllStand}
use Rattle.track_set.proofs.TrackSetLaws.{index_stands, index_sectors}

-- ---- an index that is accepted

pub record Listed (p : Profile) (ds : List ℕ) (entries : List IndexEntry) : Type 0 where
  pub fair : (profile_rule p).number ≡ 0
  pub accepts : (index_rule p ds).number ≡ 0
  pub long : length entries ≡ 32
  pub all : AllStand p ds entries
  pub sectors : flat_map (handed_sectors p ds) entries ≡ sectors_found p ds

few_entries : (p : Profile) (ds : List ℕ) → (crowd_rule (entries_of p ds)).number ≡ 0 → length (entries_of p ds) ≤ 32
unfolding crowd_rule
few_entries p ds e =
    elim (ltb 32 (length (entries_of p ds))) as (λ t.
    ltb 32 (length (entries_of p ds)) ≡ t
    → (cond t (refused 15 0) (accepted (length (entries_of p ds)))).number ≡ 0
    → length (entries_of p ds) ≤ 32) [
      | true ↦ λ over zero. absurd (omega arith)
      | false ↦ λ enough zero. ltb-false 32 (length (entries_of p ds)) enough
    ]
    refl e

padded-length : (es : List Entry) → length es ≤ 32 → length (padded es) ≡ 32
unfolding padded
padded-length es h =
    length-append es (replicate (32 - length es) no_entry)
    ∙ omega (arith, length-replicate {A = Entry} (32 - length es) no_entry)

pub listed
    : (p : Profile) (ds : List ℕ) (index : TrackIndex)
    → index ≡ index_answer_of (index_rule p ds) (index_entries p ds)
    → index.number ≡ 0
    → Listed p ds index.entries
unfolding index_entries handed_back index_rule
listed p ds index is none =
    let accepts : (index_rule p ds).number ≡ 0 = sym (ap (λ (i : TrackIndex). i.number) is) ∙ none in
    let (fair, few) = first_refusal_accepts (profile_rule p) (crowd_rule (entries_of p ds)) accepts in
    let found : List Entry = in_order (entries_of p ds) in
    let entries : index.entries ≡ map index_entry_of (padded found) =
    ap (λ (i : TrackIndex). i.entries) is ∙ rw (eq-eqb (index_rule p ds).number 0 accepts) refl in
    let count : length found ≤ 32 = omega (arith, ordered_length (entries_of p ds), few_entries p ds few) in
    record {
      fair = fair;
      accepts = accepts;
      long = ap length entries ∙ length-map (padded found) index_entry_of ∙ padded-length found count;
      all = rw entries (index_stands p ds);
      sectors = rw entries (index_sectors p ds);
    }

-- ---- entry after entry

module _ (es : List IndexEntry) (k : ℕ) (within : k < length es) where
  abbrev here : IndexEntry
  here = get_or es k blank

  rest_is : drop k es ≡ here ∷ drop (k + 1) es
  rest_is = rw add-one (drop-cons es k blank within)

  pub founds_step : founds_of (drop k es) ≡ here.found + founds_of (drop (k + 1) es)
  unfolding founds_of
  founds_step = rw rest_is

  pub sizes_step : sizes_of (drop k es) ≡ size_of here + sizes_of (drop (k + 1) es)
  unfolding sizes_of
  sizes_step = rw rest_is

  pub bytes_step
      : (p : Profile) (ds : List ℕ)
      → handed_bytes p ds (drop k es) ≡ set_bytes (handed_sectors p ds here) ++ handed_bytes p ds (drop (k + 1) es)
  unfolding flat_map
  bytes_step p ds =
      rw rest_is (bytes_of-append (handed_sectors p ds here) (flat_map (handed_sectors p ds) (drop (k + 1) es)))

  pub lengths_step
      : (p : Profile) (ds : List ℕ)
      → length (handed_bytes p ds (drop k es))
      ≡ length (set_bytes (handed_sectors p ds here)) + length (handed_bytes p ds (drop (k + 1) es))
  lengths_step p ds =
      ap length (bytes_step p ds)
      ∙ length-append (set_bytes (handed_sectors p ds here)) (handed_bytes p ds (drop (k + 1) es))

pub none_left : (es : List IndexEntry) (k : ℕ) → length es ≤ k → drop k es ≡ []
none_left es k h = drop_of_length-le es {i = k} h

pub no_founds : founds_of [] ≡ 0
unfolding founds_of
no_founds = refl

pub no_sizes : sizes_of [] ≡ 0
unfolding sizes_of
no_sizes = refl

pub no_bytes : (p : Profile) (ds : List ℕ) → handed_bytes p ds [] ≡ []
unfolding flat_map set_bytes
no_bytes p ds = refl

-- ---- the answer, and the output

module _ (p : Profile) (ds old : List ℕ) where
  abbrev Settles : MergeAnswer → List ℕ → Type 0
  Settles answer new = (answer ≡ track_answer p ds (length old)) × (new ≡ track_output p ds old)

  profile_decides
      : (r : Refusal) (room : ℕ)
      → refused (number_of r) (place_of r) ≡ profile_rule p
      → refused (number_of r) (place_of r) ≡ track_rule p ds room
  unfolding index_rule track_rule
  profile_decides r room e = refusal_decides r _ _ (refusal_decides r _ _ e)

  pub profile_refuses
      : (r : Refusal)
      → refused (number_of r) (place_of r) ≡ profile_rule p
      → Settles (record { answer = refused (number_of r) (place_of r); stored = 0 }) old
  unfolding track_answer track_output
  profile_refuses r e = rw (← profile_decides r (length old) e, number_is_not_zero r) (refl, refl)

  -- under a true profile an index is refused as crowded
  crowd_refuses
      : (profile_rule p).number ≡ 0 → ((index_rule p ds).number ≡ 0 → ⊥) → index_rule p ds ≡ refused 15 0
  unfolding index_rule crowd_rule
  crowd_refuses fair some =
      let rule = first_refusal_passes (profile_rule p) (crowd_rule (entries_of p ds)) fair in
      rule ∙ by (ltb 32 (length (entries_of p ds))) (λ zero. some (ap (λ (a : Answer). a.number) rule ∙ zero))
    where
      by
          : (t : Bool)
          → ((refuse_if t 15 0 (accepted (length (entries_of p ds)))).number ≡ 0 → ⊥)
          → refuse_if t 15 0 (accepted (length (entries_of p ds))) ≡ refused 15 0
      by true refuses = refl
      by false refuses = absurd (refuses refl)

  pub index_refuses
      : (index : TrackIndex)
      → index ≡ index_answer_of (index_rule p ds) (index_entries p ds)
      → (profile_rule p).number ≡ 0
      → (index.number ≡ 0 → ⊥)
      → Settles (record { answer = refused 15 0; stored = 0 }) old
  unfolding track_answer track_rule track_output
  index_refuses index is fair some =
      rw (crowd_refuses fair (λ e. some (ap (λ (i : TrackIndex). i.number) is ∙ e))) (refl, refl)

  module _ {entries : List IndexEntry} (list : Listed p ds entries) where
    abbrev bytes : List ℕ
    bytes = handed_bytes p ds entries

    same_bytes : bytes ≡ set_bytes (sectors_found p ds)
    same_bytes = ap set_bytes list.sectors

    pub room_refuses : length old < length bytes → Settles (record { answer = refused 9 0; stored = 0 }) old
    unfolding track_answer track_rule track_output
    room_refuses short =
        rw (
          eq-eqb (index_rule p ds).number 0 list.accepts,
          ← same_bytes,
          lt-ltb (length old) (length bytes) short,
        )
        (refl, refl)

    pub set_stored
        : (count : ℕ)
        → length bytes ≤ length old
        → count ≡ length (flat_map (handed_sectors p ds) entries)
        → Settles (record { answer = accepted count; stored = length bytes }) (stored_at old 0 bytes)
    unfolding track_answer track_rule track_output
    set_stored count room counted =
        rw (
          eq-eqb (index_rule p ds).number 0 list.accepts,
          ← same_bytes,
          ← list.sectors,
          le-ltb (length old) (length bytes) room,
          counted,
        )
        (refl, stored_at_front_fills bytes old room)
