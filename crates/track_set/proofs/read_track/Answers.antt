-- Why `read_track` answers and stores the set of the track: an untrue profile decides, then a crowded index; else the
-- entries are counted and measured, and where they have room, stored one after the other. Rests on no axiom.
use Rattle.std.proofs.Common.{rules}
use Prim.Native.Nat.{ℕ, ◌+◌, ◌≤◌, ◌<◌}
use mathlib.Core.Path.{◌≡◌, refl, sym, ap, ◌∙◌}
use mathlib.Core.List.{List, flat_map}
use native.Mathlib.Nat.{zero-add}
use native.Mathlib.Omega.{arith}
use lib.ListN.{length, get_or, drop}
use Rattle.lists.specs.Filled.{stored_at}
use Rattle.lists.proofs.StoreLaws.{stored_none, stored_next, stored_length}
use Rattle.refusal.specs.Answer.{Answer}
use Rattle.timing.specs.declared.Profile.{Profile}
use Rattle.track.specs.declared.index.IndexEntry.{IndexEntry}
use Rattle.track.specs.machine.Insertion.{blank}
use Rattle.track_set.specs.machine.Handed.{handed_sectors, handed_bytes, Stands, sizes_of, founds_of}
use Rattle.track_set.proofs.HandedLaws.{stands_at, bytes_count, all_sizes, all_founds, size_is_small}
use Rattle.track_set.proofs.SetAnswerLaws.{Listed, listed, founds_step, sizes_step, bytes_step, lengths_step}
use Rattle.track_set.proofs.SetAnswerLaws.{none_left, no_founds, no_sizes, no_bytes}
use Rattle.track_set.proofs.SetAnswerLaws.{profile_refuses, index_refuses, room_refuses, set_stored}
use Rattle.track_set.proofs.read_track.Goals as goal

-- an entry of the index
one_entry
    : {p : Profile} {ds : List ℕ} {entries : List IndexEntry} (k : ℕ)
    → Listed p ds entries
    → k < 32
    → (k < length entries) × Stands p ds (get_or entries k blank)
one_entry {entries = entries} k list few =
    let within : k < length entries = omega (arith, list.long) in
    (within, stands_at _ _ entries k blank list.all within)

-- what was counted and measured
measured
    : {p : Profile} {ds : List ℕ} {entries : List IndexEntry} (count bytes k : ℕ)
    → Listed p ds entries
    → 32 ≤ k
    → count + founds_of (drop k entries) ≡ founds_of entries
    → bytes + sizes_of (drop k entries) ≡ sizes_of entries
    → (count ≡ length (flat_map (handed_sectors p ds) entries)) × (bytes ≡ length (handed_bytes p ds entries))
measured {p = p} {ds = ds} {entries = entries} count bytes k list all founds sizes =
    let none = none_left entries k (omega (arith, list.long)) in
    let left = ap founds_of none ∙ no_founds in
    let over = ap sizes_of none ∙ no_sizes in (
      omega (arith, all_founds p ds entries list.all),
      omega (arith, all_sizes p ds entries list.all),
    )

pub returns-in_err-check-clause-answer : goal.returns-in_err-check-clause-answer
returns-in_err-check-clause-answer c = search (rules, profile_refuses)

pub returns-in_err-check-clause-output : goal.returns-in_err-check-clause-output
returns-in_err-check-clause-output c = (profile_refuses _ _ _ c.in_err-check.field-0.0 c.in_err-check.ensures).1

pub returns-then-index-ne0 : goal.returns-then-index-ne0
returns-then-index-ne0 c =
    let fair = sym (ap (λ (a : Answer). a.number) c.in_ok-check.ensures) in
    let both = index_refuses _ _ _ _ c.index_track-index.ensures fair c.if-index-ne0.true in
    record { answer = both.0; output = both.1 }

pub overflow_add-bytes : goal.overflow_add-bytes
overflow_add-bytes c =
    let turn = c.loop-entry in
    let entries = c.index_track-index.result.entries in
    let small = size_is_small (get_or entries turn.entry-index blank) in
    record { fits = omega (arith, turn.invariant.1, c.loop-entry-test.true, c.entry_size-bytes.ensures, small) }

pub loop-entry-preserved : goal.loop-entry-preserved
loop-entry-preserved c =
    let turn = c.loop-entry in
    let entries = c.index_track-index.result.entries in
    let (counts, sizes, founds, bytes) = turn.invariant in
    let list = listed _ _ _ c.index_track-index.ensures c.if-index-ne0.false in
    let (within, stands) = one_entry turn.entry-index list (omega (arith, list.long, c.loop-entry-test.true)) in
    let one = stands.one in
    let size = c.entry_size-bytes.ensures in
    let small = size_is_small (get_or entries turn.entry-index blank) in (
      omega (arith, counts, one),
      omega (arith, sizes, size, small),
      omega (arith, founds, founds_step entries turn.entry-index within),
      omega (arith, bytes, size, sizes_step entries turn.entry-index within),
    )

pub returns-then-out-bytes : goal.returns-then-out-bytes
returns-then-out-bytes c =
    let turn = c.loop-entry in
    let list = listed _ _ _ c.index_track-index.ensures c.if-index-ne0.false in
    let (count, bytes) = measured _ _ turn.entry-index list (omega (arith, list.long, c.loop-entry-test.false)) turn.invariant.2 turn.invariant.3 in
    let both = room_refuses _ _ c.args.out.now list (omega (arith, c.if-out-bytes.true, bytes)) in
    record { answer = both.0; output = both.1 }

pub store_entry-requires : goal.store_entry-requires
store_entry-requires c =
    let entries = c.index_track-index.result.entries in
    let args = c.args in
    let turn = c.loop-entry in
    let store = c.loop-entry-2 in
    let list = listed _ _ _ c.index_track-index.ensures c.if-index-ne0.false in
    let (within, stands) = one_entry store.entry-index list (omega (arith, list.long, c.loop-entry-2-test.true)) in
    let (count, bytes) = measured _ _ turn.entry-index list (omega (arith, list.long, c.loop-entry-test.false)) turn.invariant.2 turn.invariant.3 in
    let step = lengths_step entries store.entry-index within args.p args.intervals.now in
    record {
      p_value = list.fair;
      stands = (stands, omega (arith, store.invariant.1, store.invariant.0, c.if-out-bytes.false, bytes, step));
    }

pub overflow_add-at : goal.overflow_add-at
overflow_add-at c =
    let entries = c.index_track-index.result.entries in
    let turn = c.loop-entry in
    let store = c.loop-entry-2 in
    let list = listed _ _ _ c.index_track-index.ensures c.if-index-ne0.false in
    let (count, bytes) = measured _ _ turn.entry-index list (omega (arith, list.long, c.loop-entry-test.false)) turn.invariant.2 turn.invariant.3 in
    let small = size_is_small (get_or entries store.entry-index blank) in
    let few = turn.auto.entry-index-end in
    record { fits = omega (arith, store.invariant.1, bytes, few, turn.invariant.1, c.entry_size-at.ensures, small) }

pub loop-entry-2-preserved : goal.loop-entry-2-preserved
loop-entry-2-preserved c =
    let entries = c.index_track-index.result.entries in
    let args = c.args in
    let (same, left, stored) = c.loop-entry-2.invariant in
    let j = c.loop-entry-2.entry-index in
    let list = listed _ _ _ c.index_track-index.ensures c.if-index-ne0.false in
    let (within, stands) = one_entry j list (omega (arith, list.long, c.loop-entry-2-test.true)) in
    let step = bytes_step entries j within args.p args.intervals.now in
    let longer = lengths_step entries j within args.p args.intervals.now in
    let size = bytes_count args.p args.intervals.now _ stands in
    let put = c.store_entry.ensures in (
      ap length put ∙ stored_length _ _ _ ∙ same,
      omega (arith, left, c.entry_size-at.ensures, size, longer),
      stored_next _ _ _ _ _ _ put (omega (arith, c.entry_size-at.ensures, size))
          ∙ ap (stored_at _ _) (sym step)
          ∙ stored,
    )

pub returns : goal.returns
returns c =
    let entries = c.index_track-index.result.entries in
    let args = c.args in
    let turn = c.loop-entry in
    let list = listed _ _ _ c.index_track-index.ensures c.if-index-ne0.false in
    let (same, left, stored) = c.loop-entry-2.invariant in
    let (count, bytes) = measured _ _ turn.entry-index list (omega (arith, list.long, c.loop-entry-test.false)) turn.invariant.2 turn.invariant.3 in
    let none = none_left entries c.loop-entry-2.entry-index (omega (arith, list.long, c.loop-entry-2-test.false)) in
    let empty = ap (handed_bytes args.p args.intervals.now) none ∙ no_bytes args.p args.intervals.now in
    let room : length (handed_bytes args.p args.intervals.now entries) ≤ length args.out.now =
    omega (arith, c.if-out-bytes.false, bytes) in
    let both = set_stored _ _ _ list _ room count in
    record {
      answer = rw bytes both.0;
      output = sym (stored_none _ c.loop-entry-2.at) ∙ ap (stored_at _ _) (sym empty) ∙ stored ∙ both.1;
    }
