-- Why `index::index_track` answers the index of the track: a refusal of the profile decides; else each search goes on
-- where the one before says, and the entry that begins at its lock is put where it belongs among those that are handed
-- back. Rests on no axiom.
use Prim.Native.Nat.{◌<◌}
use mathlib.Core.Path.{◌≡◌, refl, sym, ap, ◌∙◌}
use mathlib.Core.List.{[], ◌∷◌, map}
use native.Mathlib.Omega.{arith}
use lib.ListN.{set, replicate}
use Rattle.refusal.specs.Answer.{counted_answer}
use Rattle.refusal.proofs.AnswerLaws.{verdict_accepts}
use Rattle.entries.proofs.GoesLaws.{Goes, end_means, other_means, begins_means, goes_ahead}
use Rattle.track.specs.Index.{index_rule, index_entries}
use Rattle.track.specs.machine.Insertion.{slid_in}
use Rattle.track.specs.HandedBack.{index_entry_of}
use Rattle.track.proofs.GatherLaws.{profile_refuses, nothing_gathered, gathered_on, entry_slides_in}
use Rattle.track.proofs.GatherLaws.{gathered_entry, all_gathered, crowded}
use Rattle.track.proofs.InsertionLaws.{slides, stays, stays_in_front}
use Rattle.track.proofs.index.index_track.Goals.{else-slide-test, then-slide-test+else-goes_before}
use Rattle.track.proofs.index.index_track.Goals.{in-Err, in-Ok+in-End}
use Rattle.track.proofs.index.index_track.Goals.{in-Ok+in-Begins+then-count-eq32}
use Rattle.track.proofs.index.index_track.Goals as goal

-- a search that adds nothing
passes
    : (c : goal.In-Other)
    → let args = c.args in
    Goes args.p args.intervals.now c.search.start c.in-Other.next []
passes c = other_means _ _ _ _ (sym c.in-Other.is ∙ c.find_entry.ensures)

-- a search that adds an entry
begins
    : (c : goal.Left-slide)
    → let args = c.args in
    Goes args.p args.intervals.now c.search.start c.in-Begins.next (c.in-Begins.entry ∷ [])
begins c = begins_means _ _ _ _ _ (sym c.in-Begins.is ∙ c.find_entry.ensures)

-- room for one more
room
    : (c : goal.Left-slide)
    → c.search.count < 32
room c =
    let few = c.search.invariant.gathered.few in
    omega arith

slid
    : (c : goal.Left-slide)
    → let new = c.from-new.result in
    let turn = c.search in
    set c.slide.entries c.slide.at new ≡ slid_in turn.entries turn.count new
slid c =
    (elim c.slide-test.branch [
      | else-slide-test w ↦ stays_in_front _ _ _ w.slide-test.false
      | then-slide-test+else-goes_before w ↦
          stays _ _ _ w.slide-test.true (sym w.goes_before.ensures ∙ w.if-goes_before.false)
    ])
    ∙ c.slide.invariant.1

-- how the search ended: the profile is refused, no lock is left, or a 33rd entry begins
ended
    : (c : goal.After-from-told)
    → let args = c.args in
    (counted_answer c.match-check.found ≡ index_rule args.p args.intervals.now)
    × (c.match-check.entries ≡ map index_entry_of (index_entries args.p args.intervals.now))
ended c =
    elim c.match-check.branch [
      | in-Err w ↦
          let index = profile_refuses _ _ _ _ c.check.ensures w.in-Err.is in
          (ap counted_answer w.found-is ∙ index.0, w.entries-is ∙ ap (map index_entry_of) index.1)
      | in-Ok+in-End w ↦
          let so_far = w.search.invariant in
          let none = end_means _ _ _ (sym w.in-End.is ∙ w.find_entry.ensures) in
          let index = all_gathered so_far.gathered so_far.fair none in (
            ap counted_answer w.found-is ∙ index.0,
            w.entries-is ∙ so_far.handed ∙ ap (map index_entry_of) index.1,
          )
      | in-Ok+in-Begins+then-count-eq32 w ↦
          let so_far = w.search.invariant in
          let begun = begins_means _ _ _ _ _ (sym w.in-Begins.is ∙ w.find_entry.ensures) in
          let index = crowded so_far.gathered so_far.fair w.if-count-eq32.true begun in
          (ap counted_answer w.found-is ∙ index.0, w.entries-is ∙ ap (map index_entry_of) index.1)
    ]

pub search-init : goal.search-init
search-init c =
    record {
      fair = verdict_accepts _ _ c.check.ensures c.in-Ok.is;
      found = replicate 32 _;
      gathered = nothing_gathered _ _;
      handed = refl;
    }

pub search-smaller-in-Other : goal.search-smaller-in-Other
search-smaller-in-Other c = let ahead = goes_ahead (passes c) in omega arith

pub search-preserved-in-Other : goal.search-preserved-in-Other
search-preserved-in-Other c =
    let so_far = c.search.invariant in
    record {
      fair = so_far.fair;
      found = so_far.found;
      gathered = gathered_on so_far.gathered (passes c);
      handed = so_far.handed;
    }

-- ---- where the entry belongs
pub slide-init : goal.slide-init
slide-init c = (omega arith, refl)

pub slide-preserved : goal.slide-preserved
slide-preserved c =
    let turn = c.slide in
    let (low, same) = turn.invariant in (
      omega arith,
      slides turn.entries turn.at _ c.slide-test.true
          (sym c.goes_before.ensures ∙ c.if-goes_before.true) ∙ same,
    )

pub offset_bounds-entries-at-in-Begins : goal.offset_bounds-entries-at-in-Begins
offset_bounds-entries-at-in-Begins c = omega (arith, room c, c.slide.invariant.0)

pub bounds-entries-at-in-Begins : goal.bounds-entries-at-in-Begins
bounds-entries-at-in-Begins c = omega (arith, room c, c.slide.invariant.0)

pub overflow_add-count : goal.overflow_add-count
overflow_add-count c = omega (arith, room c)

pub search-smaller : goal.search-smaller
search-smaller c = let ahead = goes_ahead (begins c) in omega arith

pub search-preserved : goal.search-preserved
search-preserved c =
    let so_far = c.search.invariant in
    let begun = begins c in
    let free = room c in
    record {
      fair = so_far.fair;
      found = _;
      gathered = gathered_entry so_far.gathered free begun;
      handed =
          slid c
          ∙ rw (so_far.handed, c.from-new.ensures) (entry_slides_in so_far.gathered free begun);
    }

pub returns : goal.returns
returns c =
    let ended_so = ended c in
    let told = c.from-told.ensures in
    rw (told.2, told.1, told.0, ended_so.0, ended_so.1)
