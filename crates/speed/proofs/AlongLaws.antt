-- A pass over corrected numbers, block by block, is the field reader's pass over all of them: what is left to read, to
-- store and to sum up stays the same, and of the used ones is told what is told of a list in two parts. Rests on no axiom.
use Prim.Native.Nat.{ℕ, ◌+◌, ◌-◌, ◌^◌, ◌%◌, ◌≤◌, ◌<◌, min}
use mathlib.Core.Path.{◌≡◌, refl, sym, ap, ◌∙◌}
use mathlib.Core.List.{List, [], ◌++◌, map}
use native.Mathlib.Omega.{arith}
use lib.ListN.{length, take, drop, replicate, length-take, length-drop, take-append-drop}
use lib.Seq.{take-add, take_all, take-append-le}
use Rattle.lists.specs.Filled.{stored_at}
use Rattle.lists.proofs.StoreLaws.{stored_none}
use Rattle.refusal.specs.Answer.{Answer, verdict_answer, first_refusal}
use Rattle.timing.specs.Profile.{profile_rule}
use Rattle.timing.specs.Class.{Ascending, at_start, classes_from, cursor_after}
use Rattle.timing.specs.machine.Edges.{units_from}
use Rattle.timing.specs.declared.Profile.{Profile}
use Rattle.timing.specs.declared.cursor.Cursor.{Cursor}
use Rattle.timing.proofs.ClassLaws.{classes_append, classes_count, classes_none, classes_from_start}
use Rattle.timing.proofs.ClassLaws.{cursor_after-append, cursor_after_none}
use Rattle.timing.proofs.EdgeLaws.{accepted_ascends}
use Rattle.timing.proofs.UnitsLaws.{units_count}
use Rattle.items.specs.Written.{fresh_check, after_bytes}
use Rattle.half_cells.specs.machine.Candidate.{candidate}
use Rattle.intervals.specs.Cells.{edge_rule_from, edge_rule}
use Rattle.symbols.specs.machine.Step.{fresh_reading}
use Rattle.shifts.specs.machine.Pass.{Passed, ended}
use Rattle.passes.specs.machine.Blocks.{at_first, pass_on, rest_from, words_of, Reaches}
use Rattle.passes.proofs.BlockLaws.{Fair, fair_at_first, fair_after, all_at_first}
use Rattle.intervals.proofs.TakenAsLaws.{units_are_cells}
use Rattle.shifts.proofs.PassLaws.{Counts, pass_counts}
use Rattle.intervals.proofs.TakenAsLaws.{edges_of_append}
use Rattle.fields.specs.machine.End.{field_passed, items_passed}
use Rattle.fields.proofs.EndLaws.{field_ends}
use Rattle.fields.proofs.PartLaws.{items_left, Part, read_part, goes_on, sum_goes_on, store_goes_on}
use Rattle.clearance.specs.machine.Seen.{seen_from}
use Rattle.clearance.specs.declared.seen.Seen.{Seen}
use Rattle.clearance.proofs.SeenLaws.{seen_append, cursor_seen}
use Rattle.clearance.proofs.CursorLaws.{ascending_after}
use Rattle.speed.specs.machine.Along.{unseen, at_onset, used_of, Takes, Ends}
use Rattle.speed.specs.declared.gather.Along.{Along}

-- how a pass that began at `first` stands
pub record Stands (n : ℕ) (ds : List ℕ) (first a : Along) : Type 0 where
  pub fair : Fair ds a.at
  pub cursor
      : a.at.pass.reading.words < n
      → a.at.cursor ≡ cursor_after first.at.cursor (take a.at.pass.used ds)
  pub pairs : a.at.pass.reading.words < n → a.at.pass.used < length ds → a.at.pass.used % 2 ≡ 0
  pub end : (rest_from n ds a.at).end ≡ (rest_from n ds first.at).end
  pub sum : after_bytes a.check (items_left n ds a.at) ≡ after_bytes first.check (items_left n ds first.at)
  pub edges
      : verdict_answer a.edges ≡ edge_rule (classes_from first.at.cursor (take a.at.pass.used ds))
  pub seen : a.seen ≡ seen_from first.seen (take a.at.pass.used ds)

-- before the first interval
pub onset_stands : (p : Profile) (n : ℕ) (ds : List ℕ) → Stands n ds (at_onset p) (at_onset p)
unfolding at_onset at_first fresh_reading edge_rule edge_rule_from seen_from
onset_stands p n ds =
    record {
      fair = fair_at_first ds p;
      cursor = λ _. sym (cursor_after_none (at_start p));
      pairs = λ _ _. refl;
      end = refl;
      sum = refl;
      edges = rw (classes_none (at_start p)) refl;
      seen = refl;
    }

-- ---- a block more

module _
    {n : ℕ} {ds : List ℕ} {first a next : Along} {block : List ℕ} (small : n < 2 ^ 32) (stands : Stands n ds first a)
    (wanted : a.at.pass.reading.words < n) (left : a.at.pass.used < length ds)
    (is : block ≡ take 64 (drop a.at.pass.used ds)) (takes : Takes n a block next)
  where
    abbrev used : ℕ
    used = a.at.pass.used

    abbrev used_next : ℕ
    used_next = next.at.pass.used

    pub reaches : Reaches 64 n ds a.at next.at
    reaches =
        record {
          pass = takes.pass ∙ ap (λ (b : List ℕ). (pass_on n a.at b).end) is;
          cursor = λ _. takes.cursor ∙ ap (cursor_after a.at.cursor) is;
        }

    counts : Counts n used a.at.pass.reading (units_from a.at.cursor block) (pass_on n a.at block)
    counts = pass_counts n used a.at.pass.reading _ small (units_are_cells _ _) stands.fair.room

    block_count : length block ≡ min 64 (length ds - used)
    block_count = rw is (omega (arith, length-take 64 (drop used ds), length-drop used ds))

    forward : (used ≤ used_next) × (used_next ≤ used + length block)
    forward =
        rw takes.pass (counts.least, omega (arith, counts.most_used, units_count a.at.cursor block))

    -- where bytes are wanted still, all of the block was used
    all_used : next.at.pass.reading.words < n → used_next ≡ used + length block
    all_used h =
        ap (λ (q : Rattle.shifts.specs.declared.Pass.Pass). q.used) takes.pass
        ∙ counts.all_used (rw takes.pass at h)
        ∙ omega (arith, units_count a.at.cursor block)

    -- those of the block are the next of the list
    used_of_block : used_of a next block ≡ take (used_next - used) (drop used ds)
    used_of_block =
        ap (λ (b : List ℕ). take (used_next - used) b) is
        ∙ sym (take-append-le (used_next - used) (take 64 (drop used ds)) (drop 64 (drop used ds))
        (omega (arith, forward.1, block_count, length-take 64 (drop used ds), length-drop used ds)))
        ∙ ap (take (used_next - used)) (take-append-drop 64 (drop used ds))

    grown : take used_next ds ≡ take used ds ++ used_of a next block
    grown =
        let place : used_next ≡ used + (used_next - used) = omega (arith, forward.0) in
        ap (λ (k : ℕ). take k ds) place
        ∙ take-add used (used_next - used) ds
        ∙ ap (λ (b : List ℕ). take used ds ++ b) (sym used_of_block)

    abbrev start : Cursor
    start = first.at.cursor

    classes_grown
        : classes_from start (take used_next ds)
        ≡ classes_from start (take used ds) ++ classes_from a.at.cursor (used_of a next block)
    classes_grown =
        ap (classes_from start) grown
        ∙ classes_append start (take used ds) (used_of a next block)
        ∙ ap (λ (c : Cursor). classes_from start (take used ds) ++ classes_from c (used_of a next block))
        (sym (stands.cursor wanted))

    edges_next : verdict_answer next.edges ≡ edge_rule (classes_from start (take used_next ds))
    unfolding edge_rule
    edges_next =
        let place : 0 + length (classes_from start (take used ds)) ≡ used =
        omega (arith, classes_count start (take used ds), length-take used ds, stands.fair.within) in
        takes.edges
        ∙ ap (λ (b : Answer). first_refusal b (edge_rule_from used (classes_from a.at.cursor (used_of a next block))))
        stands.edges
        ∙ ap (λ (k : ℕ). first_refusal (edge_rule_from 0 (classes_from start (take used ds)))
        (edge_rule_from k (classes_from a.at.cursor (used_of a next block)))) (sym place)
        ∙ sym (edges_of_append 0 (classes_from start (take used ds)) (classes_from a.at.cursor (used_of a next block)))
        ∙ ap (edge_rule_from 0) (sym classes_grown)

    seen_next : next.seen ≡ seen_from first.seen (take used_next ds)
    seen_next =
        takes.seen
        ∙ ap (λ (s : Seen). seen_from s (used_of a next block)) stands.seen
        ∙ sym (seen_append first.seen (take used ds) (used_of a next block))
        ∙ ap (seen_from first.seen) (sym grown)

    cursor_next : next.at.pass.reading.words < n → next.at.cursor ≡ cursor_after start (take used_next ds)
    cursor_next h =
        let whole : used_of a next block ≡ block =
        take_all (used_next - used) block (omega (arith, all_used h)) in
        takes.cursor
        ∙ ap (λ (c : Cursor). cursor_after c block) (stands.cursor wanted)
        ∙ sym (cursor_after-append start (take used ds) block)
        ∙ ap (cursor_after start) (ap (λ (b : List ℕ). take used ds ++ b) (sym whole) ∙ sym grown)

    part
        : Part 64 17 n ds a.at next.at (stored_at (replicate 17 0) 0 (words_of 64 n ds a.at))
    part = read_part (replicate 17 0) _ reaches small stands.fair (omega arith) refl refl

    abbrev words : List ℕ
    words = words_of 64 n ds a.at

    words_are : (pass_on n a.at block).words ≡ words
    unfolding words_of
    words_are = ap (λ (b : List ℕ). (pass_on n a.at b).words) is

    summed : next.check ≡ after_bytes a.check (map candidate words)
    summed = takes.check ∙ ap (λ (ws : List ℕ). after_bytes a.check (map candidate ws)) words_are

    pub stored_next
        : (out new : List ℕ)
        → new ≡ stored_at out a.at.pass.reading.words (map candidate (pass_on n a.at block).words)
        → stored_at new next.at.pass.reading.words (items_left n ds next.at)
        ≡ stored_at out a.at.pass.reading.words (items_left n ds a.at)
    stored_next out new e =
        store_goes_on part out new
        (e ∙ ap (λ (ws : List ℕ). stored_at out a.at.pass.reading.words (map candidate ws)) words_are)

    pub stands_next : Stands n ds first next
    stands_next =
        record {
          fair = fair_after n ds a.at 64 next.at reaches small stands.fair;
          cursor = cursor_next;
          pairs =
              λ h more.
              omega (arith, all_used h, block_count, stands.pairs wanted left);
          end = ap (λ (q : Passed). q.end) (sym (goes_on part)) ∙ stands.end;
          sum = sum_goes_on part _ _ summed ∙ stands.sum;
          edges = edges_next;
          seen = seen_next;
        }

-- ---- few intervals are used

pub used_is_small
    : (p : Profile) (n : ℕ) (ds : List ℕ) (a : Along)
    → (profile_rule p).number ≡ 0
    → (1 ≤ n) × (n ≤ 1030)
    → Fair ds a.at
    → (rest_from n ds a.at).end ≡ (field_passed p ds n).end
    → a.at.pass.used ≤ 10000
unfolding rest_from
used_is_small p n ds a accepts range fair end =
    let counts =
    pass_counts n a.at.pass.used a.at.pass.reading (units_from a.at.cursor (drop a.at.pass.used ds))
    (omega (arith, range)) (units_are_cells _ _) fair.room in
    omega (arith, counts.least, (field_ends p ds n _ accepts range end).small)

-- ---- from the onset to the end

module _
    (p : Profile) {n : ℕ} {ds : List ℕ} {first a : Along} (begins : first ≡ at_onset p) (stands : Stands n ds first a)
  where
    passes : rest_from n ds first.at ≡ field_passed p ds n
    unfolding at_onset
    passes = ap (λ (b : Along). rest_from n ds b.at) begins ∙ all_at_first n ds p

    starts : (first.at.cursor ≡ at_start p) × (first.seen ≡ unseen p) × (first.check ≡ fresh_check)
    unfolding at_onset at_first
    starts = (
      ap (λ (b : Along). b.at.cursor) begins,
      ap (λ (b : Along). b.seen) begins,
      ap (λ (b : Along). b.check) begins,
    )

    -- while the pass goes on, it stands near the lock, and the edges ascend
    pub stands_near : (profile_rule p).number ≡ 0 → (1 ≤ n) × (n ≤ 1030) → a.at.pass.used ≤ 10000
    stands_near accepts range =
        used_is_small p n ds a accepts range stands.fair
        (stands.end ∙ ap (λ (q : Passed). q.end) passes)

    pub edges_ascend
        : (profile_rule p).number ≡ 0
        → a.at.pass.reading.words < n
        → Ascending a.at.cursor × Ascending a.seen.cursor
    edges_ascend accepts wanted =
        let up = accepted_ascends p accepts in (
          rw (stands.cursor wanted, starts.0) (ascending_after _ up),
          rw (stands.seen, cursor_seen first.seen (take a.at.pass.used ds), starts.1) (ascending_after _ up),
        )

    module _ (stops : rest_from n ds a.at ≡ ended a.at.pass.reading a.at.pass.used) where
      none_left : items_left n ds a.at ≡ []
      none_left = ap (λ (q : Passed). map candidate q.words) stops

      pub stands_ends : Ends p ds n a
      unfolding after_bytes
      stands_ends =
          record {
            pass =
                ap (λ (q : Passed). q.end) (sym stops)
                ∙ stands.end
                ∙ ap (λ (q : Passed). q.end) passes;
            check = rw (none_left, passes, starts.2) at stands.sum;
            edges = stands.edges ∙ rw (starts.0, classes_from_start p _) refl;
            seen = stands.seen ∙ ap (λ (s : Seen). seen_from s (take a.at.pass.used ds)) starts.1;
          }

      pub stored_ends
          : (out old : List ℕ)
          → stored_at out a.at.pass.reading.words (items_left n ds a.at)
          ≡ stored_at old 0 (items_left n ds first.at)
          → out ≡ stored_at old 0 (items_passed p ds n)
      stored_ends out old e = sym (stored_none out _) ∙ rw (none_left, passes) at e
