-- How the index is gathered: the entries stored, in order, and those that the search from the present start on still
-- adds, are the entries of the track. Rests on no axiom.
use Rattle.std.specs.Prelude.{Result, Ok, Err}
use Prim.Native.Nat.{ℕ, ◌+◌, ◌<◌, ◌≤◌}
use mathlib.Core.Path.{◌≡◌, refl, sym, ap, ◌∙◌}
use mathlib.Core.Bool.{true, false}
use mathlib.Core.List.{List, [], ◌∷◌, ◌++◌, map, append-nil}
use native.Mathlib.Omega.{arith}
use borrow.Author.Tests.{le-ltb, lt-ltb, eq-eqb}
use lib.Dec.{ltb}
use lib.ListN.{length, replicate, length-append}
use lib.Seq.{append_snoc}
use Rattle.refusal.specs.Table.{number_of, place_of}
use Rattle.refusal.specs.Answer.{Answer, accepted, refused, verdict_answer}
use Rattle.refusal.specs.declared.Refusal.{Refusal}
use Rattle.refusal.proofs.AnswerLaws.{number_is_not_zero}
use Rattle.timing.specs.Profile.{profile_rule}
use Rattle.timing.specs.declared.Profile.{Profile}
use Rattle.entries.specs.Entries.{has_lock, entries_from, entries_of}
use Rattle.entries.specs.declared.Entry.{Entry}
use Rattle.entries.proofs.SearchLaws.{search_ends}
use Rattle.entries.proofs.GoesLaws.{Goes, goes_to}
use Rattle.track.specs.Order.{put_among, in_order, Ascending}
use Rattle.track.specs.Index.{crowd_rule, index_rule, no_entry, padded, handed_back}
use Rattle.track.specs.Index.{index_entries}
use Rattle.track.specs.HandedBack.{index_entry_of}
use Rattle.track.specs.machine.Insertion.{slid_in}
use Rattle.track.proofs.InOrderLaws.{ordered_ascends, ordered_with_last}
use Rattle.track.proofs.FoundLaws.{places_of_front, places_ascend}
use Rattle.track.proofs.InsertionLaws.{ordered_length, slid_into_blank}

-- ---- the index

module _ (p : Profile) (ds : List ℕ) where
  -- under an accepted profile
  indexed
      : (profile_rule p).number ≡ 0
      → (a : Answer) (entries : List Entry)
      → a ≡ crowd_rule (entries_of p ds)
      → entries ≡ handed_back a (in_order (entries_of p ds))
      → (a ≡ index_rule p ds) × (entries ≡ index_entries p ds)
  unfolding index_rule index_entries
  indexed fair a entries e is =
      rw (eq-eqb _ 0 fair) (e, is ∙ ap (λ (b : Answer). handed_back b (in_order (entries_of p ds))) e)

  -- a refusal of the profile decides
  pub profile_refuses
      : (v : (Result (Unit {0}) Refusal)) (r : Refusal)
      → verdict_answer v ≡ profile_rule p
      → v ≡ Err r
      → (refused (number_of r) (place_of r) ≡ index_rule p ds) × (replicate 32 no_entry ≡ index_entries p ds)
  unfolding index_rule index_entries handed_back
  profile_refuses v r e q =
      let is : profile_rule p ≡ refused (number_of r) (place_of r) = sym e ∙ ap verdict_answer q in
      rw (is, number_is_not_zero r, number_is_not_zero r) (refl, refl)

-- ---- the invariant

pub record Gathered (p : Profile) (ds : List ℕ) (entries : List Entry) (count start : ℕ) : Type 0 where
  pub done : List Entry
  pub stored : entries ≡ padded (in_order done)
  pub counted : count ≡ length done
  pub few : count ≤ 32
  pub whole : done ++ entries_from p ds start ≡ entries_of p ds

pub nothing_gathered : (p : Profile) (ds : List ℕ) → Gathered p ds (replicate 32 no_entry) 0 0
unfolding padded entries_of in_order
nothing_gathered p ds =
    record { done = []; stored = refl; counted = refl; few = omega arith; whole = refl }

module _
    {p : Profile} {ds : List ℕ} {entries : List Entry} {count start : ℕ} (g : Gathered p ds entries count start)
  where
    pub gathered_on : {next : ℕ} → Goes p ds start next [] → Gathered p ds entries count next
    gathered_on goes =
        record {
          done = g.done;
          stored = g.stored;
          counted = g.counted;
          few = g.few;
          whole = ap (λ (rest : List Entry). g.done ++ rest) (sym (goes_to goes)) ∙ g.whole;
        }

    whole_with
        : {next : ℕ} {e : Entry}
        → Goes p ds start next (e ∷ [])
        → (g.done ++ (e ∷ [])) ++ entries_from p ds next ≡ entries_of p ds
    whole_with {next} {e} goes =
        append_snoc g.done e (entries_from p ds next)
        ∙ ap (λ (rest : List Entry). g.done ++ rest) (sym (goes_to goes))
        ∙ g.whole

    -- those found so far are in order
    in_order_lem : Ascending (in_order g.done)
    in_order_lem =
        ordered_ascends g.done
        (places_of_front g.done (entries_from p ds start) (rw g.whole (places_ascend p ds)))

    with_last : {next : ℕ} {e : Entry} → Goes p ds start next (e ∷ []) → in_order (g.done ++ (e ∷ []))
        ≡ put_among e (in_order g.done)
    with_last {next} {e} goes =
        ordered_with_last g.done e
        (places_of_front (g.done ++ (e ∷ [])) (entries_from p ds next) (rw (whole_with goes) (places_ascend p ds)))

    -- one more is put among them
    pub entry_slides_in
        : {next : ℕ} {e : Entry}
        → count < 32
        → Goes p ds start next (e ∷ [])
        → slid_in (map index_entry_of entries) count (index_entry_of e)
        ≡ map index_entry_of (padded (put_among e (in_order g.done)))
    entry_slides_in {next} {e} room goes =
        let count_is : count ≡ length (in_order g.done) = g.counted ∙ sym (ordered_length g.done) in
        rw (g.stored, count_is) (slid_into_blank e (in_order g.done) in_order_lem (omega arith))

    pub gathered_entry
        : {next : ℕ} {e : Entry}
        → count < 32
        → Goes p ds start next (e ∷ [])
        → Gathered p ds (padded (put_among e (in_order g.done))) (count + 1) next
    gathered_entry {next} {e} room goes =
        let same = g.counted in
        record {
          done = g.done ++ (e ∷ []);
          stored = ap padded (sym (with_last goes));
          counted = rw (length-append g.done (e ∷ [])) (omega arith);
          few = omega arith;
          whole = whole_with goes;
        }

    -- ---- how the search ends

    module _ (fair : (profile_rule p).number ≡ 0) where
      pub all_gathered
          : has_lock p ds start ≡ false → (accepted count ≡ index_rule p ds) × (entries ≡ index_entries p ds)
      unfolding crowd_rule handed_back
      all_gathered none =
          let all : g.done ≡ entries_of p ds =
          sym (append-nil g.done)
          ∙ ap (λ (rest : List Entry). g.done ++ rest) (sym (search_ends p ds start none))
          ∙ g.whole in
          let same = g.counted in
          let few = g.few in
          let enough : ltb 32 (length g.done) ≡ false = le-ltb 32 (length g.done) (omega arith) in
          indexed p ds fair (accepted count) entries (rw (sym all, enough, same))
          (g.stored ∙ ap (λ (found : List Entry). padded (in_order found)) all)

      pub crowded
          : {next : ℕ} {e : Entry}
          → count ≡ 32
          → Goes p ds start next (e ∷ [])
          → (refused 15 0 ≡ index_rule p ds) × (replicate 32 no_entry ≡ index_entries p ds)
      unfolding crowd_rule handed_back
      crowded {next} {e} full goes =
          let same = g.counted in
          let first = length-append g.done (e ∷ []) in
          let long = sym (ap length (whole_with goes)) ∙ length-append (g.done ++ (e ∷ [])) (entries_from p ds next) in
          let over : ltb 32 (length (entries_of p ds)) ≡ true = lt-ltb 32 (length (entries_of p ds)) (omega arith) in
          indexed p ds fair (refused 15 0) _ (rw over) refl
