-- What a turn of the finder's scan keeps: no lock stands before the place that is 64 after the first of the present 64,
-- and of those after the first all up to the seen ones follow in a run. One law for each way in which a turn goes on or
-- ends. Rests on no axiom.
use Prim.Native.Nat.{ℕ, zero, suc, ◌+◌, ◌-◌, ◌<◌, ◌≤◌, max}
use mathlib.Core.Path.{◌≡◌, refl, sym, ap, ◌∙◌}
use mathlib.Core.Bool.{Bool, true, false}
use mathlib.Core.List.{List}
use native.Mathlib.Omega.{arith}
use native.Mathlib.Decide.{dec_lt}
use lib.ListN.{length, get_or, drop}
use Rattle.refusal.specs.Answer.{accepted, refused}
use Rattle.timing.specs.Class.{cursor_of, at_start, class_in, is_two, classes_from, classes_of}
use Rattle.timing.specs.declared.Profile.{Profile}
use Rattle.timing.specs.declared.Class.{Class}
use Rattle.timing.specs.declared.Class.TheVariants.{Narrow, Two}
use Rattle.timing.proofs.ClassLaws.{classes_length, classes_after_two}
use Rattle.runs.specs.machine.Scan.{Twos, Following, PassesRun, NoTwos, NextTwo}
use Rattle.runs.proofs.RunLaws.{is_two_lem, is_not_two, run_follows, run_ends, none_follow, more_follow}
use Rattle.locks.specs.Lock.{mark_ahead, lock_at, lock_from}
use Rattle.locks.proofs.FinderLaws.{lock_stands, broken_run_has_no_lock, no_lock_without_mark, no_lock_past_end}
use Rattle.locks.proofs.FinderLaws.{search_goes_on, longer_run_is_passed}
use Rattle.locks.proofs.FinderLaws.{first_64_are_passed, search_ends_in_lock, search_ends_adrift}

pub record Searched (p : Profile) (ds : List ℕ) (first seen : ℕ) : Type 0 where
  pub same : lock_from (classes_of p ds) 0 ≡ lock_from (classes_of p ds) (first + 64)
  pub low : first < seen
  pub high : seen ≤ first + 64
  pub follow : Following (cursor_of p true) ds (first + 1) seen

pub search_starts : (p : Profile) (ds : List ℕ) → Searched p ds 0 1
search_starts p ds =
    record {
      same = first_64_are_passed (classes_of p ds);
      low = omega arith;
      high = omega arith;
      follow = none_follow;
    }

module _ (p : Profile) (ds : List ℕ) where
  abbrev cs : List Class
  cs = classes_of p ds

  -- ---- places that are ruled out

  -- one that is not of class 2 after class 2 can only be the first of a run
  no_lock_over
      : (k j : ℕ) (two : Bool)
      → is_two (get_or cs j Narrow) ≡ two
      → 64 ≤ k
      → suc j < k
      → k ≤ j + 64
      → suc j < length ds
      → is_two (class_in (cursor_of p true) (get_or ds (suc j) 0)) ≡ false
      → lock_at cs k ≡ false
  no_lock_over k j true e far low high inside other =
      broken_run_has_no_lock cs k far (suc j) low (omega arith) (is_not_two _ (run_ends p ds j inside other e))
  no_lock_over k j false e far low high inside other =
      broken_run_has_no_lock cs k far j (omega arith) high (is_not_two _ e)

  pub broken_is_passed
      : (k i : ℕ)
      → 64 ≤ k
      → 0 < i
      → i < k
      → k ≤ i + 64
      → i < length ds
      → is_two (class_in (cursor_of p true) (get_or ds i 0)) ≡ false
      → lock_from cs k ≡ lock_from cs (i + 64)
  broken_is_passed k zero far some low high inside other = absurd (omega arith)
  broken_is_passed k (suc j) far some low high inside other =
      search_goes_on cs k (suc j + 64) high
      (λ n from to. no_lock_over n j _ refl (omega arith) (omega arith) (omega arith) inside other)

  -- one that is not of class 2 is not the first of a run
  pub others_are_passed
      : (first begin : ℕ) → first ≤ begin → NoTwos cs first begin → lock_from cs (first + 64) ≡ lock_from cs (begin + 64)
  others_are_passed first begin low none =
      search_goes_on cs (first + 64) (begin + 64) (omega arith) (λ n from to.
      broken_run_has_no_lock cs n (omega arith) (n - 64) (omega arith) (omega arith)
      (is_not_two _ (none.each (n - 64) (omega arith) (omega arith))))

  -- where a run ends without a mark
  end_is_passed
      : (end : ℕ)
      → 64 ≤ end
      → mark_ahead (drop end cs) ≡ false
      → (end < length ds → is_two (get_or cs end Narrow) ≡ false)
      → lock_from cs end ≡ lock_from cs (end + 1 + 64)
  end_is_passed end far none ends =
      let long = classes_length p ds in
      search_goes_on cs end (end + 1 + 64) (omega arith) (λ n from to.
      elim (dec_lt end n) [
        | no here ↦
            ap (lock_at cs) (let e : n ≡ end = omega arith in e) ∙ no_lock_without_mark cs end none
        | yes past ↦
            elim (dec_lt end (length ds)) [
              | yes inside ↦
                  broken_run_has_no_lock cs n (omega arith) end past (omega arith) (is_not_two _ (ends inside))
              | no over ↦ no_lock_past_end cs n (omega arith)
            ]
      ])

  -- ---- the end of a run

  -- the classing stands there as at the start of a list
  stands_after
      : (first end : ℕ)
      → first < end
      → end ≤ length ds
      → Twos cs first end
      → drop end cs ≡ classes_from (cursor_of p true) (drop end ds)
  unfolding classes_of at_start
  stands_after first zero some within twos = absurd (omega arith)
  stands_after first (suc last) some within twos =
      sym (classes_after_two p ds last (omega arith) (twos last (omega arith) (omega arith)))

  ends_there
      : (first end : ℕ)
      → first < end
      → end < length ds
      → Twos cs first end
      → is_two (class_in (cursor_of p true) (get_or ds end 0)) ≡ false
      → is_two (get_or cs end Narrow) ≡ false
  ends_there first zero some within twos other = absurd (omega arith)
  ends_there first (suc last) some within twos other =
      run_ends p ds last within other (ap is_two (twos last (omega arith) (omega arith)))

-- ---- a turn

pub search_is_adrift
    : {p : Profile} {ds : List ℕ} {first seen : ℕ}
    → Searched p ds first seen
    → length ds ≤ first + 64
    → refused 10 0 ≡ lock_from (classes_of p ds) 0
search_is_adrift {p} {ds} {first} searched over =
    let long = classes_length p ds in
    search_ends_adrift (classes_of p ds) (first + 64) (omega arith) ∙ sym searched.same

module _
    {p : Profile} {ds : List ℕ} {first seen : ℕ} (searched : Searched p ds first seen) (inside : first + 64 < length ds)
  where
    abbrev now : List Class
    now = classes_of p ds

    -- an interval that does not follow in a run is the first of the next 64
    pub run_is_broken
        : (i : ℕ)
        → seen ≤ i
        → i < first + 64
        → is_two (class_in (cursor_of p true) (get_or ds i 0)) ≡ false
        → Following (cursor_of p true) ds (i + 1) (first + 64)
        → Searched p ds i (first + 64)
    run_is_broken i low high other follow =
        let some = searched.low in
        record {
          same =
              searched.same
              ∙ broken_is_passed p ds (first + 64) i (omega arith) (omega arith) high (omega arith) (omega arith) other;
          low = high;
          high = omega arith;
          follow = follow;
        }

    -- all 64 but the first follow in a run
    module _
        (begin : ℕ) (next : NextTwo p ds first begin) (follow : Following (cursor_of p true) ds seen (first + 64))
      where
        all : Following (cursor_of p true) ds (first + 1) (first + 64)
        all = more_follow searched.follow follow

        -- the first is not of class 2: the next that is begins the next 64
        pub run_begins_later : first < begin → Searched p ds begin (max (first + 64) (begin + 1))
        run_begins_later later =
            record {
              same = searched.same ∙ others_are_passed p ds first begin (omega arith) next.none;
              low = omega arith;
              high = omega arith;
              follow = record { each = λ j from to. all.each j (omega arith) (omega arith) };
            }

        -- the first is of class 2, and the run is passed over
        module _ (here : begin ≤ first) (end : ℕ) (passes : PassesRun (cursor_of p true) ds (first + 64) end) where
          first_is_two : get_or now first Narrow ≡ Two
          first_is_two =
              let low = next.low in
              let e : begin ≡ first = omega arith in
              is_two_lem _ (rw e at (next.here (omega arith)))

          twos : Twos now first end
          twos = run_follows p ds first end passes.passes.high first_is_two (more_follow all passes.passes.follow)

          stands : drop end now ≡ classes_from (cursor_of p true) (drop end ds)
          stands = let low = passes.passes.low in stands_after p ds first end (omega arith) passes.passes.high twos

          -- no mark begins with class 2, so that the first place to look for one is here
          same_here : lock_from now 0 ≡ lock_from now end
          same_here =
              let long = classes_length p ds in
              let high = passes.passes.high in
              searched.same
              ∙ longer_run_is_passed now (first + 64) end passes.passes.low (omega arith)
              (λ j from to. twos j (omega arith) to)

          pub mark_is_found
              : mark_ahead (classes_from (cursor_of p true) (drop end ds)) ≡ true → accepted end ≡ lock_from now 0
          mark_is_found mark =
              let low = passes.passes.low in
              search_ends_in_lock now end
              (lock_stands now end (omega arith) (λ j from to. twos j (omega arith) to) (ap mark_ahead stands ∙ mark))
              ∙ sym same_here

          -- the run has ended, and no lock has its end among its 64
          pub mark_is_missed
              : mark_ahead (classes_from (cursor_of p true) (drop end ds)) ≡ false → Searched p ds (end + 1) (end + 2)
          mark_is_missed none =
              let low = passes.passes.low in
              record {
                same =
                    same_here
                    ∙ end_is_passed p ds end (omega arith) (ap mark_ahead stands ∙ none)
                    (λ more. ends_there p ds first end (omega arith) more twos (passes.ends more));
                low = omega arith;
                high = omega arith;
                follow = record { each = λ j from to. absurd (omega arith) };
              }
