-- The first lock after filler, the bytes 4E between fields: filler without a run of 64 minimum intervals is passed over,
-- and a run that is long enough, with a mark A1 after it, has its first lock at the mark, since within the run no mark
-- begins. Rests on no axiom.
use Prim.Native.Nat.{ℕ, suc, ◌+◌, ◌-◌, ◌<◌, ◌≤◌}
use mathlib.Core.Path.{◌≡◌, refl, sym, ap, ◌∙◌}
use mathlib.Core.Bool.{Bool, true, false, cond, ◌&&◌}
use mathlib.Core.List.{List, [], ◌∷◌, ◌++◌, append_assoc}
use native.Mathlib.Omega.{arith}
use lib.Dec.{eqb, ltb}
use lib.ListN.{length, get_or, drop, replicate, length-append, length-replicate, get_or-replicate, get_or-append}
use lib.Seq.{append_snoc, drop_at, get_or-append-add, get_or-append_seam}
use borrow.Author.Tests.{ltb-true, eqb-true, eqb-false}
use Rattle.lists.specs.Place.{anywhere}
use Rattle.lists.proofs.BoolLaws.{both}
use Rattle.refusal.specs.Answer.{Answer, accepted}
use Rattle.timing.specs.Class.{class_number}
use Rattle.timing.specs.declared.Class.{Class}
use Rattle.timing.specs.declared.Class.TheVariants.{Narrow, Two, Three, Four}
use Rattle.runs.specs.machine.Scan.{Twos}
use Rattle.locks.specs.Lock.{begins_with, lock_patterns, mark_ahead, lock_from}
use Rattle.locks.proofs.FinderLaws.{lock_stands, broken_run_is_passed, longer_run_is_passed}
use Rattle.locks.proofs.FinderLaws.{first_64_are_passed, search_ends_in_lock}

-- the first lock with all 64 from a place on
abbrev lock_after : List Class → ℕ → Answer
lock_after cs b = lock_from cs (b + 64)

-- ---- a run and a mark

-- classes that begin with those of a mark A1
abbrev pub mark_a1 : List Class → List Class
mark_a1 cs = Three ∷ Four ∷ Three ∷ Four ∷ Three ∷ cs

mark_is_ahead : (cs : List Class) → mark_ahead (mark_a1 cs) ≡ true
unfolding mark_ahead lock_patterns anywhere begins_with
mark_is_ahead cs = refl

module _ (front : List Class) (m : ℕ) (rest : List Class) where
  abbrev run : List Class
  run = replicate (m + 64) Two

  abbrev all : List Class
  all = front ++ (run ++ mark_a1 rest)

  -- the place of the mark
  abbrev mark : ℕ
  mark = length front + m + 64

  from_mark : drop mark all ≡ mark_a1 rest
  from_mark =
      let long : length (front ++ run) ≡ mark = simp (length-append, length-replicate) (omega arith) in
      rw (← append_assoc front run (mark_a1 rest), drop_at (front ++ run) (mark_a1 rest) mark long)

  two_at : Twos all (length front) mark
  two_at j low high =
      let i = j - length front in
      let there : j ≡ length front + i = omega arith in
      ap (λ (j : ℕ). get_or all j Narrow) there
      ∙ get_or-append-add front (run ++ mark_a1 rest) i Narrow
      ∙ get_or-append run (mark_a1 rest) Narrow i (omega (arith, length-replicate (m + 64) Two))
      ∙ get_or-replicate (m + 64) i Two Narrow (omega arith)

  lock_after_run : lock_after all (length front) ≡ accepted mark
  lock_after_run =
      longer_run_is_passed all (length front + 64) mark (omega arith)
      (simp (length-append, length-replicate) (omega arith))
      (λ j low high. two_at j (omega arith) high)
      ∙ sym (search_ends_in_lock all mark
      (lock_stands all mark (omega arith) (λ j low high. two_at j (omega arith) high)
      (ap mark_ahead from_mark ∙ mark_is_ahead rest)))

-- ---- filler

-- whether no run of 64 minimum intervals stands in filler, nor any at its end, where so many stand before it
unfoldable pub passes : ℕ → List Class → Bool
passes run [] = eqb run 0
passes run (c ∷ cs) = cond (eqb (class_number c) 2) (ltb run 63 && passes (suc run) cs) (passes 0 cs)

module _ (tail : List Class) where
  abbrev Passed : List Class → List Class → ℕ → Type 0
  Passed filler front run =
      lock_after (front ++ (filler ++ tail)) (length front - run)
      ≡ lock_after (front ++ (filler ++ tail)) (length front + length filler)

  one_class_more
      : (two : Bool) (c : Class) (filler front : List Class) (run : ℕ)
      → eqb (class_number c) 2 ≡ two
      → run ≤ length front
      → run < 64
      → cond two (ltb run 63 && passes (suc run) filler) (passes 0 filler) ≡ true
      → let cs = front ++ (c ∷ filler ++ tail) in
      ((r : ℕ)
      → r ≤ length front + 1
      → r < 64
      → passes r filler ≡ true
      → lock_after cs (length front + 1 - r) ≡ lock_after cs (length front + suc (length filler)))
      → Passed (c ∷ filler) front run
  one_class_more true c filler front run is_two_lem h few e on =
      let (short, more) = both (ltb run 63) (passes (suc run) filler) e in
      let below = ltb-true run 63 short in
      ap (lock_after (front ++ (c ∷ filler ++ tail))) (omega arith) ∙ on (suc run) (omega arith) (omega arith) more
  one_class_more false c filler front run not_two h few e on =
      let cs = front ++ (c ∷ filler ++ tail) in
      broken_run_is_passed cs (length front - run + 64) (length front) (omega arith) (omega arith) (omega arith)
      (λ two.
      eqb-false (class_number c) 2 not_two
      (ap class_number (sym (get_or-append_seam front c (filler ++ tail) Narrow) ∙ two)))
      ∙ ap (lock_from cs) (omega arith)
      ∙ on 0 (omega arith) (omega arith) e

  gap_passes
      : (filler front : List Class) (run : ℕ)
      → run ≤ length front
      → run < 64
      → passes run filler ≡ true
      → Passed filler front run
  unfolding passes
  gap_passes [] front run h few e =
      let none = eqb-true run 0 e in
      ap (lock_after (front ++ tail)) (omega arith)
  gap_passes (c ∷ filler) front run h few e =
      let longer : length (front ++ (c ∷ [])) ≡ length front + 1 = length-append front (c ∷ []) in
      one_class_more (eqb (class_number c) 2) c filler front run refl h few e (λ r low short p.
      (rw (append_snoc front c (filler ++ tail), longer) at (gap_passes filler (front ++ (c ∷ [])) r
      (omega arith) short p))
      ∙ ap (lock_after (front ++ (c ∷ filler ++ tail))) (omega arith))

-- ---- filler, a run and a mark

-- no lock stands before the end of a filler without such a run
pub lock_after_filler
    : (filler : List Class) (m : ℕ) (rest : List Class)
    → passes 0 filler ≡ true
    → lock_from (filler ++ (replicate (m + 64) Two ++ mark_a1 rest)) 0 ≡ accepted (length filler + (m + 64))
lock_after_filler filler m rest e =
    let all = filler ++ (replicate (m + 64) Two ++ mark_a1 rest) in
    first_64_are_passed all
    ∙ ap (lock_from all) (omega arith)
    ∙ gap_passes (replicate (m + 64) Two ++ mark_a1 rest) filler [] 0 (omega arith) (omega arith) e
    ∙ ap (lock_after all) (omega arith)
    ∙ lock_after_run filler m rest
    ∙ ap accepted (omega arith)
