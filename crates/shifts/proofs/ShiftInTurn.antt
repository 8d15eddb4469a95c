-- One turn of a block: the machine takes the cell, and a word that it closes is stored after those before it, so that
-- what is left to read and to store stays what it was. Rests on no axiom.
use Rattle.std.proofs.Common.{◌≡◌, ℕ, suc, ◌+◌, ◌%◌, ◌^◌, ◌<◌, ◌≤◌, true, false, List, [], ◌∷◌, length, get_or, drop, set, sym, refl, ap, ◌∙◌, add-zero, add-suc, add-one, arith, drop-cons}
use Rattle.lists.specs.Filled.{stored_at}
use Rattle.lists.proofs.StoreLaws.{stored_none, stored_one, stored_next, stored_length}
use Rattle.symbols.specs.machine.Step.{shifted, is_whole, code_word, closed, stepped_by, word_by}
use Rattle.symbols.specs.declared.Reading.{Reading}
use Rattle.symbols.proofs.WholeLaws.{step_stays_open, step_closes}
use Rattle.shifts.specs.machine.Pass.{Passed, ended, after, pass_from}
use Rattle.shifts.proofs.PassLaws.{pass_goes_on}

module _ (most from to : ℕ) (start : Reading) (us old : List ℕ) where
  abbrev whole : Passed
  whole = pass_from most from start us

  -- what is left of the pass leads to what the whole block does
  abbrev Settles : Passed → List ℕ → ℕ → Type 0
  Settles rest out place =
      (rest.end ≡ whole.end) × (stored_at out place rest.words ≡ stored_at old to whole.words)

  pub record Shifting (out : List ℕ) (m : Reading) (place k : ℕ) : Type 0 where
    pub within : k ≤ length us
    pub near : place ≤ to + k
    pub same_length : length out ≡ length old
    pub settles : Settles (pass_from most (from + k) m (drop k us)) out place

  pub begins : Shifting old start to 0
  begins =
      record {
        within = omega arith;
        near = omega arith;
        same_length = refl;
        settles = rw (add-zero from) (refl, refl);
      }

  module _ {out : List ℕ} {m : Reading} {place k : ℕ} (so_far : Shifting out m place k) where
    -- where the pass ends, nothing is left to read or to store
    pub ends
        : pass_from most (from + k) m (drop k us) ≡ ended m (from + k)
        → (record { reading = m; used = from + k } ≡ whole.end) × (out ≡ stored_at old to whole.words)
    ends e = let (end, stored) = rw e at so_far.settles in (end, sym (stored_none out place) ∙ stored)

    module _ (few : m.words < most) (inside : k < length us) where
      abbrev u : ℕ
      u = get_or us k 0

      taken
          : (next : Reading) (stored : List ℕ) (after_it : ℕ)
          → next ≡ stepped_by m u (from + k)
          → stored ≡ stored_at out place (word_by m u)
          → after_it ≡ place + length (word_by m u)
          → length (word_by m u) ≤ 1
          → Shifting stored next after_it (k + 1)
      taken next stored after_it machine store moved one =
          let rest = pass_from most (suc (from + k)) next (drop (suc k) us) in
          let settles : Settles (after (word_by m u) rest) out place =
          rw (drop-cons us k 0 inside, pass_goes_on most (from + k) m u (drop (suc k) us) few, ← machine) at
          so_far.settles in
          record {
            within = omega arith;
            near = omega (arith, so_far.near);
            same_length = ap length store ∙ stored_length out place (word_by m u) ∙ so_far.same_length;
            settles =
                rw (add-one k, add-suc from k) (
                  settles.0,
                  stored_next (word_by m u) rest.words out stored place after_it store moved ∙ settles.1,
                );
          }

      pub turn_stays_open
          : (next : Reading)
          → next ≡ shifted m u
          → is_whole next ≡ false
          → Shifting out next place (k + 1) × (next.words < most)
      unfolding shifted
      turn_stays_open next shift part =
          let step = step_stays_open m u (from + k) (ap is_whole (sym shift) ∙ part) in
          let none = ap length step.1 in (
            taken next out place (shift ∙ sym step.0)
                (sym (stored_none out place) ∙ ap (stored_at out place) (sym step.1)) (omega arith)
                (omega arith),
            rw shift few,
          )

      pub turn_closes
          : (next closing : Reading) (word : ℕ) (stored : List ℕ)
          → next ≡ shifted m u
          → is_whole next ≡ true
          → word ≡ code_word next
          → stored ≡ set out place word
          → closing ≡ closed next ((from + k) % 2 ^ 32)
          → Shifting stored closing (place + 1) (k + 1)
      turn_closes next closing word stored shift is_whole_lem code store close =
          let step = step_closes m u (from + k) (ap is_whole (sym shift) ∙ is_whole_lem) in
          let one = ap length step.1 in
          taken closing stored (place + 1)
          (close ∙ ap (λ (r : Reading). closed r ((from + k) % 2 ^ 32)) shift ∙ sym step.0) (store
          ∙ sym (stored_one out place word)
          ∙ ap (stored_at out place) (ap (λ (w : ℕ). w ∷ []) (code ∙ ap code_word shift) ∙ sym step.1))
          (omega arith) (omega arith)
