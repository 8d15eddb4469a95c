-- The machine run over many cells keeps what it holds, and gives their items where no gap is out of place; over a whole
-- strip it gives the strip's answer and, where that accepts, its items.
use Rattle.std.proofs.Common.{◌≡◌, ℕ, suc, ◌+◌, ◌-◌, ◌^◌, ◌≤◌, false, List, [], ◌∷◌, ◌++◌, map, length, sym, refl, inr, append_assoc, append-nil, arith, length-append}
use mathlib.Core.List.{map-append}
use lib.Seq.{append_snoc}
use Rattle.half_cells.specs.machine.Candidate.{candidate}
use Rattle.symbols.specs.Bytes.{items_read}
use Rattle.symbols.specs.Reading.{read_from, read_bits}
use Rattle.symbols.specs.Strip.{is_stray, strip_rule, strip_items}
use Rattle.symbols.specs.machine.Step.{fresh_reading, stepped, word_closed, ran, ran_words, strip_answer}
use Rattle.symbols.specs.declared.Cell.{Cell}
use Rattle.symbols.specs.declared.Reading.{Reading}
use Rattle.symbols.proofs.RoundTripLaws.{write_of_read}
use Rattle.symbols.proofs.ReadsLaws.{Reads, reads_fresh}
use Rattle.symbols.proofs.StepLaws.{After, after_cell}
use Rattle.symbols.proofs.AnswerLaws.{rule_of_reads}

-- what the machine is after more cells, how many items they gave, and which, where no gap is out of place
pub record Run (m : Reading) (cs ds : List Cell) : Type 0 where
  pub reads : Reads (ran m (length cs) ds) (cs ++ ds)
  pub words : (ran m (length cs) ds).words ≡ m.words + length (ran_words m (length cs) ds)
  pub items :
      is_stray (read_bits (cs ++ ds)) ≡ false
      → (is_stray (read_bits cs) ≡ false)
      × (items_read (read_bits (cs ++ ds)) ≡ items_read (read_bits cs) ++ map candidate (ran_words m (length cs) ds))

pub machine_runs :
    (m : Reading) (cs ds : List Cell) → Reads m cs → length cs + length ds ≤ 2 ^ 32 → Run m cs ds
unfolding ran ran_words
machine_runs m cs [] r h =
    record {
      reads = rw (append-nil cs) r;
      words = omega arith;
      items = rw (append-nil cs) (λ fair. (fair, sym (append-nil _)));
    }
machine_runs m cs (d ∷ ds) r h =
    let next = stepped m d (length cs) in
    let n : length (cs ++ (d ∷ [])) ≡ suc (length cs) = omega (arith, length-append cs (d ∷ [])) in
    let after : After m cs d next = after_cell m cs r (omega arith) d in
    let run = machine_runs next (cs ++ (d ∷ [])) ds (inr after.reads) (omega arith) in
    let rest : List ℕ = ran_words next (suc (length cs)) ds in
    record {
      reads = rw (append_snoc cs d ds, n) at run.reads;
      words = omega (arith, rw n at run.words, after.words, length-append (word_closed m d) rest);
      items = λ fair.
          let later = rw (append_snoc cs d ds, n) at (run.items (rw (append_snoc cs d ds) fair)) in
          let here = after.items later.0 in (
            here.0,
            rw (later.1, here.1, append_assoc, map-append),
          );
    }

pub items_ran :
    (m : Reading) (cs ds : List Cell) → Reads m cs → length cs + length ds ≤ 2 ^ 32
    → is_stray (read_bits (cs ++ ds)) ≡ false
    → items_read (read_bits (cs ++ ds)) ≡ items_read (read_bits cs) ++ map candidate (ran_words m (length cs) ds)
items_ran m cs ds r few fair = ((machine_runs m cs ds r few).items fair).1

-- in two parts
pub ran_in_parts :
    (m : Reading) (k : ℕ) (cs ds : List Cell) → ran m k (cs ++ ds) ≡ ran (ran m k cs) (k + length cs) ds
unfolding ran
ran_in_parts m k [] ds = let none : k + 0 ≡ k = omega arith in rw none
ran_in_parts m k (c ∷ cs) ds =
    let place : suc k + length cs ≡ k + suc (length cs) = omega arith in
    rw (ran_in_parts (stepped m c k) (suc k) cs ds, place)

-- over all cells from the first
pub ran_reads : (cs : List Cell) → length cs ≤ 2 ^ 32 → Reads (ran fresh_reading 0 cs) cs
ran_reads cs h = (machine_runs fresh_reading [] cs reads_fresh (omega arith)).reads

-- a whole strip
pub strip_by_ran :
    (cs : List Cell) → length cs ≤ 2 ^ 32
    → (strip_rule cs ≡ strip_answer (ran fresh_reading 0 cs) (length cs - 1))
    × ((strip_rule cs).number ≡ 0 → strip_items cs ≡ map candidate (ran_words fresh_reading 0 cs))
unfolding strip_items items_read read_bits read_from
strip_by_ran cs h = (
  rule_of_reads (ran fresh_reading 0 cs) cs (ran_reads cs h),
  λ accepts. items_ran fresh_reading [] cs reads_fresh (omega arith) (write_of_read cs accepts).in_place,
)
