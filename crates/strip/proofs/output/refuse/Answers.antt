-- Why `strip::refuse` prints a refusal: its line has the number and the place of the table, and both fit 32 bits.
-- Rests on no axiom.
use Prim.Native.Nat.{ℕ, ◌^◌, ◌≤◌, ◌<◌}
use mathlib.Core.Path.{◌≡◌, ap}
use mathlib.Core.List.{[], ◌∷◌}
use native.Mathlib.Omega.{arith}
use lib.ListN.{length}
use Rattle.refusal.specs.Answer.{refused}
use Rattle.refusal.specs.Table.{number_of, place_of}
use Rattle.refusal.specs.declared.Refusal.{Refusal}
use Rattle.text.specs.Ascii.{ascii}
use Rattle.text.specs.Line.{line_of}
use Rattle.strip.specs.Output.{refusal_text}
use Rattle.strip.specs.machine.Room.{output_length}
use Rattle.strip.proofs.OutputLaws.{printed_at_front, refusal_fits}
use Rattle.strip.proofs.output.refuse.Goals as goal

-- the line of a number and a place of the table, and its length
the_text
    : (refusal : Refusal) (number place : ℕ)
    → number ≡ number_of refusal
    → place ≡ place_of refusal
    → number < 2 ^ 32
    → place < 2 ^ 32
    → let text = refusal_text (refused (number_of refusal) (place_of refusal)) in
    (line_of (ascii "refused") (number ∷ place ∷ []) ≡ text) × (length text ≤ output_length)
unfolding refusal_text
the_text refusal number place e k h j =
    (rw (e, k), refusal_fits (refused (number_of refusal) (place_of refusal)) (omega arith) (omega arith))

pub append_line-requires : goal.append_line-requires
append_line-requires c =
    let text = the_text _ _ _ c.number.ensures c.place.ensures (omega arith) (omega arith) in
    omega (arith, ap length text.0, text.1)

pub returns : goal.returns
returns c =
    let line = c.append_line.ensures in
    let text = the_text _ _ _ c.number.ensures c.place.ensures (omega arith) (omega arith) in
    printed_at_front _ c.args.out.now _ _ (rw text.0 at line.value) (rw text.0 at line.out_after)
    (omega (arith, text.1))
