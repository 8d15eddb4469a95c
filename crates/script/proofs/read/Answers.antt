-- Why `script::read` reads the input: its length, its first line and the lines after it are tested in the
-- definition's order. Rests on no axiom.
use Prim.Native.Nat.{ℕ, ◌+◌, ◌≤◌, ◌<◌}
use mathlib.Core.Path.{◌≡◌, refl, sym, ◌∙◌, ap}
use mathlib.Core.Logic.{◌≢◌}
use mathlib.Core.List.{List}
use native.Mathlib.Omega.{arith}
use lib.ListN.{length}
use lib.Seq.{length-take-le}
use Rattle.refusal.specs.Answer.{counted_answer}
use Rattle.text.specs.Ascii.{line_feed}
use Rattle.text.specs.Pieces.{up_to}
use Rattle.script.proofs.ScriptLaws.{long_input_is_refused, first_line_ends_in_text, no_line_feed_is_refused}
use Rattle.script.proofs.ScriptLaws.{no_profile_is_refused, script_refused, script_of_lines, handed_on}
use Rattle.script.proofs.read.Goals as goal

-- the first line ends in a line feed
line_found
    : (text : List ℕ) (end : ℕ)
    → length text ≤ 16384
    → end ≡ 0 + length (up_to line_feed text)
    → end ≢ length text
    → end < length text
line_found text end h e k = omega (arith, first_line_ends_in_text text end h e)

pub returns-then-text-gt-INPUT_BYTES : goal.returns-then-text-gt-INPUT_BYTES
returns-then-text-gt-INPUT_BYTES c = script_refused (long_input_is_refused _ c.if-text-gt-INPUT_BYTES.true)

pub returns-then-end-text : goal.returns-then-end-text
returns-then-end-text c =
    script_refused
    (no_line_feed_is_refused _ _ c.if-text-gt-INPUT_BYTES.false c.find-end.ensures c.if-end-text.true)

pub slice_bounds-read_profile-end : goal.slice_bounds-read_profile-end
slice_bounds-read_profile-end c =
    sym
    (length-take-le _ _
    (first_line_ends_in_text _ _ c.if-text-gt-INPUT_BYTES.false c.find-end.ensures))

pub overflow_add-end : goal.overflow_add-end
overflow_add-end c = omega (arith, line_found _ _ c.if-text-gt-INPUT_BYTES.false c.find-end.ensures c.if-end-text.false)

pub store_items-requires : goal.store_items-requires
store_items-requires c = omega (arith, line_found _ _ c.if-text-gt-INPUT_BYTES.false c.find-end.ensures c.if-end-text.false, c.if-text-gt-INPUT_BYTES.false)

pub returns-in-None : goal.returns-in-None
returns-in-None c =
    script_refused (no_profile_is_refused _ _ c.if-text-gt-INPUT_BYTES.false c.find-end.ensures
    (line_found _ _ c.if-text-gt-INPUT_BYTES.false c.find-end.ensures c.if-end-text.false) (sym c.read_profile.ensures ∙ c.in-None.is))

pub returns-in_err-count-in-Some : goal.returns-in_err-count-in-Some
returns-in_err-count-in-Some c =
    let told = handed_on c.in-Some.profile _ _ c.from_residual.ensures.1 in
    script_of_lines _ _ c.if-text-gt-INPUT_BYTES.false c.find-end.ensures (line_found _ _ c.if-text-gt-INPUT_BYTES.false c.find-end.ensures c.if-end-text.false)
    (sym c.read_profile.ensures ∙ c.in-Some.is) c.store_items.ensures
    (told.0 ∙ sym (ap counted_answer c.in_err-count-in-Some.was)) told.1

pub returns-in_ok-count-in-Some : goal.returns-in_ok-count-in-Some
returns-in_ok-count-in-Some c =
    script_of_lines _ _ c.if-text-gt-INPUT_BYTES.false c.find-end.ensures (line_found _ _ c.if-text-gt-INPUT_BYTES.false c.find-end.ensures c.if-end-text.false)
    (sym c.read_profile.ensures ∙ c.in-Some.is) c.store_items.ensures
    (sym (ap counted_answer c.in_ok-count-in-Some.was)) refl
