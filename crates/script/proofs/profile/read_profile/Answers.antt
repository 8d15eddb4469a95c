-- Why `script::read_profile` answers `profile_read`: the word is `profile`, and the fields after it are eleven decimals.
-- Rests on no axiom.
use mathlib.Core.Path.{sym, ◌∙◌, ap}
use lib.Seq.{length-take-le}
use Rattle.timing.specs.Numbers.{from_numbers}
use Rattle.script.specs.Line.{is_profile_line, profile_of, profile_read}
use Rattle.std.specs.Prelude.{Some}
use Rattle.script.proofs.LineLaws.{word_ends_in_line, word_is_a_part, arguments_after_word}
use Rattle.script.proofs.profile.read_profile.Goals as goal

pub slice_bounds-same-end : goal.slice_bounds-same-end
slice_bounds-same-end c = sym (length-take-le _ _ (word_ends_in_line _ _ c.find-end.ensures))

pub returns-then-read_numbers : goal.returns-then-read_numbers
unfolding profile_read is_profile_line profile_of
returns-then-read_numbers c =
    rw (
      ← word_is_a_part _ _ c.find-end.ensures,
      ← c.same.ensures,
      c.if-same.true,
      ← arguments_after_word c.args.line.now _ c.find-end.ensures,
      ← c.read_numbers.ensures.verdict,
      c.if-read_numbers.true,
    ) (ap Some (c.from_numbers.ensures
    ∙ ap from_numbers (c.read_numbers.ensures.numbers c.if-read_numbers.true)))

pub returns-else-read_numbers : goal.returns-else-read_numbers
unfolding profile_read is_profile_line
returns-else-read_numbers c =
    rw (
      ← word_is_a_part _ _ c.find-end.ensures,
      ← c.same.ensures,
      c.if-same.true,
      ← arguments_after_word c.args.line.now _ c.find-end.ensures,
      ← c.read_numbers.ensures.verdict,
      c.if-read_numbers.false,
    )

pub returns-else-same : goal.returns-else-same
unfolding profile_read is_profile_line
returns-else-same c = rw (← word_is_a_part _ _ c.find-end.ensures, ← c.same.ensures, c.if-same.false)
