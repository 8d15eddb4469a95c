-- The word of a line, and the fields after it, where the word was found to end. Rests on no axiom.
use Prim.Native.Nat.{ℕ, ◌+◌, ◌≤◌}
use mathlib.Core.Path.{◌≡◌}
use mathlib.Core.List.{List}
use native.Mathlib.Omega.{arith}
use lib.ListN.{length, take, drop}
use Rattle.text.specs.Ascii.{tab}
use Rattle.text.specs.Pieces.{up_to}
use Rattle.text.proofs.PieceLaws.{pieces_of_text, piece_ends_in_text, piece_is_a_part}
use Rattle.script.specs.Line.{word_of, arguments_of}
use Rattle.script.specs.machine.Read.{fields_after}

module _ (line : List ℕ) (end : ℕ) (e : end ≡ 0 + length (up_to tab line)) where
  size : end ≡ length (up_to tab line)
  size = omega arith

  pub word_ends_in_line : end ≤ length line
  word_ends_in_line = piece_ends_in_text tab line end size

  pub word_is_a_part : take end line ≡ word_of line
  unfolding word_of
  word_is_a_part = piece_is_a_part tab line end size

  pub arguments_after_word : fields_after (drop end line) ≡ arguments_of line
  unfolding arguments_of
  arguments_after_word = rw (pieces_of_text tab line, ← size)
