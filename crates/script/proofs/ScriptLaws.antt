-- The input as a whole, its length, its first line and the lines after it: the definition tests them in this order,
-- and each test that fails is its refusal. Rests on no axiom.
use Rattle.std.specs.Prelude.{Option, Some, None, Result, Ok, Err, IsErrAnd}
use Prim.Native.Nat.{ℕ, ◌+◌, ◌≤◌, ◌<◌}
use mathlib.Core.Path.{◌≡◌, refl, sym, ◌∙◌, ap}
use mathlib.Core.Bool.{true, false, cond, not}
use mathlib.Core.List.{List, ◌∷◌}
use native.Mathlib.Numerals.{add-one}
use native.Mathlib.Omega.{arith}
use lib.ListN.{length, take, drop, length-append}
use borrow.Author.Tests.{lt-ltb, le-ltb}
use Rattle.lists.specs.Filled.{filled}
use Rattle.lists.proofs.StoreLaws.{front_of_filled}
use Rattle.refusal.specs.Answer.{refused, refuse_if, counted_answer}
use Rattle.refusal.specs.Table.{number_of, place_of}
use Rattle.refusal.specs.declared.Refusal.{Refusal}
use Rattle.refusal.proofs.AnswerLaws.{refusal_decides, refusal_keeps_the_buffer, accepted_later}
use Rattle.refusal.proofs.AnswerLaws.{acceptance_fills_the_buffer}
use Rattle.timing.specs.declared.Profile.{Profile}
use Rattle.text.specs.Ascii.{line_feed}
use Rattle.text.specs.Pieces.{pieces_of, up_to}
use Rattle.text.proofs.PieceLaws.{pieces_of_text, piece_ends_in_text, piece_is_a_part, pieces_next, pieces_last}
use Rattle.script.specs.Line.{is_profile_line, profile_of, profile_read}
use Rattle.script.specs.Input.{garbled_from, garbled_lines, input_rule, profile_in, items_of_lines, items_in}
use Rattle.script.specs.machine.Read.{LinesStored, ScriptRead, script_answer, within}
use Rattle.script.specs.declared.Script.{Script}

faulty_is_no_profile_line : (line : List ℕ) → profile_read line ≡ None → is_profile_line line ≡ false
unfolding profile_read
faulty_is_no_profile_line line e =
    (elim (is_profile_line line) as (λ t. cond t (Some (profile_of line)) None ≡ None → t ≡ false)
    [ true ↦ λ q. cc | false ↦ λ q. refl ]) e

given_is_profile_line : (line : List ℕ) (p : Profile)
    → profile_read line ≡ Some p
    → (is_profile_line line ≡ true) × (profile_of line ≡ p)
unfolding profile_read
given_is_profile_line line p e =
    (elim (is_profile_line line) as (λ t.
    cond t (Some (profile_of line)) None ≡ Some p → (t ≡ true) × (profile_of line ≡ p))
    [ true ↦ λ q. (refl, cc) | false ↦ λ q. (cc, cc) ]) e

-- over 16,384 bytes
pub long_input_is_refused : (text : List ℕ) → 16384 < length text → input_rule text ≡ refused 14 0
unfolding input_rule
long_input_is_refused text h = rw (lt-ltb 16384 (length text) h)

-- the profile that a script has, if it has one
abbrev pub profile_given : Profile → Result Script Refusal → Profile
profile_given p (Ok s) = s.profile
profile_given p (Err r) = p

-- a refusal that `?` hands on is that refusal, and gives no profile
pub handed_on
    : (p : Profile) (r : Result Script Refusal) (e : Refusal)
    → IsErrAnd r (λ x. x ≡ e)
    → (script_answer r ≡ refused (number_of e) (place_of e)) × (profile_given p r ≡ p)
handed_on p (Err x) e h = rw h (refl, refl)
handed_on p (Ok s) e h = absurd h

-- where the first line was found to end
module _ (text : List ℕ) (end : ℕ) (h : length text ≤ 16384) (e : end ≡ 0 + length (up_to line_feed text)) where
  size : end ≡ length (up_to line_feed text)
  size = omega arith

  pub first_line_ends_in_text : end ≤ length text
  first_line_ends_in_text = piece_ends_in_text line_feed text end size

  pub no_line_feed_is_refused : end ≡ length text → input_rule text ≡ refused 14 1
  unfolding input_rule garbled_lines
  no_line_feed_is_refused k = rw (le-ltb 16384 (length text) h, pieces_last line_feed text end size k)

  module _ (k : end < length text) where
    pieces_after : pieces_of line_feed text ≡ take end text ∷ pieces_of line_feed (drop (end + 1) text)
    pieces_after = rw add-one (pieces_next line_feed text end size k)

    rule_by_lines :
        input_rule text
        ≡ refuse_if (not (is_profile_line (take end text))) 14 1 (garbled_from 2 (pieces_of line_feed (drop (end + 1) text)))
    unfolding input_rule garbled_lines
    rule_by_lines =
        rw (le-ltb 16384 (length text) h, pieces_after, pieces_of_text line_feed (drop (end + 1) text))

    items_of_the_lines : items_in text ≡ items_of_lines (pieces_of line_feed (drop (end + 1) text))
    unfolding items_in
    items_of_the_lines = rw pieces_after

    pub no_profile_is_refused : profile_read (take end text) ≡ None → input_rule text ≡ refused 14 1
    no_profile_is_refused f = rw (rule_by_lines, faulty_is_no_profile_line (take end text) f)

    -- an input whose lines were read
    pub script_of_lines : {before after : List ℕ} {c : Result ℕ Refusal} {p : Profile} {r : Result Script Refusal}
        → profile_read (take end text) ≡ Some p
        → LinesStored (pieces_of line_feed (drop (end + 1) text)) before c after
        → script_answer r ≡ counted_answer c
        → profile_given p r ≡ p
        → ScriptRead text before r after
    unfolding profile_in
    script_of_lines {p = p} f read same own =
        let first = given_is_profile_line (take end text) p f in
        record {
          answer = same ∙ rw (rule_by_lines, first.0, items_of_the_lines) read.answer;
          profile = λ s q. rw (← piece_is_a_part line_feed text end size)
              (sym (ap (profile_given p) q) ∙ own ∙ sym first.1);
          output = rw (rule_by_lines, first.0, items_of_the_lines) read.output;
        }

-- an input that is garbled before its items are read
pub script_refused : {text before : List ℕ} {r : Refusal}
    → input_rule text ≡ refused (number_of r) (place_of r)
    → ScriptRead text before (Err r) before
script_refused {text = text} {before = before} {r = r} e =
    record {
      answer = refusal_decides r (input_rule text) _ (sym e);
      profile = λ s q. cc;
      output = refusal_keeps_the_buffer r (input_rule text) _ before (sym e);
    }

-- where an input was read, its items stand at the buffer's front
module _ (text before after : List ℕ) (r : Result Script Refusal) (s : Script)
    (read : ScriptRead text before r after) (given : r ≡ Ok s) where
  accepts : ((input_rule text).number ≡ 0) × (s.count ≡ length (within before (items_in text)))
  accepts = accepted_later (input_rule text) s.count _ (sym (ap script_answer given) ∙ read.answer)

  is_filled : after ≡ filled (within before (items_in text)) before
  is_filled = read.output ∙ acceptance_fills_the_buffer (input_rule text) _ before accepts.0

  pub items_fit : s.count ≤ length after
  unfolding filled
  items_fit =
      let items = within before (items_in text) in
      rw is_filled (omega (arith, accepts.1, length-append items (drop (length items) before)))

  pub items_stand_in_front : take s.count after ≡ within before (items_in text)
  items_stand_in_front = rw (is_filled, accepts.1) (front_of_filled (within before (items_in text)) before)
