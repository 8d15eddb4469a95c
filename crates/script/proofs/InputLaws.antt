-- The lines of the input, one at a time: a line ends at the next line feed, and what stands after the last is faulty
-- unless it is nothing. Rests on no axiom.
use Rattle.std.specs.Prelude.{Result, Ok, Err}
use Prim.Native.Nat.{ℕ, suc, min, ◌+◌, ◌-◌, ◌≤◌, ◌<◌}
use mathlib.Core.Path.{◌≡◌, sym, ◌∙◌, ap}
use mathlib.Core.Bool.{not, true≢false}
use lib.Dec.{eqb}
use mathlib.Core.List.{List, [], ◌∷◌, ◌++◌}
use native.Mathlib.Nat.{zero-add}
use native.Mathlib.Omega.{arith}
use lib.ListN.{length, take, drop, length-take, length-drop}
use lib.Seq.{drop-drop}
use Rattle.lists.specs.Filled.{stored_at}
use Rattle.refusal.specs.Answer.{Answer, accepted, refused, refuse_if, first_refusal}
use Rattle.refusal.specs.Table.{number_of, place_of}
use Rattle.refusal.specs.declared.Refusal.{Refusal}
use Rattle.refusal.specs.declared.Refusal.TheVariants.{MalformedInput}
use Rattle.refusal.proofs.AnswerLaws.{number_is_not_zero, refusal_decides, refusal_keeps_the_buffer, first_refusal_passes}
use Rattle.refusal.proofs.AnswerLaws.{acceptance_fills_the_buffer, refused_earlier, accepted_later}
use Rattle.text.specs.Ascii.{line_feed}
use Rattle.text.specs.Pieces.{pieces_of, up_to}
use Rattle.text.proofs.PieceLaws.{pieces_of_text, piece_ends_in_text, pieces_next, pieces_last}
use Rattle.script.specs.Line.{is_item_line, line_items}
use Rattle.script.specs.Input.{garbled_from, items_of_lines}
use Rattle.script.specs.machine.Read.{LinesRead, LinesStored, Stored}
use Rattle.script.proofs.BufferLaws.{stored_as_far_as_there_is_room}

-- the line that starts at a place of the text, where its end was looked for
module _ (text : List ℕ) (at end : ℕ) (h : at ≤ length text) (e : end ≡ at + length (up_to line_feed (drop at text)))
  where
    size : end - at ≡ length (up_to line_feed (drop at text))
    size = omega arith

    pub line_ends_in_text : end ≤ length text
    line_ends_in_text = omega (arith, piece_ends_in_text line_feed (drop at text) _ size, length-drop at text)

    pub lines_next : end < length text
        → pieces_of line_feed (drop at text) ≡ take (end - at) (drop at text) ∷ pieces_of line_feed (drop (end + 1) text)
    lines_next k =
        let next : at + suc (end - at) ≡ end + 1 = omega arith in
        rw (pieces_next line_feed (drop at text) _ size (omega (arith, length-drop at text)), drop-drop, next)

    pub no_line_feed : end ≡ length text → pieces_of line_feed (drop at text) ≡ drop at text ∷ []
    no_line_feed k = pieces_last line_feed (drop at text) _ size (omega (arith, length-drop at text))

-- a line, and the lines after it
module _ (line rest : List ℕ) where
  pub garbled_next : (n : ℕ)
      → garbled_from n (line ∷ pieces_of line_feed rest)
      ≡ refuse_if (not (is_item_line line)) 14 n (garbled_from (suc n) (pieces_of line_feed rest))
  unfolding garbled_from
  garbled_next n = rw (pieces_of_text line_feed rest)

  pub items_next : items_of_lines (line ∷ pieces_of line_feed rest)
      ≡ line_items line ++ items_of_lines (pieces_of line_feed rest)
  unfolding items_of_lines
  items_next = rw (pieces_of_text line_feed rest)

module _ {lines : List (List ℕ)} {before : List ℕ} where
  -- lines that were read, and lines of which one is faulty
  pub lines_refused : {after : List ℕ} {n : ℕ}
      → garbled_from 2 lines ≡ refused 14 n
      → LinesRead lines before (Err (MalformedInput n)) after
  lines_refused e =
      record { answer = rw e; output = λ h. absurd (let q : ◌≡◌ {A = ℕ} 14 0 = rw e at h in omega arith) }

  pub lines_read : {after : List ℕ} {n : ℕ}
      → garbled_from 2 lines ≡ accepted 0
      → Stored before 0 (items_of_lines lines) n after
      → LinesRead lines before (Ok n) after
  lines_read e s =
      record { answer = rw e (ap accepted (s.size ∙ zero-add (length (items_of_lines lines)))); output = λ h. s.output }

  -- lines that were first read with no room for any item, and then with a buffer
  pub lines_not_stored : (r : Refusal)
      → refused (number_of r) (place_of r) ≡ first_refusal (garbled_from 2 lines) (accepted (length (items_of_lines lines)))
      → LinesStored lines before (Err r) before
  lines_not_stored r first =
      let garbled = refused_earlier r (garbled_from 2 lines) _ first in
      record {
        answer = refusal_decides r (garbled_from 2 lines) _ garbled;
        output = refusal_keeps_the_buffer r (garbled_from 2 lines) _ before garbled;
      }

  pub lines_stored : {after : List ℕ} {n : ℕ} (count : ℕ)
      → accepted count ≡ first_refusal (garbled_from 2 lines) (accepted (length (items_of_lines lines)))
      → ((garbled_from 2 lines).number ≡ 0 → after ≡ stored_at before 0 (items_of_lines lines))
      → n ≡ min (length before) count
      → LinesStored lines before (Ok n) after
  lines_stored count first second size =
      let counted = accepted_later (garbled_from 2 lines) count _ first in
      record {
        answer =
            rw (first_refusal_passes (garbled_from 2 lines) _ counted.0, length-take, ← counted.1)
            (ap accepted size);
        output =
            second counted.0
            ∙ stored_as_far_as_there_is_room before (items_of_lines lines)
            ∙ sym (acceptance_fills_the_buffer (garbled_from 2 lines) _ before counted.0);
      }

-- a second reading of lines that were read refuses nothing
pub read_again : (lines : List (List ℕ)) {n : ℕ} (r : Refusal)
    → accepted n ≡ first_refusal (garbled_from 2 lines) (accepted (length (items_of_lines lines)))
    → refused (number_of r) (place_of r) ≡ first_refusal (garbled_from 2 lines) (accepted (length (items_of_lines lines)))
    → ⊥
read_again lines r first second =
    true≢false (ap (λ (a : Answer). eqb a.number 0) (first ∙ sym second) ∙ number_is_not_zero r)
