-- Machine, not meaning: what the functions that read the input leave in the buffers that they are lent. Input and Line
-- say what the input means. No lemmas here.
use Rattle.std.specs.Prelude.{Option, Some, None, is_some, Result, Ok, Err}
use Rattle.refusal.specs.declared.Refusal.{Refusal}
use Rattle.std.specs.Prelude.{ℕ, ◌+◌, ◌≡◌, Bool, true, false, ◌&&◌, List, map, eqb, length, take}
use Rattle.lists.specs.Place.{everywhere}
use Rattle.lists.specs.Filled.{stored_at}
use Rattle.refusal.specs.Answer.{Answer, accepted, refused, first_refusal, counted_answer, settled}
use Rattle.refusal.specs.Table.{number_of, place_of}
use Rattle.text.specs.Ascii.{tab}
use Rattle.text.specs.Pieces.{pieces_after}
use Rattle.text.specs.Decimal.{is_decimal, value_of}
use Rattle.script.specs.Line.{is_item_line, line_items, are_bytes, raised}
use Rattle.script.specs.Input.{garbled_from, input_rule, profile_in, items_of_lines, items_in}
use Rattle.script.specs.declared.Script.{Script}

-- the fields of what stands from a tab on; none where the line ends
abbrev pub fields_after : List ℕ → List (List ℕ)
fields_after text = pieces_after tab text

-- decimals, as many as there are places for, stand in those places
pub record NumbersRead (fields : List (List ℕ)) (places : ℕ) (r : Bool) (after : List ℕ) : Type 0 where
  pub verdict : r ≡ (eqb (length fields) places && everywhere is_decimal fields)
  pub numbers : r ≡ true → after ≡ map value_of fields

-- items are stored in a buffer from a place on, as far as it has room, and the next place is given
pub record Stored (before : List ℕ) (place : ℕ) (items : List ℕ) (next : ℕ) (after : List ℕ) : Type 0 where
  pub size : next ≡ place + length items
  pub output : after ≡ stored_at before place items

-- a line is read where it is good, and its items are then stored
pub record ItemsRead (good : Bool) (items before : List ℕ) (place : ℕ) (r : Option ℕ) (after : List ℕ) : Type 0 where
  pub verdict : is_some r ≡ good
  pub stored : (n : ℕ) → r ≡ Some n → Stored before place items n after

-- fields that are bytes, each with a number added
abbrev pub BytesRead : List (List ℕ) → ℕ → List ℕ → ℕ → Option ℕ → List ℕ → Type 0
BytesRead fields base before place r after = ItemsRead (are_bytes fields) (raised base fields) before place r after

-- a line of items
abbrev pub LineRead : List ℕ → List ℕ → ℕ → Option ℕ → List ℕ → Type 0
LineRead line before place r after = ItemsRead (is_item_line line) (line_items line) before place r after

-- the lines from line 2 on are counted where none is faulty, and their items are then stored
pub record LinesRead (lines : List (List ℕ)) (before : List ℕ) (r : Result ℕ Refusal) (after : List ℕ) : Type 0 where
  pub answer : counted_answer r ≡ first_refusal (garbled_from 2 lines) (accepted (length (items_of_lines lines)))
  pub output : (garbled_from 2 lines).number ≡ 0 → after ≡ stored_at before 0 (items_of_lines lines)

-- as much of a list as a buffer has room for
abbrev pub within : List ℕ → List ℕ → List ℕ
within buffer list = take (length buffer) list

-- the same with a count of the items that have room, and a buffer that a refusal leaves as it was
pub record LinesStored (lines : List (List ℕ)) (before : List ℕ) (r : Result ℕ Refusal) (after : List ℕ) : Type 0 where
  pub answer : counted_answer r
      ≡ first_refusal (garbled_from 2 lines) (accepted (length (within before (items_of_lines lines))))
  pub output : after ≡ settled (garbled_from 2 lines) (within before (items_of_lines lines)) before

abbrev pub script_answer : Result Script Refusal → Answer
script_answer (Ok s) = accepted s.count
script_answer (Err r) = refused (number_of r) (place_of r)

-- the input is read where it is not garbled, with its profile; its items then fill the buffer's front
pub record ScriptRead (text before : List ℕ) (r : Result Script Refusal) (after : List ℕ) : Type 0 where
  pub answer : script_answer r ≡ first_refusal (input_rule text) (accepted (length (within before (items_in text))))
  pub profile : (s : Script) → r ≡ Ok s → s.profile ≡ profile_in text
  pub output : after ≡ settled (input_rule text) (within before (items_in text)) before
