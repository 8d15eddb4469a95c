-- The printed text: how long its lines can get, and its cells one at a time. Rests on no axiom.
use Prim.Native.Nat.{ℕ, suc, ◌+◌, ◌*◌, ◌^◌, ◌≤◌, ◌<◌}
use mathlib.Core.Path.{◌≡◌, sym, ◌∙◌, ap}
use mathlib.Core.List.{List, [], ◌∷◌, ◌++◌}
use native.Mathlib.Omega.{arith}
use lib.ListN.{length, drop, get_or, length-append, drop_of_length-le}
use lib.Seq.{drop-cons, length-take-le}
use Rattle.lists.specs.Filled.{filled, stored_at}
use Rattle.lists.proofs.StoreLaws.{stored_after_stored, stored_at_front_fills}
use Rattle.refusal.specs.Answer.{Answer}
use Rattle.timing.specs.Class.{at_start, class_in, cursor_past, classes_from, classes_of, class_number}
use Rattle.timing.specs.declared.Class.{Class}
use Rattle.timing.specs.declared.Class.TheVariants.{Narrow, Two, Three, Four, Wide}
use Rattle.timing.specs.declared.Profile.{Profile}
use Rattle.timing.specs.declared.cursor.Cursor.{Cursor}
use Rattle.timing.proofs.ClassLaws.{classes_none, classes_here, classes_from_start}
use Rattle.text.specs.Ascii.{ascii}
use Rattle.text.specs.Line.{line_of}
use Rattle.text.proofs.PrintLaws.{decimal_within}
use Rattle.text.proofs.LineLaws.{fields_length_of_none, fields_length_of_more, line_length}
use Rattle.strip.specs.Output.{refusal_text, cell_text, cells_text, stream_text, report_text}
use Rattle.strip.specs.Output.{Printed}
use Rattle.strip.specs.machine.Room.{Front, output_length}

-- a text that was stored at the front of an output that has room for it
pub printed_at_front : (text before after : List ℕ) (r : ℕ)
    → r ≡ 0 + length text
    → after ≡ stored_at before 0 text
    → length text ≤ length before
    → Printed text r before after
printed_at_front text before after r size stored fits =
    record { size = omega arith; output = stored ∙ stored_at_front_fills text before fits }

-- what fills an output is no longer than it
pub printed_is_front : (text before after : List ℕ) (r : ℕ) → Printed text r before after → Front r after
unfolding filled
printed_is_front text before after r p =
    let fits : r ≤ length after =
    omega (arith, p.size, ap length p.output, length-append text (drop (length text) before)) in
    (fits, sym (length-take-le r after fits))

-- how long a line is, by its numbers
ruleset line_sizes = (line_length, fields_length_of_more, fields_length_of_none)

-- the numbers of a refusal fit 32 bits
pub refusal_fits : (answer : Answer)
    → answer.number < 2 ^ 32
    → answer.place < 2 ^ 32
    → length (refusal_text answer) ≤ output_length
unfolding refusal_text
refusal_fits answer h k =
    simp line_sizes
    (omega (arith, decimal_within 9 answer.number (omega arith), decimal_within 9 answer.place (omega arith)))

class_is_a_digit : (c : Class) → class_number c < 10
class_is_a_digit Narrow = omega arith
class_is_a_digit Two = omega arith
class_is_a_digit Three = omega arith
class_is_a_digit Four = omega arith
class_is_a_digit Wide = omega arith

cell_length : (place : ℕ) (c : Class) (d : ℕ) → place < 10000 → d < 65536 → length (cell_text place c d) ≤ 18
unfolding cell_text
cell_length place c d h k =
    simp line_sizes
    (omega (
      arith,
      decimal_within 3 place h,
      decimal_within 0 (class_number c) (class_is_a_digit c),
      decimal_within 4 d (omega arith),
    ))

-- 18 bytes for each cell
cells_length : (k : ℕ) (cs : List Class) (ds : List ℕ)
    → k + length ds ≤ 10000
    → ((i : ℕ) → get_or ds i 0 < 65536)
    → length (cells_text k cs ds) ≤ 18 * length ds
unfolding cells_text
cells_length k [] ds h fits = omega arith
cells_length k (c ∷ cs) [] h fits = omega arith
cells_length k (c ∷ cs) (d ∷ ds) h fits =
    omega (
      arith,
      length-append (cell_text k c d) (cells_text (suc k) cs ds),
      cell_length k c d (omega arith) (fits 0),
      cells_length (suc k) cs ds (omega arith) (λ i. fits (suc i)),
    )

-- the cells that are left of a stream, from where its classing stands on
abbrev pub cells_left : Cursor → ℕ → List ℕ → List ℕ
cells_left c k stream = cells_text k (classes_from c (drop k stream)) (drop k stream)

pub cells_of_stream : (p : Profile) (c : Cursor) (stream : List ℕ)
    → c ≡ at_start p
    → cells_left c 0 stream ≡ stream_text p stream
unfolding stream_text
cells_of_stream p c stream e = cc (classes_from_start p stream)

pub no_cells_left : (c : Cursor) (stream : List ℕ) (k : ℕ) → length stream ≤ k → cells_left c k stream ≡ []
unfolding cells_text
no_cells_left c stream k h = rw (drop_of_length-le stream {i = k} h, classes_none)

-- the next of them, and those after it
abbrev pub cell_here : Cursor → ℕ → List ℕ → List ℕ
cell_here c k stream = cell_text k (class_in c (get_or stream k 0)) (get_or stream k 0)

abbrev pub cells_after : Cursor → ℕ → List ℕ → List ℕ
cells_after c k stream = cells_left (cursor_past c (get_or stream k 0)) (suc k) stream

module _ (c : Cursor) (stream : List ℕ) (k : ℕ) (h : k < length stream) where
  cells_next : cells_left c k stream ≡ cell_here c k stream ++ cells_after c k stream
  unfolding cells_text
  cells_next = cc (classes_here c stream k h, drop-cons stream k 0 h)

  pub cells_length_next : length (cells_left c k stream) ≡ length (cell_here c k stream) + length (cells_after c k stream)
  cells_length_next = ap length cells_next ∙ length-append (cell_here c k stream) (cells_after c k stream)

  pub cells_stored_next : (out : List ℕ) (end next : ℕ)
      → next ≡ end + length (cell_here c k stream)
      → stored_at (stored_at out end (cell_here c k stream)) next (cells_after c k stream)
      ≡ stored_at out end (cells_left c k stream)
  cells_stored_next out end next e =
      cc (stored_after_stored (cell_here c k stream) (cells_after c k stream) out end next e, cells_next)

-- the report is its three parts, and fits
abbrev pub margin_line : ℕ → List ℕ
margin_line margin = line_of (ascii "margin") (margin ∷ [])

abbrev pub end_line : List ℕ → List ℕ
end_line stream = line_of (ascii "end") (length stream ∷ [])

module _ (p : Profile) (margin : ℕ) (stream : List ℕ) where
  abbrev pub report_size : ℕ
  report_size = length (margin_line margin) + length (stream_text p stream) + length (end_line stream)

  pub report_fits : margin < 2 ^ 64
      → length stream ≤ 4098
      → ((i : ℕ) → get_or stream i 0 < 65536)
      → report_size ≤ output_length
  unfolding stream_text
  report_fits h few fits =
      simp line_sizes
      (omega (
        arith,
        decimal_within 19 margin (omega arith),
        cells_length 0 (classes_of p stream) stream (omega arith) fits,
        decimal_within 3 (length stream) (omega arith),
      ))

  pub report_length : length (report_text p margin stream) ≡ report_size
  unfolding report_text
  report_length = simp length-append

  pub report_stored : (out : List ℕ) (cells end : ℕ)
      → cells ≡ 0 + length (margin_line margin)
      → end ≡ cells + length (stream_text p stream)
      → stored_at (stored_at (stored_at out 0 (margin_line margin)) cells (stream_text p stream)) end (end_line stream)
      ≡ stored_at out 0 (report_text p margin stream)
  unfolding report_text
  report_stored out cells end e k =
      rw (stored_after_stored _ _ out 0 cells e) (stored_after_stored _ _ out 0 end
      (omega (arith, length-append (margin_line margin) (stream_text p stream))))
