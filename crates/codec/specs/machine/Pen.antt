-- Machine, not meaning: laws tie it to the stream (`proofs/StreamLaws`). No lemmas here.
-- The writer's pen over written bytes, with the output that it leaves.
use Rattle.std.specs.Prelude.{ℕ, ◌+◌, ◌*◌, ◌/◌, ◌%◌, cond, List, [], ◌∷◌, eqb, ltb, get_or, set}
use Rattle.codec.specs.machine.Windows.{cells_in}
use Rattle.codec.specs.declared.pen.Pen.{Pen}

-- the cells so far, and the output
pub record Drawing : Type 0 where
  pub cells : ℕ
  pub out : List ℕ

abbrev pub drawing : ℕ → List ℕ → Drawing
drawing cells out = record { cells = cells; out = out }

-- a pen and the output
pub record Writing : Type 0 where
  pub pen : Pen
  pub out : List ℕ

abbrev pub writing : Pen → List ℕ → Writing
writing pen out = record { pen = pen; out = out }

-- before the first byte: the lead 0
abbrev pub fresh_pen : Pen
fresh_pen = record { previous = 0; cells = 0 }

-- two lengths are stored, and one or two cells ended
unfoldable pub laid : List ℕ → Drawing → ℕ → Drawing
laid table d w =
    drawing (d.cells + cells_in w)
    (set (set d.out d.cells (get_or table (2 * w) 0)) (d.cells + 1) (get_or table (2 * w + 1) 0))

-- the lead 0 ends no cell
unfoldable pub entered : List ℕ → Drawing → ℕ → Drawing
entered table d w =
    cond (eqb d.cells 0) (drawing 1 (set d.out 0 (get_or table (2 * w + 1) 0))) (laid table d w)

unfoldable pub laid_all : List ℕ → Drawing → List ℕ → Drawing
laid_all table d [] = d
laid_all table d (w ∷ ws) = laid_all table (laid table d w) ws

-- the last bit of the byte before, and a byte's first three
abbrev pub first_window : ℕ → ℕ → ℕ
first_window previous byte = previous % 16 * 4 + byte / 64

abbrev pub second_window : ℕ → ℕ → ℕ
second_window previous byte = previous % 4 * 16 + byte / 16

abbrev pub drawing_of : Writing → Drawing
drawing_of s = drawing s.pen.cells s.out

unfoldable pub begun : List ℕ → Writing → ℕ → Drawing
begun table s byte =
    laid table (entered table (drawing_of s) (first_window s.pen.previous byte))
    (second_window s.pen.previous byte)

-- what is left of a byte; behind a mark's missing clock bit the cells are those of other data
unfoldable pub windows_left : ℕ → List ℕ
windows_left w =
    cond (ltb 255 w) (cond (eqb w 0x1a1) (41 ∷ 20 ∷ []) (57 ∷ 20 ∷ 41 ∷ [])) (w / 4 ∷ w % 64 ∷ [])

unfoldable pub finished : List ℕ → Drawing → ℕ → Drawing
finished table d w = laid_all table d (windows_left w)

-- mark A1 leaves the cells as 1001 does
unfoldable pub last_bits : ℕ → ℕ
last_bits w = cond (eqb w 0x1a1) 9 w

abbrev pub leaves : ℕ → Drawing → Writing
leaves w d = writing (record { previous = last_bits w; cells = d.cells }) d.out

unfoldable pub wrote_byte : List ℕ → Writing → ℕ → Writing
wrote_byte table s w = leaves w (finished table (begun table s (w % 256)) w)

unfoldable pub wrote : List ℕ → Writing → List ℕ → Writing
wrote table s [] = s
wrote table s (w ∷ ws) = wrote table (wrote_byte table s w) ws

-- the two closing 0s
unfoldable pub closed : List ℕ → Writing → Drawing
closed table s =
    let d = entered table (drawing_of s) (first_window s.pen.previous 0) in
    drawing (d.cells + 1) (set d.out d.cells (get_or table (s.pen.previous % 4 * 32) 0))
