-- Document 01, "The strip program": what is printed. No lemmas here.
use Rattle.std.specs.Prelude.{ℕ, suc, ◌≡◌, List, [], ◌∷◌, ◌++◌, length}
use Rattle.lists.specs.Filled.{filled}
use Rattle.refusal.specs.Answer.{Answer}
use Rattle.text.specs.Ascii.{ascii}
use Rattle.text.specs.Line.{line_of}
use Rattle.timing.specs.Class.{classes_of, class_number}
use Rattle.timing.specs.declared.Profile.{Profile}
use Rattle.timing.specs.declared.Class.{Class}

-- `refused`, number, place
unfoldable pub refusal_text : Answer → List ℕ
refusal_text answer = line_of (ascii "refused") (answer.number ∷ answer.place ∷ [])

-- per cell its place, class and length
unfoldable pub cell_text : ℕ → Class → ℕ → List ℕ
cell_text place c d = line_of (ascii "cell") (place ∷ class_number c ∷ d ∷ [])

-- cells in order, by their classes and their lengths, the first having place k
unfoldable pub cells_text : ℕ → List Class → List ℕ → List ℕ
cells_text k [] ds = []
cells_text k (c ∷ cs) [] = []
cells_text k (c ∷ cs) (d ∷ ds) = cell_text k c d ++ cells_text (suc k) cs ds

-- the cells of a stream
unfoldable pub stream_text : Profile → List ℕ → List ℕ
stream_text p stream = cells_text 0 (classes_of p stream) stream

-- the margin; the cells; the number of cells
unfoldable pub report_text : Profile → ℕ → List ℕ → List ℕ
report_text p margin stream =
    line_of (ascii "margin") (margin ∷ []) ++ stream_text p stream ++ line_of (ascii "end") (length stream ∷ [])

-- a text was printed: the output begins with it, the remainder keeps its bytes, and the answer is how long the text is
pub record Printed (text : List ℕ) (r : ℕ) (before after : List ℕ) : Type 0 where
  pub size : r ≡ length text
  pub output : after ≡ filled text before
