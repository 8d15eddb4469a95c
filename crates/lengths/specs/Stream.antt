-- Document 01, "From bits to cells": the stream of a list. No lemmas here.
use Rattle.std.specs.Prelude.{ℕ, List}
use Rattle.items.specs.Written.{written}
use Rattle.symbols.specs.Cells.{written_symbols}
use Rattle.timing.specs.declared.Profile.{Profile}
use Rattle.lengths.specs.Lengths.{lengths_of}

-- the lengths of the cells of written bytes, in order
unfoldable pub byte_stream : Profile → List ℕ → List ℕ
byte_stream p ws = lengths_of p (written_symbols ws)

-- the writer's result for a list of items
unfoldable pub stream_of : Profile → List ℕ → List ℕ
stream_of p items = byte_stream p (written items)
