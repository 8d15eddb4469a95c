-- How many lengths a stream has: one for each cell. Rests on no axiom.
use Prim.Native.Nat.{ℕ, zero, suc}
use mathlib.Core.Path.{◌≡◌, refl, ap}
use mathlib.Core.Bool.{Bool, true, false}
use mathlib.Core.List.{List, [], ◌∷◌}
use lib.ListN.{length}
use Rattle.timing.specs.declared.Profile.{Profile}
use Rattle.symbols.specs.Cells.{cells_from, cells_of, written_cells, written_symbols}
use Rattle.lengths.specs.Lengths.{lengths_from, lengths_of}
use Rattle.lengths.specs.Stream.{byte_stream}

-- the symbol before what follows, in a cell with so many 0s
abbrev pub no_zero : ℕ → Bool
no_zero zero = true
no_zero (suc z) = false

lengths_are_as_many_as_cells :
    (p : Profile) (ss : List Bool) (start zeros units : ℕ) (before : Bool)
    → length (lengths_from p start zeros before ss) ≡ length (cells_from units ss)
unfolding cells_from lengths_from
lengths_are_as_many_as_cells p [] start zeros units before = refl
lengths_are_as_many_as_cells p (false ∷ ss) start zeros units before =
    lengths_are_as_many_as_cells p ss start (suc zeros) (suc units) false
lengths_are_as_many_as_cells p (true ∷ ss) start zeros units before =
    ap suc (lengths_are_as_many_as_cells p ss _ 0 2 true)

pub stream_is_as_long_as_its_cells : (p : Profile) (ws : List ℕ) → length (byte_stream p ws) ≡ length (written_cells ws)
unfolding written_cells cells_of byte_stream lengths_of
stream_is_as_long_as_its_cells p ws = lengths_are_as_many_as_cells p (written_symbols ws) _ 0 2 true
