-- Document 02, (xii): the sides of the window edges, and when a length crosses one. No lemmas here.
use Rattle.std.specs.Prelude.{ℕ, ◌+◌, ◌-◌, Bool, true, false, cond, not, ◌&&◌, List, [], ◌∷◌, ltb, leb}
use Rattle.timing.specs.declared.Profile.{Profile}
use Rattle.timing.specs.declared.Bounds.{Bounds}
use Rattle.limits.specs.declared.side.Side.{Side}
use Rattle.limits.specs.declared.side.Edge.{Edge}
use Rattle.limits.specs.declared.side.Edge.TheVariants.{Min, B23, B34, Rpt}
use Rattle.limits.specs.declared.side.Kind.{Kind}
use Rattle.limits.specs.declared.side.Kind.TheVariants.{Both, Short, Long}

-- in the order Min, B23, B34, Rpt, after-short before after-long, the lengths below the edge before those above; Min
-- and Rpt count once, over both kinds. No length is written below Min, and none above Rpt
abbrev pub sides : List Side
sides =
    record { edge = Min; after = Both; above = true }
    ∷ record { edge = B23; after = Short; above = false }
    ∷ record { edge = B23; after = Short; above = true }
    ∷ record { edge = B23; after = Long; above = false }
    ∷ record { edge = B23; after = Long; above = true }
    ∷ record { edge = B34; after = Short; above = false }
    ∷ record { edge = B34; after = Short; above = true }
    ∷ record { edge = B34; after = Long; above = false }
    ∷ record { edge = B34; after = Long; above = true }
    ∷ record { edge = Rpt; after = Both; above = false }
    ∷ []

-- whether a length after a cell of class 2, or after any other, is of the kind
abbrev pub counts : Kind → Bool → Bool
counts Both two = true
counts Short two = two
counts Long two = not two

-- the pair that holds after the kind; Min and Rpt, which alone count over both, are no pairs
abbrev pub bounds_after : Profile → Kind → Bounds
bounds_after p Both = p.short
bounds_after p Short = p.short
bounds_after p Long = p.long

-- the edge
abbrev pub edge_of : Profile → Edge → Kind → ℕ
edge_of p Min after = p.min.0
edge_of p B23 after = (bounds_after p after).b23.0
edge_of p B34 after = (bounds_after p after).b34.0
edge_of p Rpt after = p.rpt.0

-- a length on that side of the edge that is on the other side if it is moved towards it by n: the lengths above an edge
-- begin at the edge itself
abbrev pub reaches : Bool → ℕ → ℕ → ℕ → Bool
reaches false edge n length = ltb length edge && leb edge (length + n)
reaches true edge n length = leb edge length && ltb length (edge + n)

-- a length, after a cell of class 2 or after any other, on that side, that crosses the edge if moved by n
unfoldable pub crosses : Profile → Side → ℕ → Bool → ℕ → Bool
crosses p s n two length = counts s.after two && reaches s.above (edge_of p s.edge s.after) n length

-- the first length on the other side
abbrev pub beyond : Profile → Side → ℕ
beyond p s = cond s.above (edge_of p s.edge s.after - 1) (edge_of p s.edge s.after)
