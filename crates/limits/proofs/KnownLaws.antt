-- What is to be known of a side so that the search misses nothing on it: the nearest length to the edge is one that a
-- one-byte list up to 1B has. Rests on no axiom.
use Prim.Native.Nat.{ℕ, ◌+◌, ◌-◌, ◌≤◌, ◌<◌}
use mathlib.Core.Path.{◌≡◌}
use mathlib.Core.Bool.{Bool, true, false, not, false≢true}
use mathlib.Core.List.{[], ◌∷◌}
use native.Mathlib.Omega.{arith}
use lib.ListN.{length, get_or}
use Rattle.timing.specs.declared.Profile.{Profile}
use Rattle.symbols.specs.Cells.{written_cells}
use Rattle.lengths.specs.Stream.{byte_stream}
use Rattle.lengths.specs.Margin.{after_two, margin_of}
use Rattle.lengths.proofs.KindLaws.{CellLength}
use Rattle.lengths.proofs.PapersMargin.{written_one, one_byte_is_written}
use Rattle.limits.specs.Sides.{counts, edge_of, reaches, crosses, beyond}
use Rattle.limits.specs.Limits.{one_more, CrossesAt}
use Rattle.limits.specs.declared.side.Side.{Side}
use Rattle.limits.proofs.EdgeLaws.{On, Stays, Nearer, Divides}

-- a one-byte list up to 1B that shows the side
pub record Shown (p : Profile) (s : Side) : Type 0 where
  pub item : ℕ
  pub is_low : item < 28
  pub place : ℕ
  pub there : CrossesAt p s (item ∷ []) place

abbrev pub edge_at : Profile → Side → ℕ
edge_at p s = edge_of p s.edge s.after

-- with the length that is nearest to the edge
pub record Known (p : Profile) (s : Side) (nearest : ℕ) : Type 0 where
  pub shows : reaches s.above (edge_at p s) (one_more p) nearest ≡ true → Shown p s
  pub none_nearer
      : (two : Bool) {l u : ℕ}
      → counts s.after two ≡ true
      → CellLength p l two u
      → On s.above (edge_at p s) l
      → Nearer s.above nearest l
  pub margin_stays : Stays s.above (margin_of p) (edge_at p s) nearest
  -- the class beyond
  pub divides
      : (two : Bool) (l : ℕ)
      → counts s.after two ≡ true
      → On s.above (edge_at p s) l
      → Divides p two (beyond p s) l

-- what holds after one kind holds of each length that counts on its sides
for_short : (P : Bool → Type 0) → P true → (two : Bool) → two ≡ true → P two
for_short P h true e = h
for_short P h false e = absurd (false≢true e)

for_long : (P : Bool → Type 0) → P false → (two : Bool) → not two ≡ true → P two
for_long P h true e = absurd (false≢true e)
for_long P h false e = h

pub on_left : (low l d m : ℕ) → low + d + m ≤ l → low + m ≤ l - d
on_left low l d m h = omega arith

pub on_right : (l d high m : ℕ) → d ≤ l → l + m < high + d → l - d + m < high
on_right l d high m h g = omega arith

module _ (p : Profile) (there l : ℕ) where
  pub short_divides : Divides p true there l → (two : Bool) → two ≡ true → Divides p two there l
  short_divides = for_short (λ t. Divides p t there l)

  pub long_divides : Divides p false there l → (two : Bool) → not two ≡ true → Divides p two there l
  long_divides = for_long (λ t. Divides p t there l)

module _ {p : Profile} where
  pub short_cell_length : {l u : ℕ} (two : Bool) → two ≡ true → CellLength p l two u → CellLength p l true u
  short_cell_length {l} {u} = for_short (λ t. CellLength p l t u → CellLength p l true u) (λ w. w)

  pub long_cell_length : {l u : ℕ} (two : Bool) → not two ≡ true → CellLength p l two u → CellLength p l false u
  long_cell_length {l} {u} = for_long (λ t. CellLength p l t u → CellLength p l false u) (λ w. w)

  pub shown_by
      : (s : Side) (b place l : ℕ)
      → b < 28
      → place < length (byte_stream p (b ∷ []))
      → get_or (byte_stream p (b ∷ [])) place 0 ≡ l
      → crosses p s (one_more p) (after_two (written_cells (b ∷ [])) place) l ≡ true
      → Shown p s
  shown_by s b place l low inside same over =
      let stream = one_byte_is_written p b (omega (arith, low)) in
      let one = written_one b (omega (arith, low)) in
      record {
        item = b;
        is_low = low;
        place = place;
        there = record { in_stream = rw stream inside; crosses_edge = rw (stream, one, same) over };
      }
