-- The pen moves on with each window, and leaves the output as long as it was; bytes one after the other are a fold.
-- Rests on no axiom.
use Prim.Native.Nat.{ℕ, ◌+◌, ◌*◌, ◌/◌, ◌%◌, ◌≤◌, ◌<◌}
use mathlib.Core.Path.{◌≡◌, refl, ap, ap₂, ◌∙◌}
use mathlib.Core.Bool.{Bool, true, false, cond, ◌&&◌}
use mathlib.Core.List.{List, [], ◌∷◌, ◌++◌}
use native.Mathlib.Numerals.{add-one}
use native.Mathlib.Omega.{arith}
use borrow.Author.Tests.{eqb-true, ne_eqb, lt-ltb, le-ltb}
use lib.Dec.{eqb}
use lib.ListN.{length, get_or, drop, set, length-set}
use lib.Seq.{drop-cons}
use Rattle.codec.specs.machine.Windows.{ends, cells_at, bit_at, cells_in}
use Rattle.codec.specs.machine.Pen.{Drawing, drawing, Writing, laid, entered, laid_all, drawing_of, begun, finished}
use Rattle.codec.specs.machine.Pen.{windows_left, wrote_byte, wrote, closed, first_window, second_window, writing}
use Rattle.codec.specs.machine.Pen.{last_bits, leaves}

pub one_at_least : (w : ℕ) → 1 ≤ cells_in w
unfolding cells_in cells_at
one_at_least w = of_either (ends (bit_at w 8) (bit_at w 4) && ends (bit_at w 4) (bit_at w 2))
  where
    of_either : (t : Bool) → 1 ≤ cond t 2 1
    of_either true = omega arith
    of_either false = omega arith

module _ (table : List ℕ) where
  -- ---- on

  pub laid_moves_on : (d : Drawing) (w : ℕ) → d.cells < (laid table d w).cells
  unfolding laid
  laid_moves_on d w = let more = one_at_least w in omega arith

  pub entered_moves_on : (d : Drawing) (w : ℕ) → d.cells < (entered table d w).cells
  unfolding entered
  entered_moves_on d w =
      (elim (eqb d.cells 0) as (λ t.
      eqb d.cells 0 ≡ t
      → d.cells < (cond t (drawing 1 (set d.out 0 (get_or table (2 * w + 1) 0))) (laid table d w)).cells) [
        | true ↦ λ e. let none = eqb-true d.cells 0 e in omega arith
        | false ↦ λ e. laid_moves_on d w
      ]) refl

  pub all_move_on : (d : Drawing) (ws : List ℕ) → d.cells ≤ (laid_all table d ws).cells
  unfolding laid_all
  all_move_on d [] = omega arith
  all_move_on d (w ∷ ws) = omega (arith, laid_moves_on d w, all_move_on (laid table d w) ws)

  pub begun_moves_on : (s : Writing) (byte : ℕ) → s.pen.cells < (begun table s byte).cells
  unfolding begun
  begun_moves_on s byte =
      omega (
        arith,
        entered_moves_on (drawing_of s) (first_window s.pen.previous byte),
        laid_moves_on (entered table (drawing_of s) (first_window s.pen.previous byte))
            (second_window s.pen.previous byte),
      )

  pub byte_moves_on : (s : Writing) (w : ℕ) → s.pen.cells < (wrote_byte table s w).pen.cells
  unfolding wrote_byte finished
  byte_moves_on s w =
      omega (arith, begun_moves_on s (w % 256), all_move_on (begun table s (w % 256)) (windows_left w))

  pub bytes_move_on : (s : Writing) (ws : List ℕ) → s.pen.cells ≤ (wrote table s ws).pen.cells
  unfolding wrote
  bytes_move_on s [] = omega arith
  bytes_move_on s (w ∷ ws) = omega (arith, byte_moves_on s w, bytes_move_on (wrote_byte table s w) ws)

  pub closing_moves_on : (s : Writing) → s.pen.cells + 1 < (closed table s).cells
  unfolding closed
  closing_moves_on s = omega (arith, entered_moves_on (drawing_of s) (first_window s.pen.previous 0))

  -- ---- as long as it was

  pub laid-length : (d : Drawing) (w : ℕ) → length (laid table d w).out ≡ length d.out
  unfolding laid
  laid-length d w = simp length-set

  pub entered-length : (d : Drawing) (w : ℕ) → length (entered table d w).out ≡ length d.out
  unfolding entered
  entered-length d w =
      elim (eqb d.cells 0) as (λ t.
      length (cond t (drawing 1 (set d.out 0 (get_or table (2 * w + 1) 0))) (laid table d w)).out ≡ length d.out)
      [ true ↦ simp length-set | false ↦ laid-length d w ]

  pub all_length : (d : Drawing) (ws : List ℕ) → length (laid_all table d ws).out ≡ length d.out
  unfolding laid_all
  all_length d [] = refl
  all_length d (w ∷ ws) = all_length (laid table d w) ws ∙ laid-length d w

  pub begun-length : (s : Writing) (byte : ℕ) → length (begun table s byte).out ≡ length s.out
  unfolding begun
  begun-length s byte = laid-length _ _ ∙ entered-length (drawing_of s) _

  pub byte_length : (s : Writing) (w : ℕ) → length (wrote_byte table s w).out ≡ length s.out
  unfolding wrote_byte finished
  byte_length s w = all_length (begun table s (w % 256)) (windows_left w) ∙ begun-length s (w % 256)

  pub bytes_length : (s : Writing) (ws : List ℕ) → length (wrote table s ws).out ≡ length s.out
  unfolding wrote
  bytes_length s [] = refl
  bytes_length s (w ∷ ws) = bytes_length (wrote_byte table s w) ws ∙ byte_length s w

  -- ---- as the code has it: what was drawn is known by an equation

  pub entered_later : (d : Drawing) (w : ℕ) → (d.cells ≡ 0 → ⊥) → entered table d w ≡ laid table d w
  unfolding entered
  entered_later d w some = rw (ne_eqb d.cells 0 some)

  -- where the end has places, the next window has
  pub next_fits
      : (d d' : Drawing) (w n : ℕ)
      → d' ≡ d
      → (laid table d w).cells < n
      → n ≡ length d.out
      → d'.cells + cells_in w < length d'.out
  unfolding laid
  next_fits d d' w n e fits same = rw (e, ← same) fits

  pub left_fits
      : (d d' : Drawing) (w : ℕ) (ws : List ℕ) (n : ℕ)
      → d' ≡ d
      → (laid_all table d (w ∷ ws)).cells < n
      → n ≡ length d.out
      → d'.cells + cells_in w < length d'.out
  unfolding laid_all
  left_fits d d' w ws n e fits same =
      next_fits d d' w n e (omega (arith, all_move_on (laid table d w) ws)) same

  pub finish_fits
      : (d d' : Drawing) (w n : ℕ)
      → d' ≡ d
      → (finished table d w).cells < n
      → n ≡ length d.out
      → (finished table d' w).cells < length d'.out
  finish_fits d d' w n e fits same = rw (e, ← same) fits

  -- ---- a fold

  pub wrote-append : (s : Writing) (us ws : List ℕ) → wrote table s (us ++ ws) ≡ wrote table (wrote table s us) ws
  unfolding wrote
  wrote-append s [] ws = refl
  wrote-append s (u ∷ us) ws = wrote-append (wrote_byte table s u) us ws

  pub wrote_none : (s : Writing) → wrote table s [] ≡ s
  unfolding wrote
  wrote_none s = refl

  -- from place k on
  pub wrote_from : (s : Writing) (ws : List ℕ) (k : ℕ) → k < length ws
      → wrote table s (drop k ws) ≡ wrote table (wrote_byte table s (get_or ws k 0)) (drop (k + 1) ws)
  unfolding wrote
  wrote_from s ws k h = rw (add-one, drop-cons ws k 0) refl

  -- where the end has places, bytes before it have, and those behind them
  pub first_fits
      : (s : Writing) (us ws : List ℕ) (n : ℕ)
      → (wrote table s (us ++ ws)).pen.cells < n
      → (wrote table s us).pen.cells < n
  first_fits s us ws n fits =
      let on = bytes_move_on (wrote table s us) ws in
      let whole : (wrote table s (us ++ ws)).pen.cells ≡ (wrote table (wrote table s us) ws).pen.cells =
      ap (λ (x : Writing). x.pen.cells) (wrote-append s us ws) in
      omega arith

  pub rest_fits
      : (s s' : Writing) (us ws : List ℕ) (n : ℕ)
      → s' ≡ wrote table s us
      → (wrote table s (us ++ ws)).pen.cells < n
      → n ≡ length s.out
      → (wrote table s' ws).pen.cells < length s'.out
  rest_fits s s' us ws n e fits same = rw (e, bytes_length s us, ← same, ← wrote-append s us ws) fits

-- ---- what is left of a byte

pub left_of_data : (w : ℕ) → w ≤ 255 → windows_left w ≡ w / 4 ∷ w % 64 ∷ []
unfolding windows_left
left_of_data w h = rw (le-ltb 255 w h)

pub left_of_a1 : (w : ℕ) → 255 < w → w ≡ 0x1a1 → windows_left w ≡ 41 ∷ 20 ∷ []
unfolding windows_left
left_of_a1 w h e = rw e

pub left_of_c2 : (w : ℕ) → 255 < w → (w ≡ 0x1a1 → ⊥) → windows_left w ≡ 57 ∷ 20 ∷ 41 ∷ []
unfolding windows_left
left_of_c2 w h other = rw (lt-ltb 255 w h, ne_eqb w 0x1a1 other)

pub bits_of_a1 : (w : ℕ) → w ≡ 0x1a1 → 9 ≡ last_bits w
unfolding last_bits
bits_of_a1 w e = rw e

pub bits_of_others : (w : ℕ) → (w ≡ 0x1a1 → ⊥) → w ≡ last_bits w
unfolding last_bits
bits_of_others w other = rw (ne_eqb w 0x1a1 other)

pub left_so
    : (w n : ℕ) (d e : Drawing)
    → n ≡ last_bits w
    → d ≡ e
    → writing (record { previous = n; cells = d.cells }) d.out ≡ leaves w e
left_so w n d e bits same =
    ap₂ (λ (m : ℕ) (f : Drawing). writing (record { previous = m; cells = f.cells }) f.out) bits same
