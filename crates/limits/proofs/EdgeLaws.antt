-- What it means to reach an edge, in numbers, and what class stands on the other side of it: the class of the first
-- length beyond an edge is another one than that of any length on this side. Rests on no axiom.
use Prim.Native.Nat.{ℕ, ◌+◌, ◌≤◌, ◌<◌}
use mathlib.Core.Path.{◌≡◌, sym, ◌∙◌}
use mathlib.Core.Bool.{Bool, true, false}
use native.Mathlib.Omega.{arith}
use lib.Dec.{ltb, leb}
use borrow.Author.Tests.{ltb-true, leb-true, lt-ltb, le-leb}
use Rattle.lists.proofs.BoolLaws.{both}
use Rattle.timing.specs.Class.{cursor_of, class_of}
use Rattle.timing.specs.declared.Profile.{Profile}
use Rattle.timing.specs.declared.Class.TheVariants.{Narrow, Two, Three, Four, Wide}
use Rattle.timing.specs.declared.cursor.Cursor.{Cursor}
use Rattle.timing.proofs.ClassLaws.{bounds_of}
use Rattle.timing.proofs.StandLaws.{Stands, stands, narrow, wide, within_two, within_three, within_four}
use Rattle.limits.specs.Sides.{reaches}

-- ---- on a side of an edge

-- a length below the edge, or above it
abbrev pub On : Bool → ℕ → ℕ → Type 0
On false edge l = l < edge
On true edge l = edge ≤ l

-- it stays there if moved by m
abbrev pub Stays : Bool → ℕ → ℕ → ℕ → Type 0
Stays false m edge l = l + m < edge
Stays true m edge l = edge + m ≤ l

-- one length is at least as near to the edge as the other
abbrev pub Nearer : Bool → ℕ → ℕ → Type 0
Nearer false near l = l ≤ near
Nearer true near l = near ≤ l

module _ (edge n : ℕ) where
  pub reaches_from : (above : Bool) (l : ℕ) → reaches above edge n l ≡ true → On above edge l
  reaches_from false l e = ltb-true l edge (both (ltb l edge) (leb edge (l + n)) e).0
  reaches_from true l e = leb-true edge l (both (leb edge l) (ltb l (edge + n)) e).0

  -- what is nearer reaches it too
  pub nearer_reaches
      : (above : Bool) (near l : ℕ)
      → reaches above edge n l ≡ true
      → On above edge near
      → Nearer above near l
      → reaches above edge n near ≡ true
  nearer_reaches false near l e on nearer =
      let over = leb-true edge (l + n) (both (ltb l edge) (leb edge (l + n)) e).1 in
      rw (lt-ltb near edge on, le-leb edge (near + n) (omega (arith, over, nearer)))
  nearer_reaches true near l e on nearer =
      let over = ltb-true l (edge + n) (both (leb edge l) (ltb l (edge + n)) e).1 in
      rw (le-leb edge near on, lt-ltb near (edge + n) (omega (arith, over, nearer)))

pub stays_on : (above : Bool) (m edge l : ℕ) → Stays above m edge l → On above edge l
stays_on false m edge l h = omega arith
stays_on true m edge l h = omega arith

pub nearer_stays
    : (above : Bool) (m edge near l : ℕ) → Nearer above near l → Stays above m edge near → Stays above m edge l
nearer_stays false m edge near l h g = omega arith
nearer_stays true m edge near l h g = omega arith

-- ---- the class beyond an edge

-- the class there is another one
abbrev pub Divides : Profile → Bool → ℕ → ℕ → Type 0
Divides p two there l = class_of p two there ≡ class_of p two l → ⊥

module _ {c : Cursor} {d : ℕ} where
  below_narrow : Stands c d Narrow → d < c.min.0
  below_narrow (narrow h) = h

  above_wide : Stands c d Wide → c.rpt.0 ≤ d
  above_wide (wide h) = h

module _ (p : Profile) (two : Bool) (l there : ℕ) where
  pub min_divides : p.min.0 ≤ l → class_of p two there ≡ Narrow → Divides p two there l
  unfolding class_of cursor_of
  min_divides on e same =
      let under = below_narrow {c = cursor_of p two} {d = l} (rw (← (sym same ∙ e)) (stands (cursor_of p two) l)) in
      omega (arith, on, under)

  pub rpt_divides : l < p.rpt.0 → class_of p two there ≡ Wide → Divides p two there l
  unfolding class_of cursor_of
  rpt_divides on e same =
      let over = above_wide {c = cursor_of p two} {d = l} (rw (← (sym same ∙ e)) (stands (cursor_of p two) l)) in
      omega (arith, on, over)

  pub b23_divides_up : l < (bounds_of p two).b23.0 → class_of p two there ≡ Three → Divides p two there l
  b23_divides_up on e same = let inside = (within_three p two l (sym same ∙ e)).0 in omega (arith, on, inside)

  pub b23_divides_down : (bounds_of p two).b23.0 ≤ l → class_of p two there ≡ Two → Divides p two there l
  b23_divides_down on e same = let inside = (within_two p two l (sym same ∙ e)).1 in omega (arith, on, inside)

  pub b34_divides_up : l < (bounds_of p two).b34.0 → class_of p two there ≡ Four → Divides p two there l
  b34_divides_up on e same = let inside = (within_four p two l (sym same ∙ e)).0 in omega (arith, on, inside)

  pub b34_divides_down : (bounds_of p two).b34.0 ≤ l → class_of p two there ≡ Three → Divides p two there l
  b34_divides_down on e same = let inside = (within_three p two l (sym same ∙ e)).1 in omega (arith, on, inside)
