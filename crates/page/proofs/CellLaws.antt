-- Why both halves of a byte give its dots: computed once over all bytes, and carried to each. Rests on no axiom.
use Prim.Native.Nat.{ℕ, ◌+◌, ◌/◌, ◌%◌, ◌≤◌, ◌<◌}
use mathlib.Core.Path.{◌≡◌, refl, sym, ap, ◌∙◌}
use mathlib.Core.Bool.{Bool, true, ◌&&◌}
use native.Mathlib.Omega.{arith}
use borrow.Author.Tests.{leb-true, eqb-true}
use lib.Bits.{bit_and}
use lib.Count.{ones, ones_in}
use lib.Dec.{eqb, leb}
use Rattle.lists.specs.Place.{everywhere}
use Rattle.lists.specs.Table.{tabulated}
use Rattle.lists.proofs.BoolLaws.{both}
use Rattle.lists.proofs.PlaceLaws.{everywhere_at_entry}
use Rattle.sets.specs.Held.{how_many, numbers}
use Rattle.sets.proofs.NumberLaws.{number_at, numbers-length}
use Rattle.page.specs.Page.{is_raised, dots_of_cell}
use Rattle.page.specs.machine.Columns.{pairs_of, halves_of}

-- ---- what holds of every byte

abbrev is_less : ℕ → Bool
is_less cell = leb (bit_and (cell / 2) 0x55) cell

abbrev are_halves : ℕ → Bool
are_halves cell =
    leb (halves_of cell % 16) 4
    && leb (halves_of cell / 16) 4
    && eqb (halves_of cell % 16 + halves_of cell / 16) (dots_of_cell cell)

abbrev are_ones : ℕ → Bool
are_ones cell = eqb (ones cell) (dots_of_cell cell)

all_less : everywhere is_less numbers ≡ true
unfolding everywhere numbers tabulated
all_less = refl

all_halves : everywhere are_halves numbers ≡ true
unfolding everywhere numbers tabulated halves_of pairs_of dots_of_cell how_many is_raised
all_halves = refl

all_ones : everywhere are_ones numbers ≡ true
unfolding everywhere numbers tabulated ones ones_in dots_of_cell how_many is_raised
all_ones = refl

module _ (cell : ℕ) (byte : cell < 256) where
  at_byte : (test : ℕ → Bool) → everywhere test numbers ≡ true → test cell ≡ true
  at_byte test e =
      sym (ap test (number_at cell byte))
      ∙ everywhere_at_entry test numbers 0 cell e (rw numbers-length byte)

  pub half_is_less : bit_and (cell / 2) 0x55 ≤ cell
  half_is_less = leb-true _ _ (at_byte is_less all_less)

  pub ones_are_dots : ones cell ≡ dots_of_cell cell
  ones_are_dots = eqb-true _ _ (at_byte are_ones all_ones)

  abbrev low : ℕ
  low = halves_of cell % 16

  abbrev high : ℕ
  high = halves_of cell / 16

  pub halves_hold : (low ≤ 4) × (high ≤ 4) × (low + high ≡ dots_of_cell cell)
  halves_hold =
      let tested = at_byte are_halves all_halves in
      let bounds = both (leb low 4 && leb high 4) (eqb (low + high) (dots_of_cell cell)) tested in
      let each = both (leb low 4) (leb high 4) bounds.0 in
      (leb-true low 4 each.0, leb-true high 4 each.1, eqb-true _ _ bounds.1)

  pub halves_are_small : halves_of cell ≤ 68
  halves_are_small = omega (arith, halves_hold.0, halves_hold.1)

  pub dots_are_few : dots_of_cell cell ≤ 8
  dots_are_few = omega (arith, halves_hold)

-- ---- three at once

-- no half of three runs over
three_together
    : (x y z : ℕ)
    → x % 16 ≤ 4
    → y % 16 ≤ 4
    → z % 16 ≤ 4
    → ((x + y + z) % 16 ≡ x % 16 + y % 16 + z % 16) × ((x + y + z) / 16 ≡ x / 16 + y / 16 + z / 16)
three_together x y z a b c = (omega arith, omega arith)

pub record Three (a b c : ℕ) : Type 0 where
  pub small : halves_of a + halves_of b + halves_of c ≤ 204
  pub low : (halves_of a + halves_of b + halves_of c) % 16 ≤ 12
  pub high : (halves_of a + halves_of b + halves_of c) / 16 ≤ 12
  pub dots
      : (halves_of a + halves_of b + halves_of c) % 16 + (halves_of a + halves_of b + halves_of c) / 16
      ≡ dots_of_cell a + dots_of_cell b + dots_of_cell c

of_three
    : (t x y z most : ℕ) → t ≡ x + y + z → x ≤ most → y ≤ most → z ≤ most → t ≤ most + most + most
of_three t x y z most e a b c = omega arith

added_up
    : (low high a b c a1 b1 c1 a2 b2 c2 : ℕ)
    → low ≡ a1 + b1 + c1
    → high ≡ a2 + b2 + c2
    → a1 + a2 ≡ a
    → b1 + b2 ≡ b
    → c1 + c2 ≡ c
    → low + high ≡ a + b + c
added_up low high a b c a1 b1 c1 a2 b2 c2 e f g h i = omega arith

pub three_cells : (a b c : ℕ) → a < 256 → b < 256 → c < 256 → Three a b c
three_cells a b c ha hb hc =
    let of_a = halves_hold a ha in
    let of_b = halves_hold b hb in
    let of_c = halves_hold c hc in
    let sum = three_together (halves_of a) (halves_of b) (halves_of c) of_a.0 of_b.0 of_c.0 in
    record {
      small =
          of_three _ (halves_of a) (halves_of b) (halves_of c) 68 refl (halves_are_small a ha) (halves_are_small b hb)
          (halves_are_small c hc);
      low = of_three _ _ _ _ 4 sum.0 of_a.0 of_b.0 of_c.0;
      high = of_three _ _ _ _ 4 sum.1 of_a.1 of_b.1 of_c.1;
      dots = added_up _ _ _ _ _ _ _ _ _ _ _ sum.0 sum.1 of_a.2 of_b.2 of_c.2;
    }

pub dots_of_three_are_few
    : (a b c : ℕ) → a < 256 → b < 256 → c < 256 → dots_of_cell a + dots_of_cell b + dots_of_cell c ≤ 24
dots_of_three_are_few a b c ha hb hc =
    of_three _ (dots_of_cell a) (dots_of_cell b) (dots_of_cell c) 8 refl (dots_are_few a ha) (dots_are_few b hb)
    (dots_are_few c hc)
