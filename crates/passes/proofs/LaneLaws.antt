-- Cells as the bytes of one number: their running sums are below 256, so that sums, moves and bits of the number are
-- those of each byte by itself. Rests on no axiom.
use Rattle.std.proofs.Common.{◌≡◌, ℕ, ◌+◌, ◌*◌, ◌/◌, ◌%◌, ◌^◌, ◌<◌, ◌≤◌, Bool, true, false, not, ◌&&◌, ◌||◌, eqb, List, [], ◌∷◌, refl, ap, ◌∙◌, mod-eq_of_lt, arith, eq-eqb, ne_eqb}
use native.Mathlib.Decide.{ℕ_discrete}
use lib.Arith.{digits_div, digits_mod}
use lib.Bits.{bit_and, and_comm, and_mask, and_shifted, and_block}
use Rattle.lists.specs.Sum.{sum_of}
use Rattle.symbols.specs.machine.Step.{AllCells}
use Rattle.symbols.specs.machine.Gaps.{gaps_from}
use Rattle.symbols.proofs.EaseLaws.{shifted_out}
use Rattle.passes.specs.machine.Lanes.{packed, with_moved, sums_of}

-- ---- one byte

-- whether a byte is 0
abbrev pub is_none : ℕ → Bool
is_none x = eqb x 0

-- a cell and four times a number: together they have a bit where the cell is of four units and the number odd
short_lane : (n u : ℕ) → u < 4 → bit_and u (n * 2 ^ 2) ≡ 0
short_lane n u few = and_comm u (n * 2 ^ 2) ∙ and_shifted n 2 u few

long_lane : (n : ℕ) → bit_and 4 (n * 2 ^ 2) ≡ n % 2 * 4
long_lane n =
    let here = and_block 2 1 n 0 0 (omega arith) (omega arith) in
    let one = and_comm 1 n ∙ and_mask n 1 in
    let low : n * 2 ^ 2 ≡ n * 2 ^ 2 + 0 = omega arith in
    ap (bit_and 4) low ∙ here ∙ ap (λ (x : ℕ). x * 2 ^ 2 + 0) one ∙ omega arith

even_after : (n : ℕ) → ((n + 1) % 2 ≡ 0 → ⊥) → (n + 4) % 2 ≡ 0
even_after n odd =
    let one : (n + 1) % 2 ≡ 1 = omega arith in
    let twice : n + 4 ≡ ((n + 1) / 2 + 2) * 2 + 0 = omega arith in
    rw twice (digits_mod ((n + 1) / 2 + 2) (omega arith))

odd_after : (n : ℕ) → (n + 1) % 2 ≡ 0 → (n + 4) % 2 ≡ 1
odd_after n even =
    let twice : n + 4 ≡ ((n + 1) / 2 + 1) * 2 + 1 = omega arith in
    rw twice (digits_mod ((n + 1) / 2 + 1) (omega arith))

lane_by_parity
    : (n u : ℕ) → 2 ≤ u → u ≤ 4 → is_none (bit_and u ((n + u) * 2 ^ 2)) ≡ not (eqb u 4 && eqb ((n + 1) % 2) 0)
lane_by_parity n u low high =
    elim (ℕ_discrete u 4) [
      | yes e ↦
          rw (e, long_lane (n + 4)) (elim (ℕ_discrete ((n + 1) % 2) 0) [
            | yes even ↦ rw (eq-eqb _ 0 even, odd_after n even)
            | no odd ↦ rw (ne_eqb _ 0 odd, even_after n odd)
          ])
      | no ne ↦ rw (ne_eqb u 4 ne, short_lane (n + u) u (omega arith))
    ]

-- ---- all bytes

-- four times the running sums, after n
unfoldable pub flags_from : ℕ → List ℕ → List ℕ
flags_from n [] = []
flags_from n (u ∷ us) = (n + u) * 2 ^ 2 ∷ flags_from (n + u) us

not_either : (a b : Bool) → (not a && not b) ≡ not (a || b)
not_either true b = refl
not_either false b = refl

none_in_both : (a b : ℕ) → is_none (a * 2 ^ 8 + b) ≡ (is_none b && is_none a)
none_in_both a b =
    elim (ℕ_discrete b 0) [
      | yes e ↦
          elim (ℕ_discrete a 0) [
            | yes e' ↦ rw (eq-eqb b 0 e, eq-eqb a 0 e', eq-eqb (a * 2 ^ 8 + b) 0 (omega arith))
            | no ne ↦ rw (eq-eqb b 0 e, ne_eqb a 0 ne, ne_eqb (a * 2 ^ 8 + b) 0 (λ h. omega arith))
          ]
      | no ne ↦ rw (ne_eqb b 0 ne, ne_eqb (a * 2 ^ 8 + b) 0 (λ h. omega arith))
    ]

pub gaps_by_lanes
    : (n : ℕ) (us : List ℕ)
    → AllCells us
    → (n + sum_of us) * 2 ^ 2 < 2 ^ 8
    → is_none (bit_and (packed us) (packed (flags_from n us))) ≡ not (gaps_from (n + 1) us)
unfolding packed flags_from gaps_from AllCells sum_of
gaps_by_lanes n [] cells few = refl
gaps_by_lanes n (u ∷ us) cells few =
    let (low, high, later) = cells in
    let next : n + 1 + u ≡ n + u + 1 = omega arith in
    let rest = gaps_by_lanes (n + u) us later (omega arith) in
    rw (
      and_block 8 (packed us) (packed (flags_from (n + u) us)) u ((n + u) * 2 ^ 2) (omega arith) (omega arith),
      none_in_both,
      lane_by_parity n u low high,
      rest,
      next,
    )
    (not_either (eqb u 4 && eqb ((n + 1) % 2) 0) _)

-- ---- eight running sums

moved_on
    : (places below x low high : ℕ)
    → 64 ≡ below + places
    → x ≡ high * 2 ^ below + low
    → low < 2 ^ below
    → x + low * 2 ^ places < 2 ^ 64
    → with_moved places x ≡ x + low * 2 ^ places
moved_on places below x low high all parts small fits =
    let kept : x % 2 ^ below ≡ low = rw parts (digits_mod high small) in
    rw (shifted_out 64 x below places all, kept) (mod-eq_of_lt fits)

module _ (a b c d e f g h : ℕ) (cells : AllCells (a ∷ b ∷ c ∷ d ∷ e ∷ f ∷ g ∷ h ∷ [])) where
  abbrev eight : List ℕ
  eight = a ∷ b ∷ c ∷ d ∷ e ∷ f ∷ g ∷ h ∷ []

  abbrev twos : List ℕ
  twos = a ∷ (a + b) ∷ (b + c) ∷ (c + d) ∷ (d + e) ∷ (e + f) ∷ (f + g) ∷ (g + h) ∷ []

  abbrev fours : List ℕ
  fours =
      a ∷ (a + b) ∷ (a + b + c) ∷ (a + b + c + d) ∷ (b + c + d + e) ∷ (c + d + e + f) ∷ (d + e + f + g)
      ∷ (e + f + g + h) ∷ []

  abbrev sums : List ℕ
  sums =
      a ∷ (a + b) ∷ (a + b + c) ∷ (a + b + c + d) ∷ (a + b + c + d + e) ∷ (a + b + c + d + e + f)
      ∷ (a + b + c + d + e + f + g) ∷ (a + b + c + d + e + f + g + h) ∷ []

  two_moved : with_moved 8 (packed eight) ≡ packed twos
  unfolding packed AllCells
  two_moved =
      moved_on 8 56 (packed eight) (packed (a ∷ b ∷ c ∷ d ∷ e ∷ f ∷ g ∷ [])) h refl (omega arith) (omega arith)
      (omega arith) ∙ omega arith

  four_moved : with_moved 16 (packed twos) ≡ packed fours
  unfolding packed AllCells
  four_moved =
      moved_on 16 48 (packed twos) (packed (a ∷ (a + b) ∷ (b + c) ∷ (c + d) ∷ (d + e) ∷ (e + f) ∷ []))
      ((g + h) * 2 ^ 8 + (f + g)) refl (omega arith) (omega arith) (omega arith)
      ∙ omega arith

  eight_moved : with_moved 32 (packed fours) ≡ packed sums
  unfolding packed AllCells
  eight_moved =
      moved_on 32 32 (packed fours) (packed (a ∷ (a + b) ∷ (a + b + c) ∷ (a + b + c + d) ∷ []))
      (packed ((b + c + d + e) ∷ (c + d + e + f) ∷ (d + e + f + g) ∷ (e + f + g + h) ∷ [])) refl (omega arith)
      (omega arith) (omega arith)
      ∙ omega arith

  sums_are : sums_of (packed eight) ≡ packed sums
  unfolding sums_of
  sums_are = rw (two_moved, four_moved, eight_moved)

  pub last_sum : sums_of (packed eight) / 2 ^ 56 ≡ sum_of eight
  unfolding packed sum_of AllCells
  last_sum =
      let low : ℕ = packed (a ∷ (a + b) ∷ (a + b + c) ∷ (a + b + c + d) ∷ (a + b + c + d + e)
      ∷ (a + b + c + d + e + f) ∷ (a + b + c + d + e + f + g) ∷ []) in
      let parts : packed sums ≡ (a + b + c + d + e + f + g + h) * 2 ^ 56 + low = omega arith in
      rw (sums_are, parts) (digits_div (a + b + c + d + e + f + g + h) (omega arith) ∙ omega arith)

  pub flags_are
      : (q p : ℕ)
      → q ≤ 1
      → p ≡ 1 + q
      → (sums_of (packed eight) * 2 ^ 2 % 2 ^ 64 + 0x0404040404040404 * p % 2 ^ 64) % 2 ^ 64
      ≡ packed (flags_from (1 + q) eight)
  unfolding packed flags_from AllCells
  flags_are q p small one =
      let up : packed sums * 2 ^ 2 % 2 ^ 64 ≡ packed sums * 2 ^ 2 = mod-eq_of_lt (omega arith) in
      let long : 0x0404040404040404 * p % 2 ^ 64 ≡ 0x0404040404040404 * p = mod-eq_of_lt (omega arith) in
      rw (sums_are, up, long) (mod-eq_of_lt (omega arith) ∙ omega arith)
