-- Cells looked at by eights, in the bytes of one number: eight after eight, what they have is what all have. Rests on
-- no axiom.
use Rattle.std.proofs.Common.{◌≡◌, ℕ, suc, ◌+◌, ◌*◌, ◌/◌, ◌%◌, ◌^◌, ◌<◌, ◌≤◌, Bool, true, false, not, ◌&&◌, ◌||◌, eqb, List, [], ◌∷◌, ◌++◌, length, get_or, take, drop, sym, refl, ap, ◌∙◌, mul_assoc, arith, length-drop, take-append-drop, drop_of_length-le, length-take-le, drop-cons, drop-drop, take-add, pow-add}
use mathlib.Core.Bool.{or_assoc, or-false}
use native.Mathlib.Decide.{ℕ_discrete}
use lib.Bits.{bit_and}
use Rattle.lists.specs.Sum.{sum_of}
use Rattle.symbols.specs.machine.Step.{AllCells}
use Rattle.symbols.specs.machine.Gaps.{gaps_from}
use Rattle.passes.specs.machine.Lanes.{packed, sums_of}
use Rattle.shifts.proofs.FoursLaws.{cells_in_parts}
use Rattle.passes.proofs.LaneLaws.{is_none, gaps_by_lanes, last_sum, flags_are}

-- ---- gaps of more cells, and after as many half cells but for an even number

pub gaps_of_append
    : (q : ℕ) (us vs : List ℕ) → gaps_from q (us ++ vs) ≡ (gaps_from q us || gaps_from (q + sum_of us) vs)
unfolding gaps_from sum_of
gaps_of_append q [] vs = let none : q + 0 ≡ q = omega arith in rw none
gaps_of_append q (u ∷ us) vs =
    let sum : q + (u + sum_of us) ≡ q + u + sum_of us = omega arith in
    rw (gaps_of_append (q + u) us vs, sum) (sym (or_assoc (eqb u 4 && eqb (q % 2) 0) _ _))

gaps_by_parity : (q r : ℕ) (us : List ℕ) → q % 2 ≡ r % 2 → gaps_from q us ≡ gaps_from r us
unfolding gaps_from
gaps_by_parity q r [] e = refl
gaps_by_parity q r (u ∷ us) e =
    let next : (q + u) % 2 ≡ (r + u) % 2 = omega arith in
    rw (e, gaps_by_parity (q + u) (r + u) us next)

-- ---- sums

pub sum_of-append : (us vs : List ℕ) → sum_of (us ++ vs) ≡ sum_of us + sum_of vs
unfolding sum_of
sum_of-append [] vs = omega arith
sum_of-append (u ∷ us) vs = omega (arith, sum_of-append us vs)

pub sum_range : (us : List ℕ) → AllCells us → (2 * length us ≤ sum_of us) × (sum_of us ≤ 4 * length us)
unfolding sum_of AllCells
sum_range [] cells = (omega arith, omega arith)
sum_range (u ∷ us) cells =
    let (low, high, later) = cells in
    let (least, most) = sum_range us later in
    (omega arith, omega arith)

-- ---- bytes

pub packed_one : (us : List ℕ) (k : ℕ) → k < length us → packed (take 1 (drop k us)) ≡ get_or us k 0
unfolding packed
packed_one us k inside = rw (drop-cons us k 0 inside) (omega arith)

moved_by_one : (p t u : ℕ) → (p + t) * 2 ^ 8 + u ≡ p * 2 ^ 8 + u + t * 2 ^ 8
moved_by_one p t u = omega arith

packed-append : (us vs : List ℕ) → packed (us ++ vs) ≡ packed us + packed vs * 2 ^ (8 * length us)
unfolding packed
packed-append [] vs = omega arith
packed-append (u ∷ us) vs =
    let places : 8 * suc (length us) ≡ 8 * length us + 8 = omega arith in
    rw (packed-append us vs, places, pow-add 2 (8 * length us) 8, ← mul_assoc)
    (moved_by_one (packed us) (packed vs * 2 ^ (8 * length us)) u)

-- as many more from the place behind
pub packed_more
    : (n : ℕ) (us : List ℕ) (k : ℕ)
    → k + n ≤ length us
    → packed (take (n + n) (drop k us)) ≡ packed (take n (drop k us)) + packed (take n (drop (k + n) us)) * 2 ^ (8 * n)
packed_more n us k inside =
    let size : length (take n (drop k us)) ≡ n = length-take-le n (drop k us) (rw (length-drop k us) (omega arith)) in
    ap packed (take-add n n (drop k us) ∙ ap (λ (l : List ℕ). take n (drop k us) ++ take n l) (drop-drop n k us))
    ∙ packed-append (take n (drop k us)) (take n (drop (k + n) us))
    ∙ ap (λ (j : ℕ). packed (take n (drop k us)) + packed (take n (drop (k + n) us)) * 2 ^ (8 * j)) size

-- ---- eight cells

not_twice : (b : Bool) → not (not b) ≡ b
not_twice true = refl
not_twice false = refl

module _ (q : ℕ) where
  -- what a number of eight cells shows of them
  pub record Shows (us : List ℕ) (x : ℕ) : Type 0 where
    pub sum : sums_of x / 2 ^ 56 ≡ sum_of us
    pub gap :
        not (is_none (bit_and x ((sums_of x * 2 ^ 2 % 2 ^ 64 + 0x0404040404040404 * 2 ^ (q % 2) % 2 ^ 64) % 2 ^ 64)))
        ≡ gaps_from q us

  power : 2 ^ (q % 2) ≡ 1 + q % 2
  power =
      elim (ℕ_discrete (q % 2) 0) [
        | yes e ↦ rw e refl
        | no ne ↦ let one : q % 2 ≡ 1 = omega arith in rw one refl
      ]

  pub eight_shows : (us : List ℕ) → AllCells us → length us ≡ 8 → Shows us (packed us)
  eight_shows [] cells size = absurd (omega arith)
  eight_shows (a ∷ []) cells size = absurd (omega arith)
  eight_shows (a ∷ b ∷ []) cells size = absurd (omega arith)
  eight_shows (a ∷ b ∷ c ∷ []) cells size = absurd (omega arith)
  eight_shows (a ∷ b ∷ c ∷ d ∷ []) cells size = absurd (omega arith)
  eight_shows (a ∷ b ∷ c ∷ d ∷ e ∷ []) cells size = absurd (omega arith)
  eight_shows (a ∷ b ∷ c ∷ d ∷ e ∷ f ∷ []) cells size = absurd (omega arith)
  eight_shows (a ∷ b ∷ c ∷ d ∷ e ∷ f ∷ g ∷ []) cells size = absurd (omega arith)
  eight_shows (a ∷ b ∷ c ∷ d ∷ e ∷ f ∷ g ∷ h ∷ []) cells size =
      let us = a ∷ b ∷ c ∷ d ∷ e ∷ f ∷ g ∷ h ∷ [] in
      record {
        sum = last_sum a b c d e f g h cells;
        gap =
            rw (flags_are a b c d e f g h cells (q % 2) (2 ^ (q % 2)) (omega arith) power)
            (ap not (gaps_by_lanes (1 + q % 2) us cells (omega (arith, (sum_range us cells).1)))
            ∙ not_twice (gaps_from (1 + q % 2 + 1) us)
            ∙ gaps_by_parity (1 + q % 2 + 1) q us (omega arith));
      }
  eight_shows (a ∷ b ∷ c ∷ d ∷ e ∷ f ∷ g ∷ h ∷ i ∷ us) cells size = absurd (omega arith)

-- ---- eight after eight

pub eight_cells
    : (us : List ℕ)
    → AllCells us
    → length us ≡ 128
    → (i : ℕ)
    → i < 16
    → AllCells (take 8 (drop (8 * i) us)) × (length (take 8 (drop (8 * i) us)) ≡ 8)
eight_cells us cells size i inside = (
  (cells_in_parts 8 (drop (8 * i) us) (cells_in_parts (8 * i) us cells).1).0,
  length-take-le 8 (drop (8 * i) us) (rw (length-drop (8 * i) us) (omega arith)),
)

module _ (start : ℕ) (us : List ℕ) where
  -- after some eights: what is left makes up the whole
  pub record Scanning (sum : ℕ) (gap : Bool) (i : ℕ) : Type 0 where
    pub small : sum ≤ 16 + 32 * i
    pub sums : sum + sum_of (drop (8 * i) us) ≡ start + sum_of us
    pub gaps : (gap || gaps_from sum (drop (8 * i) us)) ≡ gaps_from start us

  pub scans_begin : start ≤ 16 → Scanning start false 0
  scans_begin low = record { small = omega arith; sums = refl; gaps = refl }

  pub scans_on
      : AllCells us
      → length us ≡ 128
      → {sum : ℕ} {gap : Bool} {i : ℕ}
      → Scanning sum gap i
      → i < 16
      → (more : ℕ) (seen : Bool)
      → more ≡ sum + sum_of (take 8 (drop (8 * i) us))
      → seen ≡ (gap || gaps_from sum (take 8 (drop (8 * i) us)))
      → Scanning more seen (i + 1)
  scans_on cells size {sum} {gap} {i} so_far inside more seen counts finds =
      let eight = take 8 (drop (8 * i) us) in
      let rest = drop (8 * (i + 1)) us in
      let place : 8 * i + 8 ≡ 8 * (i + 1) = omega arith in
      let parts : drop (8 * i) us ≡ eight ++ rest =
      sym (take-append-drop 8 (drop (8 * i) us))
      ∙ ap (◌++◌ eight) (drop-drop 8 (8 * i) us ∙ ap (λ (k : ℕ). drop k us) place) in
      let (cells_here, long) = eight_cells us cells size i inside in
      record {
        small = omega (arith, so_far.small, (sum_range eight cells_here).1);
        sums = omega (arith, ap sum_of parts, sum_of-append eight rest, so_far.sums);
        gaps =
            rw (finds, counts) (or_assoc gap (gaps_from sum eight) _)
            ∙ ap (◌||◌ gap) (sym (ap (gaps_from sum) parts ∙ gaps_of_append sum eight rest))
            ∙ so_far.gaps;
      }

  pub scans_end
      : length us ≡ 128
      → {sum : ℕ} {gap : Bool} {i : ℕ}
      → Scanning sum gap i
      → 16 ≤ i
      → (sum ≡ start + sum_of us) × (gap ≡ gaps_from start us)
  unfolding sum_of gaps_from
  scans_end size {sum} {gap} {i} so_far over =
      let none = drop_of_length-le us {i = 8 * i} (omega arith) in
      let sums = rw none at so_far.sums in
      (omega (arith, sums), sym (or-false gap) ∙ rw none at so_far.gaps)
