-- Cells that are added below the half cells at the top: a word that is whole stays what it is, and to leave it behind
-- before them or after them is the same. By induction on the cells. Rests on no axiom.
use Rattle.std.proofs.Common.{◌≡◌, ℕ, ◌+◌, ◌-◌, ◌*◌, ◌/◌, ◌%◌, ◌^◌, ◌<◌, ◌≤◌, List, [], ◌∷◌, length, get_or, take, drop, sym, refl, ap, ◌∙◌, ap₂, add-zero, mod-eq_of_lt, one-mul, add-one, arith, drop-cons, pow_pos, pow-add}
use native.Mathlib.Nat.{div-eq_of_lt}
use lib.Bits.{bit_or, or_block, or_mod, or_shr, or_zero_r}
use lib.Pow.{pow-lt, high, low}
use Rattle.symbols.specs.machine.Step.{AllCells, shifted, shifted_all, eased}
use Rattle.symbols.specs.declared.Reading.{Reading}
use Rattle.symbols.proofs.EaseLaws.{held_by_shift}
use Rattle.shifts.specs.machine.Fours.{Tops, added_cell, added_all, past_word}
use Rattle.shifts.specs.declared.top.Top.{Top}
use Rattle.shifts.proofs.TopLaws.{top_cell, top_past}
use Rattle.shifts.proofs.TopLaws.{top_cell, top_past}

-- ---- a cell

down_by : (f u : ℕ) → u ≤ f → f ≤ 64 → (f + (2 ^ 32 - u)) % 2 ^ 32 ≡ f - u
down_by f u low high = omega arith

free_of_added : (t : Top) (u : ℕ) → u ≤ t.free → t.free ≤ 64 → (added_cell t u).free ≡ t.free - u
unfolding added_cell
free_of_added t u low high = down_by t.free u low high

pub down_wraps : (r u f : ℕ) → r < 2 ^ 32 → u ≤ 255 → (r + u) % 2 ^ 32 ≡ f → r ≡ (f + (2 ^ 32 - u)) % 2 ^ 32
down_wraps r u f small few wraps = omega arith

-- the one that ends a cell
bit_at : (f : ℕ) → f < 64 → 1 * 2 ^ (f % 64) % 2 ^ 64 ≡ 2 ^ f
bit_at f small =
    let place : f % 64 ≡ f = omega arith in
    ap (λ (k : ℕ). 1 * 2 ^ k % 2 ^ 64) place
    ∙ ap (λ (n : ℕ). n % 2 ^ 64) (one-mul (2 ^ f))
    ∙ mod-eq_of_lt (pow-lt {i = f} {j = 64} small)

-- sixteen places higher
or_higher : (c f : ℕ) → f + 16 < 64 → bit_or c (2 ^ f) * 2 ^ 16 % 2 ^ 64 ≡ bit_or (c * 2 ^ 16 % 2 ^ 64) (2 ^ (f + 16))
or_higher c f small =
    let apart : bit_or c (2 ^ f) * 2 ^ 16 ≡ bit_or (c * 2 ^ 16) (2 ^ f * 2 ^ 16) =
    sym (add-zero (bit_or c (2 ^ f) * 2 ^ 16))
    ∙ sym (or_block 16 c (2 ^ f) 0 0 (pow_pos 16) (pow_pos 16))
    ∙ ap₂ bit_or (add-zero (c * 2 ^ 16)) (add-zero (2 ^ f * 2 ^ 16)) in
    ap (λ (n : ℕ). n % 2 ^ 64) apart
    ∙ or_mod (c * 2 ^ 16) (2 ^ f * 2 ^ 16) 64
    ∙ ap (λ (n : ℕ). bit_or (c * 2 ^ 16 % 2 ^ 64) n)
    (ap (λ (n : ℕ). n % 2 ^ 64) (sym (pow-add 2 f 16)) ∙ mod-eq_of_lt (pow-lt {i = f + 16} {j = 64} small))

past_of_added
    : (t : Top) (u : ℕ)
    → u ≤ 4
    → 4 ≤ t.free
    → t.free ≤ 48
    → 1 ≤ u
    → past_word (added_cell t u) ≡ added_cell (past_word t) u
unfolding added_cell past_word
past_of_added t u few low high some =
    let f = t.free - u in
    let here = down_by t.free u (omega arith) (omega arith) in
    let up : (t.free + 16) % 2 ^ 32 ≡ t.free + 16 = omega arith in
    let there : (t.free + 16 + (2 ^ 32 - u)) % 2 ^ 32 ≡ f + 16 =
    down_by (t.free + 16) u (omega arith) (omega arith) ∙ omega arith in
    let higher : (f + 16) % 2 ^ 32 ≡ f + 16 = omega arith in
    rw (
      here,
      up,
      there,
      higher,
      bit_at f (omega arith),
      bit_at (f + 16) (omega arith),
      or_higher t.cells f (omega arith),
    )

-- below the word
word_of_added : (t : Top) (u : ℕ) → 1 ≤ u → u ≤ 4 → 4 ≤ t.free → t.free ≤ 47
    → (added_cell t u).cells / 2 ^ 47 ≡ t.cells / 2 ^ 47
unfolding added_cell
word_of_added t u some few low high =
    let f = t.free - u in
    rw (down_by t.free u (omega arith) (omega arith), bit_at f (omega arith))
    (or_shr t.cells (2 ^ f) 47
    ∙ ap (bit_or (t.cells / 2 ^ 47)) (div-eq_of_lt (pow-lt {i = f} {j = 47} (omega arith)))
    ∙ or_zero_r (t.cells / 2 ^ 47))

-- ---- more of them

pub tops_added
    : (us : List ℕ) (t : Top) (m : Reading)
    → AllCells us
    → Tops t m
    → m.held + 4 * length us ≤ 32
    → Tops (added_all t us) (shifted_all m us)
unfolding added_all added_cell shifted_all AllCells
tops_added [] t m cells top room = top
tops_added (u ∷ us) t m cells top room =
    let (some, few, later) = cells in
    let free = top.free in
    let held = held_by_shift m u (omega arith) in
    let small : (t.free + (2 ^ 32 - u)) % 2 ^ 32 < 2 ^ 32 = omega arith in
    let wraps : ((t.free + (2 ^ 32 - u)) % 2 ^ 32 + u) % 2 ^ 32 ≡ t.free = omega arith in
    tops_added us (added_cell t u) (shifted m u) later
    (top_cell t (added_cell t u) m u top (omega arith) (omega arith, few) small wraps refl) (omega arith)

pub past_of_all
    : (us : List ℕ) (t : Top)
    → AllCells us
    → 4 * length us ≤ t.free
    → t.free ≤ 48
    → past_word (added_all t us) ≡ added_all (past_word t) us
unfolding added_all AllCells
past_of_all [] t cells low high = refl
past_of_all (u ∷ us) t cells low high =
    let (some, few, later) = cells in
    let free = free_of_added t u (omega arith) (omega arith) in
    past_of_all us (added_cell t u) later (omega arith) (omega arith)
    ∙ ap (λ (r : Top). added_all r us) (past_of_added t u few (omega arith) high (omega arith))

pub word_of_all
    : (us : List ℕ) (t : Top)
    → AllCells us
    → 4 * length us ≤ t.free
    → t.free ≤ 47
    → (added_all t us).cells / 2 ^ 47 ≡ t.cells / 2 ^ 47
unfolding added_all AllCells
word_of_all [] t cells low high = refl
word_of_all (u ∷ us) t cells low high =
    let (some, few, later) = cells in
    let free = free_of_added t u (omega arith) (omega arith) in
    word_of_all us (added_cell t u) later (omega arith) (omega arith)
    ∙ word_of_added t u (omega arith) few (omega arith) high

pub past_tops : (t : Top) (m : Reading) → Tops t m → 17 ≤ m.held → Tops (past_word t) (eased m)
unfolding past_word
past_tops t m top whole = top_past t m top (past_word t) whole refl refl

-- ---- the four from a place on

element : (us : List ℕ) (k : ℕ) → k < length us → drop k us ≡ get_or us k 0 ∷ drop (k + 1) us
element us k h = rw (add-one k) (drop-cons us k 0 h)

module _ (us : List ℕ) (k : ℕ) (inside : k + 4 ≤ length us) where
  abbrev cell : ℕ → ℕ
  cell i = get_or us i 0

  pub four_of : take 4 (drop k us) ≡ cell k ∷ cell (k + 1) ∷ cell (k + 2) ∷ cell (k + 3) ∷ []
  four_of =
      let two : k + 1 + 1 ≡ k + 2 = omega arith in
      let three : k + 2 + 1 ≡ k + 3 = omega arith in
      rw (
        element us k (omega arith),
        element us (k + 1) (omega arith),
        two,
        element us (k + 2) (omega arith),
        three,
        element us (k + 3) (omega arith),
      )

  pub added_four
      : (t : Top)
      → added_all t (take 4 (drop k us))
      ≡ added_cell (added_cell (added_cell (added_cell t (cell k)) (cell (k + 1))) (cell (k + 2))) (cell (k + 3))
  unfolding added_all
  added_four t = rw four_of

  pub shifted_four
      : (m : Reading)
      → shifted_all m (take 4 (drop k us))
      ≡ shifted (shifted (shifted (shifted m (cell k)) (cell (k + 1))) (cell (k + 2))) (cell (k + 3))
  unfolding shifted_all
  shifted_four m = rw four_of
