-- A word that is whole stands unchanged above the cells that are shifted in after it, as long as the register holds
-- them; so it may be taken later, and left behind later. Rests on no axiom.
use Rattle.std.proofs.Common.{◌≡◌, ℕ, ◌+◌, ◌-◌, ◌*◌, ◌/◌, ◌%◌, ◌^◌, ◌<◌, ◌≤◌, false, refl, add-zero, mod-eq_of_lt, arith, shr-shr, le-leb}
use native.Mathlib.Nat.{mul-mod_left}
use native.Mathlib.Decide.{dec_lt}
use borrow.Author.Tests.{lt-leb}
use lib.Bits.{bit_or, or_shifted}
use lib.Pow.{pow-lt, shl-shr, high, field, mod-pow-add, mod-mod-pow}
use Rattle.half_cells.specs.machine.Word.{misfits}
use Rattle.symbols.specs.machine.Step.{shifted, surplus, word_of, closed, eased}
use Rattle.symbols.specs.declared.Reading.{Reading}

-- ---- the digits of a word

-- what a shift leaves of a number
pub shifted_out : (w b r u : ℕ) → w ≡ r + u → b * 2 ^ u % 2 ^ w ≡ b % 2 ^ r * 2 ^ u
shifted_out w b r u e = rw (e, mod-pow-add (b * 2 ^ u) r u, shl-shr b u, mul-mod_left b (2 ^ u)) (add-zero _)

-- with others shifted in, they stand as many places higher
higher_digits
    : (w b u r s : ℕ)
    → w ≡ r + 17 + s + u
    → 0 < u
    → bit_or (b * 2 ^ u % 2 ^ w) 1 / 2 ^ (u + s) % 2 ^ 17 ≡ b / 2 ^ s % 2 ^ 17
higher_digits w b u r s e some =
    let one : 1 < 2 ^ u = pow-lt some in
    rw (
      shifted_out w b (r + 17 + s) u e,
      or_shifted (b % 2 ^ (r + 17 + s)) u 1 one,
      ← shr-shr _ u s,
      high (b % 2 ^ (r + 17 + s)) u one,
      field b (r + 17) s,
    )
    (mod-mod-pow (b / 2 ^ s) r 17)

-- ---- a cell more

module _ (m : Reading) (u : ℕ) (room : m.held + u ≤ 32) where
  pub held_by_shift : (shifted m u).held ≡ m.held + u
  unfolding shifted
  held_by_shift = mod-eq_of_lt (omega arith)

  module _ (some : 2 ≤ u) (few : u ≤ 4) (whole : 17 ≤ m.held) where
    pub word_by_shift : word_of (shifted m u) ≡ word_of m
    unfolding word_of surplus shifted
    word_by_shift =
        let s = m.held - 17 in
        let deep : ((m.held + u) % 2 ^ 32 - 17) % 32 ≡ u + s = omega arith in
        let here : s % 32 ≡ s = omega arith in
        let by : u % 32 ≡ u = omega arith in
        rw (deep, here, by) (higher_digits 32 m.bits u (15 - (u + s)) s (omega arith) (omega arith))

    pub ease_by_shift : eased (shifted m u) ≡ shifted (eased m) u
    unfolding eased shifted
    ease_by_shift =
        let more : 17 ≤ (m.held + u) % 2 ^ 32 = omega arith in
        let held : ((m.held + u) % 2 ^ 32 + (2 ^ 32 - 16)) % 2 ^ 32
        ≡ ((m.held + (2 ^ 32 - 16)) % 2 ^ 32 + u) % 2 ^ 32 =
        omega arith in
        rw (le-leb 17 ((m.held + u) % 2 ^ 32) more, le-leb 17 m.held whole, held)

module _ (m : Reading) (small : m.words < 2 ^ 32) where
  pub ease_of_open : m.held < 17 → eased m ≡ m
  unfolding eased
  ease_of_open few =
      let held : (m.held + 2 ^ 32) % 2 ^ 32 ≡ m.held = omega arith in
      let words : (m.words + 0) % 2 ^ 32 ≡ m.words = omega arith in
      rw (lt-leb 17 m.held few, held, words)

  pub ease_of_whole : (at : ℕ) → 17 ≤ m.held → m.held ≤ 32 → misfits (word_of m) ≡ false → closed m at ≡ eased m
  unfolding eased closed
  ease_of_whole at whole room fit =
      let held : m.held - 16 ≡ (m.held + (2 ^ 32 - 16)) % 2 ^ 32 = omega arith in
      rw (le-leb 17 m.held whole, fit, held)

  -- what is left in the register, one word more or none
  pub eased_whole
      : 17 ≤ m.held → m.held ≤ 32 → ((eased m).held + 16 ≡ m.held) × ((eased m).words ≡ (m.words + 1) % 2 ^ 32)
  unfolding eased
  eased_whole whole room = rw (le-leb 17 m.held whole) (omega arith, refl)

  pub eased_low : m.held ≤ 32 → ((eased m).held ≤ 16) × ((eased m).words ≤ m.words + 1)
  eased_low room =
      elim (dec_lt m.held 17) [
        | yes h ↦ rw (ease_of_open h) (omega arith, omega arith)
        | no h ↦ let left = eased_whole (omega arith) room in (omega (arith, left.0), omega (arith, left.1))
      ]
