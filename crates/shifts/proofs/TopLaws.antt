-- A register whose half cells stand at the top of 64 bits goes on as the register itself: a cell sets the bit below
-- them, a word that is whole stands in the top places, and leaving it behind moves up what is left. Rests on no axiom.
use Rattle.std.proofs.Common.{◌≡◌, ℕ, ◌+◌, ◌-◌, ◌*◌, ◌/◌, ◌%◌, ◌^◌, ◌<◌, ◌≤◌, Bool, true, false, ltb, sym, ap, ◌∙◌, ap₂, mod-eq_of_lt, mul_assoc, add-mul, one-mul, arith, pow-add, shr-shr, le-ltb, lt-ltb, le-leb}
use native.Mathlib.Decide.{dec_lt}
use mir.Val.{bool_byte}
use borrow.Author.Tests.{lt-leb}
use lib.Bits.{bit_or, or_shifted}
use lib.Pow.{pow-lt, shl-shr, high, low, field, mod-pow-add, mod-mod-pow}
use Rattle.symbols.specs.machine.Step.{shifted, is_whole, surplus, word_of, eased}
use Rattle.symbols.specs.declared.Reading.{Reading}
use Rattle.symbols.proofs.EaseLaws.{shifted_out}
use Rattle.shifts.specs.machine.Fours.{Tops}
use Rattle.shifts.specs.declared.top.Top.{Top}

-- ---- the half cells of a register

-- a number moved up and up again
pub moved_twice : (b f g : ℕ) → b * 2 ^ f * 2 ^ g ≡ b * 2 ^ (f + g)
moved_twice b f g = mul_assoc b (2 ^ f) (2 ^ g) ∙ ap (◌*◌ b) (sym (pow-add 2 f g))

-- fewer digits of fewer digits
pub fewer : (b j k : ℕ) → k ≤ j → b % 2 ^ j % 2 ^ k ≡ b % 2 ^ k
fewer b j k h =
    let e : j ≡ j - k + k = omega arith in
    ap (λ (i : ℕ). b % 2 ^ i % 2 ^ k) e ∙ mod-mod-pow b (j - k) k

-- the lowest digits once others were shifted in: before them stand those of before
digits_shifted_in
    : (b u h : ℕ)
    → 1 ≤ u
    → h + u ≤ 32
    → bit_or (b * 2 ^ u % 2 ^ 32) 1 % 2 ^ (h + u) ≡ b % 2 ^ h * 2 ^ u + 1
digits_shifted_in b u h some room =
    let one : 1 < 2 ^ u = pow-lt some in
    let x = b % 2 ^ (32 - u) in
    let out : bit_or (b * 2 ^ u % 2 ^ 32) 1 ≡ x * 2 ^ u + 1 =
    ap (λ (n : ℕ). bit_or n 1) (shifted_out 32 b (32 - u) u (omega arith)) ∙ or_shifted x u 1 one in
    ap (λ (n : ℕ). n % 2 ^ (h + u)) out
    ∙ mod-pow-add (x * 2 ^ u + 1) h u
    ∙ ap₂ (λ (n k : ℕ). n % 2 ^ h * 2 ^ u + k) (high x u one) (low x u one)
    ∙ ap (λ (n : ℕ). n * 2 ^ u + 1) (fewer b (32 - u) h (omega arith))

-- one cell more
pub top_cell
    : (t r : Top) (m : Reading) (u : ℕ)
    → Tops t m
    → m.held + u ≤ 32
    → (1 ≤ u) × (u ≤ 4)
    → r.free < 2 ^ 32
    → (r.free + u) % 2 ^ 32 ≡ t.free
    → r.cells ≡ bit_or t.cells (1 * 2 ^ (r.free % 64) % 2 ^ 64)
    → Tops r (shifted m u)
unfolding shifted
top_cell t r m u top room (some, few) small wraps set =
    let h = m.held in
    let free = top.free in
    let down : r.free + u ≡ t.free = omega arith in
    let held : (h + u) % 2 ^ 32 ≡ h + u = omega arith in
    let by : u % 32 ≡ u = omega arith in
    let place : r.free % 64 ≡ r.free = omega arith in
    let fits : 2 ^ r.free < 2 ^ 64 = pow-lt {i = r.free} {j = 64} (omega arith) in
    let bit : 1 * 2 ^ (r.free % 64) % 2 ^ 64 ≡ 2 ^ r.free =
    ap (λ (k : ℕ). 1 * 2 ^ k % 2 ^ 64) place
    ∙ ap (λ (n : ℕ). n % 2 ^ 64) (one-mul (2 ^ r.free))
    ∙ mod-eq_of_lt fits in
    let below : 2 ^ r.free < 2 ^ t.free = pow-lt {i = r.free} {j = t.free} (omega arith) in
    let b = m.bits % 2 ^ h in
    let cells : r.cells ≡ b * 2 ^ t.free + 2 ^ r.free =
    set ∙ ap₂ bit_or top.cells bit ∙ or_shifted b t.free (2 ^ r.free) below in
    let apart : (b * 2 ^ u + 1) * 2 ^ r.free ≡ b * 2 ^ t.free + 2 ^ r.free =
    add-mul (b * 2 ^ u) 1 (2 ^ r.free)
    ∙ ap₂ ◌+◌ (moved_twice b u r.free) (one-mul (2 ^ r.free))
    ∙ ap (λ (f : ℕ). b * 2 ^ f + 2 ^ r.free) (let e : u + r.free ≡ t.free = omega arith in e) in
    rw (held, by) (record {
      room = room;
      free = omega arith;
      cells = cells ∙ sym (ap (λ (n : ℕ). n * 2 ^ r.free) (digits_shifted_in m.bits u h some room) ∙ apart);
    })

-- before any cell
pub top_begins
    : (t : Top) (m : Reading)
    → m.held ≤ 16
    → t.free ≡ 64 - m.held
    → t.cells ≡ m.bits * 2 ^ (t.free - 1) % 2 ^ 64 * 2 ^ 1 % 2 ^ 64
    → Tops t m
top_begins t m low free cells =
    let h = m.held in
    let f = t.free in
    let b = m.bits in
    let first = shifted_out 64 b (h + 1) (f - 1) (omega arith) in
    let whole : f - 1 + 1 ≡ f = omega arith in
    record {
      room = omega arith;
      free = omega arith;
      cells =
          cells
          ∙ ap (λ (n : ℕ). n * 2 ^ 1 % 2 ^ 64) first
          ∙ ap (λ (n : ℕ). n % 2 ^ 64) (moved_twice (b % 2 ^ (h + 1)) (f - 1) 1
          ∙ ap (λ (k : ℕ). b % 2 ^ (h + 1) * 2 ^ k) whole)
          ∙ shifted_out 64 (b % 2 ^ (h + 1)) h f (omega arith)
          ∙ ap (λ (n : ℕ). n * 2 ^ f) (fewer b (h + 1) h (omega arith));
    }

module _ (t : Top) (m : Reading) (top : Tops t m) where
  abbrev h : ℕ
  h = m.held

  abbrev b : ℕ
  b = m.bits % 2 ^ h

  -- the word that is whole
  pub top_word : 17 ≤ h → t.cells / 2 ^ 47 ≡ word_of m
  unfolding word_of surplus
  top_word whole =
      let s = h - 17 in
      let room = top.room in
      let free = top.free in
      let deep : 47 ≡ t.free + s = omega arith in
      let held : h ≡ 17 + s = omega arith in
      let same : s % 32 ≡ s = omega arith in
      ap₂ (λ (n k : ℕ). n / 2 ^ k) top.cells deep
      ∙ sym (shr-shr (b * 2 ^ t.free) t.free s)
      ∙ ap (λ (n : ℕ). n / 2 ^ s) (shl-shr b t.free)
      ∙ ap (λ (k : ℕ). m.bits % 2 ^ k / 2 ^ s) held
      ∙ field m.bits 17 s
      ∙ ap (λ (k : ℕ). m.bits / 2 ^ k % 2 ^ 17) (sym same)

  pub top_whole : ltb t.free 48 ≡ is_whole m
  top_whole =
      let free = top.free in
      elim (dec_lt h 17) [
        | yes few ↦ le-ltb t.free 48 (omega arith) ∙ sym (lt-leb 17 h few)
        | no many ↦ lt-ltb t.free 48 (omega arith) ∙ sym (le-leb 17 h (omega arith))
      ]

  -- what is left of a word that is whole
  pub top_past
      : (r : Top)
      → 17 ≤ h
      → r.free ≡ (t.free + 16) % 2 ^ 32
      → r.cells ≡ t.cells * 2 ^ 16 % 2 ^ 64
      → Tops r (eased m)
  unfolding eased
  top_past r many free cells =
      let sum = top.free in
      let room = top.room in
      let held : (h + (2 ^ 32 - 16)) % 2 ^ 32 ≡ h - 16 = omega arith in
      let same : r.free ≡ t.free + 16 = free ∙ omega arith in
      rw (le-leb 17 h many, held) (record {
        room = omega arith;
        free = omega arith;
        cells =
            cells
            ∙ ap (λ (n : ℕ). n * 2 ^ 16 % 2 ^ 64) top.cells
            ∙ ap (λ (n : ℕ). n % 2 ^ 64) (moved_twice b t.free 16)
            ∙ shifted_out 64 b (h - 16) (t.free + 16) (omega arith)
            ∙ ap (λ (n : ℕ). n * 2 ^ (t.free + 16)) (fewer m.bits h (h - 16) (omega arith))
            ∙ ap (λ (k : ℕ). m.bits % 2 ^ (h - 16) * 2 ^ k) (sym same);
      })

  -- if one is
  pub top_eases
      : (r : Top) (whole : Bool)
      → whole ≡ is_whole m
      → t.cells < 2 ^ 64
      → r.free ≡ (t.free + 16 * bool_byte whole) % 2 ^ 32
      → r.cells ≡ t.cells * 2 ^ (16 * bool_byte whole) % 2 ^ 64
      → Tops r (eased m)
  unfolding eased
  top_eases r whole told small free cells =
      let sum = top.free in
      let room = top.room in
      elim (dec_lt h 17) [
        | yes few ↦
            let none : whole ≡ false = told ∙ lt-leb 17 h few in
            let held : (h + 2 ^ 32) % 2 ^ 32 ≡ h = omega arith in
            let same : r.free ≡ t.free = rw none at free ∙ omega arith in
            rw (lt-leb 17 h few, held) (record {
              room = room;
              free = omega arith;
              cells =
                  rw none at cells
                  ∙ ap (λ (n : ℕ). n % 2 ^ 64) (let e : t.cells * 1 ≡ t.cells = omega arith in e)
                  ∙ mod-eq_of_lt small
                  ∙ top.cells
                  ∙ ap (λ (k : ℕ). b * 2 ^ k) (sym same);
            })
        | no many ↦
            let whole_now : 17 ≤ h = omega arith in
            let one : whole ≡ true = told ∙ le-leb 17 h whole_now in
            top_past r whole_now (rw one at free) (rw one at cells)
      ]
