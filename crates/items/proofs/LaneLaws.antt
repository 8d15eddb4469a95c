-- Numbers in lanes: or and and work lane by lane, so that one test tells of eight numbers that they are small, and the
-- bytes of four lanes move together into one number. Rests on no axiom.
use Prim.Native.Nat.{ℕ, zero, suc, ◌+◌, ◌*◌, ◌/◌, ◌%◌, ◌^◌, ◌<◌}
use mathlib.Core.Path.{◌≡◌, sym, ap, ap₂, ◌∙◌}
use mathlib.Core.Bool.{true}
use mathlib.Core.List.{List}
use native.Mathlib.Nat.{mod-eq_of_lt}
use native.Mathlib.Omega.{arith}
use borrow.Author.Tests.{eqb-true}
use lib.Bits.{bit_and, bit_or, or_add_and, and_le_l, and_le_r, or_lt, and_block}
use lib.Bits.{or_block, and_high, or_mod, or_shr, or_shifted, or_shifted_r}
use lib.ListN.{get_or}
use Rattle.items.specs.machine.Lanes.{lanes, four_at, clear_at, joined_at}

-- ---- lane by lane

module _ (a b c d e f g h : ℕ) (ha : a < 2 ^ 16) (hb : b < 2 ^ 16) (hc : c < 2 ^ 16) (he : e < 2 ^ 16) (hf : f < 2 ^ 16)
    (hg : g < 2 ^ 16) where
  or_of_lanes : bit_or (lanes a b c d) (lanes e f g h) ≡ lanes (bit_or a e) (bit_or b f) (bit_or c g) (bit_or d h)
  or_of_lanes =
      or_block 16 ((d * 2 ^ 16 + c) * 2 ^ 16 + b) ((h * 2 ^ 16 + g) * 2 ^ 16 + f) a e ha he
      ∙ ap (λ (x : ℕ). x * 2 ^ 16 + bit_or a e) (or_block 16 (d * 2 ^ 16 + c) (h * 2 ^ 16 + g) b f hb hf
      ∙ ap (λ (x : ℕ). x * 2 ^ 16 + bit_or b f) (or_block 16 d h c g hc hg))

  and_of_lanes : bit_and (lanes a b c d) (lanes e f g h) ≡ lanes (bit_and a e) (bit_and b f) (bit_and c g) (bit_and d h)
  and_of_lanes =
      and_block 16 ((d * 2 ^ 16 + c) * 2 ^ 16 + b) ((h * 2 ^ 16 + g) * 2 ^ 16 + f) a e ha he
      ∙ ap (λ (x : ℕ). x * 2 ^ 16 + bit_and a e) (and_block 16 (d * 2 ^ 16 + c) (h * 2 ^ 16 + g) b f hb hf
      ∙ ap (λ (x : ℕ). x * 2 ^ 16 + bit_and b f) (and_block 16 d h c g hc hg))

-- ---- small numbers

-- bits that all numbers from a bound on have one of
pub record HighBits (bits bound : ℕ) : Type 0 where
  pub fits : bits < 2 ^ 16
  pub small : (n : ℕ) → n < 2 ^ 16 → bit_and n bits ≡ 0 → n < bound

pub bits_of_256 : HighBits 0xff00 256
bits_of_256 =
    record {
      fits = omega arith;
      small = λ n h e.
          let own : n / 2 ^ 8 % 2 ^ 8 ≡ n / 2 ^ 8 = mod-eq_of_lt (omega arith) in
          let none : n / 2 ^ 8 % 2 ^ 8 * 2 ^ 8 ≡ 0 = sym (and_high n 8 8) ∙ e in
          omega arith;
    }

pub bits_of_512 : HighBits 0xfe00 512
bits_of_512 =
    record {
      fits = omega arith;
      small = λ n h e.
          let own : n / 2 ^ 9 % 2 ^ 7 ≡ n / 2 ^ 9 = mod-eq_of_lt (omega arith) in
          let none : n / 2 ^ 9 % 2 ^ 7 * 2 ^ 9 ≡ 0 = sym (and_high n 7 9) ∙ e in
          omega arith;
    }

both_below : (a b n : ℕ) → bit_or a b < n → (a < n) × (b < n)
both_below a b n h = (omega (arith, or_add_and a b, and_le_r a b), omega (arith, or_add_and a b, and_le_l a b))

-- a place of eight
by_place : (P : ℕ → Type 0) → P 0 → P 1 → P 2 → P 3 → P 4 → P 5 → P 6 → P 7 → (i : ℕ) → i < 8 → P i
by_place P a b c d e f g h zero l = a
by_place P a b c d e f g h (suc zero) l = b
by_place P a b c d e f g h (suc (suc zero)) l = c
by_place P a b c d e f g h (suc (suc (suc zero))) l = d
by_place P a b c d e f g h (suc (suc (suc (suc zero)))) l = e
by_place P a b c d e f g h (suc (suc (suc (suc (suc zero))))) l = f
by_place P a b c d e f g h (suc (suc (suc (suc (suc (suc zero)))))) l = g
by_place P a b c d e f g h (suc (suc (suc (suc (suc (suc (suc zero))))))) l = h
by_place P a b c d e f g h (suc (suc (suc (suc (suc (suc (suc (suc i)))))))) l = absurd (omega arith)

module _ (bits bound : ℕ) (high : HighBits bits bound) where
  two_below : (a b : ℕ) → a < 2 ^ 16 → b < 2 ^ 16 → bit_and (bit_or a b) bits ≡ 0 → (a < bound) × (b < bound)
  two_below a b ha hb e = both_below a b bound (high.small (bit_or a b) (or_lt 16 a b ha hb) e)

  module _ (l : List ℕ) (k : ℕ) (fit : (i : ℕ) → get_or l i 0 < 2 ^ 16)
      (clear : clear_at l k (lanes bits bits bits bits) ≡ true) where
    abbrev pair : ℕ → ℕ → ℕ
    pair i j = bit_or (get_or l i 0) (get_or l j 0)

    masked : lanes (bit_and (pair k (k + 4)) bits) (bit_and (pair (k + 1) (k + 4 + 1)) bits)
        (bit_and (pair (k + 2) (k + 4 + 2)) bits) (bit_and (pair (k + 3) (k + 4 + 3)) bits)
        ≡ 0
    unfolding clear_at four_at
    masked =
        let below : (i j : ℕ) → pair i j < 2 ^ 16 = λ i j. or_lt 16 (get_or l i 0) (get_or l j 0) (fit i) (fit j) in
        sym (ap (λ (x : ℕ). bit_and x (lanes bits bits bits bits))
        (or_of_lanes _ _ _ _ _ _ _ _ (fit k) (fit (k + 1)) (fit (k + 2)) (fit (k + 4)) (fit (k + 4 + 1))
        (fit (k + 4 + 2)))
        ∙ and_of_lanes _ _ _ _ _ _ _ _ (below k (k + 4)) (below (k + 1) (k + 4 + 1)) (below (k + 2) (k + 4 + 2))
        high.fits high.fits high.fits)
        ∙ eqb-true _ _ clear

    pub eight_below : (i : ℕ) → i < 8 → get_or l (k + i) 0 < bound
    eight_below =
        let none = masked in
        let first = two_below _ _ (fit k) (fit (k + 4)) (omega arith) in
        let second = two_below _ _ (fit (k + 1)) (fit (k + 4 + 1)) (omega arith) in
        let third = two_below _ _ (fit (k + 2)) (fit (k + 4 + 2)) (omega arith) in
        let fourth = two_below _ _ (fit (k + 3)) (fit (k + 4 + 3)) (omega arith) in
        let at : (i j : ℕ) → i ≡ j → get_or l i 0 < bound → get_or l j 0 < bound = λ i j e h. rw (sym e) h in
        by_place (λ (i : ℕ). get_or l (k + i) 0 < bound) (at k (k + 0) (omega arith) first.0) second.0 third.0
        fourth.0 first.1 (at (k + 4 + 1) (k + 5) (omega arith) second.1)
        (at (k + 4 + 2) (k + 6) (omega arith) third.1) (at (k + 4 + 3) (k + 7) (omega arith) fourth.1)

-- ---- joined

-- numbers set side by side
pub or_is_lanes : (a b c d : ℕ) → a < 2 ^ 16 → b < 2 ^ 16 → c < 2 ^ 16 → d < 2 ^ 16
    → bit_or (bit_or (bit_or a (b * 2 ^ 16 % 2 ^ 64)) (c * 2 ^ 32 % 2 ^ 64)) (d * 2 ^ 48 % 2 ^ 64) ≡ lanes a b c d
or_is_lanes a b c d ha hb hc hd =
    let b_whole : b * 2 ^ 16 % 2 ^ 64 ≡ b * 2 ^ 16 = omega arith in
    let c_whole : c * 2 ^ 32 % 2 ^ 64 ≡ c * 2 ^ 32 = omega arith in
    let d_whole : d * 2 ^ 48 % 2 ^ 64 ≡ d * 2 ^ 48 = omega arith in
    rw (b_whole, c_whole, d_whole, or_shifted_r b 16 a ha) (
    ap (λ (x : ℕ). bit_or x (d * 2 ^ 48)) (or_shifted_r c 32 (b * 2 ^ 16 + a) (omega arith))
    ∙ or_shifted_r d 48 (c * 2 ^ 32 + (b * 2 ^ 16 + a)) (omega arith) ∙ omega arith
    )

module _ (a b c d : ℕ) (ha : a < 256) (hb : b < 256) (hc : c < 256) (hd : d < 256) where
  abbrev four : ℕ
  four = lanes a b c d

  abbrev pairs : ℕ
  pairs = bit_or (four * 2 ^ 8 % 2 ^ 64) (four / 2 ^ 16)

  whole : four * 2 ^ 8 % 2 ^ 64 ≡ four * 2 ^ 8
  whole = mod-eq_of_lt (omega arith)

  rest : four / 2 ^ 16 ≡ (d * 2 ^ 16 + c) * 2 ^ 16 + b
  rest = omega arith

  first_pair : pairs % 2 ^ 16 ≡ a * 2 ^ 8 + b
  first_pair =
      let up : four * 2 ^ 8 % 2 ^ 64 % 2 ^ 16 ≡ a * 2 ^ 8 = ap (λ (x : ℕ). x % 2 ^ 16) whole ∙ omega arith in
      let down : four / 2 ^ 16 % 2 ^ 16 ≡ b = ap (λ (x : ℕ). x % 2 ^ 16) rest ∙ omega arith in
      or_mod (four * 2 ^ 8 % 2 ^ 64) (four / 2 ^ 16) 16 ∙ ap₂ bit_or up down ∙ or_shifted a 8 b hb

  second_pair : pairs / 2 ^ 32 % 2 ^ 16 ≡ c * 2 ^ 8 + d
  second_pair =
      let above : four * 2 ^ 8 / 2 ^ 32 ≡ d * 2 ^ 24 + c * 2 ^ 8 = omega arith in
      let last : four / 2 ^ 16 / 2 ^ 32 ≡ d = ap (λ (x : ℕ). x / 2 ^ 32) rest ∙ omega arith in
      let up : four * 2 ^ 8 % 2 ^ 64 / 2 ^ 32 % 2 ^ 16 ≡ c * 2 ^ 8 =
      ap (λ (x : ℕ). x % 2 ^ 16) (ap (λ (x : ℕ). x / 2 ^ 32) whole ∙ above) ∙ omega arith in
      let down : four / 2 ^ 16 / 2 ^ 32 % 2 ^ 16 ≡ d = ap (λ (x : ℕ). x % 2 ^ 16) last ∙ omega arith in
      ap (λ (x : ℕ). x % 2 ^ 16) (or_shr (four * 2 ^ 8 % 2 ^ 64) (four / 2 ^ 16) 32)
      ∙ or_mod (four * 2 ^ 8 % 2 ^ 64 / 2 ^ 32) (four / 2 ^ 16 / 2 ^ 32) 16
      ∙ ap₂ bit_or up down
      ∙ or_shifted c 8 d hd

  -- what the code makes of four lanes
  pub pairs_are_joined : bit_or (pairs % 2 ^ 16 * 2 ^ 16 % 2 ^ 64) (pairs / 2 ^ 32 % 2 ^ 16)
      ≡ ((a * 256 + b) * 256 + c) * 256 + d
  pairs_are_joined =
      let fits : (a * 2 ^ 8 + b) * 2 ^ 16 % 2 ^ 64 ≡ (a * 2 ^ 8 + b) * 2 ^ 16 = omega arith in
      ap₂ (λ (x y : ℕ). bit_or (x * 2 ^ 16 % 2 ^ 64) y) first_pair second_pair
      ∙ ap (λ (x : ℕ). bit_or x (c * 2 ^ 8 + d)) fits
      ∙ or_shifted (a * 2 ^ 8 + b) 16 (c * 2 ^ 8 + d) (omega arith)
      ∙ omega arith

module _ (l : List ℕ) (k : ℕ) where
  at : (i j : ℕ) → i ≡ j → get_or l i 0 ≡ get_or l j 0
  at i j e = ap (λ (n : ℕ). get_or l n 0) e

  pub joined_is_small : ((i : ℕ) → i < 4 → get_or l (k + i) 0 < 256) → joined_at 4 l k < 2 ^ 32
  unfolding joined_at
  joined_is_small small =
      omega (arith, small 0 (omega arith), small 1 (omega arith), small 2 (omega arith), small 3 (omega arith))

  pub joined_of_halves : joined_at 8 l k ≡ joined_at 4 l k * 2 ^ 32 + joined_at 4 l (k + 4)
  unfolding joined_at
  joined_of_halves =
      omega (
        arith,
        at (k + 4 + 0) (k + 4) (omega arith),
        at (k + 4 + 1) (k + 5) (omega arith),
        at (k + 4 + 2) (k + 6) (omega arith),
        at (k + 4 + 3) (k + 7) (omega arith),
      )
