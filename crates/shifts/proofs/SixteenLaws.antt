-- A register after many cells: by fours as cell after cell; and sixteen cells fill it, whatever it held before, since
-- each has two half cells at least. Rests on no axiom.
use Rattle.std.proofs.Common.{◌≡◌, ℕ, zero, suc, ◌+◌, ◌-◌, ◌*◌, ◌/◌, ◌%◌, ◌^◌, ◌<◌, ◌≤◌, List, [], ◌∷◌, ◌++◌, length, take, drop, sym, refl, ap, ◌∙◌, mod-lt, mod-eq_of_lt, mul_assoc, mul_comm, add-mul, arith, length-drop, take-append-drop, drop-drop, take-add, pow_pos}
use native.Mathlib.Nat.{mod-one, mod-add-div'}
use native.Mathlib.Nat.{add-mul-mod_self_right}
use lib.Bits.{bit_or, or_lt, or_mod}
use Rattle.symbols.specs.machine.Step.{AllCells, shifted, shifted_all, empty_reading, eased}
use Rattle.symbols.specs.declared.Reading.{Reading}
use Rattle.symbols.proofs.EaseLaws.{shifted_out}
use Rattle.shifts.specs.machine.Fours.{fours_from}
use Rattle.shifts.proofs.FoursLaws.{cells_in_parts}
use Rattle.shifts.proofs.TopLaws.{moved_twice, fewer}

pub shifted-append : (xs ys : List ℕ) (m : Reading) → shifted_all m (xs ++ ys) ≡ shifted_all (shifted_all m xs) ys
unfolding shifted_all
shifted-append [] ys m = refl
shifted-append (x ∷ xs) ys m = shifted-append xs ys (shifted m x)

-- sixteen cells by fours
four_then
    : (n k : ℕ) (us : List ℕ) (m : Reading)
    → shifted_all m (take (4 + n) (drop k us))
    ≡ shifted_all (shifted_all m (take 4 (drop k us))) (take n (drop (k + 4) us))
four_then n k us m =
    ap (shifted_all m) (take-add 4 n (drop k us)
    ∙ ap (λ (l : List ℕ). take 4 (drop k us) ++ take n l) (drop-drop 4 k us))
    ∙ shifted-append (take 4 (drop k us)) (take n (drop (k + 4) us)) m

pub shifted_sixteen
    : (k : ℕ) (us : List ℕ) (m : Reading)
    → let four_at : ℕ → List ℕ = λ i. take 4 (drop i us) in
    shifted_all m (take 16 (drop k us))
    ≡ shifted_all (shifted_all (shifted_all (shifted_all m (four_at k)) (four_at (k + 4))) (four_at (k + 8))) (four_at (k + 12))
shifted_sixteen k us m =
    let eight : k + 4 + 4 ≡ k + 8 = omega arith in
    let twelve : k + 8 + 4 ≡ k + 12 = omega arith in
    let one = shifted_all m (take 4 (drop k us)) in
    let two = shifted_all one (take 4 (drop (k + 4) us)) in
    let three = shifted_all two (take 4 (drop (k + 8) us)) in
    four_then 12 k us m
    ∙ four_then 8 (k + 4) us one
    ∙ ap (λ (i : ℕ). shifted_all two (take 8 (drop i us))) eight
    ∙ four_then 4 (k + 8) us two
    ∙ ap (λ (i : ℕ). shifted_all three (take 4 (drop i us))) twelve

-- place and gaps are left as they were
shifted_keeps
    : (us : List ℕ) (m : Reading) → ((shifted_all m us).place ≡ m.place) × ((shifted_all m us).stray ≡ m.stray)
unfolding shifted_all shifted
shifted_keeps [] m = (refl, refl)
shifted_keeps (u ∷ us) m = shifted_keeps us (shifted m u)

-- half cells go by half cells alone
shifted_bits : (us : List ℕ) (m n : Reading) → m.bits ≡ n.bits → (shifted_all m us).bits ≡ (shifted_all n us).bits
unfolding shifted_all shifted
shifted_bits [] m n e = e
shifted_bits (u ∷ us) m n e =
    shifted_bits us (shifted m u) (shifted n u) (ap (λ (b : ℕ). bit_or (b * 2 ^ (u % 32) % 2 ^ 32) 1) e)

-- so many fours
pub record Leaves (n : ℕ) (m : Reading) (us : List ℕ) : Type 0 where
  pub bits : (fours_from n m us).reading.bits ≡ (shifted_all m us).bits
  pub place : (fours_from n m us).reading.place ≡ m.place
  pub stray : (fours_from n m us).reading.stray ≡ m.stray

pub fours_leave : (n : ℕ) (m : Reading) (us : List ℕ) → length us ≡ 4 * n → Leaves n m us
unfolding fours_from eased shifted_all
fours_leave zero m [] size = record { bits = refl; place = refl; stray = refl }
fours_leave zero m (u ∷ us) size = absurd (omega arith)
fours_leave (suc n) m us size =
    let next = shifted_all m (take 4 us) in
    let rest = fours_leave n (eased next) (drop 4 us) (length-drop 4 us ∙ omega arith) in
    let (place, stray) = shifted_keeps (take 4 us) m in
    record {
      bits =
          rest.bits
          ∙ shifted_bits (drop 4 us) (eased next) next refl
          ∙ ap (λ (r : Reading). r.bits) (sym (shifted-append (take 4 us) (drop 4 us) m)
          ∙ ap (shifted_all m) (take-append-drop 4 us));
      place = rest.place ∙ place;
      stray = rest.stray ∙ stray;
    }

-- ---- sixteen cells

scaled_mod : (a c n : ℕ) → a * c % n ≡ a % n * c % n
scaled_mod a c n =
    ap (λ (x : ℕ). x * c % n) (sym (mod-add-div' a n))
    ∙ ap (λ (x : ℕ). x % n) (add-mul (a % n) (a / n * n) c
    ∙ ap (λ (x : ℕ). a % n * c + x) (mul_assoc (a / n) n c ∙ ap (◌*◌ (a / n)) (mul_comm n c)
    ∙ sym (mul_assoc (a / n) c n)))
    ∙ add-mul-mod_self_right (a % n * c) (a / n * c) n

-- by two places more than those that were known, since a cell has two half cells at least
known_places
    : (a j u : ℕ)
    → 2 ≤ u
    → u ≤ 4
    → j + 2 ≤ 32
    → bit_or (a * 2 ^ (u % 32) % 2 ^ 32) 1 % 2 ^ (j + 2)
    ≡ bit_or (a % 2 ^ j * 2 ^ (u - 2) % 2 ^ j * 2 ^ 2) (1 % 2 ^ (j + 2))
known_places a j u some few room =
    let by : u % 32 ≡ u - 2 + 2 = omega arith in
    or_mod (a * 2 ^ (u % 32) % 2 ^ 32) 1 (j + 2)
    ∙ ap (λ (n : ℕ). bit_or n (1 % 2 ^ (j + 2)))
    (fewer (a * 2 ^ (u % 32)) 32 (j + 2) room
    ∙ ap (λ (n : ℕ). n % 2 ^ (j + 2)) (ap (λ (k : ℕ). a * 2 ^ k) by ∙ sym (moved_twice a (u - 2) 2))
    ∙ shifted_out (j + 2) (a * 2 ^ (u - 2)) j 2 refl
    ∙ ap (λ (n : ℕ). n * 2 ^ 2) (scaled_mod a (2 ^ (u - 2)) (2 ^ j)))

fill_up
    : (us : List ℕ) (j : ℕ) (m n : Reading)
    → AllCells us
    → j + 2 * length us ≡ 32
    → m.bits % 2 ^ j ≡ n.bits % 2 ^ j
    → (shifted_all m us).bits % 2 ^ 32 ≡ (shifted_all n us).bits % 2 ^ 32
unfolding AllCells shifted_all shifted
fill_up [] j m n cells size e = let all : j ≡ 32 = omega arith in rw all at e
fill_up (u ∷ us) j m n cells size e =
    let (some, few, later) = cells in
    let room : j + 2 ≤ 32 = omega arith in
    fill_up us (j + 2) (shifted m u) (shifted n u) later (omega arith)
    (known_places m.bits j u some few room
    ∙ ap (λ (x : ℕ). bit_or (x * 2 ^ (u - 2) % 2 ^ j * 2 ^ 2) (1 % 2 ^ (j + 2))) e
    ∙ sym (known_places n.bits j u some few room))

shifted_fits : (m : Reading) (u : ℕ) → (shifted m u).bits < 2 ^ 32
unfolding shifted
shifted_fits m u =
    or_lt 32 (m.bits * 2 ^ (u % 32) % 2 ^ 32) 1 (mod-lt (m.bits * 2 ^ (u % 32)) (pow_pos 32)) (omega arith)

bits_fit : (us : List ℕ) (m : Reading) → m.bits < 2 ^ 32 → (shifted_all m us).bits < 2 ^ 32
unfolding shifted_all
bits_fit [] m small = small
bits_fit (u ∷ us) m small = bits_fit us (shifted m u) (shifted_fits m u)

some_bits_fit : (us : List ℕ) (m : Reading) → 1 ≤ length us → (shifted_all m us).bits < 2 ^ 32
unfolding shifted_all
some_bits_fit [] m some = absurd (omega arith)
some_bits_fit (u ∷ us) m some = bits_fit us (shifted m u) (shifted_fits m u)

-- whatever the register held before
pub last_sixteen
    : (us : List ℕ) (m : Reading)
    → AllCells us
    → 16 ≤ length us
    → (shifted_all m us).bits ≡ (shifted_all empty_reading (drop (length us - 16) us)).bits
last_sixteen us m cells some =
    let k = length us - 16 in
    let last = drop k us in
    let before = shifted_all m (take k us) in
    let size : length last ≡ 16 = length-drop k us ∙ omega arith in
    let both = fill_up last 0 before empty_reading (cells_in_parts k us cells).1 (omega arith)
    (mod-one before.bits ∙ sym (mod-one 0)) in
    ap (λ (r : Reading). r.bits) (ap (shifted_all m) (sym (take-append-drop k us)) ∙ shifted-append (take k us) last m)
    ∙ sym (mod-eq_of_lt (some_bits_fit last before (omega arith)))
    ∙ both
    ∙ mod-eq_of_lt (some_bits_fit last empty_reading (omega arith))
