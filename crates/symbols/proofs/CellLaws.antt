-- What one cell adds to the letters, for each length of a cell, after a 0 and after a 1: each case is computed. A gap
-- is read after a 0 only, and a 0 follows it.
use Rattle.std.proofs.Common.{◌≡◌, ◌≤◌, Bool, true, false, ◌&&◌, T, List, [], ◌∷◌, ◌++◌, length, refl, append-nil, arith}
use Rattle.symbols.specs.Bits.{Bit, O, I, G, last_of}
use Rattle.symbols.specs.Reading.{given, last_after, read_from, read_bits}
use Rattle.symbols.specs.declared.Cell.{Cell}
use Rattle.symbols.specs.declared.Cell.TheVariants.{Short, Medium, Long}
use Rattle.symbols.proofs.TestLaws.{both, parts}
use Rattle.symbols.proofs.ReadingLaws.{read_append, cell_gives}
use Rattle.symbols.proofs.UnitLaws.{digit_is_small, units_range}

-- the bits of a cell end in the last bit known after it, whatever was before
pub last_of_more : (x b : Bit) (c : Cell) → last_of x (given b c) ≡ last_after b c
unfolding last_of
last_of_more x b c = rw append-nil at ((cell_gives b c).0 x [])

pub last_append : (x : Bit) (xs ys : List Bit) → last_of x (xs ++ ys) ≡ last_of (last_of x xs) ys
unfolding last_of
last_append x [] ys = refl
last_append x (y ∷ xs) ys = last_append y xs ys

-- a gap comes after a 0 only, and begins with G O
unfoldable pub follows : Bit → Bit → Bool
follows O b = true
follows I O = true
follows I I = true
follows I G = false
follows G O = true
follows G I = false
follows G G = false

unfoldable pub sound : Bit → List Bit → Bool
sound b [] = true
sound b (c ∷ bs) = follows b c && sound c bs

pub sound_append : (b : Bit) (xs ys : List Bit) → T (sound b xs) → T (sound (last_of b xs) ys) → T (sound b (xs ++ ys))
unfolding sound last_of
sound_append b [] ys t u = u
sound_append b (x ∷ xs) ys t u =
    both (follows b x) (sound x (xs ++ ys)) (search parts) (sound_append x xs ys (search parts) u)

pub sound_front : (b : Bit) (xs ys : List Bit) → T (sound b (xs ++ ys)) → T (sound b xs)
unfolding sound
sound_front b [] ys t = tt
sound_front b (x ∷ xs) ys t =
    both (follows b x) (sound x xs) (search parts) (sound_front x xs ys (search parts))

pub sound_rest : (b : Bit) (xs ys : List Bit) → T (sound b (xs ++ ys)) → T (sound (last_of b xs) ys)
unfolding sound last_of
sound_rest b [] ys t = t
sound_rest b (x ∷ xs) ys t = sound_rest x xs ys (search parts)

-- so are all letters that are read
sound_after : (cs : List Cell) → T (sound O (read_from O cs)) × T (sound I (read_from I cs))
unfolding read_from given last_after sound follows
sound_after [] = (tt, tt)
sound_after (Short ∷ cs) = sound_after cs
sound_after (Medium ∷ cs) = let (zero, one) = sound_after cs in (one, zero)
sound_after (Long ∷ cs) = sound_after cs

pub read_is_sound : (cs : List Cell) → T (sound O (read_bits cs))
unfolding read_bits
read_is_sound cs = (sound_after cs).0

pub given_at_most_two : (b : Bit) (c : Cell) → length (given b c) ≤ 2
given_at_most_two b c = omega (arith, (cell_gives b c).2, (units_range c).1, digit_is_small (last_after b c))

-- one cell more
abbrev pub more : List Cell → Cell → List Bit
more cs c = given (last_of O (read_bits cs)) c

pub bits_grown : (cs : List Cell) (c : Cell) → read_bits (cs ++ (c ∷ [])) ≡ read_bits cs ++ more cs c
unfolding read_bits read_from
bits_grown cs c =
    rw (read_append O cs (c ∷ []), append-nil)
