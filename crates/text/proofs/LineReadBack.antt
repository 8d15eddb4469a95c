-- Why the numbers of a printed line are read back: digits are neither tab nor line feed, so the pieces of the line
-- are those that were printed. Rests on no axiom.
use Prim.Native.Nat.{ℕ, ◌<◌}
use mathlib.Core.Path.{◌≡◌, refl}
use mathlib.Core.Bool.{true, false, not}
use mathlib.Core.List.{List, [], ◌∷◌, ◌++◌, map, append-nil}
use native.Mathlib.Omega.{arith}
use lib.Dec.{eqb, leb}
use borrow.Author.Tests.{ne_eqb, eq-eqb, leb-true, not-true}
use lib.Seq.{append_snoc}
use Rattle.lists.specs.Place.{everywhere}
use Rattle.lists.proofs.BoolLaws.{both}
use Rattle.lists.proofs.PlaceLaws.{everywhere-append}
use Rattle.text.specs.Ascii.{tab, line_feed}
use Rattle.text.specs.Pieces.{pieces_of, up_to}
use Rattle.text.specs.Decimal.{decimal, is_digit, value_of}
use Rattle.text.specs.Line.{fields_of, line_of}
use Rattle.text.specs.Claims.{LineReadsBack, lacks}
use Rattle.text.proofs.DecimalReadBack.{printed}

-- a text that lacks a byte begins with another one
lacks_first : (b x : ℕ) (text : List ℕ) → lacks b (x ∷ text) ≡ true → (eqb x b ≡ false) × (lacks b text ≡ true)
unfolding lacks everywhere
lacks_first b x text h = let each = both (not (eqb x b)) _ h in (not-true _ each.0, each.1)

-- pieces of a text that was put together
pieces_of_joined : (sep : ℕ) (a rest : List ℕ)
    → lacks sep a ≡ true
    → pieces_of sep (a ++ (sep ∷ rest)) ≡ a ∷ pieces_of sep rest
unfolding pieces_of
pieces_of_joined sep [] rest h = rw (eq-eqb sep sep refl)
pieces_of_joined sep (x ∷ a) rest h =
    let l = lacks_first sep x a h in rw (l.0, pieces_of_joined sep a rest l.1)

pieces_of_one : (sep : ℕ) (a : List ℕ) → lacks sep a ≡ true → pieces_of sep a ≡ a ∷ []
unfolding pieces_of
pieces_of_one sep [] h = refl
pieces_of_one sep (x ∷ a) h = let l = lacks_first sep x a h in rw (l.0, pieces_of_one sep a l.1)

up_to_of_joined : (sep : ℕ) (a rest : List ℕ) → lacks sep a ≡ true → up_to sep (a ++ (sep ∷ rest)) ≡ a
unfolding up_to
up_to_of_joined sep [] rest h = rw (eq-eqb sep sep refl)
up_to_of_joined sep (x ∷ a) rest h =
    let l = lacks_first sep x a h in rw (l.0, up_to_of_joined sep a rest l.1)

-- digits have no byte below the digit 0
digits_lack : (b : ℕ) → b < 48 → (ds : List ℕ) → everywhere is_digit ds ≡ true → lacks b ds ≡ true
unfolding lacks everywhere
digits_lack b h [] e = refl
digits_lack b h (d ∷ ds) e =
    let each = both (is_digit d) _ e in
    let least = leb-true 48 d (both (leb 48 d) _ each.0).0 in
    rw (ne_eqb d b (λ q. omega arith), digits_lack b h ds each.1)

decimal_lacks : (b : ℕ) → b < 48 → (n : ℕ) → lacks b (decimal n) ≡ true
decimal_lacks b h n = digits_lack b h (decimal n) (printed n).digits

fields_lack_line_feed : (numbers : List ℕ) → lacks line_feed (fields_of numbers) ≡ true
unfolding lacks everywhere fields_of
fields_lack_line_feed [] = refl
fields_lack_line_feed (n ∷ numbers) =
    rw (everywhere-append, decimal_lacks line_feed (omega arith) n, fields_lack_line_feed numbers)

fields_of_printed : (word numbers : List ℕ)
    → lacks tab word ≡ true
    → pieces_of tab (word ++ fields_of numbers) ≡ word ∷ map decimal numbers
unfolding fields_of
fields_of_printed word [] h = rw append-nil (pieces_of_one tab word h)
fields_of_printed word (n ∷ numbers) h =
    cc (pieces_of_joined tab word _ h, fields_of_printed (decimal n) numbers (decimal_lacks tab (omega arith) n))

values_of_decimals : (numbers : List ℕ) → map value_of (map decimal numbers) ≡ numbers
unfolding value_of
values_of_decimals [] = refl
values_of_decimals (n ∷ numbers) = cc ((printed n).value, values_of_decimals numbers)

pub line_reads_back : LineReadsBack
unfolding lacks line_of
line_reads_back word numbers rest h k =
    rw (
      append_snoc _ line_feed rest,
      up_to_of_joined line_feed (word ++ fields_of numbers) rest
          (rw (everywhere-append, k, fields_lack_line_feed numbers)),
      fields_of_printed word numbers h,
    ) (values_of_decimals numbers)
