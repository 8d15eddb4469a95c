-- Every list of letters that is made of 0s, 1s and whole marks 1 0 G 0 0 is read from some cells: in each of three
-- states, after a 1, and with a 0 open after a 1 or after a 0, the next letters are what one cell or a few give. The
-- letters of written bytes are such a list.
use Rattle.std.proofs.Common.{◌≡◌, ℕ, ◌/◌, ◌%◌, Bool, true, false, cond, T, eqb, List, [], ◌∷◌, ◌++◌, refl, ap, append_assoc, eqb→eq}
use Rattle.items.specs.Item.{is_mark}
use Rattle.symbols.specs.Bits.{Bit, O, I, G, bit_of, byte_bits, mark_bits, with_gaps, written_bits, all_bits}
use Rattle.symbols.specs.Reading.{given, last_after, read_from, read_bits}
use Rattle.symbols.specs.declared.Cell.{Cell}
use Rattle.symbols.specs.declared.Cell.TheVariants.{Short, Medium, Long}
use Rattle.symbols.proofs.TestLaws.{either_of}

-- the letters that some cells give, after the bit b
abbrev Readable : Bit → List Bit → Type 0
Readable b bs = (cs : List Cell) × (read_from b cs ≡ bs)

-- one cell more in front
module _ (b : Bit) (c : Cell) (bs : List Bit) where
  led : Readable (last_after b c) bs → Readable b (given b c ++ bs)
  unfolding read_from
  led r = (c ∷ r.0, ap (λ (x : List Bit). given b c ++ x) r.1)

-- letters that end in the first closing 0, whose gaps stand within a whole 1 0 G 0 0
data Tokens : List Bit → Type 0 where
  end : Tokens (O ∷ [])
  zero : {bs : List Bit} → Tokens bs → Tokens (O ∷ bs)
  one : {bs : List Bit} → Tokens bs → Tokens (I ∷ bs)
  mark : {bs : List Bit} → Tokens bs → Tokens (I ∷ O ∷ G ∷ O ∷ O ∷ bs)

-- read on from a 1, from a 0 after a 1 that no cell has given yet, and from such a 0 after a 0
record ReadOn (bs : List Bit) : Type 0 where
  after_one : Readable I bs
  zero_after_one : Readable I (O ∷ bs)
  zero_after_zero : Readable O (O ∷ bs)

tokens_are_readable : {bs : List Bit} → Tokens bs → ReadOn bs
unfolding given last_after read_from
tokens_are_readable end =
    record {
      after_one = (Medium ∷ [], refl);
      zero_after_one = (Medium ∷ Short ∷ [], refl);
      zero_after_zero = (Short ∷ Short ∷ [], refl);
    }
tokens_are_readable (zero t) =
    let r = tokens_are_readable t in
    record {
      after_one = r.zero_after_one;
      zero_after_one = led I Medium _ r.zero_after_zero;
      zero_after_zero = led O Short _ r.zero_after_zero;
    }
tokens_are_readable (one t) =
    let r = tokens_are_readable t in
    record {
      after_one = led I Short _ r.after_one;
      zero_after_one = led I Long _ r.after_one;
      zero_after_zero = led O Medium _ r.after_one;
    }
tokens_are_readable (mark t) =
    let r = led I Medium _ (led O Long _ (tokens_are_readable t).zero_after_zero) in
    record {
      after_one = led I Short _ r;
      zero_after_one = led I Long _ r;
      zero_after_zero = led O Medium _ r;
    }

token_of_letter : {bs : List Bit} (t : Bool) → Tokens bs → Tokens (cond t I O ∷ bs)
token_of_letter true s = one s
token_of_letter false s = zero s

tokens_of_data : {bs : List Bit} (w : ℕ) → Tokens bs → Tokens (byte_bits w ++ bs)
unfolding byte_bits
tokens_of_data w s = at 128 (at 64 (at 32 (at 16 (at 8 (at 4 (at 2 (at 1 s)))))))
  where
    at : {bs : List Bit} (place : ℕ) → Tokens bs → Tokens (bit_of w place ∷ bs)
    at place = token_of_letter (eqb (w / place % 2) 1)

-- the letters of A1 and of C2 as marks
tokens_of_mark : {bs : List Bit} (w : ℕ) → T (is_mark w) → Tokens bs → Tokens (mark_bits (w % 256) ++ bs)
unfolding is_mark mark_bits with_gaps byte_bits
tokens_of_mark w m s =
    either_of (eqb w 0x1a1) (eqb w 0x1c2) m (λ e. rw (eqb→eq w 0x1a1 e) (one (zero (mark (one s)))))
    (λ e. rw (eqb→eq w 0x1c2 e) (one (mark (one (zero s)))))

tokens_of_byte : {bs : List Bit} (w : ℕ) → Tokens bs → Tokens (written_bits w ++ bs)
unfolding written_bits
tokens_of_byte {bs} w s = by (is_mark w) (tokens_of_mark w)
  where
    by :
        (t : Bool) → (T t → Tokens bs → Tokens (mark_bits (w % 256) ++ bs))
        → Tokens (cond t (mark_bits (w % 256)) (byte_bits w) ++ bs)
    by true m = m tt s
    by false m = tokens_of_data w s

tokens_of_bytes : (ws : List ℕ) → Tokens (all_bits ws ++ (O ∷ []))
unfolding all_bits
tokens_of_bytes [] = end
tokens_of_bytes (w ∷ ws) = rw append_assoc (tokens_of_byte w (tokens_of_bytes ws))

-- the lead 0, the letters of the bytes and the first closing 0 are what some cells give
pub written_bits_are_read : (ws : List ℕ) → (cs : List Cell) × (read_bits cs ≡ O ∷ all_bits ws ++ (O ∷ []))
unfolding read_bits
written_bits_are_read ws = (tokens_are_readable (tokens_of_bytes ws)).zero_after_zero
