-- Why `masks::chosen` chooses: a mask of all ones leaves the whole way from one bound to the other, and 0 none of it.
-- Rests on no axiom.
use Rattle.std.proofs.Common.{◌≡◌, ℕ, ◌+◌, ◌%◌, ◌<◌, Bool, true, false, cond, refl, sym, ap, arith}
use lib.Bits.{bit_and, and_mask}
use Rattle.timing.specs.declared.HalfClocks.{HalfClocks}
use Rattle.clearance.specs.machine.Masks.{mask_of, is_ones}
use Rattle.clearance.proofs.masks.chosen.Goals as goal

abbrev of : ℕ → HalfClocks
of n = record { 0 = n }

goes_over : (two : Bool) (x v r : ℕ) (short long : HalfClocks)
    → mask_of two ≡ x
    → short.0 < 65536
    → long.0 < 65536
    → v < 65536
    → (v + long.0) % 65536 ≡ short.0
    → r ≡ (long.0 + bit_and v x) % 65536
    → of r ≡ cond two short long
goes_over true x v r short long is fits₁ fits₂ small change e =
    let kept : bit_and v x ≡ v % 65536 = rw (sym is) (and_mask v 16) in
    ap of (let whole : r ≡ short.0 = omega (arith, e, kept, change) in whole)
goes_over false x v r short long is fits₁ fits₂ small change e =
    let kept : bit_and v x ≡ v % 1 = rw (sym is) (and_mask v 0) in
    ap of (let none : r ≡ long.0 = omega (arith, e, kept) in none)

pub returns : goal.returns
returns c =
    let args = c.args in
    goes_over (is_ones args.mask) _ _ _ args.short args.long c.requires (omega arith) (omega arith) (omega arith)
    (omega arith) refl
