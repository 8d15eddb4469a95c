-- `register::feed_eight` is the formula for eight bytes, and that is all bytes' bit steps. Rests on no axiom.
use Prim.Native.Nat.{ℕ, ◌*◌, ◌%◌, ◌^◌, ◌<◌}
use mathlib.Core.Path.{◌≡◌}
use native.Mathlib.Omega.{arith}
use Rattle.register.proofs.EightLaws.{eight_byte_formula_is_fed}
use Rattle.register.proofs.feed_eight.Goals as goal

low_bits : (n : ℕ) → n % 65536 < 65536
low_bits n = omega arith

pub returns : goal.returns
returns c =
    let args = c.args in
    let whole : args.register * 2 ^ 48 % 2 ^ 64 ≡ args.register * 2 ^ 48 = omega arith in
    rw whole (eight_byte_formula_is_fed args.register args.eight (omega arith) (omega arith))
