-- Why `word::cells_since` gives `cells_since`: a mask of n low bits leaves the rest by 2 ^ n.
use Rattle.std.proofs.Common.{◌≡◌, ℕ, ◌*◌, ◌%◌, ◌^◌, ap, ◌∙◌, one-mul, arith, pow_pos, shl_exact}
use lib.Bits.{and_mask}
use lib.Count.{ones, leading_le}
use Rattle.half_cells.specs.machine.Word.{cells_since}
use Rattle.half_cells.proofs.cells_since.Goals as goal

power : (n : ℕ) → 1 * 2 ^ (n % 32) % 2 ^ 32 ≡ 2 ^ (n % 32)
power n = shl_exact {a = 1} 1 (n % 32) 32 (omega arith) (omega arith) ∙ one-mul (2 ^ (n % 32))

pub returns : goal.returns
unfolding cells_since
returns c = rw power (ap ones (and_mask _ _))
