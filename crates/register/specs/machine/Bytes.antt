-- Machine, not meaning: laws tie it to `fed` (`proofs/EightLaws`). No lemmas here.
-- Some bytes as one number, the first at the top.
use Rattle.std.specs.Prelude.{ℕ, zero, suc, ◌/◌, ◌%◌}
use Rattle.register.specs.Register.{fed}

-- the register after the n lowest bytes of a number
unfoldable pub fed_bytes : ℕ → ℕ → ℕ → ℕ
fed_bytes zero r e = r
fed_bytes (suc n) r e = fed (fed_bytes n r (e / 256)) (e % 256)
