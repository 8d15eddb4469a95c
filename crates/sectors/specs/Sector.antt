-- Document 01, "Sector maker": the items of a sector of any of the four length codes, and what the maker answers, which
-- takes codes 1 to 3. No lemmas here.
use Rattle.std.specs.Prelude.{ℕ, ◌+◌, Bool, cond, not, ◌||◌, List, [], ◌∷◌, ◌++◌, eqb, ltb, length, replicate}
use Rattle.refusal.specs.Answer.{Answer, accepted, refuse_if, settled}

-- code 0 to 3 means 128, 256, 512, 1,024 bytes
unfoldable pub sector_size : ℕ → ℕ
sector_size code = cond (eqb code 0) 128 (cond (eqb code 1) 256 (cond (eqb code 2) 512 1024))

-- 12 of 00, three marks A1, and FE or FB
unfoldable pub opening : ℕ → List ℕ
opening kind = replicate 12 0x00 ++ replicate 3 (256 + 0xa1) ++ (kind ∷ [])

-- track, side, sector, length code, check
unfoldable pub identity : ℕ → ℕ → ℕ → ℕ → List ℕ
identity track side sector code = track ∷ side ∷ sector ∷ code ∷ 512 ∷ []

-- 12 of 00, three marks A1, FE, track, side, sector, length code, check, 22 of 4E,
-- 12 of 00, three marks A1, FB, the data, check, 54 of 4E
unfoldable pub sector_items : ℕ → ℕ → ℕ → ℕ → List ℕ → List ℕ
sector_items track side sector code bytes =
    opening 0xfe
    ++ identity track side sector code
    ++ replicate 22 0x4e
    ++ opening 0xfb
    ++ (bytes ++ (512 ∷ []))
    ++ replicate 54 0x4e

-- 13, misfit: length code above 3, or data not that long
unfoldable pub is_misfit : ℕ → List ℕ → Bool
is_misfit code bytes = ltb 3 code || not (eqb (length bytes) (sector_size code))

-- document 02, (xiii): 13 also covers code 0 in the maker, and only there
unfoldable pub is_misfit_in_maker : ℕ → List ℕ → Bool
is_misfit_in_maker code bytes = eqb code 0 || is_misfit code bytes

-- 13, 9, else the number of items
unfoldable pub sector_rule : ℕ → ℕ → ℕ → ℕ → List ℕ → ℕ → Answer
sector_rule track side sector code bytes room =
    refuse_if (is_misfit_in_maker code bytes) 13 0
    (refuse_if (ltb room (length (sector_items track side sector code bytes))) 9 0
    (accepted (length (sector_items track side sector code bytes))))

-- what the output holds afterwards
unfoldable pub sector_output : ℕ → ℕ → ℕ → ℕ → List ℕ → List ℕ → List ℕ
sector_output track side sector code bytes old =
    settled (sector_rule track side sector code bytes (length old)) (sector_items track side sector code bytes) old
