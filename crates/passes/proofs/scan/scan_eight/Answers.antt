-- Why `scan::scan_eight` counts and finds a gap: the bytes of its number show both. Rests on no axiom.
use Rattle.std.proofs.Common.{◌≡◌, ◌+◌, ◌*◌, ◌%◌, ◌^◌, ◌||◌, not, eqb, ap, ◌∙◌, mod-eq_of_lt, arith}
use lib.Bits.{bit_and}
use Rattle.symbols.specs.machine.Gaps.{gaps_from}
use Rattle.passes.specs.machine.Lanes.{packed, sums_of}
use Rattle.passes.proofs.ScanLaws.{eight_shows, sum_range}
use Rattle.passes.proofs.scan.scan_eight.Goals as goal

pub returns : goal.returns
returns c =
    λ us cells size packs room. let at = c.args.at in
    let shows = eight_shows at.sum us cells size in
    let made = c.sums_of-sums in
    let sums : made.result ≡ sums_of (packed us) = made.ensures ∙ ap sums_of packs in
    let even = (made.result * 2 ^ 2 % 2 ^ 64 + 0x0404040404040404 * 2 ^ (at.sum % 2) % 2 ^ 64) % 2 ^ 64 in
    let gap : not (eqb (bit_and c.args.x even) 0) ≡ gaps_from at.sum us = rw (packs, sums) shows.gap in (
      rw (sums, shows.sum) (mod-eq_of_lt (omega (arith, room, (sum_range us cells).1, size))),
      ap (◌||◌ at.gap) gap,
    )
