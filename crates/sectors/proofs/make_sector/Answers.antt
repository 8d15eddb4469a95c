-- Why `sectors::make_sector` answers `sector_rule` and leaves `sector_output`: the test that failed decides, and where
-- none did the sector's items are at the front. Rests on no axiom.
use Prim.Native.Nat.{ℕ, ◌≤◌}
use mathlib.Core.Path.{◌≡◌, ◌∙◌}
use mathlib.Core.Bool.{false}
use native.Mathlib.Omega.{arith}
use borrow.Author.Tests.{eq-eqb, le-ltb, lt-ltb, ne_eqb}
use lib.Dec.{eqb}
use Rattle.lists.proofs.StoreLaws.{stored_at_front_fills}
use Rattle.sectors.specs.Sector.{is_misfit, is_misfit_in_maker, sector_output, sector_rule}
use Rattle.sectors.proofs.SectorCounts.{sector_length}
use Rattle.sectors.proofs.make_sector.Goals as goal

from_1_is_not_0 : (code : ℕ) → 1 ≤ code → eqb code 0 ≡ false
from_1_is_not_0 code h = ne_eqb code 0 (λ e. omega arith)

pub returns-then-code-lt1 : goal.returns-then-code-lt1
unfolding sector_rule sector_output is_misfit_in_maker
returns-then-code-lt1 c =
    let code = c.args.code in
    record {
      answer = rw (eq-eqb code 0 (omega (arith, c.if-code-lt1.true)));
      output = rw (eq-eqb code 0 (omega (arith, c.if-code-lt1.true)));
    }

pub returns-then-code-gt3 : goal.returns-then-code-gt3
unfolding sector_rule sector_output is_misfit_in_maker is_misfit
returns-then-code-gt3 c =
    let code = c.args.code in
    record {
      answer = rw (from_1_is_not_0 code (omega (arith, c.if-code-lt1.false)), lt-ltb _ _ c.if-code-gt3.true);
      output = rw (from_1_is_not_0 code (omega (arith, c.if-code-lt1.false)), lt-ltb _ _ c.if-code-gt3.true);
    }

pub returns-then-bytes-sector_size : goal.returns-then-bytes-sector_size
unfolding sector_rule sector_output is_misfit_in_maker is_misfit
returns-then-bytes-sector_size c =
    let code = c.args.code in
    let other = rw c.sector_size.ensures at c.if-bytes-sector_size.true in
    record {
      answer = rw (
        from_1_is_not_0 code (omega (arith, c.if-code-lt1.false)),
        le-ltb _ _ c.if-code-gt3.false,
        ne_eqb _ _ other,
      );
      output = rw (
        from_1_is_not_0 code (omega (arith, c.if-code-lt1.false)),
        le-ltb _ _ c.if-code-gt3.false,
        ne_eqb _ _ other,
      );
    }

pub returns-then-out-count : goal.returns-then-out-count
unfolding sector_rule sector_output is_misfit_in_maker is_misfit
returns-then-out-count c =
    record {
      answer = rw (
        from_1_is_not_0 _ c.if-code-lt1.false,
        le-ltb _ _ c.if-code-gt3.false,
        eq-eqb _ _ (c.if-bytes-sector_size.false ∙ c.sector_size.ensures),
        sector_length,
        lt-ltb _ _ c.if-out-count.true,
      );
      output = rw (
        from_1_is_not_0 _ c.if-code-lt1.false,
        le-ltb _ _ c.if-code-gt3.false,
        eq-eqb _ _ (c.if-bytes-sector_size.false ∙ c.sector_size.ensures),
        sector_length,
        lt-ltb _ _ c.if-out-count.true,
      );
    }

pub returns : goal.returns
unfolding sector_rule sector_output is_misfit_in_maker is_misfit
returns c =
    let room = c.if-out-count.false in
    record {
      answer = rw (
        from_1_is_not_0 _ c.if-code-lt1.false,
        le-ltb _ _ c.if-code-gt3.false,
        eq-eqb _ _ (c.if-bytes-sector_size.false ∙ c.sector_size.ensures),
        sector_length,
        le-ltb _ _ room,
      );
      output = rw (
        from_1_is_not_0 _ c.if-code-lt1.false,
        le-ltb _ _ c.if-code-gt3.false,
        eq-eqb _ _ (c.if-bytes-sector_size.false ∙ c.sector_size.ensures),
        sector_length,
        le-ltb _ _ room,
      ) (c.put_sector.ensures ∙ stored_at_front_fills _ _ (rw sector_length room));
    }
