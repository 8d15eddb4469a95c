-- Why the maker answers every code but 0 as before: its rule has one test more, which such a code passes. Rests on no
-- axiom.
use mathlib.Core.Path.{refl}
use borrow.Author.Tests.{ne_eqb}
use Rattle.sectors.specs.Sector.{is_misfit_in_maker, sector_rule, sector_output}
use Rattle.sectors.specs.Claims.{four_codes_rule, four_codes_output, No128ByteSectors}

pub no_128_byte_sectors : No128ByteSectors
unfolding is_misfit_in_maker sector_rule sector_output four_codes_rule four_codes_output
no_128_byte_sectors =
    record {
      code_0_is_misfit = λ track side sector bytes room. refl;
      code_0_stores_nothing = λ track side sector bytes old. refl;
      others_as_before = λ track side sector code bytes room other. rw (ne_eqb code 0 other) refl;
      others_stored_as_before = λ track side sector code bytes old other. rw (ne_eqb code 0 other) refl;
    }
