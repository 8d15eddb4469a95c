-- What holds of pages and their sectors, gathered from the laws of each topic. Rests on no axiom.
use Prim.Native.Nat.{ℕ, suc, ◌+◌, ◌≤◌}
use mathlib.Core.Path.{refl, sym, ap, ◌∙◌}
use mathlib.Core.List.{List}
use native.Mathlib.Omega.{arith}
use lib.ListN.{length}
use Rattle.lists.specs.Sum.{sum_of}
use Rattle.sets.specs.Held.{One}
use Rattle.page.specs.Reading.{read_answer, read_output}
use Rattle.page.specs.Making.{sector_of_page, stretch_set}
use Rattle.page.specs.Claims.{PageLaws}
use Rattle.page.proofs.BackLaws.{made_says, made_reads, cells_kept, dots_kept}
use Rattle.page.proofs.SectorLaws.{read_says, sector_is, page_read}
use Rattle.page.proofs.ShareLaws.{shares_merge, all_of_them}
use Rattle.page.proofs.SameLaws.{turned_away_alike, both_alike}

pub page_laws : PageLaws
unfolding read_answer read_output
page_laws =
    record {
      there_and_back = λ cells old pages room e h.
          let says = made_says cells pages room e in
          rw (
            made_reads cells pages says.1 says.2 (length old) says.0 h,
            dots_kept cells pages says.1 says.2,
            cells_kept cells pages says.1 says.2,
          )
          (refl, refl);
      read_from_sectors = λ set pages room k e h.
          let reads = read_says set pages room e in
          sector_is set pages room reads k h ∙ ap (λ (p : List ℕ). One (sector_of_page (suc k) p)) (sym (page_read set pages room reads k h));
      as_the_merge = turned_away_alike;
      merged_gives_the_same = λ set old pages room e. both_alike set room e old pages;
      over_several_sets = λ cells shares pages room e sum.
          let says = made_says cells pages room e in
          let inside : 0 + sum_of shares ≤ pages = omega (arith, sum) in
          let shared = shares_merge cells pages says.1 says.2 shares 0 inside in (
            shared.0,
            shared.1 ∙ ap (stretch_set cells 0) sum ∙ all_of_them cells pages says.1 says.2,
          );
    }
