-- Why `sectors::put_sector` stores `sector_items`: each part is stored where the one before it ends. Rests on no axiom.
use mathlib.Core.Path.{◌∙◌}
use native.Mathlib.Omega.{arith}
use lib.ListN.{length-append, replicate}
use Rattle.lists.proofs.StoreLaws.{stored_next}
use Rattle.sectors.specs.Sector.{identity, opening, sector_items}
use Rattle.sectors.proofs.put_sector.Goals as goal

pub returns : goal.returns
unfolding sector_items opening identity
returns c =
    c.repeat.ensures.output
    ∙ stored_next _ _ _ _ _ _ c.put_data-end.ensures.output
    (simp length-append (omega (arith, c.put_data-end.ensures.next)))
    ∙ stored_next (opening 0xfb) _ _ _ _ _ c.open_field-first.ensures.output c.open_field-first.ensures.next
    ∙ stored_next (replicate 22 0x4e) _ _ _ _ _ c.repeat-second.ensures.output c.repeat-second.ensures.next
    ∙ stored_next _ _ _ _ _ _ c.put_identity-gap.ensures.output c.put_identity-gap.ensures.next
    ∙ stored_next (opening 0xfe) _ _ _ _ _ c.open_field-id.ensures.output c.open_field-id.ensures.next
