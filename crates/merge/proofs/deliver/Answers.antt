-- Why `merge::deliver` answers the number of sectors and of bytes, or 9: its one test is that of 9, and there is a
-- sector for each number. Rests on no axiom.
use mathlib.Core.Path.{◌∙◌, refl, sym, ap}
use borrow.Author.Tests.{le-ltb, lt-ltb}
use Rattle.lists.proofs.StoreLaws.{stored_at_front_fills}
use Rattle.refusal.specs.Answer.{Answer}
use Rattle.merge.specs.Rule.{room_rule}
use Rattle.merge.proofs.RuleLaws.{accepted_numbers}
use Rattle.merge.proofs.deliver.Goals as goal

pub merged_size-bytes-requires : goal.merged_size-bytes-requires
merged_size-bytes-requires c =
    let pre = c.requires in
    (pre.0, (accepted_numbers _ _ (sym (ap (λ (a : Answer). a.number) pre.1))).1)

pub returns-then-out-bytes : goal.returns-then-out-bytes
unfolding room_rule
returns-then-out-bytes c = rw (lt-ltb _ _ (rw c.merged_size-bytes.ensures at c.if-out-bytes.true)) (refl, refl)

pub write_merged-requires : goal.write_merged-requires
write_merged-requires c =
    let pre = c.requires in (
      pre.0,
      (accepted_numbers _ _ (sym (ap (λ (a : Answer). a.number) pre.1))).1,
      rw c.merged_size-bytes.ensures at c.if-out-bytes.false,
    )

pub returns : goal.returns
unfolding room_rule
returns c =
    let pre = c.requires in
    let rule = (accepted_numbers _ _ (sym (ap (λ (a : Answer). a.number) pre.1))).2 in
    let fits = rw c.merged_size-bytes.ensures at c.if-out-bytes.false in
    rw (le-ltb _ _ fits, ap (λ (a : Answer). a.count) (pre.1 ∙ rule), c.merged_size-bytes.ensures)
    (refl, c.write_merged.ensures ∙ stored_at_front_fills _ _ fits)
