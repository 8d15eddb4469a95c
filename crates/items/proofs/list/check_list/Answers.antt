-- Why `items::check_list` answers `list_rule`: it makes the rule's tests in the rule's order. Rests on no axiom.
use mathlib.Core.Path.{sym, ◌∙◌}
use native.Mathlib.Omega.{arith}
use Rattle.items.proofs.RuleLaws.{rule_of_too_many, rule_of_too_many_bytes, rule_of_items, rule_of_foreign}
use Rattle.items.proofs.RuleLaws.{foreign_stands_within}
use Rattle.items.proofs.list.check_list.Goals as goal

pub returns-then-items-gt-MAX_BYTES : goal.returns-then-items-gt-MAX_BYTES
returns-then-items-gt-MAX_BYTES c = rule_of_too_many _ c.if-items-gt-MAX_BYTES.true

pub returns-then-written_bytes-gt-MAX_BYTES : goal.returns-then-written_bytes-gt-MAX_BYTES
returns-then-written_bytes-gt-MAX_BYTES c = rule_of_too_many_bytes _ _ c.written_bytes.ensures c.if-written_bytes-gt-MAX_BYTES.true

pub returns-then-all_items : goal.returns-then-all_items
returns-then-all_items c =
    rule_of_items _ _ c.if-items-gt-MAX_BYTES.false c.written_bytes.ensures c.if-written_bytes-gt-MAX_BYTES.false
    (sym c.all_items.ensures ∙ c.if-all_items.true)

pub overflow_cast-result : goal.overflow_cast-result
overflow_cast-result c =
    let within = foreign_stands_within _ (sym c.all_items.ensures ∙ c.if-all_items.false) in
    omega (arith, c.find_foreign.ensures, c.if-items-gt-MAX_BYTES.false)

pub returns : goal.returns
returns c =
    rule_of_foreign _ _ c.if-items-gt-MAX_BYTES.false c.written_bytes.ensures c.if-written_bytes-gt-MAX_BYTES.false
    (sym c.all_items.ensures ∙ c.if-all_items.false) _ c.find_foreign.ensures
