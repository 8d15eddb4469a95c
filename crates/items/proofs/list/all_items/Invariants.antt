use mathlib.Core.Path.{◌≡◌}
use mathlib.Core.Bool.{◌&&◌}
use lib.ListN.{drop}
use Rattle.lists.specs.Place.{everywhere}
use Rattle.items.specs.Item.{is_item}
use Rattle.items.proofs.list.all_items.Given as goal

abbrev pub invariant-loop-item : goal.invariant-loop-item
invariant-loop-item l = (l.all && everywhere is_item (drop l.item-index l.items)) ≡ everywhere is_item l.items
