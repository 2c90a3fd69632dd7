use Rattle.std.proofs.Common.{◌≡◌, drop}
use Rattle.std.specs.List.{find}
use Rattle.std.specs.Option.{option_or}
use Rattle.std.specs.HashMap.{get}
use Rattle.pst_index.specs.declared.key.Key.{Key}
use Rattle.pst_index.specs.Found.{is_other_item, same_key}
use Rattle.pst_index.proofs.first.other_items.Given as goal

abbrev pub invariant-loop-declaration : goal.invariant-loop-declaration
invariant-loop-declaration l = (q : Key) → option_or (get same_key l.found q) (find (is_other_item (get same_key l.items q) q) (drop l.declaration-index l.declarations)) ≡ find (is_other_item (get same_key l.items q) q) l.declarations
