use Rattle.std.proofs.Common.{◌≡◌, drop}
use Rattle.std.specs.List.{position_from}
use Rattle.std.specs.Option.{option_or}
use Rattle.std.specs.HashMap.{get}
use Rattle.pst_bound_pools.specs.declared.instance_table.ChildKey.{ChildKey}
use Rattle.pst_bound_pools.specs.Children.{is_child, same_child}
use Rattle.pst_bound_pools.proofs.instance_table.children_of.Given as goal

abbrev pub invariant-loop-at : goal.invariant-loop-at
invariant-loop-at l = (q : ChildKey) → option_or (get same_child l.children q) (position_from (is_child q) l.at (drop l.at l.instances)) ≡ position_from (is_child q) 0 l.instances
