use Rattle.std.proofs.Common.{◌≡◌, ◌++◌, drop, map}
use Rattle.std.specs.Prelude.{flat_map}
use Rattle.std.specs.List.{enumerate_from}
use Rattle.pst_model.specs.ModelView.{view_model}
use Rattle.pst_constraint_sites.specs.Groups.{compound_groups}
use Rattle.pst_constraint_sites.specs.Views.{view_group}
use Rattle.pst_constraint_sites.proofs.collecting.add_fills.Given as goal

abbrev pub invariant-loop-node : goal.invariant-loop-node
invariant-loop-node l = (l.number ≡ l.node-index) × (map view_group l.groups.items ++ flat_map (compound_groups (view_model l.model)) (enumerate_from l.node-index (drop l.node-index l.nodes)) ≡ map view_group l.initial.groups.items ++ flat_map (compound_groups (view_model l.model)) (enumerate_from 0 l.nodes))
