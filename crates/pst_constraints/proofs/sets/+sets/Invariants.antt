use Rattle.std.proofs.Common.{◌≡◌, ◌++◌, ◌+◌, ◌*◌, ◌-◌, drop, map}
use Rattle.std.specs.List.{flat_map}
use Rattle.pst_ast.specs.declared.constraint.ConstraintNode.{size-ConstraintNode}
use Rattle.pst_ast.specs.declared.constraint.ConstraintItem.{size-ConstraintItem}
use Rattle.pst_ast.specs.ConstraintView.{view_constraint as view_set, view_constraint_item}
use Rattle.pst_elab_rules.specs.Constraints.{item_terms, set_terms, with_turn, for_each}
use Rattle.pst_model.specs.ConstraintTree.{view_constraint}
use Rattle.pst_path_readings.specs.Set.{view_setting}
use Rattle.pst_terms.specs.Fields.{counted}
use Rattle.pst_terms.specs.Readings.{AtNumber}
use Rattle.pst_sources.specs.Shown.{sources_of}
use Rattle.pst_constraints.specs.Implied.{made, view_premises}
use Rattle.pst_constraints.proofs.sets.+sets.Given as goal

abbrev pub invariant-add_items-loop-item : goal.invariant-add_items-loop-item
invariant-add_items-loop-item l = record {
  kept : view_setting l.setting ≡ view_setting l.initial.setting;
  found : map view_constraint l.found.items ++ map (made (view_premises l.premises)) (flat_map (item_terms (sources_of l.sources) (view_setting l.initial.setting)) (map view_constraint_item (drop l.item-index l.items)))
      ≡ map view_constraint l.initial.found.items ++ map (made (view_premises l.premises)) (flat_map (item_terms (sources_of l.sources) (view_setting l.initial.setting)) (map view_constraint_item l.items));
}

abbrev pub invariant-add_turns-loop-number : goal.invariant-add_turns-loop-number
invariant-add_turns-loop-number l = record {
  kept : view_setting l.setting ≡ view_setting l.initial.setting;
  found : map view_constraint l.found.items ++ map (made (view_premises l.premises)) (flat_map (λ i. set_terms (sources_of l.sources) (with_turn (view_setting l.initial.setting) l.index (AtNumber i)) (view_set l.set)) (counted l.number (l.count - l.number)))
      ≡ map view_constraint l.initial.found.items ++ map (made (view_premises l.premises)) (for_each (λ i. set_terms (sources_of l.sources) (with_turn (view_setting l.initial.setting) l.index (AtNumber i)) (view_set l.set)) l.count);
}

abbrev pub decreases-add_set : goal.decreases-add_set
decreases-add_set l = 4 * size-ConstraintNode l.set.now

abbrev pub decreases-add_item : goal.decreases-add_item
decreases-add_item l = 4 * size-ConstraintItem l.item.now

abbrev pub decreases-add_implied : goal.decreases-add_implied
decreases-add_implied l = 4 * size-ConstraintNode l.set.now + 1

abbrev pub decreases-add_turns : goal.decreases-add_turns
decreases-add_turns l = 4 * size-ConstraintNode l.set.now + 1

abbrev pub decreases-add_items : goal.decreases-add_items
decreases-add_items l = 4 * goal.size-add_items l + 1
