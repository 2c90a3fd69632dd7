use Rattle.std.proofs.Common.{◌≡◌, ◌++◌, drop, map}
use Rattle.std.specs.List.{flat_map}
use Rattle.pst_elab_rules.specs.Types.{own_constraints}
use Rattle.pst_model.specs.ConstraintTree.{view_constraint}
use Rattle.pst_sources.specs.Shown.{sources_of}
use Rattle.pst_model_types.proofs.action.add_each.Given as goal

abbrev pub invariant-loop-action : goal.invariant-loop-action
invariant-loop-action l =
    map view_constraint l.found.items ++ flat_map (own_constraints (sources_of l.sources)) (drop l.action-index l.actions)
    ≡ map view_constraint l.initial.found.items ++ flat_map (own_constraints (sources_of l.sources)) l.actions
