use Rattle.std.proofs.Common.{◌≡◌, ◌++◌, drop, map}
use Rattle.pst_ast.specs.DeclarationView.{view_action_part}
use Rattle.pst_model.specs.ConstraintTree.{view_constraint}
use Rattle.pst_model_types.specs.Parts.{action_parts}
use Rattle.pst_path_readings.specs.Set.{view_setting}
use Rattle.pst_sources.specs.Shown.{sources_of}
use Rattle.pst_model_types.proofs.action.add_parts.Given as goal

abbrev pub invariant-loop-part : goal.invariant-loop-part
invariant-loop-part l = record {
  kept : view_setting l.setting ≡ view_setting l.initial.setting;
  found : map view_constraint l.found.items ++ action_parts (sources_of l.sources) (view_setting l.initial.setting) (map view_action_part (drop l.part-index l.parts))
      ≡ map view_constraint l.initial.found.items ++ action_parts (sources_of l.sources) (view_setting l.initial.setting) (map view_action_part l.parts);
}
