use Rattle.std.proofs.Common.{◌≡◌, ◌+◌, ◌≤◌, drop, map, length}
use Rattle.std.specs.List.{flat_map}
use Rattle.pst_ast.specs.DeclarationView.{view_action_part}
use Rattle.pst_type_rules.specs.Members.{activities_in}
use Rattle.pst_declaration_rules.proofs.shape.activities_among.Given as goal

abbrev pub invariant-loop-part : goal.invariant-loop-part
invariant-loop-part l = record {
  few : l.count ≤ l.part-index;
  counted : l.count + length (flat_map activities_in (map view_action_part (drop l.part-index l.parts))) ≡ length (flat_map activities_in (map view_action_part l.parts));
}
