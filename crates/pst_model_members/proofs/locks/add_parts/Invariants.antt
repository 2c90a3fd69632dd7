use Rattle.std.proofs.Common.{◌≡◌, ◌++◌, drop, map}
use Rattle.std.specs.List.{flat_map}
use Rattle.pst_ast.specs.DeclarationView.{view_action_part}
use Rattle.pst_elab_rules.specs.Types.{locked_in}
use Rattle.pst_model_members.specs.Listed.{place_of_name}
use Rattle.pst_model_members.proofs.locks.add_parts.Given as goal

abbrev pub invariant-loop-part : goal.invariant-loop-part
invariant-loop-part l =
    l.found.items ++ map place_of_name (flat_map locked_in (map view_action_part (drop l.part-index l.parts)))
    ≡ l.initial.found.items ++ map place_of_name (flat_map locked_in (map view_action_part l.parts))
