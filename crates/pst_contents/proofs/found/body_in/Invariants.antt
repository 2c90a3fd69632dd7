use Rattle.std.proofs.Common.{◌≡◌, drop, map}
use Rattle.std.specs.List.{filter_map}
use Rattle.pst_ast.specs.DeclarationView.{view_action_part}
use Rattle.pst_tree.specs.Contents.{body_in, first_of}
use Rattle.pst_contents.proofs.found.body_in.Given as goal

abbrev pub invariant-loop-part : goal.invariant-loop-part
invariant-loop-part l = first_of (filter_map body_in (map view_action_part (drop l.part-index l.parts))) ≡ first_of (filter_map body_in (map view_action_part l.parts))
