use Rattle.std.proofs.Common.{◌≡◌, ◌++◌, drop, map}
use Rattle.pst_ast.specs.DeclarationView.{view_next_field}
use Rattle.pst_ast.specs.Declarations.{field_part, next_field_part}
use Rattle.pst_collect.proofs.collect_member.add_next_field_parts.Given as goal

abbrev pub invariant-loop-next : goal.invariant-loop-next
invariant-loop-next l = l.found.items ++ map (field_part l.owner) (map next_field_part (map view_next_field (drop l.next-index l.fields))) ≡ l.initial.found.items ++ map (field_part l.owner) (map next_field_part (map view_next_field l.fields))
