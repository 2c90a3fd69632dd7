use Rattle.std.proofs.Common.{◌≡◌, ◌++◌, drop, map}
use Rattle.pst_ast.specs.DeclarationView.{view_next_field}
use Rattle.pst_ast.specs.SharedView.{view_type}
use Rattle.pst_ast.specs.Declarations.{next_field_part}
use Rattle.pst_ast.specs.Uses.{environment}
use Rattle.pst_type_rules.specs.Sites.{field_of_part}
use Rattle.pst_site_lists.specs.Sited.{view_field_site}
use Rattle.pst_site_lists.proofs.fields.add_next_field_parts.Given as goal

abbrev pub invariant-loop-next : goal.invariant-loop-next
invariant-loop-next l =
    map view_field_site l.found.items ++ map (field_of_part (environment l.component l.owner) (view_type l.field_type)) (map next_field_part (map view_next_field (drop l.next-index l.rest)))
    ≡ map view_field_site l.initial.found.items ++ map (field_of_part (environment l.component l.owner) (view_type l.field_type)) (map next_field_part (map view_next_field l.rest))
