use Rattle.pst_ast.specs.DeclarationView.{view_object_part}
use Rattle.pst_parse_decl.proofs.objects.object_parts.Given as goal
use Rattle.pst_parse_decl.specs.Families.{object_part_family}
use Rattle.pst_parse_expr.specs.Constraints.{is_other}
use Rattle.pst_reading.proofs.Lists.{ListLoop}
use Rattle.pst_token.specs.declared.kind.Kind.TheVariants as kind
use Rattle.std.proofs.Common.{◌-◌, map, length}

abbrev pub invariant-parts : goal.invariant-parts
invariant-parts l = ListLoop (is_other kind.RightBrace) (object_part_family l.depth) l.tokens (l.fn.at - 1) l.fn.at (map view_object_part l.parts.items) l.place

abbrev pub decreases-parts : goal.decreases-parts
decreases-parts l = length l.tokens - l.place
