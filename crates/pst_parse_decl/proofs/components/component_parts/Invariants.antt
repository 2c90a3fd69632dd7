use Rattle.pst_ast.specs.DeclarationView.{view_component_part}
use Rattle.pst_parse_decl.proofs.components.component_parts.Given as goal
use Rattle.pst_parse_decl.specs.Families.{component_part_family}
use Rattle.pst_parse_decl.specs.Inner.{activity_parser, body_parser}
use Rattle.pst_parse_expr.specs.Constraints.{is_other}
use Rattle.pst_reading.proofs.Lists.{ListLoop}
use Rattle.pst_token.specs.declared.kind.Kind.TheVariants as kind
use Rattle.std.proofs.Common.{◌-◌, map, length}

abbrev pub invariant-parts : goal.invariant-parts
invariant-parts l = ListLoop (is_other kind.RightBrace) (component_part_family activity_parser body_parser 1) l.tokens (l.fn.at - 1) l.fn.at (map view_component_part l.parts.items) l.place

abbrev pub decreases-parts : goal.decreases-parts
decreases-parts l = length l.tokens - l.place
