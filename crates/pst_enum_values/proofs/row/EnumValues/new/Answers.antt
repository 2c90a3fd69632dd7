use Rattle.pst_ast.specs.DeclarationView.{view_enum}
use Rattle.pst_evaluate.specs.Kept.{known_in}
use Rattle.pst_enum_values.proofs.Rows.{row_made}
use Rattle.pst_enum_values.proofs.row.EnumValues.new.Goals as goal

pub returns : goal.returns
returns c =
    row_made (known_in c.args.values.now) c.args.site.now.component (view_enum c.args.site.now.node.now) c.new-found.result.items c.add_values.new.found.items c.sort.new.values.items c.in_ok-known.known
    c.in_ok-known.ensures.known c.new-found.ensures.items c.in_ok-known.ensures.added c.sort.ensures.same
