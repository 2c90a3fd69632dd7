-- A block of a body declares what its list declares.
use Rattle.std.proofs.Common.{◌≡◌, ◌++◌, List, refl, ap, ◌∙◌}
use Rattle.std.specs.Prelude.{map}
use Rattle.std.specs.List.{flat_map}
use Rattle.std.specs.Global.{Vec}
use Rattle.pst_base.specs.declared.position.Place.{Place}
use Rattle.pst_ast.specs.declared.body.BodyStatement.{Row_of-BodyStatement, end_of-BodyStatement, more_of-BodyStatement, items-the_row-BodyStatement, items_hidden-the_row-BodyStatement-0, BodyStatement}
use Rattle.pst_ast.specs.declared.body.BodyStatement.TheBlock.{hidden-the_row-BodyStatement-0}
use Rattle.pst_ast.specs.declared.body.BodyStatement.TheVariants as the_body_statement
use Rattle.pst_ast.specs.BodyView.{view_body_statement, view_body_statement_row}
use Rattle.pst_ast.specs.declared.scope_declaration.Declaration.{Declaration}
use Rattle.pst_ast.specs.Declarations.{in_body_row, in_body_statement}

body_statement_row : (owner scope : Place) {n : _} (k : Row_of-BodyStatement n) → in_body_row owner scope (view_body_statement_row k) ≡ flat_map (in_body_statement owner scope) (map view_body_statement (items-the_row-BodyStatement n k))
body_statement_row owner scope end_of-BodyStatement = refl
body_statement_row owner scope (more_of-BodyStatement head tail) = ap (λ (ds : List Declaration). in_body_statement owner scope (view_body_statement head) ++ ds) (body_statement_row owner scope tail)

pub block_declares : (owner scope left : Place) (v : Vec BodyStatement) (right : Place) → in_body_statement owner scope (view_body_statement (the_body_statement.Block left v right)) ≡ flat_map (in_body_statement owner left) (map view_body_statement v.items)
block_declares owner scope left v right = body_statement_row owner left (hidden-the_row-BodyStatement-0 v) ∙ ap (λ (xs : List BodyStatement). flat_map (in_body_statement owner left) (map view_body_statement xs)) (items_hidden-the_row-BodyStatement-0 v)
