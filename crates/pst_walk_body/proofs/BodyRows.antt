-- The uses in the rows of a body are those in its lists.
use Rattle.std.proofs.Common.{◌≡◌, ◌++◌, ◌+◌, ℕ, drop, List, refl, ap, ◌∙◌}
use Rattle.std.proofs.lemmas.List.{drop-drop}
use Rattle.std.specs.Prelude.{map}
use Rattle.std.specs.Global.{Vec}
use Rattle.pst_base.specs.declared.position.Place.{Place}
use Rattle.pst_ast.specs.declared.body.BodyStatement.{Row_of-BodyStatement, end_of-BodyStatement, more_of-BodyStatement, items-the_row-BodyStatement, items_hidden-the_row-BodyStatement-0, BodyStatement}
use Rattle.pst_ast.specs.declared.body.BodyStatement.TheBlock.{hidden-the_row-BodyStatement-0}
use Rattle.pst_ast.specs.declared.body.BodyStatement.TheVariants as the_body_statement
use Rattle.pst_ast.specs.BodyView.{view_body_statement, view_body_statement_row}
use Rattle.pst_ast.specs.declared.environment.Environment.{Environment}
use Rattle.pst_ast.specs.Uses.{Use, behind_statement, body_list_uses, body_row_uses, body_statement_uses}

body_row : (at : Environment) {n : _} (k : Row_of-BodyStatement n) → body_row_uses at (view_body_statement_row k) ≡ body_list_uses at (map view_body_statement (items-the_row-BodyStatement n k))
body_row at end_of-BodyStatement = refl
body_row at (more_of-BodyStatement head tail) = ap (λ (us : List Use). body_statement_uses at (view_body_statement head) ++ us) (body_row (behind_statement at (view_body_statement head)) tail)

pub block_uses_are : (at : Environment) (left : Place) (v : Vec BodyStatement) (right : Place) → body_statement_uses at (view_body_statement (the_body_statement.Block left v right)) ≡ body_list_uses at (map view_body_statement v.items)
block_uses_are at left v right = body_row at (hidden-the_row-BodyStatement-0 v) ∙ ap (λ (xs : List BodyStatement). body_list_uses at (map view_body_statement xs)) (items_hidden-the_row-BodyStatement-0 v)

-- one more of the innermost is left out
pub drop_next : {X : Type 0} (n : ℕ) (xs : List X) → drop 1 (drop n xs) ≡ drop (n + 1) xs
drop_next n xs = drop-drop 1 n xs
