-- The parts of a row in a tree are spelled as those of its list: body.
use Rattle.std.proofs.Common.{◌≡◌, ◌++◌, ◌∷◌, [], List, refl, ap, ◌∙◌}
use Rattle.std.specs.Prelude.{map}
use Rattle.std.specs.List.{flat_map}
use Rattle.std.specs.Global.{Vec}
use Rattle.pst_token.specs.declared.token.Token.{Token}
use Rattle.pst_ast.specs.declared.body.BodyStatement.{Row_of-BodyStatement, end_of-BodyStatement, more_of-BodyStatement, items-the_row-BodyStatement, items_hidden-the_row-BodyStatement-0, BodyStatement}
use Rattle.pst_ast.specs.declared.body.BodyStatement.TheBlock.{hidden-the_row-BodyStatement-0}
use Rattle.pst_ast.specs.BodyView.{view_body_statement, view_body_statement_row}
use Rattle.pst_ast.specs.BodySpelling.{spell_body_statement, spell_body_statement_row}
use Rattle.pst_base.specs.declared.position.Place.{Place}
use Rattle.pst_token.specs.declared.kind.Kind.TheVariants as kind
use Rattle.pst_ast.specs.declared.body.BodyStatement.TheVariants as the_body_statement
use Rattle.pst_ast.specs.Marks.{mark}

body_statement_row : {n : _} (k : Row_of-BodyStatement n) → spell_body_statement_row (view_body_statement_row k) ≡ flat_map spell_body_statement (map view_body_statement (items-the_row-BodyStatement n k))
body_statement_row end_of-BodyStatement = refl
body_statement_row (more_of-BodyStatement head tail) = ap (λ (ts : List Token). spell_body_statement (view_body_statement (head)) ++ ts) (body_statement_row tail)

pub body_statement_items : (v : Vec BodyStatement) → spell_body_statement_row (view_body_statement_row (hidden-the_row-BodyStatement-0 v)) ≡ flat_map spell_body_statement (map view_body_statement v.items)
body_statement_items v = body_statement_row (hidden-the_row-BodyStatement-0 v) ∙ ap (λ (xs : List BodyStatement). flat_map spell_body_statement (map view_body_statement xs)) (items_hidden-the_row-BodyStatement-0 v)

pub block_spells : (left : Place) (v : Vec BodyStatement) (right : Place) → spell_body_statement (view_body_statement (the_body_statement.Block left v right)) ≡ mark kind.LeftBrace left ∷ (flat_map spell_body_statement (map view_body_statement v.items) ++ mark kind.RightBrace right ∷ [])
block_spells left v right = ap (λ (ts : List Token). mark kind.LeftBrace left ∷ (ts ++ mark kind.RightBrace right ∷ [])) (body_statement_items v)
