-- What a body declares stands in the text of its action.
use Rattle.std.proofs.Common.{◌≡◌, inl, inr, ⊎_elim, refl, sym, ap, ◌∙◌}
use Rattle.std.specs.Prelude.{List, [], ◌∷◌, ◌++◌, Option, Some, None}
use Rattle.std.specs.List.{flat_map}
use Rattle.pst_base.specs.declared.position.Place.{Place}
use Rattle.pst_ast.specs.declared.shared.LabelNode.{LabelNode}
use Rattle.pst_ast.specs.BodyTree.{BodyStatementTree, BodyStatementEmpty, BodyStatementLocal, BodyStatementAssign, BodyStatementCall, BodyStatementBlock, BodyStatementIf, BodyStatementIfElse, BodyStatementRepeat, BodyStatementRow, NoBodyStatementRow, MoreBodyStatementRow}
use Rattle.pst_ast.specs.declared.scope_declaration.Declaration.{Declaration}
use Rattle.pst_ast.specs.Declarations.{index_of, in_body_statement, in_body_row}
use Rattle.pst_sound_model.proofs.Members.{In, in_append}

module _ (type : Place) where
  abbrev AreInside : List Declaration → Type 0
  AreInside xs = (d : Declaration) → In d xs → d.inside ≡ Some type

  inside_none : AreInside []
  inside_none d there = absurd there

  inside_one : (x : Declaration) → x.inside ≡ Some type → AreInside (x ∷ [])
  inside_one x is d (inl e) = sym (ap (λ (y : Declaration). y.inside) e) ∙ is
  inside_one x is d (inr there) = absurd there

  inside_both : (xs ys : List Declaration) → AreInside xs → AreInside ys → AreInside (xs ++ ys)
  inside_both xs ys a b d there = ⊎_elim (a d) (b d) (in_append xs ys d there)

  inside_index : (index : Option LabelNode) → AreInside (index_of type index)
  inside_index None = inside_none
  inside_index (Some label) = inside_one _ refl

  mutual
    statement_inside : (scope : Place) (t : BodyStatementTree) → AreInside (in_body_statement type scope t)
    statement_inside scope (BodyStatementEmpty place) = inside_none
    statement_inside scope (BodyStatementLocal plain name value semicolon) = inside_one _ refl
    statement_inside scope (BodyStatementAssign name equal source semicolon) = inside_none
    statement_inside scope (BodyStatementCall call semicolon) = inside_none
    statement_inside scope (BodyStatementBlock left statements right) = row_inside left statements
    statement_inside scope (BodyStatementIf word left condition right then_part) = statement_inside right then_part
    statement_inside scope (BodyStatementIfElse word left condition right then_part else_place otherwise) =
        inside_both (in_body_statement type right then_part) (in_body_statement type else_place otherwise) (statement_inside right then_part) (statement_inside else_place otherwise)
    statement_inside scope (BodyStatementRepeat word left index count right statement) = inside_both (index_of type index) (in_body_statement type right statement) (inside_index index) (statement_inside right statement)

    row_inside : (scope : Place) (t : BodyStatementRow) → AreInside (in_body_row type scope t)
    row_inside scope NoBodyStatementRow = inside_none
    row_inside scope (MoreBodyStatementRow head tail) = inside_both (in_body_statement type scope head) (in_body_row type scope tail) (statement_inside scope head) (row_inside scope tail)

  pub all_inside : (scope : Place) (ts : List BodyStatementTree) → AreInside (flat_map (in_body_statement type scope) ts)
  all_inside scope [] = inside_none
  all_inside scope (x ∷ more) = inside_both (in_body_statement type scope x) (flat_map (in_body_statement type scope) more) (statement_inside scope x) (all_inside scope more)
