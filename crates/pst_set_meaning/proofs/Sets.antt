-- A set of constraints becomes constraints that hold together exactly where the set holds.
use Rattle.std.proofs.Common.{◌≡◌, refl, sym, subst}
use Rattle.std.specs.Prelude.{◌↔◌, ℤ, List, [], ◌∷◌, map, Option, Some, None}
use Rattle.std.specs.List.{flat_map}
use Rattle.pst_ast.specs.ExpressionTree.{ExprTree}
use Rattle.pst_ast.specs.SharedTree.{NextExprTree}
use Rattle.pst_ast.specs.ConstraintTree.{ConstraintTree, ConstraintOne, ConstraintBlock, ConstraintItemTree, ConstraintItemEmpty, ConstraintItemExpr, ConstraintItemImplies, ConstraintItemIf, ConstraintItemIfElse, ConstraintItemUnique, ConstraintItemForeach, ConstraintItemRow, NoConstraintItemRow, MoreConstraintItemRow, ConstraintContentNamed, ConstraintContentSet, ConstraintDeclarationTree, MakeConstraintDeclaration}
use Rattle.pst_expr.specs.declared.tree.UnaryOp.TheVariants.{Not}
use Rattle.pst_model.specs.ConstraintTree.{SlotTree}
use Rattle.pst_ast.specs.Uses.{next_expr}
use Rattle.pst_terms.specs.Laws.{RewritingKeepsValues}
use Rattle.pst_terms.specs.Sources.{Sources}
use Rattle.pst_terms.specs.Terms.{Prefix}
use Rattle.pst_terms.specs.Readings.{Setting, AtNumber, reading_of, expr_term}
use Rattle.pst_terms.specs.Values.{term_value}
use Rattle.pst_elab_rules.specs.Constraints.{with_turn, turns_of, pairs, implied, set_terms, item_terms, item_row_terms, declaration_terms}
use Rattle.pst_elab_rules.specs.Meaning.{AllHold, RewritingsMean}
use Rattle.pst_set_meaning.specs.Holding.{value_there, AreApart, HoldsWhere, HoldsElse, IsEmpty, SetHolds, ItemHolds, RowHolds, AllItemsHold, DeclarationHolds}
use Rattle.pst_set_meaning.proofs.Items.{true_means, join, left, right, pairs_mean, implied_means, else_means}

module _ (m : RewritingsMean) (k : RewritingKeepsValues) (f : SlotTree → Option ℤ) (s : Sources) where
  same : (setting : Setting) (expr : ExprTree) → term_value f (expr_term s setting expr) ≡ value_there f s setting expr
  same setting expr = k f (reading_of s setting) expr

  same_rest : (setting : Setting) (rest : List NextExprTree) → map (term_value f) (map (λ (n : NextExprTree). expr_term s setting (next_expr n)) rest) ≡ map (λ (n : NextExprTree). value_there f s setting (next_expr n)) rest
  same_rest setting [] = refl
  same_rest setting (n ∷ more) = λ i. same setting (next_expr n) i ∷ same_rest setting more i

  same_items : (setting : Setting) (first : ExprTree) (rest : List NextExprTree)
      → map (term_value f) (expr_term s setting first ∷ map (λ (n : NextExprTree). expr_term s setting (next_expr n)) rest) ≡ value_there f s setting first ∷ map (λ (n : NextExprTree). value_there f s setting (next_expr n)) rest
  same_items setting first rest = λ i. same setting first i ∷ same_rest setting rest i

  unique_means : (setting : Setting) (first : ExprTree) (rest : List NextExprTree) → AllHold f (pairs (expr_term s setting first ∷ map (λ (n : NextExprTree). expr_term s setting (next_expr n)) rest))
      ↔ AreApart (value_there f s setting first ∷ map (λ (n : NextExprTree). value_there f s setting (next_expr n)) rest)
  unique_means setting first rest =
      let terms = expr_term s setting first ∷ map (λ (n : NextExprTree). expr_term s setting (next_expr n)) rest in
      ((λ all. subst AreApart (same_items setting first rest) ((pairs_mean f m terms).0 all)), (λ apart. (pairs_mean f m terms).1 (subst AreApart (sym (same_items setting first rest)) apart)))

  -- what stands under a condition
  where_to : (o : Option ℤ) (empty : Type 0) (P Q : Type 0) → (P → Q) → HoldsWhere o empty P → HoldsWhere o empty Q
  where_to None empty P Q to holds = holds
  where_to (Some v) empty P Q to holds = λ isnt. to (holds isnt)

  else_to : (o : Option ℤ) (empty : Type 0) (P Q : Type 0) → (P → Q) → HoldsElse o empty P → HoldsElse o empty Q
  else_to None empty P Q to holds = holds
  else_to (Some v) empty P Q to holds = λ is. to (holds is)

  under : (setting : Setting) (condition : ExprTree) (set : ConstraintTree) → AllHold f (set_terms s setting set) ↔ SetHolds f s setting set
      → AllHold f (implied (expr_term s setting condition) (set_terms s setting set)) ↔ HoldsWhere (value_there f s setting condition) (IsEmpty s setting set) (SetHolds f s setting set)
  under setting condition set means =
      let c = expr_term s setting condition in
      let o = value_there f s setting condition in
      let terms = set_terms s setting set in
      let by = implied_means f m c terms o (same setting condition) in (
        (λ all. where_to o (terms ≡ []) (AllHold f terms) (SetHolds f s setting set) means.0 (by.0 all)),
        (λ holds. by.1 (where_to o (terms ≡ []) (SetHolds f s setting set) (AllHold f terms) means.1 holds)),
      )

  otherwise : (setting : Setting) (condition : ExprTree) (set : ConstraintTree) → AllHold f (set_terms s setting set) ↔ SetHolds f s setting set
      → AllHold f (implied (Prefix Not (expr_term s setting condition)) (set_terms s setting set)) ↔ HoldsElse (value_there f s setting condition) (IsEmpty s setting set) (SetHolds f s setting set)
  otherwise setting condition set means =
      let c = expr_term s setting condition in
      let o = value_there f s setting condition in
      let terms = set_terms s setting set in
      let by = else_means f m c terms o (same setting condition) in (
        (λ all. else_to o (terms ≡ []) (AllHold f terms) (SetHolds f s setting set) means.0 (by.0 all)),
        (λ holds. by.1 (else_to o (terms ≡ []) (SetHolds f s setting set) (AllHold f terms) means.1 holds)),
      )

  mutual
    pub set_means : (setting : Setting) (set : ConstraintTree) → AllHold f (set_terms s setting set) ↔ SetHolds f s setting set
    set_means setting (ConstraintOne item) = item_means setting item
    set_means setting (ConstraintBlock left_brace items right_brace) = row_means setting items

    item_means : (setting : Setting) (item : ConstraintItemTree) → AllHold f (item_terms s setting item) ↔ ItemHolds f s setting item
    item_means setting (ConstraintItemEmpty place) = ((λ all. tt), (λ holds. tt))
    item_means setting (ConstraintItemExpr expr semicolon) =
        let means = true_means f (expr_term s setting expr) (value_there f s setting expr) (same setting expr) in
        ((λ all. means.0 all.0), (λ holds. (means.1 holds, tt)))
    item_means setting (ConstraintItemImplies condition arrow set) = under setting condition set (set_means setting set)
    item_means setting (ConstraintItemIf word opening condition closing then_part) = under setting condition then_part (set_means setting then_part)
    item_means setting (ConstraintItemIfElse word opening condition closing then_part else_place others) =
        let yes = implied (expr_term s setting condition) (set_terms s setting then_part) in
        let no = implied (Prefix Not (expr_term s setting condition)) (set_terms s setting others) in
        let where_true = under setting condition then_part (set_means setting then_part) in
        let where_false = otherwise setting condition others (set_means setting others) in
        ((λ all. (where_true.0 (left f yes no all), where_false.0 (right f yes no all))), (λ holds. join f yes no (where_true.1 holds.0) (where_false.1 holds.1)))
    item_means setting (ConstraintItemUnique word opening first rest closing semicolon) = unique_means setting first rest
    item_means setting (ConstraintItemForeach word opening first rest left_bracket index right_bracket closing set) =
        let each = m.each f (λ i. set_terms s (with_turn setting index (AtNumber i)) set) (turns_of s setting first rest) in (
          (λ all i less. (set_means (with_turn setting index (AtNumber i)) set).0 (each.0 all i less)),
          (λ holds. each.1 (λ i less. (set_means (with_turn setting index (AtNumber i)) set).1 (holds i less))),
        )

    row_means : (setting : Setting) (row : ConstraintItemRow) → AllHold f (item_row_terms s setting row) ↔ RowHolds f s setting row
    row_means setting NoConstraintItemRow = ((λ all. tt), (λ holds. tt))
    row_means setting (MoreConstraintItemRow head tail) =
        let first = item_terms s setting head in
        let more = item_row_terms s setting tail in
        let one = item_means setting head in
        let others = row_means setting tail in
        ((λ all. (one.0 (left f first more all), others.0 (right f first more all))), (λ holds. join f first more (one.1 holds.0) (others.1 holds.1)))

  items_mean : (setting : Setting) (items : List ConstraintItemTree) → AllHold f (flat_map (item_terms s setting) items) ↔ AllItemsHold f s setting items
  items_mean setting [] = ((λ all. tt), (λ holds. tt))
  items_mean setting (item ∷ more) =
      let first = item_terms s setting item in
      let rest = flat_map (item_terms s setting) more in
      let one = item_means setting item in
      let others = items_mean setting more in
      ((λ all. (one.0 (left f first rest all), others.0 (right f first rest all))), (λ holds. join f first rest (one.1 holds.0) (others.1 holds.1)))

  pub declaration_means : (setting : Setting) (declaration : ConstraintDeclarationTree) → AllHold f (declaration_terms s setting declaration) ↔ DeclarationHolds f s setting declaration
  declaration_means setting (MakeConstraintDeclaration word (ConstraintContentNamed name left_brace items right_brace)) = items_mean setting items
  declaration_means setting (MakeConstraintDeclaration word (ConstraintContentSet set)) = set_means setting set
