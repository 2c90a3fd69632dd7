-- Each token stops a set of constraints, or some set goes on with it.
use Rattle.std.proofs.Common.{◌≡◌, Bool, true, false, List, [], ◌∷◌, ◌++◌, Some, ◌⊎◌, inl, inr, refl, sym, ap, ◌∙◌, append_assoc}
use Rattle.pst_base.specs.declared.position.Place.{Place}
use Rattle.pst_token.specs.declared.kind.Kind.TheVariants as kind
use Rattle.pst_token.specs.declared.token.Token.{Token}
use Rattle.pst_ast.specs.Closing.{origin}
use Rattle.pst_ast.specs.Marks.{mark, name_token}
use Rattle.pst_ast.specs.ExpressionTree.{ExprTree}
use Rattle.pst_ast.specs.ExpressionSpelling.{spell_expr}
use Rattle.pst_ast.specs.ExpressionProper.{IsProperExpr}
use Rattle.pst_ast.specs.SharedSpelling.{spell_dot_name}
use Rattle.pst_ast.specs.ConstraintTree.{ConstraintTree, ConstraintOne, ConstraintBlock, ConstraintItemTree, ConstraintItemEmpty, ConstraintItemExpr, ConstraintItemImplies, ConstraintItemIf, ConstraintItemIfElse, ConstraintItemUnique, ConstraintItemForeach}
use Rattle.pst_ast.specs.ConstraintSpelling.{spell_constraint, spell_constraint_item}
use Rattle.pst_ast.specs.ConstraintProper.{constraint_ends_open, item_ends_open, IsProperConstraint, IsProperConstraintItem}
use Rattle.pst_ast.specs.Rule.{TheConstraint}
use Rattle.pst_ast.specs.Viable.{IsViable}
use Rattle.std.specs.List.{flat_map}
use Rattle.pst_reading.specs.Kinds.{is_mark}
use Rattle.pst_reading.proofs.Tokens.{mark_is}
use Rattle.pst_parse_expr.proofs.ConstraintAgain.{StopsSet}

module _ (p : Place) where
  -- an `else` and an empty part behind it
  abbrev else_part : List Token
  else_part = mark kind.Else p ∷ mark kind.Semicolon origin ∷ []

  record SetOn (s : ConstraintTree) : Type 0 where
    tree : ConstraintTree
    proper : IsProperConstraint tree
    is : spell_constraint tree ≡ spell_constraint s ++ else_part

  record ItemOn (item : ConstraintItemTree) : Type 0 where
    tree : ConstraintItemTree
    proper : IsProperConstraintItem tree
    is : spell_constraint_item tree ≡ spell_constraint_item item ++ else_part

  -- the nearest `if` takes it
  if_on : (i l : Place) (e : ExprTree) (r : Place) (t : ConstraintTree) → IsProperExpr e → IsProperConstraint t → (b : Bool) → constraint_ends_open t ≡ b → (b ≡ true → SetOn t) → ItemOn (ConstraintItemIf i l e r t)
  if_on i l e r t proper propert true open_end on =
      let g = on refl in
      record {
        tree = ConstraintItemIf i l e r g.tree;
        proper = (proper, g.proper);
        is = ap (λ (u : List Token). mark kind.If i ∷ mark kind.LeftParenthesis l ∷ (spell_expr e ++ mark kind.RightParenthesis r ∷ u)) g.is
            ∙ ap (λ (u : List Token). mark kind.If i ∷ mark kind.LeftParenthesis l ∷ u) (sym (append_assoc (spell_expr e) (mark kind.RightParenthesis r ∷ spell_constraint t) else_part));
      }
  if_on i l e r t proper propert false closed on = record {
    tree = ConstraintItemIfElse i l e r t p (ConstraintOne (ConstraintItemEmpty origin));
    proper = (proper, propert, tt, closed);
    is = ap (λ (u : List Token). mark kind.If i ∷ mark kind.LeftParenthesis l ∷ u) (sym (append_assoc (spell_expr e) (mark kind.RightParenthesis r ∷ spell_constraint t) else_part));
  }

  mutual
    set_on : (s : ConstraintTree) → IsProperConstraint s → constraint_ends_open s ≡ true → SetOn s
    set_on (ConstraintOne item) proper opens = let g = item_on item proper opens in record { tree = ConstraintOne g.tree; proper = g.proper; is = g.is }
    set_on (ConstraintBlock l items r) proper opens = absurd cc

    item_on : (item : ConstraintItemTree) → IsProperConstraintItem item → item_ends_open item ≡ true → ItemOn item
    item_on (ConstraintItemEmpty x) proper opens = absurd cc
    item_on (ConstraintItemExpr e x) proper opens = absurd cc
    item_on (ConstraintItemImplies e a s) proper opens =
        let g = set_on s proper.1 opens in
        record {
          tree = ConstraintItemImplies e a g.tree;
          proper = (proper.0, g.proper);
          is = ap (λ (u : List Token). spell_expr e ++ mark kind.Arrow a ∷ u) g.is ∙ sym (append_assoc (spell_expr e) (mark kind.Arrow a ∷ spell_constraint s) else_part);
        }
    item_on (ConstraintItemIf i l e r t) proper opens = if_on i l e r t proper.0 proper.1 (constraint_ends_open t) refl (λ h. set_on t proper.1 h)
    item_on (ConstraintItemIfElse i l e r t x o) proper opens =
        let g = set_on o proper.2 opens in
        let both = spell_constraint t ++ mark kind.Else x ∷ spell_constraint o in
        record {
          tree = ConstraintItemIfElse i l e r t x g.tree;
          proper = (proper.0, proper.1, g.proper, proper.3);
          is = ap (λ (u : List Token). mark kind.If i ∷ mark kind.LeftParenthesis l ∷ (spell_expr e ++ mark kind.RightParenthesis r ∷ (spell_constraint t ++ mark kind.Else x ∷ u))) g.is
              ∙ ap (λ (u : List Token). mark kind.If i ∷ mark kind.LeftParenthesis l ∷ (spell_expr e ++ mark kind.RightParenthesis r ∷ u)) (sym (append_assoc (spell_constraint t) (mark kind.Else x ∷ spell_constraint o) else_part))
              ∙ ap (λ (u : List Token). mark kind.If i ∷ mark kind.LeftParenthesis l ∷ u) (sym (append_assoc (spell_expr e) (mark kind.RightParenthesis r ∷ both) else_part));
        }
    item_on (ConstraintItemUnique u l e es r s) proper opens = absurd cc
    item_on (ConstraintItemForeach f l n ns b i r c s) proper opens =
        let g = set_on s proper opens in
        let tail = mark kind.LeftBracket b ∷ name_token i ∷ mark kind.RightBracket r ∷ mark kind.RightParenthesis c ∷ spell_constraint s in
        record {
          tree = ConstraintItemForeach f l n ns b i r c g.tree;
          proper = g.proper;
          is = ap (λ (u : List Token). mark kind.Foreach f ∷ mark kind.LeftParenthesis l ∷ name_token n ∷ (flat_map spell_dot_name ns ++ mark kind.LeftBracket b ∷ name_token i ∷ mark kind.RightBracket r ∷ mark kind.RightParenthesis c ∷ u)) g.is
              ∙ ap (λ (u : List Token). mark kind.Foreach f ∷ mark kind.LeftParenthesis l ∷ name_token n ∷ u) (sym (append_assoc (flat_map spell_dot_name ns) tail else_part));
        }

pub decide_set : (s : ConstraintTree) (t : Token) → IsProperConstraint s → StopsSet s (Some t) ⊎ IsViable TheConstraint (spell_constraint s ++ t ∷ [])
decide_set s t proper = go (constraint_ends_open s) (is_mark kind.Else t) refl refl
  where
    viable : SetOn t.place s → is_mark kind.Else t ≡ true → IsViable TheConstraint (spell_constraint s ++ t ∷ [])
    viable g e = (g.tree, mark kind.Semicolon origin ∷ [], g.proper, g.is ∙ ap (λ (u : Token). spell_constraint s ++ u ∷ mark kind.Semicolon origin ∷ []) (sym (mark_is kind.Else t e)) ∙ sym (append_assoc (spell_constraint s) (t ∷ []) (mark kind.Semicolon origin ∷ [])))

    go : (opens is_else : Bool) → constraint_ends_open s ≡ opens → is_mark kind.Else t ≡ is_else → (constraint_ends_open s ≡ true → is_mark kind.Else t ≡ false) ⊎ IsViable TheConstraint (spell_constraint s ++ t ∷ [])
    go opens false o e = inl (λ h. e)
    go false true o e = inl (λ h. absurd (both_ways o h))
      where
        both_ways : constraint_ends_open s ≡ false → constraint_ends_open s ≡ true → ⊥
        both_ways a b = cc
    go true true o e = inr (viable (set_on t.place s proper o) e)
