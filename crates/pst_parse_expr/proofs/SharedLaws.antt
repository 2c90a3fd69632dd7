-- Parts that several rules have: what they explain, and that they read what they spell again.
use Rattle.std.proofs.Common.{◌≡◌, ℕ, zero, suc, Bool, true, false, List, [], ◌∷◌, ◌++◌, refl, ap, append-nil, append_assoc, ◌≤◌, ◌<◌, if◌then◌else◌, length, Some, Option, sym, subst, ◌∙◌, arith, length-append}
use Rattle.std.specs.List.{flat_map, AllByRecursion}
use Rattle.pst_base.specs.declared.position.Place.{Place}
use Rattle.pst_token.specs.declared.kind.Kind.TheVariants as kind
use Rattle.pst_token.specs.declared.token.Token.{Token}
use Rattle.pst_ast.specs.Closing.{origin}
use Rattle.pst_ast.specs.Marks.{mark, name_token}
use Rattle.pst_ast.specs.Limits.{Count, counted}
use Rattle.pst_ast.specs.ExpressionTree.{ExprTree}
use Rattle.pst_ast.specs.ExpressionSpelling.{spell_expr}
use Rattle.pst_ast.specs.ExpressionProper.{IsProperExpr}
use Rattle.pst_ast.specs.ExpressionLimits.{counts_expr}
use Rattle.pst_ast.specs.SharedTree.{MakeNextExpr, NextExprTree}
use Rattle.pst_ast.specs.SharedSpelling.{spell_next_expr, spell_dot_name}
use Rattle.pst_ast.specs.SharedProper.{IsProperNextExpr}
use Rattle.pst_ast.specs.SharedLimits.{counts_next_expr, counts_dot_name}
use Rattle.pst_ast.specs.ConstraintTree.{ConstraintTree, ConstraintOne, ConstraintBlock, ConstraintItemTree, ConstraintItemEmpty, ConstraintItemExpr, ConstraintItemImplies, ConstraintItemIf, ConstraintItemIfElse, ConstraintItemUnique, ConstraintItemForeach, ConstraintItemRow, NoConstraintItemRow, MoreConstraintItemRow}
use Rattle.pst_ast.specs.ConstraintSpelling.{spell_constraint, spell_constraint_item, spell_constraint_item_row}
use Rattle.pst_ast.specs.ConstraintProper.{constraint_ends_open, IsProperConstraint, IsProperConstraintItem, AreProperConstraintItem, item_ends_open}
use Rattle.pst_ast.specs.ConstraintLimits.{counts_constraint, counts_constraint_item, counts_constraint_item_row}
use Rattle.pst_reading.specs.Kinds.{is_mark, next_is}
use Rattle.pst_reading.specs.Parser.{Done, next, Parser}
use Rattle.pst_reading.proofs.Explaining.{Meaning, Means, Explains, Behind, explains_done, refused_here}
use Rattle.pst_reading.proofs.Marks.{explains_choice, choice_becomes}
use Rattle.pst_reading.proofs.Chains.{explains_mark, explains_name, explains_part, becomes_mark, becomes_name}
use Rattle.pst_reading.proofs.Lists.{list_explains, StartsPart, list_again}
use Rattle.pst_parse_expr.specs.Constraints.{Within, outermost_at, is_at, is_other, ConditionTree, condition_close, condition_inner, condition_by, next_expr_by, next_exprs_by, dot_name_by, dot_names_by, behind_expr, expr_end, implies_by, implied_by, expr_item_by, otherwise_by, maybe_else_by, behind_then, then_by, if_condition_by, if_by, unique_close, unique_by, unique_open, unique_first, unique_rest, SubscriptTree, subscript_by, foreach_by, foreach_open, foreach_first, foreach_rest, foreach_index, foreach_set, empty_by, item_by, item_row, items_by, block_close, block_items, block_by, one_by, set_by, constraint_at, next_expr_inner, dot_name_inner, else_by, unique_end, subscript_name, subscript_close, subscript_end}
use Rattle.pst_ast.specs.declared.leaf.Name.{Name}
use Rattle.pst_ast.specs.declared.shared.DotName.{DotName}
use Rattle.pst_reading.proofs.Becoming.{Becomes, stays, becomes_both, becomes_followed}
use Rattle.pst_reading.proofs.Tokens.{mark_is_so}
use Rattle.pst_parse_operator.proofs.Stops.{IsNo, Separates, separated, semicolon_closes, arrow_closes, right_parenthesis_closes, right_brace_closes, comma_closes}

-- ---- parts that have no rule of their own

abbrev pub spell_condition : ConditionTree → List Token
spell_condition c = mark kind.LeftParenthesis c.0 ∷ (spell_expr c.1 ++ mark kind.RightParenthesis c.2 ∷ [])

abbrev pub IsProperCondition : ConditionTree → Type 0
IsProperCondition c = IsProperExpr c.1

abbrev pub counts_condition : ℕ → ConditionTree → List Count
counts_condition d c = counted d 0 ∷ (counts_expr d 0 c.1 ++ counted d 0 ∷ [])

abbrev pub spell_subscript : SubscriptTree → List Token
spell_subscript s = mark kind.LeftBracket s.0 ∷ name_token s.1 ∷ mark kind.RightBracket s.2 ∷ mark kind.RightParenthesis s.3 ∷ []

abbrev pub counts_subscript : ℕ → SubscriptTree → List Count
counts_subscript d s = counted d 0 ∷ counted d 0 ∷ counted d 0 ∷ counted d 0 ∷ []

-- any tree will do
abbrev pub IsAny : {A : Type 0} → A → Type 0
IsAny a = Unit {0}

-- ---- what they explain

module _ (X : Within ExprTree) (EX : (d : ℕ) → Explains (Means spell_expr IsProperExpr (counts_expr d 0)) (X d)) where
  pub condition_explains : (d : ℕ) → Explains (Means spell_condition IsProperCondition (counts_condition d)) (condition_by X d)
  condition_explains d =
      let c = counted d 0 in
      let M = Means spell_condition IsProperCondition (counts_condition d) in
      explains_mark M kind.LeftParenthesis c (condition_inner X d) (λ l.
      let M1 = Behind M (mark kind.LeftParenthesis l ∷ []) (c ∷ []) in
      explains_part M1 spell_expr IsProperExpr (counts_expr d 0) (X d) (condition_close d l) (EX d) (λ e p.
      let M2 = Behind M1 (spell_expr e) (counts_expr d 0 e) in
      explains_mark M2 kind.RightParenthesis c (λ r. Done (l, e, r)) (λ r.
      explains_done (Behind M2 (mark kind.RightParenthesis r ∷ []) (c ∷ [])) (l, e, r) (record { is = refl; proper = p; counted = refl }))))

  pub next_expr_explains : (d : ℕ) → Explains (Means spell_next_expr IsProperNextExpr (counts_next_expr d)) (next_expr_by X d)
  next_expr_explains d =
      let c = counted d 0 in
      let M = Means spell_next_expr IsProperNextExpr (counts_next_expr d) in
      explains_mark M kind.Comma c _ (λ comma.
      let M1 = Behind M (mark kind.Comma comma ∷ []) (c ∷ []) in
      explains_part M1 spell_expr IsProperExpr (counts_expr d 0) (X d) _ (EX d) (λ e p.
      explains_done (Behind M1 (spell_expr e) (counts_expr d 0 e)) (MakeNextExpr comma e) (record { is = rw append-nil refl; proper = p; counted = rw append-nil refl })))

pub dot_name_explains : (d : ℕ) → Explains (Means spell_dot_name IsAny (counts_dot_name d)) (dot_name_by d)
dot_name_explains d =
    let c = counted d 0 in
    let M = Means spell_dot_name IsAny (counts_dot_name d) in
    explains_mark M kind.Dot c _ (λ dot.
    let M1 = Behind M (mark kind.Dot dot ∷ []) (c ∷ []) in
    explains_name M1 c _ (λ name.
    explains_done (Behind M1 (name_token name ∷ []) (c ∷ [])) (record { dot = dot; name = name }) (record { is = refl; proper = tt; counted = refl })))

pub subscript_explains : (d : ℕ) → Explains (Means spell_subscript IsAny (counts_subscript d)) (subscript_by d)
subscript_explains d =
    let c = counted d 0 in
    let M = Means spell_subscript IsAny (counts_subscript d) in
    explains_mark M kind.LeftBracket c _ (λ l.
    let M1 = Behind M (mark kind.LeftBracket l ∷ []) (c ∷ []) in
    explains_name M1 c _ (λ name.
    let M2 = Behind M1 (name_token name ∷ []) (c ∷ []) in
    explains_mark M2 kind.RightBracket c _ (λ r.
    let M3 = Behind M2 (mark kind.RightBracket r ∷ []) (c ∷ []) in
    explains_mark M3 kind.RightParenthesis c _ (λ close.
    explains_done (Behind M3 (mark kind.RightParenthesis close ∷ []) (c ∷ [])) (l, name, r, close) (record { is = refl; proper = tt; counted = refl })))))

-- ---- the same text and counts, otherwise put together

pub same_text : {A : Type 0} (p q : Parser A) (ts us rest : List Token) (cs ds : List Count) → us ≡ ts → ds ≡ cs → Becomes p us ds q rest → Becomes p ts cs q rest
same_text p q ts us rest cs ds e f h = subst (λ (u : List Token). Becomes p u cs q rest) e (subst (λ (u : List Count). Becomes p us u q rest) f h)

-- a bracket between two parts, and what follows
pub bracketed : {A : Type 0} (a : List A) (x : A) (b rest : List A) → (a ++ x ∷ []) ++ (b ++ rest) ≡ (a ++ x ∷ b) ++ rest
bracketed a x b rest = append_assoc a (x ∷ []) (b ++ rest) ∙ sym (append_assoc a (x ∷ b) rest)

pub no_arrow : (p : Place) → next_is (is_mark kind.Arrow) (Some (mark kind.Semicolon p)) ≡ false
unfolding is_mark
no_arrow p = refl

pub no_comma_at_brace : (p : Place) → is_at kind.Comma (Some (mark kind.RightBrace p)) ≡ false
unfolding is_mark
no_comma_at_brace p = refl

pub no_dot_at_bracket : (p : Place) → is_at kind.Dot (Some (mark kind.LeftBracket p)) ≡ false
unfolding is_mark
no_dot_at_bracket p = refl

pub brace_is_no_else : (p : Place) → IsNo kind.Else (Some (mark kind.RightBrace p))
unfolding is_mark
brace_is_no_else p = refl

pub brace_ends : (p : Place) → is_other kind.RightBrace (Some (mark kind.RightBrace p)) ≡ false
brace_ends p = ap (λ (b : Bool). if b then false else true) (mark_is_so kind.RightBrace p)

-- ---- what they read again

module _ (X : Within ExprTree) (size : ℕ) (AX : (d : ℕ) (e : ExprTree) (rest : List Token) → IsProperExpr e → length (spell_expr e) ≤ size → Separates 0 (next rest) → Becomes (X d) (spell_expr e ++ rest) (counts_expr d 0 e) (Done e) rest) where
  pub condition_again : (d : ℕ) (g : ConditionTree) (rest : List Token) → IsProperCondition g → length (spell_condition g) ≤ size → Becomes (condition_by X d) (spell_condition g ++ rest) (counts_condition d g) (Done g) rest
  condition_again d g rest proper short =
      let c = counted d 0 in
      let us = mark kind.RightParenthesis g.2 ∷ rest in
      same_text (condition_by X d) (Done g) (spell_condition g ++ rest) (mark kind.LeftParenthesis g.0 ∷ (spell_expr g.1 ++ us)) rest (counts_condition d g) (counts_condition d g)
      (ap (λ (u : List Token). mark kind.LeftParenthesis g.0 ∷ u) (sym (append_assoc (spell_expr g.1) (mark kind.RightParenthesis g.2 ∷ []) rest))) refl
      (becomes_mark kind.LeftParenthesis c (condition_inner X d) g.0 (Done g) (spell_expr g.1 ++ us) rest (counts_expr d 0 g.1 ++ c ∷ [])
      (becomes_both (X d) (condition_close d g.0) g.1 (Done g) (spell_expr g.1 ++ us) us rest (counts_expr d 0 g.1) (c ∷ []) (AX d g.1 us proper (omega (arith, short, length-append (spell_expr g.1) (mark kind.RightParenthesis g.2 ∷ []))) (right_parenthesis_closes g.2))
      (becomes_mark kind.RightParenthesis c (λ r. Done (g.0, g.1, r)) g.2 (Done g) rest rest [] (stays (Done g) rest))))

  pub next_expr_again : (d : ℕ) (n : NextExprTree) (rest : List Token) → IsProperNextExpr n → length (spell_next_expr n) ≤ size → Separates 0 (next rest) → Becomes (next_expr_by X d) (spell_next_expr n ++ rest) (counts_next_expr d n) (Done n) rest
  next_expr_again d (MakeNextExpr comma e) rest proper short s =
      becomes_mark kind.Comma (counted d 0) (next_expr_inner X d) comma (Done (MakeNextExpr comma e)) (spell_expr e ++ rest) rest (counts_expr d 0 e)
      (becomes_followed (X d) (Done e) (λ x. Done (MakeNextExpr comma x)) (spell_expr e ++ rest) rest (counts_expr d 0 e) (AX d e rest proper (omega (arith, short)) s))

pub next_expr_starts : (n : NextExprTree) (rest : List Token) → IsProperNextExpr n → StartsPart (is_at kind.Comma) (Separates 0) (spell_next_expr n ++ rest)
next_expr_starts (MakeNextExpr comma e) rest proper = record { found = mark_is_so kind.Comma comma; good = comma_closes comma }

pub some_next_expr : (n : NextExprTree) → 1 ≤ length (spell_next_expr n)
some_next_expr (MakeNextExpr comma e) = omega arith

pub dot_name_again : (d : ℕ) (n : DotName) (rest : List Token) → Becomes (dot_name_by d) (spell_dot_name n ++ rest) (counts_dot_name d n) (Done n) rest
dot_name_again d n rest =
    let c = counted d 0 in
    becomes_mark kind.Dot c (dot_name_inner d) n.dot (Done n) (name_token n.name ∷ rest) rest (c ∷ [])
    (becomes_name c (λ name. Done (record { dot = n.dot; name = name })) n.name (Done n) rest rest [] (stays (Done n) rest))

pub subscript_again : (d : ℕ) (s : SubscriptTree) (rest : List Token) → Becomes (subscript_by d) (spell_subscript s ++ rest) (counts_subscript d s) (Done s) rest
subscript_again d s rest =
    let c = counted d 0 in
    becomes_mark kind.LeftBracket c (subscript_name d) s.0 (Done s) _ rest (c ∷ c ∷ c ∷ [])
    (becomes_name c (subscript_close d s.0) s.1 (Done s) _ rest (c ∷ c ∷ [])
    (becomes_mark kind.RightBracket c (subscript_end d s.0 s.1) s.2 (Done s) _ rest (c ∷ [])
    (becomes_mark kind.RightParenthesis c (λ close. Done (s.0, s.1, s.2, close)) s.3 (Done s) rest rest [] (stays (Done s) rest))))
