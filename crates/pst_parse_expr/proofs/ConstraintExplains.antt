-- What the rules of constraints explain.
use Rattle.std.proofs.Common.{◌≡◌, ℕ, zero, suc, Bool, true, false, List, [], ◌∷◌, ◌++◌, refl, ap, append-nil, append_assoc}
use Rattle.std.specs.List.{flat_map, AllByRecursion}
use Rattle.pst_base.specs.declared.position.Place.{Place}
use Rattle.pst_token.specs.declared.kind.Kind.TheVariants as kind
use Rattle.pst_token.specs.declared.token.Token.{Token}
use Rattle.pst_ast.specs.Closing.{origin}
use Rattle.pst_ast.specs.Marks.{mark, name_token}
use Rattle.pst_ast.specs.Limits.{Count, counted}
use Rattle.pst_ast.specs.ExpressionTree.{ExprTree}
use Rattle.pst_ast.specs.ExpressionSpelling.{spell_expr}
use Rattle.pst_ast.specs.ExpressionProper.{IsProperExpr}
use Rattle.pst_ast.specs.ExpressionLimits.{counts_expr}
use Rattle.pst_ast.specs.SharedTree.{MakeNextExpr}
use Rattle.pst_ast.specs.SharedSpelling.{spell_next_expr, spell_dot_name}
use Rattle.pst_ast.specs.SharedProper.{IsProperNextExpr}
use Rattle.pst_ast.specs.SharedLimits.{counts_next_expr, counts_dot_name}
use Rattle.pst_ast.specs.ConstraintTree.{ConstraintTree, ConstraintOne, ConstraintBlock, ConstraintItemTree, ConstraintItemEmpty, ConstraintItemExpr, ConstraintItemImplies, ConstraintItemIf, ConstraintItemIfElse, ConstraintItemUnique, ConstraintItemForeach}
use Rattle.pst_ast.specs.ConstraintSpelling.{spell_constraint, spell_constraint_item, spell_constraint_item_row}
use Rattle.pst_ast.specs.ConstraintProper.{constraint_ends_open, IsProperConstraint, IsProperConstraintItem, AreProperConstraintItem}
use Rattle.pst_ast.specs.ConstraintLimits.{counts_constraint, counts_constraint_item, counts_constraint_item_row}
use Rattle.pst_reading.specs.Kinds.{is_mark, next_is}
use Rattle.pst_reading.specs.Parser.{Done, next}
use Rattle.pst_reading.proofs.Explaining.{Meaning, Means, Explains, Behind, explains_done, refused_here}
use Rattle.pst_reading.proofs.Marks.{explains_choice}
use Rattle.pst_reading.proofs.Chains.{explains_mark, explains_name, explains_part}
use Rattle.pst_reading.proofs.Lists.{list_explains}
use Rattle.pst_parse_expr.specs.Constraints.{Within, outermost_at, is_at, is_other, ConditionTree, condition_close, condition_inner, condition_by, next_expr_by, next_exprs_by, dot_name_by, dot_names_by, behind_expr, expr_end, implies_by, implied_by, expr_item_by, otherwise_by, maybe_else_by, behind_then, then_by, if_condition_by, if_by, unique_close, unique_by, unique_open, unique_first, unique_rest, SubscriptTree, subscript_by, foreach_by, foreach_open, foreach_first, foreach_rest, foreach_index, foreach_set, empty_by, item_by, item_row, items_by, block_close, block_items, block_by, one_by, set_by, constraint_at}
use Rattle.pst_parse_expr.proofs.Answering.{explains}
use Rattle.pst_parse_expr.proofs.SharedLaws.{IsAny, spell_condition, IsProperCondition, counts_condition, spell_subscript, counts_subscript, condition_explains, next_expr_explains, dot_name_explains, subscript_explains}

-- ---- rows of constraints are those of their lists

pub items_spelled : (items : List ConstraintItemTree) → spell_constraint_item_row (item_row items) ≡ flat_map spell_constraint_item items
items_spelled [] = refl
items_spelled (item ∷ items) = ap (λ (u : List Token). spell_constraint_item item ++ u) (items_spelled items)

pub items_counted : (d : ℕ) (items : List ConstraintItemTree) → counts_constraint_item_row d (item_row items) ≡ flat_map (counts_constraint_item d) items
items_counted d [] = refl
items_counted d (item ∷ items) = ap (λ (u : List Count). counts_constraint_item d item ++ u) (items_counted d items)

pub items_proper : (items : List ConstraintItemTree) → AllByRecursion IsProperConstraintItem items → AreProperConstraintItem (item_row items)
items_proper [] h = tt
items_proper (item ∷ items) h = (h.0, items_proper items h.1)

module _ (X : Within ExprTree) (S : Within ConstraintTree) (turns : ℕ) (EX : (d : ℕ) → Explains (Means spell_expr IsProperExpr (counts_expr d 0)) (X d)) (ES : (d : ℕ) → Explains (Means spell_constraint IsProperConstraint (counts_constraint d)) (S d)) where
  -- ---- one constraint

  abbrev IsItem : ℕ → Meaning ConstraintItemTree
  IsItem d = Means spell_constraint_item IsProperConstraintItem (counts_constraint_item d)

  empty_explains : (d : ℕ) → Explains (IsItem d) (empty_by (suc d))
  empty_explains d = explains_mark (IsItem d) kind.Semicolon (counted (suc d) 0) _ (λ p. explains_done (Behind (IsItem d) (mark kind.Semicolon p ∷ []) (counted (suc d) 0 ∷ [])) (ConstraintItemEmpty p) (record { is = refl; proper = tt; counted = refl }))

  expr_item_explains : (d : ℕ) → Explains (IsItem d) (expr_item_by X S (suc d))
  expr_item_explains d =
      let c = counted (suc d) 0 in
      let M = IsItem d in
      explains_part M spell_expr IsProperExpr (counts_expr (suc d) 0) (X (suc d)) (behind_expr S (suc d)) (EX (suc d)) (λ e p ts.
      let M1 = Behind M (spell_expr e) (counts_expr (suc d) 0 e) in
      explains_choice M1 (next_is (is_mark kind.Arrow) (next ts)) (implies_by S (suc d) e) (expr_end (suc d) e) ts
      (λ present. explains_mark M1 kind.Arrow c (implied_by S (suc d) e) (λ arrow.
      let M2 = Behind M1 (mark kind.Arrow arrow ∷ []) (c ∷ []) in
      explains_part M2 spell_constraint IsProperConstraint (counts_constraint (suc d)) (S (suc d)) _ (ES (suc d)) (λ s q.
      explains_done (Behind M2 (spell_constraint s) (counts_constraint (suc d) s)) (ConstraintItemImplies e arrow s) (record { is = rw append-nil refl; proper = (p, q); counted = rw append-nil refl }))) ts)
      (λ absent. explains_mark M1 kind.Semicolon c _ (λ semicolon.
      explains_done (Behind M1 (mark kind.Semicolon semicolon ∷ []) (c ∷ [])) (ConstraintItemExpr e semicolon) (record { is = refl; proper = p; counted = refl })) ts))

  -- behind the part that holds where the condition does
  module _ (d : ℕ) (i : Place) (g : ConditionTree) (t : ConstraintTree) (p : IsProperCondition g) (q : IsProperConstraint t) where
    abbrev BehindThen : Meaning ConstraintItemTree
    BehindThen = Behind (Behind (Behind (IsItem d) (mark kind.If i ∷ []) (counted (suc d) 0 ∷ [])) (spell_condition g) (counts_condition (suc d) g)) (spell_constraint t) (counts_constraint (suc d) t)

    inside_brackets : (more : List Token) → mark kind.If i ∷ (spell_condition g ++ more) ≡ mark kind.If i ∷ mark kind.LeftParenthesis g.0 ∷ (spell_expr g.1 ++ mark kind.RightParenthesis g.2 ∷ more)
    inside_brackets more = ap (λ (u : List Token). mark kind.If i ∷ mark kind.LeftParenthesis g.0 ∷ u) (append_assoc (spell_expr g.1) (mark kind.RightParenthesis g.2 ∷ []) more)

    counted_in_brackets : (more : List Count) → counted (suc d) 0 ∷ (counts_condition (suc d) g ++ more) ≡ counted (suc d) 0 ∷ counted (suc d) 0 ∷ (counts_expr (suc d) 0 g.1 ++ counted (suc d) 0 ∷ more)
    counted_in_brackets more = ap (λ (u : List Count). counted (suc d) 0 ∷ counted (suc d) 0 ∷ u) (append_assoc (counts_expr (suc d) 0 g.1) (counted (suc d) 0 ∷ []) more)

    only_explains : Explains BehindThen (Done (ConstraintItemIf i g.0 g.1 g.2 t))
    only_explains = explains_done BehindThen (ConstraintItemIf i g.0 g.1 g.2 t) (record { is = rw append-nil (inside_brackets (spell_constraint t)); proper = (p, q); counted = rw append-nil (counted_in_brackets (counts_constraint (suc d) t)) })

    else_explains : (open_end : Bool) → constraint_ends_open t ≡ open_end → Explains BehindThen (maybe_else_by S (suc d) i g t open_end)
    else_explains true opens ts = only_explains ts
    else_explains false opens ts =
        let c = counted (suc d) 0 in
        explains_choice BehindThen (next_is (is_mark kind.Else) (next ts)) _ (Done (ConstraintItemIf i g.0 g.1 g.2 t)) ts
        (λ present. explains_mark BehindThen kind.Else c (otherwise_by S (suc d) i g t) (λ e.
        let M1 = Behind BehindThen (mark kind.Else e ∷ []) (c ∷ []) in
        explains_part M1 spell_constraint IsProperConstraint (counts_constraint (suc d)) (S (suc d)) _ (ES (suc d)) (λ o r.
        explains_done (Behind M1 (spell_constraint o) (counts_constraint (suc d) o)) (ConstraintItemIfElse i g.0 g.1 g.2 t e o) (record { is = rw append-nil (inside_brackets (spell_constraint t ++ mark kind.Else e ∷ spell_constraint o)); proper = (p, q, r, opens); counted = rw append-nil (counted_in_brackets (counts_constraint (suc d) t ++ c ∷ counts_constraint (suc d) o)) }))) ts)
        (λ absent. only_explains ts)

  if_explains : (d : ℕ) → Explains (IsItem d) (if_by X S (suc d))
  if_explains d =
      let c = counted (suc d) 0 in
      let M = IsItem d in
      explains_mark M kind.If c (if_condition_by X S (suc d)) (λ i.
      let M1 = Behind M (mark kind.If i ∷ []) (c ∷ []) in
      explains_part M1 spell_condition IsProperCondition (counts_condition (suc d)) (condition_by X (suc d)) (then_by S (suc d) i) (condition_explains X EX (suc d)) (λ g p.
      let M2 = Behind M1 (spell_condition g) (counts_condition (suc d) g) in
      explains_part M2 spell_constraint IsProperConstraint (counts_constraint (suc d)) (S (suc d)) (behind_then S (suc d) i g) (ES (suc d)) (λ t q ts.
      else_explains d i g t p q (constraint_ends_open t) refl ts)))

  unique_explains : (d : ℕ) → Explains (IsItem d) (unique_by X turns (suc d))
  unique_explains d =
      let c = counted (suc d) 0 in
      let M = IsItem d in
      explains_mark M kind.Unique c (unique_open X turns (suc d)) (λ u.
      let M1 = Behind M (mark kind.Unique u ∷ []) (c ∷ []) in
      explains_mark M1 kind.LeftBrace c (unique_first X turns (suc d) u) (λ l.
      let M2 = Behind M1 (mark kind.LeftBrace l ∷ []) (c ∷ []) in
      explains_part M2 spell_expr IsProperExpr (counts_expr (suc d) 0) (X (suc d)) (unique_rest X turns (suc d) u l) (EX (suc d)) (λ first p.
      let M3 = Behind M2 (spell_expr first) (counts_expr (suc d) 0 first) in
      explains_part M3 (flat_map spell_next_expr) (AllByRecursion IsProperNextExpr) (flat_map (counts_next_expr (suc d))) (next_exprs_by X turns (suc d)) (unique_close (suc d) u l first)
      (list_explains spell_next_expr IsProperNextExpr (counts_next_expr (suc d)) (is_at kind.Comma) (next_expr_by X (suc d)) (next_expr_explains X EX (suc d)) turns) (λ rest q.
      let M4 = Behind M3 (flat_map spell_next_expr rest) (flat_map (counts_next_expr (suc d)) rest) in
      explains_mark M4 kind.RightBrace c _ (λ r.
      let M5 = Behind M4 (mark kind.RightBrace r ∷ []) (c ∷ []) in
      explains_mark M5 kind.Semicolon c _ (λ semicolon.
      explains_done (Behind M5 (mark kind.Semicolon semicolon ∷ []) (c ∷ [])) (ConstraintItemUnique u l first rest r semicolon) (record { is = refl; proper = (p, q); counted = refl })))))))

  foreach_explains : (d : ℕ) → Explains (IsItem d) (foreach_by S turns (suc d))
  foreach_explains d =
      let c = counted (suc d) 0 in
      let M = IsItem d in
      explains_mark M kind.Foreach c (foreach_open S turns (suc d)) (λ f.
      let M1 = Behind M (mark kind.Foreach f ∷ []) (c ∷ []) in
      explains_mark M1 kind.LeftParenthesis c (foreach_first S turns (suc d) f) (λ l.
      let M2 = Behind M1 (mark kind.LeftParenthesis l ∷ []) (c ∷ []) in
      explains_name M2 c (foreach_rest S turns (suc d) f l) (λ first.
      let M3 = Behind M2 (name_token first ∷ []) (c ∷ []) in
      explains_part M3 (flat_map spell_dot_name) (AllByRecursion IsAny) (flat_map (counts_dot_name (suc d))) (dot_names_by turns (suc d)) (foreach_index S (suc d) f l first)
      (list_explains spell_dot_name IsAny (counts_dot_name (suc d)) (is_at kind.Dot) (dot_name_by (suc d)) (dot_name_explains (suc d)) turns) (λ rest p.
      let M4 = Behind M3 (flat_map spell_dot_name rest) (flat_map (counts_dot_name (suc d)) rest) in
      explains_part M4 spell_subscript IsAny (counts_subscript (suc d)) (subscript_by (suc d)) (foreach_set S (suc d) f l first rest) (subscript_explains (suc d)) (λ s q.
      let M5 = Behind M4 (spell_subscript s) (counts_subscript (suc d) s) in
      explains_part M5 spell_constraint IsProperConstraint (counts_constraint (suc d)) (S (suc d)) _ (ES (suc d)) (λ set r.
      explains_done (Behind M5 (spell_constraint set) (counts_constraint (suc d) set)) (ConstraintItemForeach f l first rest s.0 s.1 s.2 s.3 set) (record { is = rw append-nil refl; proper = r; counted = rw append-nil refl })))))))

  pub item_explains : (d : ℕ) → Explains (IsItem d) (item_by X S turns (suc d))
  item_explains d ts =
      let M = IsItem d in
      explains_choice M (next_is (is_mark kind.Semicolon) (next ts)) (empty_by (suc d)) _ ts (λ e. empty_explains d ts)
      (λ e. explains_choice M (next_is (is_mark kind.If) (next ts)) (if_by X S (suc d)) _ ts (λ f. if_explains d ts)
      (λ f. explains_choice M (next_is (is_mark kind.Unique) (next ts)) (unique_by X turns (suc d)) _ ts (λ g. unique_explains d ts)
      (λ g. explains_choice M (next_is (is_mark kind.Foreach) (next ts)) (foreach_by S turns (suc d)) (expr_item_by X S (suc d)) ts (λ h. foreach_explains d ts) (λ h. expr_item_explains d ts))))

  -- ---- sets

  abbrev IsSet : ℕ → Meaning ConstraintTree
  IsSet d = Means spell_constraint IsProperConstraint (counts_constraint d)

  block_explains : (d : ℕ) → Explains (IsSet d) (block_by X S turns d)
  block_explains d =
      let c = counted d 0 in
      let M = IsSet d in
      explains_mark M kind.LeftBrace c (block_items X S turns d) (λ l.
      let M1 = Behind M (mark kind.LeftBrace l ∷ []) (c ∷ []) in
      explains_part M1 (flat_map spell_constraint_item) (AllByRecursion IsProperConstraintItem) (flat_map (counts_constraint_item d)) (items_by X S turns (suc d)) (block_close d l)
      (list_explains spell_constraint_item IsProperConstraintItem (counts_constraint_item d) (is_other kind.RightBrace) (item_by X S turns (suc d)) (item_explains d) turns) (λ items p.
      let M2 = Behind M1 (flat_map spell_constraint_item items) (flat_map (counts_constraint_item d) items) in
      explains_mark M2 kind.RightBrace c _ (λ r.
      explains_done (Behind M2 (mark kind.RightBrace r ∷ []) (c ∷ [])) (ConstraintBlock l (item_row items) r) (record { is = rw items_spelled refl; proper = items_proper items p; counted = rw items_counted refl }))))

  pub set_explains : (d : ℕ) → Explains (IsSet d) (set_by X S turns d)
  set_explains d ts =
      let M = IsSet d in
      explains_choice M (next_is (is_mark kind.LeftBrace) (next ts)) (block_by X S turns d) (one_by X S turns d) ts (λ e. block_explains d ts)
      (λ e. explains_part M spell_constraint_item IsProperConstraintItem (counts_constraint_item d) (item_by X S turns (suc d)) (λ item. Done (ConstraintOne item)) (item_explains d)
      (λ item p. explains_done (Behind M (spell_constraint_item item) (counts_constraint_item d item)) (ConstraintOne item) (record { is = rw append-nil refl; proper = p; counted = rw append-nil refl })) ts)

pub constraint_explains : (size d : ℕ) → Explains (Means spell_constraint IsProperConstraint (counts_constraint d)) (constraint_at size d)
unfolding constraint_at
constraint_explains zero d ts = refused_here (Means spell_constraint IsProperConstraint (counts_constraint d)) ts (record { value = ConstraintOne (ConstraintItemEmpty origin); text = mark kind.Semicolon origin ∷ []; counts = counted (suc d) 0 ∷ []; more = mark kind.Semicolon origin ∷ []; spelled = record { is = refl; proper = tt; counted = refl }; is = refl })
constraint_explains (suc size) d ts = set_explains (outermost_at (suc size)) (constraint_at size) size (λ x. explains x (suc size)) (constraint_explains size) d ts
