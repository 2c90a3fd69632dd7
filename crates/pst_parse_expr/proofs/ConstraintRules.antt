-- What each rule of constraints gives, from what its parts give.
use Rattle.std.proofs.Common.{◌≡◌, ℕ, zero, suc, ◌+◌, ◌-◌, ◌<◌, ◌≤◌, Bool, true, false, List, length, drop, refl, ap, subst, ◌∙◌, arith, Err}
use Rattle.std.specs.Prelude.{map}
use Rattle.std.specs.Global.{Vec}
use Rattle.pst_base.specs.declared.position.Place.{Place}
use Rattle.pst_token.specs.declared.kind.Kind.TheVariants as kind
use Rattle.pst_token.specs.declared.token.Token.{Token}
use Rattle.pst_ast.specs.declared.fault.SyntaxFault.{SyntaxFault}
use Rattle.pst_ast.specs.declared.fault.SyntaxFault.TheVariants as the_fault
use Rattle.pst_ast.specs.declared.leaf.Name.{Name}
use Rattle.pst_ast.specs.declared.shared.DotName.{DotName}
use Rattle.pst_ast.specs.declared.constraint.ConstraintItem.{ConstraintItem}
use Rattle.pst_ast.specs.declared.constraint.ConstraintItem.TheBlock.{hidden-the_row-ConstraintItem-0}
use Rattle.pst_ast.specs.declared.constraint.ConstraintNode.{Row_of-ConstraintItem, end_of-ConstraintItem, more_of-ConstraintItem, items-the_row-ConstraintItem, items_hidden-the_row-ConstraintItem-0}
use Rattle.pst_ast.specs.declared.constraint.ConstraintNode.TheVariants as the_constraint
use Rattle.pst_ast.specs.ExpressionTree.{ExprTree}
use Rattle.pst_ast.specs.SharedTree.{NextExprTree}
use Rattle.pst_ast.specs.ConstraintTree.{ConstraintTree, ConstraintOne, ConstraintBlock, ConstraintItemTree, ConstraintItemExpr, ConstraintItemImplies, ConstraintItemIf, ConstraintItemIfElse, ConstraintItemUnique, ConstraintItemForeach, ConstraintItemRow, MoreConstraintItemRow}
use Rattle.pst_ast.specs.ConstraintProper.{constraint_ends_open}
use Rattle.pst_ast.specs.ConstraintView.{view_constraint, view_constraint_item, view_constraint_item_row}
use Rattle.pst_ast.specs.Limits.{counted, is_over}
use Rattle.pst_reading.specs.Kinds.{is_mark, next_is}
use Rattle.pst_reading.specs.Parser.{Done, Outcome, Took, Refused, TooDeep, run, next, followed_by, mark_by, name_by, if_mark}
use Rattle.pst_reading.specs.Gives.{Family, SettlesFrom, FailsFrom, Expects}
use Rattle.pst_reading.proofs.Reaching.{Reaches, begin, step, mark_step, name_step, choose, ends, fails, mark_fails}
use Rattle.pst_parse_expr.specs.Constraints.{outermost_at, ConditionTree, SubscriptTree, behind_expr, expr_end, implies_by, implied_by, expr_item_by, otherwise_by, else_by, maybe_else_by, behind_then, then_by, if_condition_by, if_by, unique_end, unique_close, unique_rest, unique_first, unique_open, unique_by, foreach_set, foreach_index, foreach_rest, foreach_first, foreach_open, foreach_by, empty_by, item_row, block_close, block_items, one_by, constraint_at}
use Rattle.pst_parse_expr.specs.ConstraintFamilies.{outermost_family, condition_family, next_exprs_family, dot_names_family, subscript_family, if_family, unique_family, foreach_family, expr_item_family, item_family, items_family, block_family, set_family}

-- a set within another part, behind at least one token of it
set_nested : (tokens : List Token) (start at d : ℕ) (o : Outcome ConstraintTree) → start < at → at ≤ length tokens → SettlesFrom (set_family d) tokens at at o → SettlesFrom (λ m n. constraint_at m d) tokens start at o
unfolding constraint_at
set_nested tokens start at d o lt le h zero prefixes m n = absurd (omega (arith, m, lt, le))
set_nested tokens start at d o lt le h (suc size) prefixes m n = h size size (omega (arith, m, lt)) (omega (arith, m, lt))

set_fault : (tokens : List Token) (start at d : ℕ) → start < at → at ≤ length tokens → (e : SyntaxFault) → FailsFrom (set_family d) tokens at at e → FailsFrom (λ m n. constraint_at m d) tokens start at e
set_fault tokens start at d lt le (the_fault.At k) h = (set_nested tokens start at d (Refused (drop k tokens)) lt le h.0, h.1, h.2)
set_fault tokens start at d lt le (the_fault.Deep k) h = (set_nested tokens start at d (TooDeep (drop k tokens)) lt le h.0, h.1, h.2)
set_fault tokens start at d lt le the_fault.NoMemory h = tt

-- ---- rows of trees are those of their lists

rows_in : {n : _} (k : Row_of-ConstraintItem n) → view_constraint_item_row k ≡ item_row (map view_constraint_item (items-the_row-ConstraintItem n k))
rows_in end_of-ConstraintItem = refl
rows_in (more_of-ConstraintItem head tail) = ap (λ (r : ConstraintItemRow). MoreConstraintItemRow (view_constraint_item head) r) (rows_in tail)

pub block_view : (left : Place) (v : Vec ConstraintItem) (right : Place) → view_constraint (the_constraint.Block left v right) ≡ ConstraintBlock left (item_row (map view_constraint_item v.items)) right
block_view left v right = ap (λ (r : ConstraintItemRow). ConstraintBlock left r right) (rows_in (hidden-the_row-ConstraintItem-0 v) ∙ ap (λ (xs : List ConstraintItem). item_row (map view_constraint_item xs)) (items_hidden-the_row-ConstraintItem-0 v))

module _ (tokens : List Token) (at d : ℕ) where
  -- ---- expr ";" | expr "->" set

  abbrev from_expr : ℕ → ExprTree → Family ConstraintItemTree
  from_expr x e m n = behind_expr (constraint_at m) x e

  pub expr_item_fails : (e : SyntaxFault) → FailsFrom (outermost_family d) tokens at at e → FailsFrom (expr_item_family d) tokens at at e
  expr_item_fails e h = fails (expr_item_family d) tokens at at (outermost_family d) (λ m n. behind_expr (constraint_at m) d) at at e (omega arith) h (begin (expr_item_family d) tokens at at)

  module _ (expr : ExprTree) (after : ℕ) (more : at + 1 ≤ after) (inside : after ≤ length tokens) (given : SettlesFrom (outermost_family d) tokens at at (Took expr (drop after tokens))) where
    expr_read : Reaches (expr_item_family d) tokens at at (from_expr d expr) after
    expr_read = step (expr_item_family d) tokens at at (outermost_family d) (λ m n. behind_expr (constraint_at m) d) at at after expr (omega arith) (omega (arith, more)) given (begin (expr_item_family d) tokens at at)

    module _ (absent : next_is (is_mark kind.Arrow) (next (drop after tokens)) ≡ false) where
      no_arrow : Reaches (expr_item_family d) tokens at at (λ m n. expr_end d expr) after
      no_arrow = choose (expr_item_family d) tokens at at kind.Arrow (λ m n. implies_by (constraint_at m) d expr) (λ m n. expr_end d expr) after false absent expr_read

      pub semicolon_fails : (e : SyntaxFault) → Expects (mark_by kind.Semicolon (counted d 0)) tokens after (Err e) → FailsFrom (expr_item_family d) tokens at at e
      semicolon_fails e h = mark_fails (expr_item_family d) tokens at at kind.Semicolon (counted d 0) (λ m n x. Done (ConstraintItemExpr expr x)) after e inside h no_arrow

      pub expr_given : (semicolon : Place) → run is_over (mark_by kind.Semicolon (counted d 0)) (drop after tokens) ≡ Took semicolon (drop (after + 1) tokens) → SettlesFrom (expr_item_family d) tokens at at (Took (ConstraintItemExpr expr semicolon) (drop (after + 1) tokens))
      expr_given semicolon h = ends (expr_item_family d) tokens at at (ConstraintItemExpr expr semicolon) (after + 1) (mark_step (expr_item_family d) tokens at at kind.Semicolon (counted d 0) (λ m n x. Done (ConstraintItemExpr expr x)) after (after + 1) semicolon refl h no_arrow)

    module _ (present : next_is (is_mark kind.Arrow) (next (drop after tokens)) ≡ true) where
      with_arrow : Reaches (expr_item_family d) tokens at at (λ m n. implies_by (constraint_at m) d expr) after
      with_arrow = choose (expr_item_family d) tokens at at kind.Arrow (λ m n. implies_by (constraint_at m) d expr) (λ m n. expr_end d expr) after true present expr_read

      pub arrow_fails : (e : SyntaxFault) → Expects (mark_by kind.Arrow (counted d 0)) tokens after (Err e) → FailsFrom (expr_item_family d) tokens at at e
      arrow_fails e h = mark_fails (expr_item_family d) tokens at at kind.Arrow (counted d 0) (λ m n. implied_by (constraint_at m) d expr) after e inside h with_arrow

      module _ (arrow : Place) (taken : run is_over (mark_by kind.Arrow (counted d 0)) (drop after tokens) ≡ Took arrow (drop (after + 1) tokens)) (within : after + 1 ≤ length tokens) where
        arrow_read : Reaches (expr_item_family d) tokens at at (λ m n. implied_by (constraint_at m) d expr arrow) (after + 1)
        arrow_read = mark_step (expr_item_family d) tokens at at kind.Arrow (counted d 0) (λ m n. implied_by (constraint_at m) d expr) after (after + 1) arrow refl taken with_arrow

        pub implied_fails : (e : SyntaxFault) → FailsFrom (set_family d) tokens (after + 1) (after + 1) e → FailsFrom (expr_item_family d) tokens at at e
        implied_fails e h = fails (expr_item_family d) tokens at at (λ m n. constraint_at m d) (λ m n s. Done (ConstraintItemImplies expr arrow s)) at (after + 1) e (omega arith) (set_fault tokens at (after + 1) d (omega (arith, more)) within e h) arrow_read

        pub implies_given : (s : ConstraintTree) (end : ℕ) → after + 1 ≤ end → SettlesFrom (set_family d) tokens (after + 1) (after + 1) (Took s (drop end tokens)) → SettlesFrom (expr_item_family d) tokens at at (Took (ConstraintItemImplies expr arrow s) (drop end tokens))
        implies_given s end le h = ends (expr_item_family d) tokens at at (ConstraintItemImplies expr arrow s) end (step (expr_item_family d) tokens at at (λ m n. constraint_at m d) (λ m n x. Done (ConstraintItemImplies expr arrow x)) at (after + 1) end s (omega arith) le (set_nested tokens at (after + 1) d (Took s (drop end tokens)) (omega (arith, more)) within h) arrow_read)

  -- ---- "if" "(" expr ")" set [ "else" set ]

  module _ (if_place : Place) (taken : run is_over (mark_by kind.If (counted d 0)) (drop at tokens) ≡ Took if_place (drop (at + 1) tokens)) where
    if_read : Reaches (if_family d) tokens at at (λ m n. if_condition_by (outermost_at (suc m)) (constraint_at m) d if_place) (at + 1)
    if_read = mark_step (if_family d) tokens at at kind.If (counted d 0) (λ m n. if_condition_by (outermost_at (suc m)) (constraint_at m) d) at (at + 1) if_place refl taken (begin (if_family d) tokens at at)

    pub if_condition_fails : (e : SyntaxFault) → FailsFrom (condition_family d) tokens (at + 1) (at + 1) e → FailsFrom (if_family d) tokens at at e
    if_condition_fails e h = fails (if_family d) tokens at at (condition_family d) (λ m n. then_by (constraint_at m) d if_place) (at + 1) (at + 1) e (omega arith) h if_read

    module _ (g : ConditionTree) (behind : ℕ) (more : at + 1 + 1 ≤ behind) (inside : behind ≤ length tokens) (given : SettlesFrom (condition_family d) tokens (at + 1) (at + 1) (Took g (drop behind tokens))) where
      condition_read : Reaches (if_family d) tokens at at (λ m n. then_by (constraint_at m) d if_place g) behind
      condition_read = step (if_family d) tokens at at (condition_family d) (λ m n. then_by (constraint_at m) d if_place) (at + 1) (at + 1) behind g (omega arith) (omega (arith, more)) given if_read

      pub then_fails : (e : SyntaxFault) → FailsFrom (set_family d) tokens behind behind e → FailsFrom (if_family d) tokens at at e
      then_fails e h = fails (if_family d) tokens at at (λ m n. constraint_at m d) (λ m n. behind_then (constraint_at m) d if_place g) at behind e (omega arith) (set_fault tokens at behind d (omega (arith, more)) inside e h) condition_read

      module _ (t : ConstraintTree) (after : ℕ) (long : behind + 1 ≤ after) (t_inside : after ≤ length tokens) (t_given : SettlesFrom (set_family d) tokens behind behind (Took t (drop after tokens))) (no_else : constraint_ends_open t ≡ true → next_is (is_mark kind.Else) (next (drop after tokens)) ≡ false) where
        then_read : Reaches (if_family d) tokens at at (λ m n. maybe_else_by (constraint_at m) d if_place g t (constraint_ends_open t)) after
        then_read = step (if_family d) tokens at at (λ m n. constraint_at m d) (λ m n. behind_then (constraint_at m) d if_place g) at behind after t (omega arith) (omega (arith, long)) (set_nested tokens at behind d (Took t (drop after tokens)) (omega (arith, more)) inside t_given) condition_read

        abbrev only : ConstraintItemTree
        only = ConstraintItemIf if_place g.0 g.1 g.2 t

        -- no `else`
        pub if_given : next_is (is_mark kind.Else) (next (drop after tokens)) ≡ false → SettlesFrom (if_family d) tokens at at (Took only (drop after tokens))
        if_given absent = go (constraint_ends_open t) then_read
          where
            go : (b : Bool) → Reaches (if_family d) tokens at at (λ m n. maybe_else_by (constraint_at m) d if_place g t b) after → SettlesFrom (if_family d) tokens at at (Took only (drop after tokens))
            go true r = ends (if_family d) tokens at at only after r
            go false r = ends (if_family d) tokens at at only after (choose (if_family d) tokens at at kind.Else (λ m n. else_by (constraint_at m) d if_place g t) (λ m n. Done only) after false absent r)

        module _ (present : next_is (is_mark kind.Else) (next (drop after tokens)) ≡ true) where
          with_else : Reaches (if_family d) tokens at at (λ m n. else_by (constraint_at m) d if_place g t) after
          with_else = go (constraint_ends_open t) refl then_read
            where
              both_ways : next_is (is_mark kind.Else) (next (drop after tokens)) ≡ false → next_is (is_mark kind.Else) (next (drop after tokens)) ≡ true → ⊥
              both_ways x y = cc

              go : (b : Bool) → constraint_ends_open t ≡ b → Reaches (if_family d) tokens at at (λ m n. maybe_else_by (constraint_at m) d if_place g t b) after → Reaches (if_family d) tokens at at (λ m n. else_by (constraint_at m) d if_place g t) after
              go true opens r = absurd (both_ways (no_else opens) present)
              go false closed r = choose (if_family d) tokens at at kind.Else (λ m n. else_by (constraint_at m) d if_place g t) (λ m n. Done only) after true present r

          pub else_fails : (e : SyntaxFault) → Expects (mark_by kind.Else (counted d 0)) tokens after (Err e) → FailsFrom (if_family d) tokens at at e
          else_fails e h = mark_fails (if_family d) tokens at at kind.Else (counted d 0) (λ m n. otherwise_by (constraint_at m) d if_place g t) after e t_inside h with_else

          module _ (else_place : Place) (else_taken : run is_over (mark_by kind.Else (counted d 0)) (drop after tokens) ≡ Took else_place (drop (after + 1) tokens)) (within : after + 1 ≤ length tokens) where
            else_read : Reaches (if_family d) tokens at at (λ m n. otherwise_by (constraint_at m) d if_place g t else_place) (after + 1)
            else_read = mark_step (if_family d) tokens at at kind.Else (counted d 0) (λ m n. otherwise_by (constraint_at m) d if_place g t) after (after + 1) else_place refl else_taken with_else

            pub otherwise_fails : (e : SyntaxFault) → FailsFrom (set_family d) tokens (after + 1) (after + 1) e → FailsFrom (if_family d) tokens at at e
            otherwise_fails e h = fails (if_family d) tokens at at (λ m n. constraint_at m d) (λ m n o. Done (ConstraintItemIfElse if_place g.0 g.1 g.2 t else_place o)) at (after + 1) e (omega arith) (set_fault tokens at (after + 1) d (omega (arith, more, long)) within e h) else_read

            pub if_else_given : (o : ConstraintTree) (end : ℕ) → after + 1 ≤ end → SettlesFrom (set_family d) tokens (after + 1) (after + 1) (Took o (drop end tokens)) → SettlesFrom (if_family d) tokens at at (Took (ConstraintItemIfElse if_place g.0 g.1 g.2 t else_place o) (drop end tokens))
            if_else_given o end le h = ends (if_family d) tokens at at (ConstraintItemIfElse if_place g.0 g.1 g.2 t else_place o) end (step (if_family d) tokens at at (λ m n. constraint_at m d) (λ m n x. Done (ConstraintItemIfElse if_place g.0 g.1 g.2 t else_place x)) at (after + 1) end o (omega arith) le (set_nested tokens at (after + 1) d (Took o (drop end tokens)) (omega (arith, more, long)) within h) else_read)

  -- ---- "unique" "{" expr { "," expr } "}" ";"

  module _ (unique : Place) (unique_taken : run is_over (mark_by kind.Unique (counted d 0)) (drop at tokens) ≡ Took unique (drop (at + 1) tokens)) (left : Place) (left_taken : run is_over (mark_by kind.LeftBrace (counted d 0)) (drop (at + 1) tokens) ≡ Took left (drop (at + 1 + 1) tokens)) where
    brace_read : Reaches (unique_family d) tokens at at (λ m n. unique_first (outermost_at (suc m)) m d unique left) (at + 2)
    brace_read =
        mark_step (unique_family d) tokens at at kind.LeftBrace (counted d 0) (λ m n. unique_first (outermost_at (suc m)) m d unique) (at + 1) (at + 2) left (omega arith) left_taken
        (mark_step (unique_family d) tokens at at kind.Unique (counted d 0) (λ m n. unique_open (outermost_at (suc m)) m d) at (at + 1) unique refl unique_taken (begin (unique_family d) tokens at at))

    pub unique_first_fails : (e : SyntaxFault) → FailsFrom (outermost_family d) tokens (at + 2) (at + 2) e → FailsFrom (unique_family d) tokens at at e
    unique_first_fails e h = fails (unique_family d) tokens at at (outermost_family d) (λ m n. unique_rest (outermost_at (suc m)) m d unique left) (at + 2) (at + 2) e (omega arith) h brace_read

    module _ (first : ExprTree) (behind : ℕ) (more : at + 2 + 1 ≤ behind) (given : SettlesFrom (outermost_family d) tokens (at + 2) (at + 2) (Took first (drop behind tokens))) where
      first_read : Reaches (unique_family d) tokens at at (λ m n. unique_rest (outermost_at (suc m)) m d unique left first) behind
      first_read = step (unique_family d) tokens at at (outermost_family d) (λ m n. unique_rest (outermost_at (suc m)) m d unique left) (at + 2) (at + 2) behind first (omega arith) (omega (arith, more)) given brace_read

      pub unique_rest_fails : (e : SyntaxFault) → FailsFrom (next_exprs_family d) tokens (behind - 1) behind e → FailsFrom (unique_family d) tokens at at e
      unique_rest_fails e h = fails (unique_family d) tokens at at (next_exprs_family d) (λ m n. unique_close d unique left first) (behind - 1) behind e (omega (arith, more)) h first_read

      module _ (rest : List NextExprTree) (after : ℕ) (long : behind + 0 ≤ after) (inside : after ≤ length tokens) (rest_given : SettlesFrom (next_exprs_family d) tokens (behind - 1) behind (Took rest (drop after tokens))) where
        rest_read : Reaches (unique_family d) tokens at at (λ m n. unique_close d unique left first rest) after
        rest_read = step (unique_family d) tokens at at (next_exprs_family d) (λ m n. unique_close d unique left first) (behind - 1) behind after rest (omega (arith, more)) (omega (arith, long)) rest_given first_read

        pub unique_brace_fails : (e : SyntaxFault) → Expects (mark_by kind.RightBrace (counted d 0)) tokens after (Err e) → FailsFrom (unique_family d) tokens at at e
        unique_brace_fails e h = mark_fails (unique_family d) tokens at at kind.RightBrace (counted d 0) (λ m n. unique_end d unique left first rest) after e inside h rest_read

        module _ (right : Place) (right_taken : run is_over (mark_by kind.RightBrace (counted d 0)) (drop after tokens) ≡ Took right (drop (after + 1) tokens)) (within : after + 1 ≤ length tokens) where
          right_read : Reaches (unique_family d) tokens at at (λ m n. unique_end d unique left first rest right) (after + 1)
          right_read = mark_step (unique_family d) tokens at at kind.RightBrace (counted d 0) (λ m n. unique_end d unique left first rest) after (after + 1) right refl right_taken rest_read

          pub unique_semicolon_fails : (e : SyntaxFault) → Expects (mark_by kind.Semicolon (counted d 0)) tokens (after + 1) (Err e) → FailsFrom (unique_family d) tokens at at e
          unique_semicolon_fails e h = mark_fails (unique_family d) tokens at at kind.Semicolon (counted d 0) (λ m n x. Done (ConstraintItemUnique unique left first rest right x)) (after + 1) e within h right_read

          pub unique_given : (semicolon : Place) → run is_over (mark_by kind.Semicolon (counted d 0)) (drop (after + 1) tokens) ≡ Took semicolon (drop (after + 1 + 1) tokens) → SettlesFrom (unique_family d) tokens at at (Took (ConstraintItemUnique unique left first rest right semicolon) (drop (after + 2) tokens))
          unique_given semicolon h = ends (unique_family d) tokens at at (ConstraintItemUnique unique left first rest right semicolon) (after + 2) (mark_step (unique_family d) tokens at at kind.Semicolon (counted d 0) (λ m n x. Done (ConstraintItemUnique unique left first rest right x)) (after + 1) (after + 2) semicolon (omega arith) h right_read)

  -- ---- "foreach" "(" NAME { "." NAME } "[" NAME "]" ")" set

  module _ (foreach : Place) (foreach_taken : run is_over (mark_by kind.Foreach (counted d 0)) (drop at tokens) ≡ Took foreach (drop (at + 1) tokens)) (left : Place) (left_taken : run is_over (mark_by kind.LeftParenthesis (counted d 0)) (drop (at + 1) tokens) ≡ Took left (drop (at + 1 + 1) tokens)) (first : Name) (first_taken : run is_over (name_by (counted d 0)) (drop (at + 2) tokens) ≡ Took first (drop (at + 2 + 1) tokens)) where
    array_read : Reaches (foreach_family d) tokens at at (λ m n. foreach_rest (constraint_at m) m d foreach left first) (at + 3)
    array_read =
        name_step (foreach_family d) tokens at at (counted d 0) (λ m n. foreach_rest (constraint_at m) m d foreach left) (at + 2) (at + 3) first (omega arith) first_taken
        (mark_step (foreach_family d) tokens at at kind.LeftParenthesis (counted d 0) (λ m n. foreach_first (constraint_at m) m d foreach) (at + 1) (at + 2) left (omega arith) left_taken
        (mark_step (foreach_family d) tokens at at kind.Foreach (counted d 0) (λ m n. foreach_open (constraint_at m) m d) at (at + 1) foreach refl foreach_taken (begin (foreach_family d) tokens at at)))

    pub foreach_rest_fails : (e : SyntaxFault) → FailsFrom (dot_names_family d) tokens (at + 3 - 1) (at + 3) e → FailsFrom (foreach_family d) tokens at at e
    foreach_rest_fails e h = fails (foreach_family d) tokens at at (dot_names_family d) (λ m n. foreach_index (constraint_at m) d foreach left first) (at + 3 - 1) (at + 3) e (omega arith) h array_read

    module _ (rest : List DotName) (behind : ℕ) (more : at + 3 + 0 ≤ behind) (given : SettlesFrom (dot_names_family d) tokens (at + 3 - 1) (at + 3) (Took rest (drop behind tokens))) where
      names_read : Reaches (foreach_family d) tokens at at (λ m n. foreach_index (constraint_at m) d foreach left first rest) behind
      names_read = step (foreach_family d) tokens at at (dot_names_family d) (λ m n. foreach_index (constraint_at m) d foreach left first) (at + 3 - 1) (at + 3) behind rest (omega arith) (omega (arith, more)) given array_read

      pub foreach_index_fails : (e : SyntaxFault) → FailsFrom (subscript_family d) tokens behind behind e → FailsFrom (foreach_family d) tokens at at e
      foreach_index_fails e h = fails (foreach_family d) tokens at at (subscript_family d) (λ m n. foreach_set (constraint_at m) d foreach left first rest) behind behind e (omega (arith, more)) h names_read

      module _ (index : SubscriptTree) (after : ℕ) (long : behind + 1 ≤ after) (inside : after ≤ length tokens) (index_given : SettlesFrom (subscript_family d) tokens behind behind (Took index (drop after tokens))) where
        index_read : Reaches (foreach_family d) tokens at at (λ m n. foreach_set (constraint_at m) d foreach left first rest index) after
        index_read = step (foreach_family d) tokens at at (subscript_family d) (λ m n. foreach_set (constraint_at m) d foreach left first rest) behind behind after index (omega (arith, more)) (omega (arith, long)) index_given names_read

        pub foreach_set_fails : (e : SyntaxFault) → FailsFrom (set_family d) tokens after after e → FailsFrom (foreach_family d) tokens at at e
        foreach_set_fails e h = fails (foreach_family d) tokens at at (λ m n. constraint_at m d) (λ m n s. Done (ConstraintItemForeach foreach left first rest index.0 index.1 index.2 index.3 s)) at after e (omega arith) (set_fault tokens at after d (omega (arith, more, long)) inside e h) index_read

        pub foreach_given : (s : ConstraintTree) (end : ℕ) → after + 1 ≤ end → SettlesFrom (set_family d) tokens after after (Took s (drop end tokens)) → SettlesFrom (foreach_family d) tokens at at (Took (ConstraintItemForeach foreach left first rest index.0 index.1 index.2 index.3 s) (drop end tokens))
        foreach_given s end le h = ends (foreach_family d) tokens at at (ConstraintItemForeach foreach left first rest index.0 index.1 index.2 index.3 s) end (step (foreach_family d) tokens at at (λ m n. constraint_at m d) (λ m n x. Done (ConstraintItemForeach foreach left first rest index.0 index.1 index.2 index.3 x)) at after end s (omega arith) (omega (arith, le)) (set_nested tokens at after d (Took s (drop end tokens)) (omega (arith, more, long)) inside h) index_read)

  -- ---- citem

  abbrev not_unique : Family ConstraintItemTree
  not_unique m n = if_mark kind.Foreach (foreach_by (constraint_at m) m d) (expr_item_by (outermost_at (suc m)) (constraint_at m) d)

  abbrev not_if : Family ConstraintItemTree
  not_if m n = if_mark kind.Unique (unique_by (outermost_at (suc m)) m d) (not_unique m n)

  abbrev not_empty : Family ConstraintItemTree
  not_empty m n = if_mark kind.If (if_by (outermost_at (suc m)) (constraint_at m) d) (not_if m n)

  module _ (no_semicolon : next_is (is_mark kind.Semicolon) (next (drop at tokens)) ≡ false) where
    goes_on : Reaches (item_family d) tokens at at not_empty at
    goes_on = choose (item_family d) tokens at at kind.Semicolon (λ m n. empty_by d) not_empty at false no_semicolon (begin (item_family d) tokens at at)

    pub is_if : next_is (is_mark kind.If) (next (drop at tokens)) ≡ true → Reaches (item_family d) tokens at at (if_family d) at
    is_if present = choose (item_family d) tokens at at kind.If (if_family d) not_if at true present goes_on

    module _ (no_if : next_is (is_mark kind.If) (next (drop at tokens)) ≡ false) where
      further : Reaches (item_family d) tokens at at not_if at
      further = choose (item_family d) tokens at at kind.If (if_family d) not_if at false no_if goes_on

      pub is_unique : next_is (is_mark kind.Unique) (next (drop at tokens)) ≡ true → Reaches (item_family d) tokens at at (unique_family d) at
      is_unique present = choose (item_family d) tokens at at kind.Unique (unique_family d) not_unique at true present further

      module _ (no_unique : next_is (is_mark kind.Unique) (next (drop at tokens)) ≡ false) where
        furthest : Reaches (item_family d) tokens at at not_unique at
        furthest = choose (item_family d) tokens at at kind.Unique (unique_family d) not_unique at false no_unique further

        pub is_foreach : next_is (is_mark kind.Foreach) (next (drop at tokens)) ≡ true → Reaches (item_family d) tokens at at (foreach_family d) at
        is_foreach present = choose (item_family d) tokens at at kind.Foreach (foreach_family d) (expr_item_family d) at true present furthest

        pub is_expr : next_is (is_mark kind.Foreach) (next (drop at tokens)) ≡ false → Reaches (item_family d) tokens at at (expr_item_family d) at
        is_expr absent = choose (item_family d) tokens at at kind.Foreach (foreach_family d) (expr_item_family d) at false absent furthest

  -- ---- set = citem | "{" { citem } "}"

  abbrev one_family : Family ConstraintTree
  one_family m n = one_by (outermost_at (suc m)) (constraint_at m) m d

  pub is_block : next_is (is_mark kind.LeftBrace) (next (drop at tokens)) ≡ true → Reaches (set_family d) tokens at at (block_family d) at
  is_block present = choose (set_family d) tokens at at kind.LeftBrace (block_family d) one_family at true present (begin (set_family d) tokens at at)

  module _ (inner : ℕ) (deeper : inner ≡ suc d) where
    module _ (absent : next_is (is_mark kind.LeftBrace) (next (drop at tokens)) ≡ false) where
      is_one : Reaches (set_family d) tokens at at (λ m n. followed_by (item_family (suc d) m n) (λ item. Done (ConstraintOne item))) at
      is_one = choose (set_family d) tokens at at kind.LeftBrace (block_family d) one_family at false absent (begin (set_family d) tokens at at)

      pub one_fails : (e : SyntaxFault) → FailsFrom (item_family inner) tokens at at e → FailsFrom (set_family d) tokens at at e
      one_fails e h = fails (set_family d) tokens at at (item_family (suc d)) (λ m n item. Done (ConstraintOne item)) at at e (omega arith) (subst (λ (x : ℕ). FailsFrom (item_family x) tokens at at e) deeper h) is_one

      pub one_given : (item : ConstraintItemTree) (after : ℕ) → at + 1 ≤ after → SettlesFrom (item_family inner) tokens at at (Took item (drop after tokens)) → SettlesFrom (set_family d) tokens at at (Took (ConstraintOne item) (drop after tokens))
      one_given item after le h = ends (set_family d) tokens at at (ConstraintOne item) after (step (set_family d) tokens at at (item_family (suc d)) (λ m n x. Done (ConstraintOne x)) at at after item (omega arith) (omega (arith, le)) (subst (λ (x : ℕ). SettlesFrom (item_family x) tokens at at (Took item (drop after tokens))) deeper h) is_one)

    module _ (left : Place) (taken : run is_over (mark_by kind.LeftBrace (counted d 0)) (drop at tokens) ≡ Took left (drop (at + 1) tokens)) where
      opened : Reaches (block_family d) tokens at at (λ m n. followed_by (items_family (suc d) m n) (block_close d left)) (at + 1)
      opened = mark_step (block_family d) tokens at at kind.LeftBrace (counted d 0) (λ m n. block_items (outermost_at (suc m)) (constraint_at m) m d) at (at + 1) left refl taken (begin (block_family d) tokens at at)

      pub block_items_fail : (e : SyntaxFault) → FailsFrom (items_family inner) tokens (at + 1 - 1) (at + 1) e → FailsFrom (block_family d) tokens at at e
      block_items_fail e h = fails (block_family d) tokens at at (items_family (suc d)) (λ m n. block_close d left) (at + 1 - 1) (at + 1) e (omega arith) (subst (λ (x : ℕ). FailsFrom (items_family x) tokens (at + 1 - 1) (at + 1) e) deeper h) opened

      module _ (items : List ConstraintItemTree) (after : ℕ) (more : at + 1 + 0 ≤ after) (inside : after ≤ length tokens) (given : SettlesFrom (items_family inner) tokens (at + 1 - 1) (at + 1) (Took items (drop after tokens))) where
        items_read : Reaches (block_family d) tokens at at (λ m n. block_close d left items) after
        items_read = step (block_family d) tokens at at (items_family (suc d)) (λ m n. block_close d left) (at + 1 - 1) (at + 1) after items (omega arith) (omega (arith, more)) (subst (λ (x : ℕ). SettlesFrom (items_family x) tokens (at + 1 - 1) (at + 1) (Took items (drop after tokens))) deeper given) opened

        pub block_brace_fails : (e : SyntaxFault) → Expects (mark_by kind.RightBrace (counted d 0)) tokens after (Err e) → FailsFrom (block_family d) tokens at at e
        block_brace_fails e h = mark_fails (block_family d) tokens at at kind.RightBrace (counted d 0) (λ m n r. Done (ConstraintBlock left (item_row items) r)) after e inside h items_read

        pub block_given : (right : Place) → run is_over (mark_by kind.RightBrace (counted d 0)) (drop after tokens) ≡ Took right (drop (after + 1) tokens) → SettlesFrom (block_family d) tokens at at (Took (ConstraintBlock left (item_row items) right) (drop (after + 1) tokens))
        block_given right h = ends (block_family d) tokens at at (ConstraintBlock left (item_row items) right) (after + 1) (mark_step (block_family d) tokens at at kind.RightBrace (counted d 0) (λ m n r. Done (ConstraintBlock left (item_row items) r)) after (after + 1) right refl h items_read)
