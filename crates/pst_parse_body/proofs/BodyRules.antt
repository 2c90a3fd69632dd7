-- What each rule of bodies gives, from what its parts give.
use Rattle.std.proofs.Common.{◌≡◌, ℕ, zero, suc, ◌+◌, ◌-◌, ◌<◌, ◌≤◌, Bool, true, false, if◌then◌else◌, List, Option, length, drop, refl, ap, subst, ◌∙◌, arith, Err}
use Rattle.std.specs.Prelude.{map}
use Rattle.std.specs.Global.{Vec}
use Rattle.pst_base.specs.declared.position.Place.{Place}
use Rattle.pst_token.specs.declared.kind.Kind.TheVariants as kind
use Rattle.pst_token.specs.declared.token.Token.{Token}
use Rattle.pst_ast.specs.declared.fault.SyntaxFault.{SyntaxFault}
use Rattle.pst_ast.specs.declared.fault.SyntaxFault.TheVariants as the_fault
use Rattle.pst_ast.specs.declared.leaf.Name.{Name}
use Rattle.pst_ast.specs.declared.body.BodyStatement.{BodyStatement, Row_of-BodyStatement, end_of-BodyStatement, more_of-BodyStatement, items-the_row-BodyStatement, items_hidden-the_row-BodyStatement-0}
use Rattle.pst_ast.specs.declared.body.BodyStatement.TheBlock.{hidden-the_row-BodyStatement-0}
use Rattle.pst_ast.specs.declared.body.BodyStatement.TheVariants as the_body_statement
use Rattle.pst_ast.specs.SharedTree.{PlainTree}
use Rattle.pst_ast.specs.BodyTree.{MakeBody, BodyStatementTree, BodyStatementLocal, BodyStatementCall, BodyStatementBlock, BodyStatementIf, BodyStatementIfElse, BodyStatementRepeat, BodyStatementRow, MoreBodyStatementRow, ValueTree, CallTree}
use Rattle.pst_ast.specs.BodyProper.{body_ends_open}
use Rattle.pst_ast.specs.BodyView.{view_body_statement, view_body_statement_row}
use Rattle.pst_ast.specs.Limits.{counted, is_over}
use Rattle.pst_reading.specs.Kinds.{is_mark, next_is}
use Rattle.pst_reading.specs.Parser.{Done, Outcome, Took, Refused, TooDeep, run, next, followed_by, mark_by, name_by, if_mark}
use Rattle.pst_reading.specs.Gives.{Family, SettlesFrom, FailsFrom, Expects}
use Rattle.pst_reading.proofs.Reaching.{Reaches, begin, step, mark_step, name_step, choose, ends, fails, mark_fails, name_fails}
use Rattle.pst_parse_expr.specs.Constraints.{outermost_at, ConditionTree}
use Rattle.pst_parse_expr.specs.ConstraintFamilies.{condition_family}
use Rattle.pst_parse_body.specs.Types.{begins_plain}
use Rattle.pst_parse_body.specs.Bodies.{local_end, local_value, local_name, assigned, assign_end, assign_by, call_end, called_by, behind_name, otherwise_by, else_by, maybe_else_by, behind_then, then_by, if_condition_by, repeated_by, times_statement, statement_row, block_close, block_statements, empty_by, local_or_named, statement_at, body_close, body_statements, body_open, body_word}
use Rattle.pst_parse_part.specs.Times.{TimesTree}
use Rattle.pst_parse_body.specs.BodyFamilies.{call_family, value_family, maybe_value_family, local_family, named_family, block_family, if_family, loop_family, statement_family, nested_family, statements_family, body_family}
use Rattle.pst_parse_part.specs.Families.{plain_family}
use Rattle.pst_parse_part.specs.TimesFamilies.{times_family}

-- a statement within another part, behind at least one token of it
nested_at : (tokens : List Token) (start at d : ℕ) (o : Outcome BodyStatementTree) → start < at → at ≤ length tokens → SettlesFrom (statement_family (suc d)) tokens at at o → SettlesFrom (nested_family d) tokens start at o
unfolding statement_at
nested_at tokens start at d o lt le h zero prefixes m n = absurd (omega (arith, m, lt, le))
nested_at tokens start at d o lt le h (suc size) prefixes m n = h size size (omega (arith, m, lt)) (omega (arith, m, lt))

pub nested_settles : (tokens : List Token) (start at d inner : ℕ) → inner ≡ suc d → (o : Outcome BodyStatementTree) → start < at → at ≤ length tokens → SettlesFrom (statement_family inner) tokens at at o → SettlesFrom (nested_family d) tokens start at o
nested_settles tokens start at d inner e o lt le h = nested_at tokens start at d o lt le (subst (λ (x : ℕ). SettlesFrom (statement_family x) tokens at at o) e h)

pub nested_fault : (tokens : List Token) (start at d inner : ℕ) → inner ≡ suc d → start < at → at ≤ length tokens → (e : SyntaxFault) → FailsFrom (statement_family inner) tokens at at e → FailsFrom (nested_family d) tokens start at e
nested_fault tokens start at d inner i lt le (the_fault.At k) h = (nested_settles tokens start at d inner i (Refused (drop k tokens)) lt le h.0, h.1, h.2)
nested_fault tokens start at d inner i lt le (the_fault.Deep k) h = (nested_settles tokens start at d inner i (TooDeep (drop k tokens)) lt le h.0, h.1, h.2)
nested_fault tokens start at d inner i lt le the_fault.NoMemory h = tt

-- ---- rows of trees are those of their lists

rows_in : {n : _} (k : Row_of-BodyStatement n) → view_body_statement_row k ≡ statement_row (map view_body_statement (items-the_row-BodyStatement n k))
rows_in end_of-BodyStatement = refl
rows_in (more_of-BodyStatement head tail) = ap (λ (r : BodyStatementRow). MoreBodyStatementRow (view_body_statement head) r) (rows_in tail)

pub block_view : (left : Place) (v : Vec BodyStatement) (right : Place) → view_body_statement (the_body_statement.Block left v right) ≡ BodyStatementBlock left (statement_row (map view_body_statement v.items)) right
block_view left v right = ap (λ (r : BodyStatementRow). BodyStatementBlock left r right) (rows_in (hidden-the_row-BodyStatement-0 v) ∙ ap (λ (xs : List BodyStatement). statement_row (map view_body_statement xs)) (items_hidden-the_row-BodyStatement-0 v))

module _ (tokens : List Token) (at d : ℕ) where
  -- ---- plain NAME [ "=" source ] ";"

  pub local_plain_fails : (e : SyntaxFault) → FailsFrom (plain_family d) tokens at at e → FailsFrom (local_family d) tokens at at e
  local_plain_fails e h = fails (local_family d) tokens at at (plain_family d) (λ m n. local_name (outermost_at (suc m)) m d) at at e (omega arith) h (begin (local_family d) tokens at at)

  module _ (plain : PlainTree) (behind : ℕ) (more : at + 1 ≤ behind) (inside : behind ≤ length tokens) (given : SettlesFrom (plain_family d) tokens at at (Took plain (drop behind tokens))) where
    plain_read : Reaches (local_family d) tokens at at (λ m n. local_name (outermost_at (suc m)) m d plain) behind
    plain_read = step (local_family d) tokens at at (plain_family d) (λ m n. local_name (outermost_at (suc m)) m d) at at behind plain (omega arith) (omega (arith, more)) given (begin (local_family d) tokens at at)

    pub local_name_fails : (e : SyntaxFault) → Expects (name_by (counted d 0)) tokens behind (Err e) → FailsFrom (local_family d) tokens at at e
    local_name_fails e h = name_fails (local_family d) tokens at at (counted d 0) (λ m n. local_value (outermost_at (suc m)) m d plain) behind e inside h plain_read

    module _ (name : Name) (taken : run is_over (name_by (counted d 0)) (drop behind tokens) ≡ Took name (drop (behind + 1) tokens)) where
      local_named : Reaches (local_family d) tokens at at (λ m n. local_value (outermost_at (suc m)) m d plain name) (behind + 1)
      local_named = name_step (local_family d) tokens at at (counted d 0) (λ m n. local_value (outermost_at (suc m)) m d plain) behind (behind + 1) name refl taken plain_read

      pub local_value_fails : (e : SyntaxFault) → FailsFrom (maybe_value_family d) tokens (behind + 1) (behind + 1) e → FailsFrom (local_family d) tokens at at e
      local_value_fails e h = fails (local_family d) tokens at at (maybe_value_family d) (λ m n. local_end d plain name) (behind + 1) (behind + 1) e (omega (arith, more)) h local_named

      module _ (value : Option ValueTree) (after : ℕ) (long : behind + 1 + 0 ≤ after) (value_inside : after ≤ length tokens) (value_given : SettlesFrom (maybe_value_family d) tokens (behind + 1) (behind + 1) (Took value (drop after tokens))) where
        local_valued : Reaches (local_family d) tokens at at (λ m n. local_end d plain name value) after
        local_valued = step (local_family d) tokens at at (maybe_value_family d) (λ m n. local_end d plain name) (behind + 1) (behind + 1) after value (omega (arith, more)) (omega (arith, long)) value_given local_named

        pub local_semicolon_fails : (e : SyntaxFault) → Expects (mark_by kind.Semicolon (counted d 0)) tokens after (Err e) → FailsFrom (local_family d) tokens at at e
        local_semicolon_fails e h = mark_fails (local_family d) tokens at at kind.Semicolon (counted d 0) (λ m n x. Done (BodyStatementLocal plain name value x)) after e value_inside h local_valued

        pub local_given : (semicolon : Place) → run is_over (mark_by kind.Semicolon (counted d 0)) (drop after tokens) ≡ Took semicolon (drop (after + 1) tokens) → SettlesFrom (local_family d) tokens at at (Took (BodyStatementLocal plain name value semicolon) (drop (after + 1) tokens))
        local_given semicolon h = ends (local_family d) tokens at at (BodyStatementLocal plain name value semicolon) (after + 1) (mark_step (local_family d) tokens at at kind.Semicolon (counted d 0) (λ m n x. Done (BodyStatementLocal plain name value x)) after (after + 1) semicolon refl h local_valued)

  -- ---- NAME "=" source ";" | call ";"

  module _ (name : Name) (taken : run is_over (name_by (counted d 0)) (drop at tokens) ≡ Took name (drop (at + 1) tokens)) where
    name_read : Reaches (named_family d) tokens at at (λ m n. behind_name (outermost_at (suc m)) m d name) (at + 1)
    name_read = name_step (named_family d) tokens at at (counted d 0) (λ m n. behind_name (outermost_at (suc m)) m d) at (at + 1) name refl taken (begin (named_family d) tokens at at)

    module _ (present : next_is (is_mark kind.Equal) (next (drop (at + 1) tokens)) ≡ true) where
      assigning : Reaches (named_family d) tokens at at (λ m n. assign_by (outermost_at (suc m)) m d name) (at + 1)
      assigning = choose (named_family d) tokens at at kind.Equal (λ m n. assign_by (outermost_at (suc m)) m d name) (λ m n. called_by (outermost_at (suc m)) m d name) (at + 1) true present name_read

      pub assign_value_fails : (e : SyntaxFault) → FailsFrom (value_family d) tokens (at + 1) (at + 1) e → FailsFrom (named_family d) tokens at at e
      assign_value_fails e h = fails (named_family d) tokens at at (value_family d) (λ m n. assign_end d name) (at + 1) (at + 1) e (omega arith) h assigning

      module _ (value : ValueTree) (after : ℕ) (more : at + 1 + 1 ≤ after) (inside : after ≤ length tokens) (given : SettlesFrom (value_family d) tokens (at + 1) (at + 1) (Took value (drop after tokens))) where
        assign_valued : Reaches (named_family d) tokens at at (λ m n. assign_end d name value) after
        assign_valued = step (named_family d) tokens at at (value_family d) (λ m n. assign_end d name) (at + 1) (at + 1) after value (omega arith) (omega (arith, more)) given assigning

        pub assign_semicolon_fails : (e : SyntaxFault) → Expects (mark_by kind.Semicolon (counted d 0)) tokens after (Err e) → FailsFrom (named_family d) tokens at at e
        assign_semicolon_fails e h = mark_fails (named_family d) tokens at at kind.Semicolon (counted d 0) (λ m n x. Done (assigned name value x)) after e inside h assign_valued

        pub assign_given : (semicolon : Place) → run is_over (mark_by kind.Semicolon (counted d 0)) (drop after tokens) ≡ Took semicolon (drop (after + 1) tokens) → SettlesFrom (named_family d) tokens at at (Took (assigned name value semicolon) (drop (after + 1) tokens))
        assign_given semicolon h = ends (named_family d) tokens at at (assigned name value semicolon) (after + 1) (mark_step (named_family d) tokens at at kind.Semicolon (counted d 0) (λ m n x. Done (assigned name value x)) after (after + 1) semicolon refl h assign_valued)

    module _ (absent : next_is (is_mark kind.Equal) (next (drop (at + 1) tokens)) ≡ false) where
      calling : Reaches (named_family d) tokens at at (λ m n. called_by (outermost_at (suc m)) m d name) (at + 1)
      calling = choose (named_family d) tokens at at kind.Equal (λ m n. assign_by (outermost_at (suc m)) m d name) (λ m n. called_by (outermost_at (suc m)) m d name) (at + 1) false absent name_read

      pub called_fails : (e : SyntaxFault) → FailsFrom (call_family d name) tokens (at + 1) (at + 1) e → FailsFrom (named_family d) tokens at at e
      called_fails e h = fails (named_family d) tokens at at (call_family d name) (λ m n. call_end d) (at + 1) (at + 1) e (omega arith) h calling

      module _ (call : CallTree) (after : ℕ) (more : at + 1 + 1 ≤ after) (inside : after ≤ length tokens) (given : SettlesFrom (call_family d name) tokens (at + 1) (at + 1) (Took call (drop after tokens))) where
        called : Reaches (named_family d) tokens at at (λ m n. call_end d call) after
        called = step (named_family d) tokens at at (call_family d name) (λ m n. call_end d) (at + 1) (at + 1) after call (omega arith) (omega (arith, more)) given calling

        pub called_semicolon_fails : (e : SyntaxFault) → Expects (mark_by kind.Semicolon (counted d 0)) tokens after (Err e) → FailsFrom (named_family d) tokens at at e
        called_semicolon_fails e h = mark_fails (named_family d) tokens at at kind.Semicolon (counted d 0) (λ m n x. Done (BodyStatementCall call x)) after e inside h called

        pub called_given : (semicolon : Place) → run is_over (mark_by kind.Semicolon (counted d 0)) (drop after tokens) ≡ Took semicolon (drop (after + 1) tokens) → SettlesFrom (named_family d) tokens at at (Took (BodyStatementCall call semicolon) (drop (after + 1) tokens))
        called_given semicolon h = ends (named_family d) tokens at at (BodyStatementCall call semicolon) (after + 1) (mark_step (named_family d) tokens at at kind.Semicolon (counted d 0) (λ m n x. Done (BodyStatementCall call x)) after (after + 1) semicolon refl h called)

  -- ---- "if" "(" expr ")" bstmt [ "else" bstmt ]

  module _ (inner : ℕ) (deeper : inner ≡ suc d) where
    module _ (if_place : Place) (taken : run is_over (mark_by kind.If (counted d 0)) (drop at tokens) ≡ Took if_place (drop (at + 1) tokens)) where
      if_read : Reaches (if_family d) tokens at at (λ m n. if_condition_by (outermost_at (suc m)) (statement_at m) d if_place) (at + 1)
      if_read = mark_step (if_family d) tokens at at kind.If (counted d 0) (λ m n. if_condition_by (outermost_at (suc m)) (statement_at m) d) at (at + 1) if_place refl taken (begin (if_family d) tokens at at)

      pub if_condition_fails : (e : SyntaxFault) → FailsFrom (condition_family d) tokens (at + 1) (at + 1) e → FailsFrom (if_family d) tokens at at e
      if_condition_fails e h = fails (if_family d) tokens at at (condition_family d) (λ m n. then_by (statement_at m) d if_place) (at + 1) (at + 1) e (omega arith) h if_read

      module _ (g : ConditionTree) (behind : ℕ) (more : at + 1 + 1 ≤ behind) (inside : behind ≤ length tokens) (given : SettlesFrom (condition_family d) tokens (at + 1) (at + 1) (Took g (drop behind tokens))) where
        condition_read : Reaches (if_family d) tokens at at (λ m n. then_by (statement_at m) d if_place g) behind
        condition_read = step (if_family d) tokens at at (condition_family d) (λ m n. then_by (statement_at m) d if_place) (at + 1) (at + 1) behind g (omega arith) (omega (arith, more)) given if_read

        pub then_fails : (e : SyntaxFault) → FailsFrom (statement_family inner) tokens behind behind e → FailsFrom (if_family d) tokens at at e
        then_fails e h = fails (if_family d) tokens at at (nested_family d) (λ m n. behind_then (statement_at m) d if_place g) at behind e (omega arith) (nested_fault tokens at behind d inner deeper (omega (arith, more)) inside e h) condition_read

        module _ (t : BodyStatementTree) (after : ℕ) (long : behind + 1 ≤ after) (t_inside : after ≤ length tokens) (t_given : SettlesFrom (statement_family inner) tokens behind behind (Took t (drop after tokens))) (no_else : body_ends_open t ≡ true → next_is (is_mark kind.Else) (next (drop after tokens)) ≡ false) where
          then_read : Reaches (if_family d) tokens at at (λ m n. maybe_else_by (statement_at m) d if_place g t (body_ends_open t)) after
          then_read = step (if_family d) tokens at at (nested_family d) (λ m n. behind_then (statement_at m) d if_place g) at behind after t (omega arith) (omega (arith, long)) (nested_settles tokens at behind d inner deeper (Took t (drop after tokens)) (omega (arith, more)) inside t_given) condition_read

          abbrev only : BodyStatementTree
          only = BodyStatementIf if_place g.0 g.1 g.2 t

          -- no `else`
          pub if_given : next_is (is_mark kind.Else) (next (drop after tokens)) ≡ false → SettlesFrom (if_family d) tokens at at (Took only (drop after tokens))
          if_given absent = go (body_ends_open t) then_read
            where
              go : (b : Bool) → Reaches (if_family d) tokens at at (λ m n. maybe_else_by (statement_at m) d if_place g t b) after → SettlesFrom (if_family d) tokens at at (Took only (drop after tokens))
              go true r = ends (if_family d) tokens at at only after r
              go false r = ends (if_family d) tokens at at only after (choose (if_family d) tokens at at kind.Else (λ m n. else_by (statement_at m) d if_place g t) (λ m n. Done only) after false absent r)

          module _ (present : next_is (is_mark kind.Else) (next (drop after tokens)) ≡ true) where
            with_else : Reaches (if_family d) tokens at at (λ m n. else_by (statement_at m) d if_place g t) after
            with_else = go (body_ends_open t) refl then_read
              where
                both_ways : next_is (is_mark kind.Else) (next (drop after tokens)) ≡ false → next_is (is_mark kind.Else) (next (drop after tokens)) ≡ true → ⊥
                both_ways x y = cc

                go : (b : Bool) → body_ends_open t ≡ b → Reaches (if_family d) tokens at at (λ m n. maybe_else_by (statement_at m) d if_place g t b) after → Reaches (if_family d) tokens at at (λ m n. else_by (statement_at m) d if_place g t) after
                go true opens r = absurd (both_ways (no_else opens) present)
                go false closed r = choose (if_family d) tokens at at kind.Else (λ m n. else_by (statement_at m) d if_place g t) (λ m n. Done only) after true present r

            module _ (else_place : Place) (else_taken : run is_over (mark_by kind.Else (counted d 0)) (drop after tokens) ≡ Took else_place (drop (after + 1) tokens)) (within : after + 1 ≤ length tokens) where
              else_read : Reaches (if_family d) tokens at at (λ m n. otherwise_by (statement_at m) d if_place g t else_place) (after + 1)
              else_read = mark_step (if_family d) tokens at at kind.Else (counted d 0) (λ m n. otherwise_by (statement_at m) d if_place g t) after (after + 1) else_place refl else_taken with_else

              pub otherwise_fails : (e : SyntaxFault) → FailsFrom (statement_family inner) tokens (after + 1) (after + 1) e → FailsFrom (if_family d) tokens at at e
              otherwise_fails e h = fails (if_family d) tokens at at (nested_family d) (λ m n o. Done (BodyStatementIfElse if_place g.0 g.1 g.2 t else_place o)) at (after + 1) e (omega arith) (nested_fault tokens at (after + 1) d inner deeper (omega (arith, more, long)) within e h) else_read

              pub if_else_given : (o : BodyStatementTree) (end : ℕ) → after + 1 ≤ end → SettlesFrom (statement_family inner) tokens (after + 1) (after + 1) (Took o (drop end tokens)) → SettlesFrom (if_family d) tokens at at (Took (BodyStatementIfElse if_place g.0 g.1 g.2 t else_place o) (drop end tokens))
              if_else_given o end le h = ends (if_family d) tokens at at (BodyStatementIfElse if_place g.0 g.1 g.2 t else_place o) end (step (if_family d) tokens at at (nested_family d) (λ m n x. Done (BodyStatementIfElse if_place g.0 g.1 g.2 t else_place x)) at (after + 1) end o (omega arith) le (nested_settles tokens at (after + 1) d inner deeper (Took o (drop end tokens)) (omega (arith, more, long)) within h) else_read)

    -- ---- "repeat" "(" [ NAME ":" ] expr ")" bstmt

    module _ (place : Place) (taken : run is_over (mark_by kind.Repeat (counted d 0)) (drop at tokens) ≡ Took place (drop (at + 1) tokens)) where
      repeat_read : Reaches (loop_family d) tokens at at (λ m n. times_statement (outermost_at (suc m)) (statement_at m) d place) (at + 1)
      repeat_read = mark_step (loop_family d) tokens at at kind.Repeat (counted d 0) (λ m n. times_statement (outermost_at (suc m)) (statement_at m) d) at (at + 1) place refl taken (begin (loop_family d) tokens at at)

      pub times_fails : (e : SyntaxFault) → FailsFrom (times_family d) tokens (at + 1) (at + 1) e → FailsFrom (loop_family d) tokens at at e
      times_fails e h = fails (loop_family d) tokens at at (times_family d) (λ m n. repeated_by (statement_at m) d place) (at + 1) (at + 1) e (omega arith) h repeat_read

      module _ (t : TimesTree) (behind : ℕ) (more : at + 1 + 1 ≤ behind) (inside : behind ≤ length tokens) (given : SettlesFrom (times_family d) tokens (at + 1) (at + 1) (Took t (drop behind tokens))) where
        times_read : Reaches (loop_family d) tokens at at (λ m n. repeated_by (statement_at m) d place t) behind
        times_read = step (loop_family d) tokens at at (times_family d) (λ m n. repeated_by (statement_at m) d place) (at + 1) (at + 1) behind t (omega arith) (omega (arith, more)) given repeat_read

        pub repeated_fails : (e : SyntaxFault) → FailsFrom (statement_family inner) tokens behind behind e → FailsFrom (loop_family d) tokens at at e
        repeated_fails e h = fails (loop_family d) tokens at at (nested_family d) (λ m n s. Done (BodyStatementRepeat place t.0 t.1 t.2 t.3 s)) at behind e (omega arith) (nested_fault tokens at behind d inner deeper (omega (arith, more)) inside e h) times_read

        pub loop_given : (s : BodyStatementTree) (after : ℕ) → behind + 1 ≤ after → SettlesFrom (statement_family inner) tokens behind behind (Took s (drop after tokens)) → SettlesFrom (loop_family d) tokens at at (Took (BodyStatementRepeat place t.0 t.1 t.2 t.3 s) (drop after tokens))
        loop_given s after le h = ends (loop_family d) tokens at at (BodyStatementRepeat place t.0 t.1 t.2 t.3 s) after (step (loop_family d) tokens at at (nested_family d) (λ m n x. Done (BodyStatementRepeat place t.0 t.1 t.2 t.3 x)) at behind after s (omega arith) (omega (arith, le)) (nested_settles tokens at behind d inner deeper (Took s (drop after tokens)) (omega (arith, more)) inside h) times_read)

  -- ---- "{" { bstmt } "}"

  module _ (left : Place) (taken : run is_over (mark_by kind.LeftBrace (counted d 0)) (drop at tokens) ≡ Took left (drop (at + 1) tokens)) where
    opened : Reaches (block_family d) tokens at at (λ m n. followed_by (statements_family d m n) (block_close d left)) (at + 1)
    opened = mark_step (block_family d) tokens at at kind.LeftBrace (counted d 0) (λ m n. block_statements (statement_at m) m d) at (at + 1) left refl taken (begin (block_family d) tokens at at)

    pub block_statements_fail : (e : SyntaxFault) → FailsFrom (statements_family d) tokens (at + 1 - 1) (at + 1) e → FailsFrom (block_family d) tokens at at e
    block_statements_fail e h = fails (block_family d) tokens at at (statements_family d) (λ m n. block_close d left) (at + 1 - 1) (at + 1) e (omega arith) h opened

    module _ (ss : List BodyStatementTree) (after : ℕ) (more : at + 1 + 0 ≤ after) (inside : after ≤ length tokens) (given : SettlesFrom (statements_family d) tokens (at + 1 - 1) (at + 1) (Took ss (drop after tokens))) where
      block_read : Reaches (block_family d) tokens at at (λ m n. block_close d left ss) after
      block_read = step (block_family d) tokens at at (statements_family d) (λ m n. block_close d left) (at + 1 - 1) (at + 1) after ss (omega arith) (omega (arith, more)) given opened

      pub block_brace_fails : (e : SyntaxFault) → Expects (mark_by kind.RightBrace (counted d 0)) tokens after (Err e) → FailsFrom (block_family d) tokens at at e
      block_brace_fails e h = mark_fails (block_family d) tokens at at kind.RightBrace (counted d 0) (λ m n r. Done (BodyStatementBlock left (statement_row ss) r)) after e inside h block_read

      pub block_given : (right : Place) → run is_over (mark_by kind.RightBrace (counted d 0)) (drop after tokens) ≡ Took right (drop (after + 1) tokens) → SettlesFrom (block_family d) tokens at at (Took (BodyStatementBlock left (statement_row ss) right) (drop (after + 1) tokens))
      block_given right h = ends (block_family d) tokens at at (BodyStatementBlock left (statement_row ss) right) (after + 1) (mark_step (block_family d) tokens at at kind.RightBrace (counted d 0) (λ m n r. Done (BodyStatementBlock left (statement_row ss) r)) after (after + 1) right refl h block_read)

  -- ---- bstmt

  abbrev local_or_named_family : Family BodyStatementTree
  local_or_named_family m n = local_or_named (outermost_at (suc m)) m d

  abbrev no_if : Family BodyStatementTree
  no_if m n = if_mark kind.Repeat (loop_family d m n) (local_or_named_family m n)

  abbrev no_block : Family BodyStatementTree
  no_block m n = if_mark kind.If (if_family d m n) (no_if m n)

  abbrev no_empty : Family BodyStatementTree
  no_empty m n = if_mark kind.LeftBrace (block_family d m n) (no_block m n)

  module _ (no_semicolon : next_is (is_mark kind.Semicolon) (next (drop at tokens)) ≡ false) where
    from_brace : Reaches (statement_family d) tokens at at no_empty at
    from_brace = choose (statement_family d) tokens at at kind.Semicolon (λ m n. empty_by d) no_empty at false no_semicolon (begin (statement_family d) tokens at at)

    pub is_block : next_is (is_mark kind.LeftBrace) (next (drop at tokens)) ≡ true → Reaches (statement_family d) tokens at at (block_family d) at
    is_block present = choose (statement_family d) tokens at at kind.LeftBrace (block_family d) no_block at true present from_brace

    module _ (no_brace : next_is (is_mark kind.LeftBrace) (next (drop at tokens)) ≡ false) where
      from_if : Reaches (statement_family d) tokens at at no_block at
      from_if = choose (statement_family d) tokens at at kind.LeftBrace (block_family d) no_block at false no_brace from_brace

      pub is_if : next_is (is_mark kind.If) (next (drop at tokens)) ≡ true → Reaches (statement_family d) tokens at at (if_family d) at
      is_if present = choose (statement_family d) tokens at at kind.If (if_family d) no_if at true present from_if

      module _ (not_if : next_is (is_mark kind.If) (next (drop at tokens)) ≡ false) where
        from_repeat : Reaches (statement_family d) tokens at at no_if at
        from_repeat = choose (statement_family d) tokens at at kind.If (if_family d) no_if at false not_if from_if

        pub is_loop : next_is (is_mark kind.Repeat) (next (drop at tokens)) ≡ true → Reaches (statement_family d) tokens at at (loop_family d) at
        is_loop present = choose (statement_family d) tokens at at kind.Repeat (loop_family d) local_or_named_family at true present from_repeat

        module _ (not_repeat : next_is (is_mark kind.Repeat) (next (drop at tokens)) ≡ false) where
          by_plain : (b : Bool) → begins_plain (next (drop at tokens)) ≡ b → Reaches (statement_family d) tokens at at (λ m n. if b then local_family d m n else named_family d m n) at
          by_plain b e =
              let r = choose (statement_family d) tokens at at kind.Repeat (loop_family d) local_or_named_family at false not_repeat from_repeat in
              record {
                same = λ size prefixes m n. r.same size prefixes m n ∙ ap (λ (x : Bool). run is_over (if x then local_family d size prefixes else named_family d size prefixes) (drop at tokens)) e;
                from = r.from;
              }

          pub is_local : begins_plain (next (drop at tokens)) ≡ true → Reaches (statement_family d) tokens at at (local_family d) at
          is_local e = by_plain true e

          pub is_named : begins_plain (next (drop at tokens)) ≡ false → Reaches (statement_family d) tokens at at (named_family d) at
          is_named e = by_plain false e

  -- ---- body = "exec" "body" "{" { bstmt } "}"

  module _ (exec : Place) (exec_taken : run is_over (mark_by kind.Exec (counted d 0)) (drop at tokens) ≡ Took exec (drop (at + 1) tokens)) (body : Place) (body_taken : run is_over (mark_by kind.Body (counted d 0)) (drop (at + 1) tokens) ≡ Took body (drop (at + 1 + 1) tokens)) (left : Place) (left_taken : run is_over (mark_by kind.LeftBrace (counted d 0)) (drop (at + 2) tokens) ≡ Took left (drop (at + 2 + 1) tokens)) where
    body_opened : Reaches (body_family d) tokens at at (λ m n. followed_by (statements_family d m n) (body_close d exec body left)) (at + 3)
    body_opened =
        mark_step (body_family d) tokens at at kind.LeftBrace (counted d 0) (λ m n. body_statements (statement_at m) m d exec body) (at + 2) (at + 3) left (omega arith) left_taken
        (mark_step (body_family d) tokens at at kind.Body (counted d 0) (λ m n. body_open (statement_at m) m d exec) (at + 1) (at + 2) body (omega arith) body_taken
        (mark_step (body_family d) tokens at at kind.Exec (counted d 0) (λ m n. body_word (statement_at m) m d) at (at + 1) exec refl exec_taken (begin (body_family d) tokens at at)))

    pub body_statements_fail : (e : SyntaxFault) → FailsFrom (statements_family d) tokens (at + 3 - 1) (at + 3) e → FailsFrom (body_family d) tokens at at e
    body_statements_fail e h = fails (body_family d) tokens at at (statements_family d) (λ m n. body_close d exec body left) (at + 3 - 1) (at + 3) e (omega arith) h body_opened

    module _ (ss : List BodyStatementTree) (after : ℕ) (more : at + 3 + 0 ≤ after) (inside : after ≤ length tokens) (given : SettlesFrom (statements_family d) tokens (at + 3 - 1) (at + 3) (Took ss (drop after tokens))) where
      body_read : Reaches (body_family d) tokens at at (λ m n. body_close d exec body left ss) after
      body_read = step (body_family d) tokens at at (statements_family d) (λ m n. body_close d exec body left) (at + 3 - 1) (at + 3) after ss (omega arith) (omega (arith, more)) given body_opened

      pub body_brace_fails : (e : SyntaxFault) → Expects (mark_by kind.RightBrace (counted d 0)) tokens after (Err e) → FailsFrom (body_family d) tokens at at e
      body_brace_fails e h = mark_fails (body_family d) tokens at at kind.RightBrace (counted d 0) (λ m n r. Done (MakeBody exec body left ss r)) after e inside h body_read

      pub body_given : (right : Place) → run is_over (mark_by kind.RightBrace (counted d 0)) (drop after tokens) ≡ Took right (drop (after + 1) tokens) → SettlesFrom (body_family d) tokens at at (Took (MakeBody exec body left ss right) (drop (after + 1) tokens))
      body_given right h = ends (body_family d) tokens at at (MakeBody exec body left ss right) (after + 1) (mark_step (body_family d) tokens at at kind.RightBrace (counted d 0) (λ m n r. Done (MakeBody exec body left ss r)) after (after + 1) right refl h body_read)
