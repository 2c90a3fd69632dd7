-- What counts, calls and values give, from what their parts give.
use Rattle.std.proofs.Common.{◌≡◌, ℕ, suc, ◌+◌, ◌-◌, ◌≤◌, Bool, if◌then◌else◌, List, length, drop, Option, Some, None, true, false, refl, arith, Err}
use Rattle.pst_base.specs.declared.position.Place.{Place}
use Rattle.pst_token.specs.declared.kind.Kind.TheVariants as kind
use Rattle.pst_token.specs.declared.token.Token.{Token}
use Rattle.pst_ast.specs.declared.fault.SyntaxFault.{SyntaxFault}
use Rattle.pst_ast.specs.declared.leaf.Name.{Name}
use Rattle.pst_ast.specs.ExpressionTree.{ExprTree}
use Rattle.pst_ast.specs.SharedTree.{NextExprTree}
use Rattle.pst_ast.specs.BodyTree.{ValueTree, MakeValue, SourceTree, SourceCall, SourceExpr, CallTree, MakeCall, ArgumentsTree, MakeArguments}
use Rattle.pst_ast.specs.Limits.{counted, is_over}
use Rattle.pst_reading.specs.Kinds.{is_mark, next_is}
use Rattle.pst_reading.specs.Parser.{Done, Took, run, next, followed_by, mark_by, name_by}
use Rattle.pst_reading.specs.Gives.{Family, SettlesFrom, FailsFrom, Expects}
use Rattle.pst_reading.specs.Peeking.{name_then}
use Rattle.pst_reading.proofs.Reaching.{Reaches, begin, step, mark_step, name_step, choose, settles, ends, fails, falls, mark_fails}
use Rattle.pst_reading.proofs.Giving.{later, later_fault}
use Rattle.pst_reading.proofs.Peeking.{takes_followed, peek_reaches}
use Rattle.pst_parse_expr.specs.Constraints.{outermost_at}
use Rattle.pst_parse_expr.specs.ConstraintFamilies.{outermost_family, next_exprs_family}
use Rattle.pst_parse_expr.proofs.Takes.{expr_takes}
use Rattle.pst_parse_body.specs.Bodies.{arguments_rest, some_arguments, call_close, call_arguments, call_tail, call_by, source_call, source_expr, value_source}
use Rattle.pst_parse_body.specs.BodyFamilies.{arguments_family, call_family, source_family, value_family, maybe_value_family}
use Rattle.pst_parse_body.proofs.BodyExplains.{call_takes}

module _ (tokens : List Token) (at d : ℕ) where
  -- ---- arguments

  module _ (absent : next_is (is_mark kind.RightParenthesis) (next (drop at tokens)) ≡ false) where
    some_there : Reaches (arguments_family d) tokens at at (λ m n. some_arguments (outermost_at (suc m)) m d) at
    some_there = choose (arguments_family d) tokens at at kind.RightParenthesis (λ m n. Done None) (λ m n. some_arguments (outermost_at (suc m)) m d) at false absent (begin (arguments_family d) tokens at at)

    pub first_fails : (e : SyntaxFault) → FailsFrom (outermost_family d) tokens at at e → FailsFrom (arguments_family d) tokens at at e
    first_fails e h = fails (arguments_family d) tokens at at (outermost_family d) (λ m n. arguments_rest (outermost_at (suc m)) m d) at at e (omega arith) h some_there

    module _ (first : ExprTree) (behind : ℕ) (more : at + 1 ≤ behind) (given : SettlesFrom (outermost_family d) tokens at at (Took first (drop behind tokens))) where
      first_read : Reaches (arguments_family d) tokens at at (λ m n. arguments_rest (outermost_at (suc m)) m d first) behind
      first_read = step (arguments_family d) tokens at at (outermost_family d) (λ m n. arguments_rest (outermost_at (suc m)) m d) at at behind first (omega arith) (omega (arith, more)) given some_there

      pub rest_fails : (e : SyntaxFault) → FailsFrom (next_exprs_family d) tokens (behind - 1) behind e → FailsFrom (arguments_family d) tokens at at e
      rest_fails e h = fails (arguments_family d) tokens at at (next_exprs_family d) (λ m n rest. Done (Some (MakeArguments first rest))) (behind - 1) behind e (omega (arith, more)) h first_read

      pub arguments_given : (rest : List NextExprTree) (after : ℕ) → behind + 0 ≤ after → SettlesFrom (next_exprs_family d) tokens (behind - 1) behind (Took rest (drop after tokens)) → SettlesFrom (arguments_family d) tokens at at (Took (Some (MakeArguments first rest)) (drop after tokens))
      arguments_given rest after le h = ends (arguments_family d) tokens at at (Some (MakeArguments first rest)) after (step (arguments_family d) tokens at at (next_exprs_family d) (λ m n x. Done (Some (MakeArguments first x))) (behind - 1) behind after rest (omega (arith, more)) (omega (arith, le)) h first_read)

  -- ---- a call behind its name

  module _ (name : Name) (left : Place) (taken : run is_over (mark_by kind.LeftParenthesis (counted d 0)) (drop at tokens) ≡ Took left (drop (at + 1) tokens)) where
    call_opened : Reaches (call_family d name) tokens at at (λ m n. call_arguments (outermost_at (suc m)) m d name left) (at + 1)
    call_opened = mark_step (call_family d name) tokens at at kind.LeftParenthesis (counted d 0) (λ m n. call_arguments (outermost_at (suc m)) m d name) at (at + 1) left refl taken (begin (call_family d name) tokens at at)

    pub call_arguments_fail : (e : SyntaxFault) → FailsFrom (arguments_family d) tokens (at + 1) (at + 1) e → FailsFrom (call_family d name) tokens at at e
    call_arguments_fail e h = fails (call_family d name) tokens at at (arguments_family d) (λ m n. call_close d name left) (at + 1) (at + 1) e (omega arith) h call_opened

    module _ (arguments : Option ArgumentsTree) (after : ℕ) (more : at + 1 + 0 ≤ after) (inside : after ≤ length tokens) (given : SettlesFrom (arguments_family d) tokens (at + 1) (at + 1) (Took arguments (drop after tokens))) where
      arguments_read : Reaches (call_family d name) tokens at at (λ m n. call_close d name left arguments) after
      arguments_read = step (call_family d name) tokens at at (arguments_family d) (λ m n. call_close d name left) (at + 1) (at + 1) after arguments (omega arith) (omega (arith, more)) given call_opened

      pub call_close_fails : (e : SyntaxFault) → Expects (mark_by kind.RightParenthesis (counted d 0)) tokens after (Err e) → FailsFrom (call_family d name) tokens at at e
      call_close_fails e h = mark_fails (call_family d name) tokens at at kind.RightParenthesis (counted d 0) (λ m n r. Done (MakeCall name left arguments r)) after e inside h arguments_read

      pub call_given : (right : Place) → run is_over (mark_by kind.RightParenthesis (counted d 0)) (drop after tokens) ≡ Took right (drop (after + 1) tokens) → SettlesFrom (call_family d name) tokens at at (Took (MakeCall name left arguments right) (drop (after + 1) tokens))
      call_given right h = ends (call_family d name) tokens at at (MakeCall name left arguments right) (after + 1) (mark_step (call_family d name) tokens at at kind.RightParenthesis (counted d 0) (λ m n r. Done (MakeCall name left arguments r)) after (after + 1) right refl h arguments_read)

  -- ---- a call, or an expression

  source_chosen : (b : Bool) → name_then kind.LeftParenthesis (drop at tokens) ≡ b → Reaches (source_family d) tokens at at (λ m n. if b then source_call (outermost_at (suc m)) m d else source_expr (outermost_at (suc m)) d) at
  source_chosen b e = peek_reaches (source_family d) tokens at at kind.LeftParenthesis (counted d 0) (λ m n. source_call (outermost_at (suc m)) m d) (λ m n. source_expr (outermost_at (suc m)) d) at b (λ m n t f. call_takes (outermost_at (suc m)) m d (λ k. Done (SourceCall k)) t f) (λ m n t f. takes_followed (outermost_at (suc m) d) (λ x. Done (SourceExpr x)) t (counted d 0) (expr_takes m d t f)) e (begin (source_family d) tokens at at)

  module _ (present : name_then kind.LeftParenthesis (drop at tokens) ≡ true) (name : Name) (taken : run is_over (name_by (counted d 0)) (drop at tokens) ≡ Took name (drop (at + 1) tokens)) where
    abbrev call_whole : Family CallTree
    call_whole m n = call_by (outermost_at (suc m)) m d

    call_named : Reaches call_whole tokens at at (call_family d name) (at + 1)
    call_named = name_step call_whole tokens at at (counted d 0) (λ m n. call_tail (outermost_at (suc m)) m d) at (at + 1) name refl taken (begin call_whole tokens at at)

    pub source_call_fails : (e : SyntaxFault) → FailsFrom (call_family d name) tokens (at + 1) (at + 1) e → FailsFrom (source_family d) tokens at at e
    source_call_fails e h = fails (source_family d) tokens at at call_whole (λ m n k. Done (SourceCall k)) at at e (omega arith) (falls call_whole tokens at at (call_family d name) (at + 1) e (later_fault tokens at (call_family d name) (at + 1) e (omega arith) h) call_named) (source_chosen true present)

    pub source_call_given : (call : CallTree) (after : ℕ) → at + 1 + 1 ≤ after → SettlesFrom (call_family d name) tokens (at + 1) (at + 1) (Took call (drop after tokens)) → SettlesFrom (source_family d) tokens at at (Took (SourceCall call) (drop after tokens))
    source_call_given call after le h = ends (source_family d) tokens at at (SourceCall call) after (step (source_family d) tokens at at call_whole (λ m n k. Done (SourceCall k)) at at after call (omega arith) (omega (arith, le)) (settles call_whole tokens at at (call_family d name) (at + 1) (Took call (drop after tokens)) (later tokens at (call_family d name) (at + 1) (Took call (drop after tokens)) (omega arith) h) call_named) (source_chosen true present))

  module _ (absent : name_then kind.LeftParenthesis (drop at tokens) ≡ false) where
    pub source_expr_fails : (e : SyntaxFault) → FailsFrom (outermost_family d) tokens at at e → FailsFrom (source_family d) tokens at at e
    source_expr_fails e h = fails (source_family d) tokens at at (outermost_family d) (λ m n x. Done (SourceExpr x)) at at e (omega arith) h (source_chosen false absent)

    pub source_expr_given : (expr : ExprTree) (after : ℕ) → at + 1 ≤ after → SettlesFrom (outermost_family d) tokens at at (Took expr (drop after tokens)) → SettlesFrom (source_family d) tokens at at (Took (SourceExpr expr) (drop after tokens))
    source_expr_given expr after le h = ends (source_family d) tokens at at (SourceExpr expr) after (step (source_family d) tokens at at (outermost_family d) (λ m n x. Done (SourceExpr x)) at at after expr (omega arith) (omega (arith, le)) h (source_chosen false absent))

  -- ---- a value

  module _ (equal : Place) (taken : run is_over (mark_by kind.Equal (counted d 0)) (drop at tokens) ≡ Took equal (drop (at + 1) tokens)) where
    behind_equal : Reaches (value_family d) tokens at at (λ m n. value_source (outermost_at (suc m)) m d equal) (at + 1)
    behind_equal = mark_step (value_family d) tokens at at kind.Equal (counted d 0) (λ m n. value_source (outermost_at (suc m)) m d) at (at + 1) equal refl taken (begin (value_family d) tokens at at)

    pub value_fails : (e : SyntaxFault) → FailsFrom (source_family d) tokens (at + 1) (at + 1) e → FailsFrom (value_family d) tokens at at e
    value_fails e h = fails (value_family d) tokens at at (source_family d) (λ m n s. Done (MakeValue equal s)) (at + 1) (at + 1) e (omega arith) h behind_equal

    pub value_given : (source : SourceTree) (after : ℕ) → at + 1 + 1 ≤ after → SettlesFrom (source_family d) tokens (at + 1) (at + 1) (Took source (drop after tokens)) → SettlesFrom (value_family d) tokens at at (Took (MakeValue equal source) (drop after tokens))
    value_given source after le h = ends (value_family d) tokens at at (MakeValue equal source) after (step (value_family d) tokens at at (source_family d) (λ m n s. Done (MakeValue equal s)) (at + 1) (at + 1) after source (omega arith) (omega (arith, le)) h behind_equal)

  module _ (present : next_is (is_mark kind.Equal) (next (drop at tokens)) ≡ true) where
    value_there : Reaches (maybe_value_family d) tokens at at (λ m n. followed_by (value_family d m n) (λ v. Done (Some v))) at
    value_there = choose (maybe_value_family d) tokens at at kind.Equal (λ m n. followed_by (value_family d m n) (λ v. Done (Some v))) (λ m n. Done None) at true present (begin (maybe_value_family d) tokens at at)

    pub some_value_fails : (e : SyntaxFault) → FailsFrom (value_family d) tokens at at e → FailsFrom (maybe_value_family d) tokens at at e
    some_value_fails e h = fails (maybe_value_family d) tokens at at (value_family d) (λ m n v. Done (Some v)) at at e (omega arith) h value_there

    pub some_value_given : (v : ValueTree) (after : ℕ) → at + 1 ≤ after → SettlesFrom (value_family d) tokens at at (Took v (drop after tokens)) → SettlesFrom (maybe_value_family d) tokens at at (Took (Some v) (drop after tokens))
    some_value_given v after le h = ends (maybe_value_family d) tokens at at (Some v) after (step (maybe_value_family d) tokens at at (value_family d) (λ m n x. Done (Some x)) at at after v (omega arith) (omega (arith, le)) h value_there)
