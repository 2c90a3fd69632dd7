-- What the parts that several rules have give, from what their own parts give.
use Rattle.std.proofs.Common.{◌≡◌, ℕ, suc, ◌+◌, ◌≤◌, List, length, drop, refl, arith, Err}
use Rattle.pst_base.specs.declared.position.Place.{Place}
use Rattle.pst_token.specs.declared.kind.Kind.TheVariants as kind
use Rattle.pst_token.specs.declared.token.Token.{Token}
use Rattle.pst_ast.specs.declared.fault.SyntaxFault.{SyntaxFault}
use Rattle.pst_ast.specs.declared.fault.SyntaxFault.TheVariants as the_fault
use Rattle.pst_ast.specs.ExpressionTree.{ExprTree}
use Rattle.pst_ast.specs.SharedTree.{MakeNextExpr}
use Rattle.pst_ast.specs.Limits.{counted, is_over}
use Rattle.pst_reading.specs.Parser.{Done, Outcome, Took, run, mark_by}
use Rattle.pst_reading.specs.Gives.{SettlesFrom, FailsFrom, Expects}
use Rattle.pst_reading.proofs.Reaching.{Reaches, begin, step, mark_step, ends, fails, mark_fails}
use Rattle.pst_parse_operator.specs.Reading.{expr_at}
use Rattle.pst_parse_operator.specs.Families.{level_family}
use Rattle.pst_parse_expr.specs.Constraints.{outermost_at, condition_close, condition_inner, next_expr_inner}
use Rattle.pst_parse_expr.specs.ConstraintFamilies.{outermost_family, condition_family, next_expr_family}

-- an outermost expression is one of all levels
pub outermost_settles : (tokens : List Token) (at d : ℕ) (o : Outcome ExprTree) → SettlesFrom (level_family 10 d 0) tokens at at o → SettlesFrom (outermost_family d) tokens at at o
unfolding expr_at
outermost_settles tokens at d o h = h

pub outermost_fails : (tokens : List Token) (at d : ℕ) (e : SyntaxFault) → FailsFrom (level_family 10 d 0) tokens at at e → FailsFrom (outermost_family d) tokens at at e
unfolding expr_at
outermost_fails tokens at d (the_fault.At k) h = h
outermost_fails tokens at d (the_fault.Deep k) h = h
outermost_fails tokens at d the_fault.NoMemory h = h

module _ (tokens : List Token) (at d : ℕ) where
  -- ---- an expression in brackets
  module _ (left : Place) (opened : run is_over (mark_by kind.LeftParenthesis (counted d 0)) (drop at tokens) ≡ Took left (drop (at + 1) tokens)) where
    in_brackets : Reaches (condition_family d) tokens at at (λ m n. condition_inner (outermost_at (suc m)) d left) (at + 1)
    in_brackets = mark_step (condition_family d) tokens at at kind.LeftParenthesis (counted d 0) (λ m n. condition_inner (outermost_at (suc m)) d) at (at + 1) left refl opened (begin (condition_family d) tokens at at)

    pub condition_expr_fails : (e : SyntaxFault) → FailsFrom (outermost_family d) tokens (at + 1) (at + 1) e → FailsFrom (condition_family d) tokens at at e
    condition_expr_fails e h = fails (condition_family d) tokens at at (outermost_family d) (λ m n. condition_close d left) (at + 1) (at + 1) e (omega arith) h in_brackets

    module _ (expr : ExprTree) (after : ℕ) (more : at + 1 ≤ after) (given : SettlesFrom (outermost_family d) tokens (at + 1) (at + 1) (Took expr (drop after tokens))) where
      behind_inner : Reaches (condition_family d) tokens at at (λ m n. condition_close d left expr) after
      behind_inner = step (condition_family d) tokens at at (outermost_family d) (λ m n. condition_close d left) (at + 1) (at + 1) after expr (omega arith) more given in_brackets

      pub condition_close_fails : (e : SyntaxFault) → after ≤ length tokens → Expects (mark_by kind.RightParenthesis (counted d 0)) tokens after (Err e) → FailsFrom (condition_family d) tokens at at e
      condition_close_fails e le h = mark_fails (condition_family d) tokens at at kind.RightParenthesis (counted d 0) (λ m n r. Done (left, expr, r)) after e le h behind_inner

      pub condition_given : (right : Place) → run is_over (mark_by kind.RightParenthesis (counted d 0)) (drop after tokens) ≡ Took right (drop (after + 1) tokens) → SettlesFrom (condition_family d) tokens at at (Took (left, expr, right) (drop (after + 1) tokens))
      condition_given right closed = ends (condition_family d) tokens at at (left, expr, right) (after + 1) (mark_step (condition_family d) tokens at at kind.RightParenthesis (counted d 0) (λ m n r. Done (left, expr, r)) after (after + 1) right refl closed behind_inner)

  -- ---- an expression behind a comma
  module _ (comma : Place) (taken : run is_over (mark_by kind.Comma (counted d 0)) (drop at tokens) ≡ Took comma (drop (at + 1) tokens)) where
    behind_comma : Reaches (next_expr_family d) tokens at at (λ m n. next_expr_inner (outermost_at (suc m)) d comma) (at + 1)
    behind_comma = mark_step (next_expr_family d) tokens at at kind.Comma (counted d 0) (λ m n. next_expr_inner (outermost_at (suc m)) d) at (at + 1) comma refl taken (begin (next_expr_family d) tokens at at)

    pub next_expr_fails : (e : SyntaxFault) → FailsFrom (outermost_family d) tokens (at + 1) (at + 1) e → FailsFrom (next_expr_family d) tokens at at e
    next_expr_fails e h = fails (next_expr_family d) tokens at at (outermost_family d) (λ m n x. Done (MakeNextExpr comma x)) (at + 1) (at + 1) e (omega arith) h behind_comma

    pub next_expr_given : (expr : ExprTree) (after : ℕ) → at + 1 ≤ after → SettlesFrom (outermost_family d) tokens (at + 1) (at + 1) (Took expr (drop after tokens)) → SettlesFrom (next_expr_family d) tokens at at (Took (MakeNextExpr comma expr) (drop after tokens))
    next_expr_given expr after more h = ends (next_expr_family d) tokens at at (MakeNextExpr comma expr) after (step (next_expr_family d) tokens at at (outermost_family d) (λ m n x. Done (MakeNextExpr comma x)) (at + 1) (at + 1) after expr (omega arith) more h behind_comma)
