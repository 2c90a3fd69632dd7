-- What guards, ranges and counters give, from what their parts give.
use Rattle.std.proofs.Common.{◌≡◌, ℕ, ◌+◌, ◌≤◌, List, length, Option, arith, drop, Err}
use Rattle.pst_base.specs.declared.position.Place.{Place}
use Rattle.pst_token.specs.declared.kind.Kind.TheVariants as kind
use Rattle.pst_token.specs.declared.token.Token.{Token}
use Rattle.pst_ast.specs.Limits.{counted, is_over}
use Rattle.pst_ast.specs.ExpressionTree.{ExprTree, RangesTree}
use Rattle.pst_ast.specs.ActivityTree.{GuardCondition, GuardWeight, WeightTree, MakeWeight, ArmLabelRanges}
use Rattle.pst_reading.specs.Parser.{mark_by, Took, run}
use Rattle.pst_ast.specs.declared.fault.SyntaxFault.{SyntaxFault}
use Rattle.pst_reading.specs.Gives.{SettlesFrom, FailsFrom, Expects}
use Rattle.pst_reading.proofs.Reaching.{begin, step, mark_step, ends, fails, mark_fails}
use Rattle.pst_parse_expr.specs.ConstraintFamilies.{outermost_family}
use Rattle.pst_parse_step.specs.ActivityPartFamilies.{weight_family, condition_guard_family, weight_guard_family, ranges_label_family, maybe_weight_family}
use Rattle.pst_parse_part.specs.Families.{ranges_family}

module _ (tokens : List Token) (at d : ℕ) where
  pub weight_left_bracket_fails : (e : SyntaxFault) → at ≤ length tokens → Expects (mark_by kind.LeftBracket (counted d 0)) tokens (at) (Err e) → FailsFrom (weight_family d) tokens at at e
  weight_left_bracket_fails e le h = mark_fails (weight_family d) tokens at at kind.LeftBracket _ _ (at) e le h (begin (weight_family d) tokens at at)

  pub weight_expr_fails :
      (left_bracket : Place) →
      (left_bracket_taken : run is_over (mark_by kind.LeftBracket (counted d 0)) (drop (at) tokens) ≡ Took left_bracket (drop (at + 1) tokens)) →
      (left_bracket_inside : at + 1 ≤ length tokens) → at + 1 ≤ length tokens → (e : SyntaxFault) →
      FailsFrom (outermost_family d) tokens (at + 1) (at + 1) e → FailsFrom (weight_family d) tokens at at e
  weight_expr_fails left_bracket left_bracket_taken left_bracket_inside le e h =
      fails (weight_family d) tokens at at (outermost_family d) _ (at + 1) (at + 1) e (omega arith) h
      (mark_step (weight_family d) tokens at at kind.LeftBracket _ _ (at) (at + 1) left_bracket (omega arith) left_bracket_taken
      (begin (weight_family d) tokens at at))

  pub weight_right_bracket_fails :
      (left_bracket : Place) →
      (left_bracket_taken : run is_over (mark_by kind.LeftBracket (counted d 0)) (drop (at) tokens) ≡ Took left_bracket (drop (at + 1) tokens)) →
      (left_bracket_inside : at + 1 ≤ length tokens) → (expr : ExprTree) → (after : ℕ) → (expr_more : at + 1 + 1 ≤ after) →
      (expr_inside : after ≤ length tokens) →
      (expr_settles : SettlesFrom (outermost_family d) tokens (at + 1) (at + 1) (Took expr (drop after tokens))) → (e : SyntaxFault) →
      after ≤ length tokens → Expects (mark_by kind.RightBracket (counted d 0)) tokens (after) (Err e) → FailsFrom (weight_family d) tokens at at e
  weight_right_bracket_fails left_bracket left_bracket_taken left_bracket_inside expr after expr_more expr_inside expr_settles e le h =
      mark_fails (weight_family d) tokens at at kind.RightBracket _ _ (after) e le h
      (step (weight_family d) tokens at at (outermost_family d) _ (at + 1) (at + 1) after expr (omega arith) (omega arith) expr_settles
      (mark_step (weight_family d) tokens at at kind.LeftBracket _ _ (at) (at + 1) left_bracket (omega arith) left_bracket_taken
      (begin (weight_family d) tokens at at)))

  pub weight_given :
      (left_bracket : Place) →
      (left_bracket_taken : run is_over (mark_by kind.LeftBracket (counted d 0)) (drop (at) tokens) ≡ Took left_bracket (drop (at + 1) tokens)) →
      (left_bracket_inside : at + 1 ≤ length tokens) → (expr : ExprTree) → (after : ℕ) → (expr_more : at + 1 + 1 ≤ after) →
      (expr_inside : after ≤ length tokens) →
      (expr_settles : SettlesFrom (outermost_family d) tokens (at + 1) (at + 1) (Took expr (drop after tokens))) → (right_bracket : Place) →
      (right_bracket_taken : run is_over (mark_by kind.RightBracket (counted d 0)) (drop (after) tokens) ≡ Took right_bracket (drop (after + 1) tokens)) →
      (right_bracket_inside : after + 1 ≤ length tokens) →
      SettlesFrom (weight_family d) tokens at at (Took (MakeWeight left_bracket expr right_bracket) (drop (after + 1) tokens))
  weight_given left_bracket left_bracket_taken left_bracket_inside expr after expr_more expr_inside expr_settles right_bracket right_bracket_taken right_bracket_inside =
      ends (weight_family d) tokens at at _ (after + 1)
      (mark_step (weight_family d) tokens at at kind.RightBracket _ _ (after) (after + 1) right_bracket (omega arith) right_bracket_taken
      (step (weight_family d) tokens at at (outermost_family d) _ (at + 1) (at + 1) after expr (omega arith) (omega arith) expr_settles
      (mark_step (weight_family d) tokens at at kind.LeftBracket _ _ (at) (at + 1) left_bracket (omega arith) left_bracket_taken
      (begin (weight_family d) tokens at at))))

  pub condition_guard_left_parenthesis_fails : (e : SyntaxFault) → at ≤ length tokens → Expects (mark_by kind.LeftParenthesis (counted d 0)) tokens (at) (Err e) → FailsFrom (condition_guard_family d) tokens at at e
  condition_guard_left_parenthesis_fails e le h = mark_fails (condition_guard_family d) tokens at at kind.LeftParenthesis _ _ (at) e le h (begin (condition_guard_family d) tokens at at)

  pub condition_guard_condition_fails :
      (left_parenthesis : Place) →
      (left_parenthesis_taken : run is_over (mark_by kind.LeftParenthesis (counted d 0)) (drop (at) tokens) ≡ Took left_parenthesis (drop (at + 1) tokens)) →
      (left_parenthesis_inside : at + 1 ≤ length tokens) → at + 1 ≤ length tokens → (e : SyntaxFault) →
      FailsFrom (outermost_family d) tokens (at + 1) (at + 1) e → FailsFrom (condition_guard_family d) tokens at at e
  condition_guard_condition_fails left_parenthesis left_parenthesis_taken left_parenthesis_inside le e h =
      fails (condition_guard_family d) tokens at at (outermost_family d) _ (at + 1) (at + 1) e (omega arith) h
      (mark_step (condition_guard_family d) tokens at at kind.LeftParenthesis _ _ (at) (at + 1) left_parenthesis (omega arith) left_parenthesis_taken
      (begin (condition_guard_family d) tokens at at))

  pub condition_guard_right_parenthesis_fails :
      (left_parenthesis : Place) →
      (left_parenthesis_taken : run is_over (mark_by kind.LeftParenthesis (counted d 0)) (drop (at) tokens) ≡ Took left_parenthesis (drop (at + 1) tokens)) →
      (left_parenthesis_inside : at + 1 ≤ length tokens) → (condition : ExprTree) → (behind : ℕ) → (condition_more : at + 1 + 1 ≤ behind) →
      (condition_inside : behind ≤ length tokens) →
      (condition_settles : SettlesFrom (outermost_family d) tokens (at + 1) (at + 1) (Took condition (drop behind tokens))) → (e : SyntaxFault) →
      behind ≤ length tokens → Expects (mark_by kind.RightParenthesis (counted d 0)) tokens (behind) (Err e) →
      FailsFrom (condition_guard_family d) tokens at at e
  condition_guard_right_parenthesis_fails left_parenthesis left_parenthesis_taken left_parenthesis_inside condition behind condition_more condition_inside condition_settles e le h =
      mark_fails (condition_guard_family d) tokens at at kind.RightParenthesis _ _ (behind) e le h
      (step (condition_guard_family d) tokens at at (outermost_family d) _ (at + 1) (at + 1) behind condition (omega arith) (omega arith)
      condition_settles
      (mark_step (condition_guard_family d) tokens at at kind.LeftParenthesis _ _ (at) (at + 1) left_parenthesis (omega arith)
      left_parenthesis_taken (begin (condition_guard_family d) tokens at at)))

  pub condition_guard_weight_fails :
      (left_parenthesis : Place) →
      (left_parenthesis_taken : run is_over (mark_by kind.LeftParenthesis (counted d 0)) (drop (at) tokens) ≡ Took left_parenthesis (drop (at + 1) tokens)) →
      (left_parenthesis_inside : at + 1 ≤ length tokens) → (condition : ExprTree) → (behind : ℕ) → (condition_more : at + 1 + 1 ≤ behind) →
      (condition_inside : behind ≤ length tokens) →
      (condition_settles : SettlesFrom (outermost_family d) tokens (at + 1) (at + 1) (Took condition (drop behind tokens))) →
      (right_parenthesis : Place) →
      (right_parenthesis_taken : run is_over (mark_by kind.RightParenthesis (counted d 0)) (drop (behind) tokens) ≡ Took right_parenthesis (drop (behind + 1) tokens)) →
      (right_parenthesis_inside : behind + 1 ≤ length tokens) → behind + 1 ≤ length tokens → (e : SyntaxFault) →
      FailsFrom (maybe_weight_family d) tokens (behind + 1) (behind + 1) e → FailsFrom (condition_guard_family d) tokens at at e
  condition_guard_weight_fails left_parenthesis left_parenthesis_taken left_parenthesis_inside condition behind condition_more condition_inside condition_settles right_parenthesis right_parenthesis_taken right_parenthesis_inside le e h =
      fails (condition_guard_family d) tokens at at (maybe_weight_family d) _ (behind + 1) (behind + 1) e (omega arith) h
      (mark_step (condition_guard_family d) tokens at at kind.RightParenthesis _ _ (behind) (behind + 1) right_parenthesis (omega arith)
      right_parenthesis_taken
      (step (condition_guard_family d) tokens at at (outermost_family d) _ (at + 1) (at + 1) behind condition (omega arith) (omega arith)
      condition_settles
      (mark_step (condition_guard_family d) tokens at at kind.LeftParenthesis _ _ (at) (at + 1) left_parenthesis (omega arith)
      left_parenthesis_taken (begin (condition_guard_family d) tokens at at))))

  pub condition_guard_colon_fails :
      (left_parenthesis : Place) →
      (left_parenthesis_taken : run is_over (mark_by kind.LeftParenthesis (counted d 0)) (drop (at) tokens) ≡ Took left_parenthesis (drop (at + 1) tokens)) →
      (left_parenthesis_inside : at + 1 ≤ length tokens) → (condition : ExprTree) → (behind : ℕ) → (condition_more : at + 1 + 1 ≤ behind) →
      (condition_inside : behind ≤ length tokens) →
      (condition_settles : SettlesFrom (outermost_family d) tokens (at + 1) (at + 1) (Took condition (drop behind tokens))) →
      (right_parenthesis : Place) →
      (right_parenthesis_taken : run is_over (mark_by kind.RightParenthesis (counted d 0)) (drop (behind) tokens) ≡ Took right_parenthesis (drop (behind + 1) tokens)) →
      (right_parenthesis_inside : behind + 1 ≤ length tokens) → (weight : Option WeightTree) → (after : ℕ) → (weight_more : behind + 1 + 0 ≤ after) →
      (weight_inside : after ≤ length tokens) →
      (weight_settles : SettlesFrom (maybe_weight_family d) tokens (behind + 1) (behind + 1) (Took weight (drop after tokens))) → (e : SyntaxFault) →
      after ≤ length tokens → Expects (mark_by kind.Colon (counted d 0)) tokens (after) (Err e) → FailsFrom (condition_guard_family d) tokens at at e
  condition_guard_colon_fails left_parenthesis left_parenthesis_taken left_parenthesis_inside condition behind condition_more condition_inside condition_settles right_parenthesis right_parenthesis_taken right_parenthesis_inside weight after weight_more weight_inside weight_settles e le h =
      mark_fails (condition_guard_family d) tokens at at kind.Colon _ _ (after) e le h
      (step (condition_guard_family d) tokens at at (maybe_weight_family d) _ (behind + 1) (behind + 1) after weight (omega arith) (omega arith)
      weight_settles
      (mark_step (condition_guard_family d) tokens at at kind.RightParenthesis _ _ (behind) (behind + 1) right_parenthesis (omega arith)
      right_parenthesis_taken
      (step (condition_guard_family d) tokens at at (outermost_family d) _ (at + 1) (at + 1) behind condition (omega arith) (omega arith)
      condition_settles
      (mark_step (condition_guard_family d) tokens at at kind.LeftParenthesis _ _ (at) (at + 1) left_parenthesis (omega arith)
      left_parenthesis_taken (begin (condition_guard_family d) tokens at at)))))

  pub condition_guard_given :
      (left_parenthesis : Place) →
      (left_parenthesis_taken : run is_over (mark_by kind.LeftParenthesis (counted d 0)) (drop (at) tokens) ≡ Took left_parenthesis (drop (at + 1) tokens)) →
      (left_parenthesis_inside : at + 1 ≤ length tokens) → (condition : ExprTree) → (behind : ℕ) → (condition_more : at + 1 + 1 ≤ behind) →
      (condition_inside : behind ≤ length tokens) →
      (condition_settles : SettlesFrom (outermost_family d) tokens (at + 1) (at + 1) (Took condition (drop behind tokens))) →
      (right_parenthesis : Place) →
      (right_parenthesis_taken : run is_over (mark_by kind.RightParenthesis (counted d 0)) (drop (behind) tokens) ≡ Took right_parenthesis (drop (behind + 1) tokens)) →
      (right_parenthesis_inside : behind + 1 ≤ length tokens) → (weight : Option WeightTree) → (after : ℕ) → (weight_more : behind + 1 + 0 ≤ after) →
      (weight_inside : after ≤ length tokens) →
      (weight_settles : SettlesFrom (maybe_weight_family d) tokens (behind + 1) (behind + 1) (Took weight (drop after tokens))) → (colon : Place) →
      (colon_taken : run is_over (mark_by kind.Colon (counted d 0)) (drop (after) tokens) ≡ Took colon (drop (after + 1) tokens)) →
      (colon_inside : after + 1 ≤ length tokens) →
      SettlesFrom (condition_guard_family d) tokens at at (Took (GuardCondition left_parenthesis condition right_parenthesis weight colon) (drop (after + 1) tokens))
  condition_guard_given left_parenthesis left_parenthesis_taken left_parenthesis_inside condition behind condition_more condition_inside condition_settles right_parenthesis right_parenthesis_taken right_parenthesis_inside weight after weight_more weight_inside weight_settles colon colon_taken colon_inside =
      ends (condition_guard_family d) tokens at at _ (after + 1)
      (mark_step (condition_guard_family d) tokens at at kind.Colon _ _ (after) (after + 1) colon (omega arith) colon_taken
      (step (condition_guard_family d) tokens at at (maybe_weight_family d) _ (behind + 1) (behind + 1) after weight (omega arith) (omega arith)
      weight_settles
      (mark_step (condition_guard_family d) tokens at at kind.RightParenthesis _ _ (behind) (behind + 1) right_parenthesis (omega arith)
      right_parenthesis_taken
      (step (condition_guard_family d) tokens at at (outermost_family d) _ (at + 1) (at + 1) behind condition (omega arith) (omega arith)
      condition_settles
      (mark_step (condition_guard_family d) tokens at at kind.LeftParenthesis _ _ (at) (at + 1) left_parenthesis (omega arith)
      left_parenthesis_taken (begin (condition_guard_family d) tokens at at))))))

  pub weight_guard_weight_fails : at ≤ length tokens → (e : SyntaxFault) → FailsFrom (weight_family d) tokens (at) (at) e → FailsFrom (weight_guard_family d) tokens at at e
  weight_guard_weight_fails le e h = fails (weight_guard_family d) tokens at at (weight_family d) _ (at) (at) e (omega arith) h (begin (weight_guard_family d) tokens at at)

  pub weight_guard_colon_fails :
      (weight : WeightTree) → (after : ℕ) → (weight_more : at + 1 ≤ after) → (weight_inside : after ≤ length tokens) →
      (weight_settles : SettlesFrom (weight_family d) tokens (at) (at) (Took weight (drop after tokens))) → (e : SyntaxFault) →
      after ≤ length tokens → Expects (mark_by kind.Colon (counted d 0)) tokens (after) (Err e) → FailsFrom (weight_guard_family d) tokens at at e
  weight_guard_colon_fails weight after weight_more weight_inside weight_settles e le h =
      mark_fails (weight_guard_family d) tokens at at kind.Colon _ _ (after) e le h
      (step (weight_guard_family d) tokens at at (weight_family d) _ (at) (at) after weight (omega arith) (omega arith) weight_settles
      (begin (weight_guard_family d) tokens at at))

  pub weight_guard_given :
      (weight : WeightTree) → (after : ℕ) → (weight_more : at + 1 ≤ after) → (weight_inside : after ≤ length tokens) →
      (weight_settles : SettlesFrom (weight_family d) tokens (at) (at) (Took weight (drop after tokens))) → (colon : Place) →
      (colon_taken : run is_over (mark_by kind.Colon (counted d 0)) (drop (after) tokens) ≡ Took colon (drop (after + 1) tokens)) →
      (colon_inside : after + 1 ≤ length tokens) →
      SettlesFrom (weight_guard_family d) tokens at at (Took (GuardWeight weight colon) (drop (after + 1) tokens))
  weight_guard_given weight after weight_more weight_inside weight_settles colon colon_taken colon_inside =
      ends (weight_guard_family d) tokens at at _ (after + 1)
      (mark_step (weight_guard_family d) tokens at at kind.Colon _ _ (after) (after + 1) colon (omega arith) colon_taken
      (step (weight_guard_family d) tokens at at (weight_family d) _ (at) (at) after weight (omega arith) (omega arith) weight_settles
      (begin (weight_guard_family d) tokens at at)))

  pub ranges_label_left_bracket_fails : (e : SyntaxFault) → at ≤ length tokens → Expects (mark_by kind.LeftBracket (counted d 0)) tokens (at) (Err e) → FailsFrom (ranges_label_family d) tokens at at e
  ranges_label_left_bracket_fails e le h = mark_fails (ranges_label_family d) tokens at at kind.LeftBracket _ _ (at) e le h (begin (ranges_label_family d) tokens at at)

  pub ranges_label_ranges_fails :
      (left_bracket : Place) →
      (left_bracket_taken : run is_over (mark_by kind.LeftBracket (counted d 0)) (drop (at) tokens) ≡ Took left_bracket (drop (at + 1) tokens)) →
      (left_bracket_inside : at + 1 ≤ length tokens) → at + 1 ≤ length tokens → (e : SyntaxFault) →
      FailsFrom (ranges_family d) tokens (at + 1) (at + 1) e → FailsFrom (ranges_label_family d) tokens at at e
  ranges_label_ranges_fails left_bracket left_bracket_taken left_bracket_inside le e h =
      fails (ranges_label_family d) tokens at at (ranges_family d) _ (at + 1) (at + 1) e (omega arith) h
      (mark_step (ranges_label_family d) tokens at at kind.LeftBracket _ _ (at) (at + 1) left_bracket (omega arith) left_bracket_taken
      (begin (ranges_label_family d) tokens at at))

  pub ranges_label_right_bracket_fails :
      (left_bracket : Place) →
      (left_bracket_taken : run is_over (mark_by kind.LeftBracket (counted d 0)) (drop (at) tokens) ≡ Took left_bracket (drop (at + 1) tokens)) →
      (left_bracket_inside : at + 1 ≤ length tokens) → (ranges : RangesTree) → (after : ℕ) → (ranges_more : at + 1 + 1 ≤ after) →
      (ranges_inside : after ≤ length tokens) →
      (ranges_settles : SettlesFrom (ranges_family d) tokens (at + 1) (at + 1) (Took ranges (drop after tokens))) → (e : SyntaxFault) →
      after ≤ length tokens → Expects (mark_by kind.RightBracket (counted d 0)) tokens (after) (Err e) →
      FailsFrom (ranges_label_family d) tokens at at e
  ranges_label_right_bracket_fails left_bracket left_bracket_taken left_bracket_inside ranges after ranges_more ranges_inside ranges_settles e le h =
      mark_fails (ranges_label_family d) tokens at at kind.RightBracket _ _ (after) e le h
      (step (ranges_label_family d) tokens at at (ranges_family d) _ (at + 1) (at + 1) after ranges (omega arith) (omega arith) ranges_settles
      (mark_step (ranges_label_family d) tokens at at kind.LeftBracket _ _ (at) (at + 1) left_bracket (omega arith) left_bracket_taken
      (begin (ranges_label_family d) tokens at at)))

  pub ranges_label_given :
      (left_bracket : Place) →
      (left_bracket_taken : run is_over (mark_by kind.LeftBracket (counted d 0)) (drop (at) tokens) ≡ Took left_bracket (drop (at + 1) tokens)) →
      (left_bracket_inside : at + 1 ≤ length tokens) → (ranges : RangesTree) → (after : ℕ) → (ranges_more : at + 1 + 1 ≤ after) →
      (ranges_inside : after ≤ length tokens) →
      (ranges_settles : SettlesFrom (ranges_family d) tokens (at + 1) (at + 1) (Took ranges (drop after tokens))) → (right_bracket : Place) →
      (right_bracket_taken : run is_over (mark_by kind.RightBracket (counted d 0)) (drop (after) tokens) ≡ Took right_bracket (drop (after + 1) tokens)) →
      (right_bracket_inside : after + 1 ≤ length tokens) →
      SettlesFrom (ranges_label_family d) tokens at at (Took (ArmLabelRanges left_bracket ranges right_bracket) (drop (after + 1) tokens))
  ranges_label_given left_bracket left_bracket_taken left_bracket_inside ranges after ranges_more ranges_inside ranges_settles right_bracket right_bracket_taken right_bracket_inside =
      ends (ranges_label_family d) tokens at at _ (after + 1)
      (mark_step (ranges_label_family d) tokens at at kind.RightBracket _ _ (after) (after + 1) right_bracket (omega arith) right_bracket_taken
      (step (ranges_label_family d) tokens at at (ranges_family d) _ (at + 1) (at + 1) after ranges (omega arith) (omega arith) ranges_settles
      (mark_step (ranges_label_family d) tokens at at kind.LeftBracket _ _ (at) (at + 1) left_bracket (omega arith) left_bracket_taken
      (begin (ranges_label_family d) tokens at at))))
