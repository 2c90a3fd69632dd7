-- What names, ends and join forms give, from what their parts give.
use Rattle.std.proofs.Common.{◌≡◌, ℕ, ◌+◌, ◌-◌, ◌≤◌, List, length, arith, drop, Err}
use Rattle.pst_base.specs.declared.position.Place.{Place}
use Rattle.pst_token.specs.declared.kind.Kind.TheVariants as kind
use Rattle.pst_token.specs.declared.token.Token.{Token}
use Rattle.pst_ast.specs.declared.activity.EndNode.{EndNode}
use Rattle.pst_ast.specs.declared.activity.NextEnd.{NextEnd}
use Rattle.pst_ast.specs.Limits.{counted, is_over}
use Rattle.pst_ast.specs.ExpressionTree.{ExprTree}
use Rattle.pst_ast.specs.SharedTree.{NamesTree}
use Rattle.pst_ast.specs.ActivityTree.{JoinBranch, JoinSelect, MakeBind, OtherEndsTree, OtherEndsOne, OtherEndsSeveral}
use Rattle.pst_reading.specs.Parser.{mark_by, name_by, Took, run}
use Rattle.pst_ast.specs.declared.fault.SyntaxFault.{SyntaxFault}
use Rattle.pst_reading.specs.Gives.{SettlesFrom, FailsFrom, Expects}
use Rattle.pst_reading.proofs.Reaching.{begin, step, mark_step, ends, fails, mark_fails, name_fails}
use Rattle.pst_parse_expr.specs.ConstraintFamilies.{outermost_family}
use Rattle.pst_parse_step.specs.ActivityPartFamilies.{end_family, next_end_family, one_end_family, several_ends_family, other_ends_family, bind_family, branch_join_family, select_join_family, next_ends_family}
use Rattle.pst_parse_part.specs.Families.{type_name_family, names_family}

module _ (tokens : List Token) (at d : ℕ) where
  pub type_name_first_fails : (e : SyntaxFault) → at ≤ length tokens → Expects (name_by (counted d 0)) tokens (at) (Err e) → FailsFrom (type_name_family d) tokens at at e
  type_name_first_fails e le h = name_fails (type_name_family d) tokens at at _ _ (at) e le h (begin (type_name_family d) tokens at at)

  pub next_end_comma_fails : (e : SyntaxFault) → at ≤ length tokens → Expects (mark_by kind.Comma (counted d 0)) tokens (at) (Err e) → FailsFrom (next_end_family d) tokens at at e
  next_end_comma_fails e le h = mark_fails (next_end_family d) tokens at at kind.Comma _ _ (at) e le h (begin (next_end_family d) tokens at at)

  pub next_end_end_fails :
      (comma : Place) → (comma_taken : run is_over (mark_by kind.Comma (counted d 0)) (drop (at) tokens) ≡ Took comma (drop (at + 1) tokens)) →
      (comma_inside : at + 1 ≤ length tokens) → at + 1 ≤ length tokens → (e : SyntaxFault) → FailsFrom (end_family d) tokens (at + 1) (at + 1) e →
      FailsFrom (next_end_family d) tokens at at e
  next_end_end_fails comma comma_taken comma_inside le e h = fails (next_end_family d) tokens at at (end_family d) _ (at + 1) (at + 1) e (omega arith) h (mark_step (next_end_family d) tokens at at kind.Comma _ _ (at) (at + 1) comma (omega arith) comma_taken (begin (next_end_family d) tokens at at))

  pub next_end_given :
      (comma : Place) → (comma_taken : run is_over (mark_by kind.Comma (counted d 0)) (drop (at) tokens) ≡ Took comma (drop (at + 1) tokens)) →
      (comma_inside : at + 1 ≤ length tokens) → (end : EndNode) → (after : ℕ) → (end_more : at + 1 + 1 ≤ after) →
      (end_inside : after ≤ length tokens) → (end_settles : SettlesFrom (end_family d) tokens (at + 1) (at + 1) (Took end (drop after tokens))) →
      SettlesFrom (next_end_family d) tokens at at (Took (record { comma = comma; end = end }) (drop (after) tokens))
  next_end_given comma comma_taken comma_inside end after end_more end_inside end_settles =
      ends (next_end_family d) tokens at at _ (after)
      (step (next_end_family d) tokens at at (end_family d) _ (at + 1) (at + 1) after end (omega arith) (omega arith) end_settles
      (mark_step (next_end_family d) tokens at at kind.Comma _ _ (at) (at + 1) comma (omega arith) comma_taken
      (begin (next_end_family d) tokens at at)))

  pub one_end_end_fails : at ≤ length tokens → (e : SyntaxFault) → FailsFrom (end_family d) tokens (at) (at) e → FailsFrom (one_end_family d) tokens at at e
  one_end_end_fails le e h = fails (one_end_family d) tokens at at (end_family d) _ (at) (at) e (omega arith) h (begin (one_end_family d) tokens at at)

  pub one_end_given :
      (end : EndNode) → (after : ℕ) → (end_more : at + 1 ≤ after) → (end_inside : after ≤ length tokens) →
      (end_settles : SettlesFrom (end_family d) tokens (at) (at) (Took end (drop after tokens))) →
      SettlesFrom (one_end_family d) tokens at at (Took (OtherEndsOne end) (drop (after) tokens))
  one_end_given end after end_more end_inside end_settles = ends (one_end_family d) tokens at at _ (after) (step (one_end_family d) tokens at at (end_family d) _ (at) (at) after end (omega arith) (omega arith) end_settles (begin (one_end_family d) tokens at at))

  pub several_ends_left_brace_fails : (e : SyntaxFault) → at ≤ length tokens → Expects (mark_by kind.LeftBrace (counted d 0)) tokens (at) (Err e) → FailsFrom (several_ends_family d) tokens at at e
  several_ends_left_brace_fails e le h = mark_fails (several_ends_family d) tokens at at kind.LeftBrace _ _ (at) e le h (begin (several_ends_family d) tokens at at)

  pub several_ends_first_fails :
      (left_brace : Place) →
      (left_brace_taken : run is_over (mark_by kind.LeftBrace (counted d 0)) (drop (at) tokens) ≡ Took left_brace (drop (at + 1) tokens)) →
      (left_brace_inside : at + 1 ≤ length tokens) → at + 1 ≤ length tokens → (e : SyntaxFault) →
      FailsFrom (end_family d) tokens (at + 1) (at + 1) e → FailsFrom (several_ends_family d) tokens at at e
  several_ends_first_fails left_brace left_brace_taken left_brace_inside le e h =
      fails (several_ends_family d) tokens at at (end_family d) _ (at + 1) (at + 1) e (omega arith) h
      (mark_step (several_ends_family d) tokens at at kind.LeftBrace _ _ (at) (at + 1) left_brace (omega arith) left_brace_taken
      (begin (several_ends_family d) tokens at at))

  pub several_ends_rest_fails :
      (left_brace : Place) →
      (left_brace_taken : run is_over (mark_by kind.LeftBrace (counted d 0)) (drop (at) tokens) ≡ Took left_brace (drop (at + 1) tokens)) →
      (left_brace_inside : at + 1 ≤ length tokens) → (first : EndNode) → (behind : ℕ) → (first_more : at + 1 + 1 ≤ behind) →
      (first_inside : behind ≤ length tokens) →
      (first_settles : SettlesFrom (end_family d) tokens (at + 1) (at + 1) (Took first (drop behind tokens))) → behind ≤ length tokens →
      (e : SyntaxFault) → FailsFrom (next_ends_family d) tokens (behind - 1) (behind) e → FailsFrom (several_ends_family d) tokens at at e
  several_ends_rest_fails left_brace left_brace_taken left_brace_inside first behind first_more first_inside first_settles le e h =
      fails (several_ends_family d) tokens at at (next_ends_family d) _ (behind - 1) (behind) e (omega arith) h
      (step (several_ends_family d) tokens at at (end_family d) _ (at + 1) (at + 1) behind first (omega arith) (omega arith) first_settles
      (mark_step (several_ends_family d) tokens at at kind.LeftBrace _ _ (at) (at + 1) left_brace (omega arith) left_brace_taken
      (begin (several_ends_family d) tokens at at)))

  pub several_ends_right_brace_fails :
      (left_brace : Place) →
      (left_brace_taken : run is_over (mark_by kind.LeftBrace (counted d 0)) (drop (at) tokens) ≡ Took left_brace (drop (at + 1) tokens)) →
      (left_brace_inside : at + 1 ≤ length tokens) → (first : EndNode) → (behind : ℕ) → (first_more : at + 1 + 1 ≤ behind) →
      (first_inside : behind ≤ length tokens) →
      (first_settles : SettlesFrom (end_family d) tokens (at + 1) (at + 1) (Took first (drop behind tokens))) → (rest : List NextEnd) → (after : ℕ) →
      (rest_more : behind + 0 ≤ after) → (rest_inside : after ≤ length tokens) →
      (rest_settles : SettlesFrom (next_ends_family d) tokens (behind - 1) (behind) (Took rest (drop after tokens))) → (e : SyntaxFault) →
      after ≤ length tokens → Expects (mark_by kind.RightBrace (counted d 0)) tokens (after) (Err e) →
      FailsFrom (several_ends_family d) tokens at at e
  several_ends_right_brace_fails left_brace left_brace_taken left_brace_inside first behind first_more first_inside first_settles rest after rest_more rest_inside rest_settles e le h =
      mark_fails (several_ends_family d) tokens at at kind.RightBrace _ _ (after) e le h
      (step (several_ends_family d) tokens at at (next_ends_family d) _ (behind - 1) (behind) after rest (omega arith) (omega arith) rest_settles
      (step (several_ends_family d) tokens at at (end_family d) _ (at + 1) (at + 1) behind first (omega arith) (omega arith) first_settles
      (mark_step (several_ends_family d) tokens at at kind.LeftBrace _ _ (at) (at + 1) left_brace (omega arith) left_brace_taken
      (begin (several_ends_family d) tokens at at))))

  pub several_ends_given :
      (left_brace : Place) →
      (left_brace_taken : run is_over (mark_by kind.LeftBrace (counted d 0)) (drop (at) tokens) ≡ Took left_brace (drop (at + 1) tokens)) →
      (left_brace_inside : at + 1 ≤ length tokens) → (first : EndNode) → (behind : ℕ) → (first_more : at + 1 + 1 ≤ behind) →
      (first_inside : behind ≤ length tokens) →
      (first_settles : SettlesFrom (end_family d) tokens (at + 1) (at + 1) (Took first (drop behind tokens))) → (rest : List NextEnd) → (after : ℕ) →
      (rest_more : behind + 0 ≤ after) → (rest_inside : after ≤ length tokens) →
      (rest_settles : SettlesFrom (next_ends_family d) tokens (behind - 1) (behind) (Took rest (drop after tokens))) → (right_brace : Place) →
      (right_brace_taken : run is_over (mark_by kind.RightBrace (counted d 0)) (drop (after) tokens) ≡ Took right_brace (drop (after + 1) tokens)) →
      (right_brace_inside : after + 1 ≤ length tokens) →
      SettlesFrom (several_ends_family d) tokens at at (Took (OtherEndsSeveral left_brace first rest right_brace) (drop (after + 1) tokens))
  several_ends_given left_brace left_brace_taken left_brace_inside first behind first_more first_inside first_settles rest after rest_more rest_inside rest_settles right_brace right_brace_taken right_brace_inside =
      ends (several_ends_family d) tokens at at _ (after + 1)
      (mark_step (several_ends_family d) tokens at at kind.RightBrace _ _ (after) (after + 1) right_brace (omega arith) right_brace_taken
      (step (several_ends_family d) tokens at at (next_ends_family d) _ (behind - 1) (behind) after rest (omega arith) (omega arith) rest_settles
      (step (several_ends_family d) tokens at at (end_family d) _ (at + 1) (at + 1) behind first (omega arith) (omega arith) first_settles
      (mark_step (several_ends_family d) tokens at at kind.LeftBrace _ _ (at) (at + 1) left_brace (omega arith) left_brace_taken
      (begin (several_ends_family d) tokens at at)))))

  pub bind_bind_fails : (e : SyntaxFault) → at ≤ length tokens → Expects (mark_by kind.Bind (counted d 0)) tokens (at) (Err e) → FailsFrom (bind_family d) tokens at at e
  bind_bind_fails e le h = mark_fails (bind_family d) tokens at at kind.Bind _ _ (at) e le h (begin (bind_family d) tokens at at)

  pub bind_first_fails :
      (bind : Place) → (bind_taken : run is_over (mark_by kind.Bind (counted d 0)) (drop (at) tokens) ≡ Took bind (drop (at + 1) tokens)) →
      (bind_inside : at + 1 ≤ length tokens) → at + 1 ≤ length tokens → (e : SyntaxFault) → FailsFrom (end_family d) tokens (at + 1) (at + 1) e →
      FailsFrom (bind_family d) tokens at at e
  bind_first_fails bind bind_taken bind_inside le e h = fails (bind_family d) tokens at at (end_family d) _ (at + 1) (at + 1) e (omega arith) h (mark_step (bind_family d) tokens at at kind.Bind _ _ (at) (at + 1) bind (omega arith) bind_taken (begin (bind_family d) tokens at at))

  pub bind_others_fails :
      (bind : Place) → (bind_taken : run is_over (mark_by kind.Bind (counted d 0)) (drop (at) tokens) ≡ Took bind (drop (at + 1) tokens)) →
      (bind_inside : at + 1 ≤ length tokens) → (first : EndNode) → (behind : ℕ) → (first_more : at + 1 + 1 ≤ behind) →
      (first_inside : behind ≤ length tokens) →
      (first_settles : SettlesFrom (end_family d) tokens (at + 1) (at + 1) (Took first (drop behind tokens))) → behind ≤ length tokens →
      (e : SyntaxFault) → FailsFrom (other_ends_family d) tokens (behind) (behind) e → FailsFrom (bind_family d) tokens at at e
  bind_others_fails bind bind_taken bind_inside first behind first_more first_inside first_settles le e h =
      fails (bind_family d) tokens at at (other_ends_family d) _ (behind) (behind) e (omega arith) h
      (step (bind_family d) tokens at at (end_family d) _ (at + 1) (at + 1) behind first (omega arith) (omega arith) first_settles
      (mark_step (bind_family d) tokens at at kind.Bind _ _ (at) (at + 1) bind (omega arith) bind_taken (begin (bind_family d) tokens at at)))

  pub bind_semicolon_fails :
      (bind : Place) → (bind_taken : run is_over (mark_by kind.Bind (counted d 0)) (drop (at) tokens) ≡ Took bind (drop (at + 1) tokens)) →
      (bind_inside : at + 1 ≤ length tokens) → (first : EndNode) → (behind : ℕ) → (first_more : at + 1 + 1 ≤ behind) →
      (first_inside : behind ≤ length tokens) →
      (first_settles : SettlesFrom (end_family d) tokens (at + 1) (at + 1) (Took first (drop behind tokens))) → (others : OtherEndsTree) →
      (after : ℕ) → (others_more : behind + 1 ≤ after) → (others_inside : after ≤ length tokens) →
      (others_settles : SettlesFrom (other_ends_family d) tokens (behind) (behind) (Took others (drop after tokens))) → (e : SyntaxFault) →
      after ≤ length tokens → Expects (mark_by kind.Semicolon (counted d 0)) tokens (after) (Err e) → FailsFrom (bind_family d) tokens at at e
  bind_semicolon_fails bind bind_taken bind_inside first behind first_more first_inside first_settles others after others_more others_inside others_settles e le h =
      mark_fails (bind_family d) tokens at at kind.Semicolon _ _ (after) e le h
      (step (bind_family d) tokens at at (other_ends_family d) _ (behind) (behind) after others (omega arith) (omega arith) others_settles
      (step (bind_family d) tokens at at (end_family d) _ (at + 1) (at + 1) behind first (omega arith) (omega arith) first_settles
      (mark_step (bind_family d) tokens at at kind.Bind _ _ (at) (at + 1) bind (omega arith) bind_taken (begin (bind_family d) tokens at at))))

  pub bind_given :
      (bind : Place) → (bind_taken : run is_over (mark_by kind.Bind (counted d 0)) (drop (at) tokens) ≡ Took bind (drop (at + 1) tokens)) →
      (bind_inside : at + 1 ≤ length tokens) → (first : EndNode) → (behind : ℕ) → (first_more : at + 1 + 1 ≤ behind) →
      (first_inside : behind ≤ length tokens) →
      (first_settles : SettlesFrom (end_family d) tokens (at + 1) (at + 1) (Took first (drop behind tokens))) → (others : OtherEndsTree) →
      (after : ℕ) → (others_more : behind + 1 ≤ after) → (others_inside : after ≤ length tokens) →
      (others_settles : SettlesFrom (other_ends_family d) tokens (behind) (behind) (Took others (drop after tokens))) → (semicolon : Place) →
      (semicolon_taken : run is_over (mark_by kind.Semicolon (counted d 0)) (drop (after) tokens) ≡ Took semicolon (drop (after + 1) tokens)) →
      (semicolon_inside : after + 1 ≤ length tokens) →
      SettlesFrom (bind_family d) tokens at at (Took (MakeBind bind first others semicolon) (drop (after + 1) tokens))
  bind_given bind bind_taken bind_inside first behind first_more first_inside first_settles others after others_more others_inside others_settles semicolon semicolon_taken semicolon_inside =
      ends (bind_family d) tokens at at _ (after + 1)
      (mark_step (bind_family d) tokens at at kind.Semicolon _ _ (after) (after + 1) semicolon (omega arith) semicolon_taken
      (step (bind_family d) tokens at at (other_ends_family d) _ (behind) (behind) after others (omega arith) (omega arith) others_settles
      (step (bind_family d) tokens at at (end_family d) _ (at + 1) (at + 1) behind first (omega arith) (omega arith) first_settles
      (mark_step (bind_family d) tokens at at kind.Bind _ _ (at) (at + 1) bind (omega arith) bind_taken (begin (bind_family d) tokens at at)))))

  pub branch_join_join_branch_fails : (e : SyntaxFault) → at ≤ length tokens → Expects (mark_by kind.JoinBranch (counted d 0)) tokens (at) (Err e) → FailsFrom (branch_join_family d) tokens at at e
  branch_join_join_branch_fails e le h = mark_fails (branch_join_family d) tokens at at kind.JoinBranch _ _ (at) e le h (begin (branch_join_family d) tokens at at)

  pub branch_join_left_parenthesis_fails :
      (join_branch : Place) →
      (join_branch_taken : run is_over (mark_by kind.JoinBranch (counted d 0)) (drop (at) tokens) ≡ Took join_branch (drop (at + 1) tokens)) →
      (join_branch_inside : at + 1 ≤ length tokens) → (e : SyntaxFault) → at + 1 ≤ length tokens →
      Expects (mark_by kind.LeftParenthesis (counted d 0)) tokens (at + 1) (Err e) → FailsFrom (branch_join_family d) tokens at at e
  branch_join_left_parenthesis_fails join_branch join_branch_taken join_branch_inside e le h =
      mark_fails (branch_join_family d) tokens at at kind.LeftParenthesis _ _ (at + 1) e le h
      (mark_step (branch_join_family d) tokens at at kind.JoinBranch _ _ (at) (at + 1) join_branch (omega arith) join_branch_taken
      (begin (branch_join_family d) tokens at at))

  pub branch_join_names_fails :
      (join_branch : Place) →
      (join_branch_taken : run is_over (mark_by kind.JoinBranch (counted d 0)) (drop (at) tokens) ≡ Took join_branch (drop (at + 1) tokens)) →
      (join_branch_inside : at + 1 ≤ length tokens) → (left_parenthesis : Place) →
      (left_parenthesis_taken : run is_over (mark_by kind.LeftParenthesis (counted d 0)) (drop (at + 1) tokens) ≡ Took left_parenthesis (drop (at + 1 + 1) tokens)) →
      (left_parenthesis_inside : at + 1 + 1 ≤ length tokens) → at + 2 ≤ length tokens → (e : SyntaxFault) →
      FailsFrom (names_family d) tokens (at + 2) (at + 2) e → FailsFrom (branch_join_family d) tokens at at e
  branch_join_names_fails join_branch join_branch_taken join_branch_inside left_parenthesis left_parenthesis_taken left_parenthesis_inside le e h =
      fails (branch_join_family d) tokens at at (names_family d) _ (at + 2) (at + 2) e (omega arith) h
      (mark_step (branch_join_family d) tokens at at kind.LeftParenthesis _ _ (at + 1) (at + 2) left_parenthesis (omega arith) left_parenthesis_taken
      (mark_step (branch_join_family d) tokens at at kind.JoinBranch _ _ (at) (at + 1) join_branch (omega arith) join_branch_taken
      (begin (branch_join_family d) tokens at at)))

  pub branch_join_right_parenthesis_fails :
      (join_branch : Place) →
      (join_branch_taken : run is_over (mark_by kind.JoinBranch (counted d 0)) (drop (at) tokens) ≡ Took join_branch (drop (at + 1) tokens)) →
      (join_branch_inside : at + 1 ≤ length tokens) → (left_parenthesis : Place) →
      (left_parenthesis_taken : run is_over (mark_by kind.LeftParenthesis (counted d 0)) (drop (at + 1) tokens) ≡ Took left_parenthesis (drop (at + 1 + 1) tokens)) →
      (left_parenthesis_inside : at + 1 + 1 ≤ length tokens) → (names : NamesTree) → (after : ℕ) → (names_more : at + 2 + 1 ≤ after) →
      (names_inside : after ≤ length tokens) →
      (names_settles : SettlesFrom (names_family d) tokens (at + 2) (at + 2) (Took names (drop after tokens))) → (e : SyntaxFault) →
      after ≤ length tokens → Expects (mark_by kind.RightParenthesis (counted d 0)) tokens (after) (Err e) →
      FailsFrom (branch_join_family d) tokens at at e
  branch_join_right_parenthesis_fails join_branch join_branch_taken join_branch_inside left_parenthesis left_parenthesis_taken left_parenthesis_inside names after names_more names_inside names_settles e le h =
      mark_fails (branch_join_family d) tokens at at kind.RightParenthesis _ _ (after) e le h
      (step (branch_join_family d) tokens at at (names_family d) _ (at + 2) (at + 2) after names (omega arith) (omega arith) names_settles
      (mark_step (branch_join_family d) tokens at at kind.LeftParenthesis _ _ (at + 1) (at + 2) left_parenthesis (omega arith)
      left_parenthesis_taken
      (mark_step (branch_join_family d) tokens at at kind.JoinBranch _ _ (at) (at + 1) join_branch (omega arith) join_branch_taken
      (begin (branch_join_family d) tokens at at))))

  pub branch_join_given :
      (join_branch : Place) →
      (join_branch_taken : run is_over (mark_by kind.JoinBranch (counted d 0)) (drop (at) tokens) ≡ Took join_branch (drop (at + 1) tokens)) →
      (join_branch_inside : at + 1 ≤ length tokens) → (left_parenthesis : Place) →
      (left_parenthesis_taken : run is_over (mark_by kind.LeftParenthesis (counted d 0)) (drop (at + 1) tokens) ≡ Took left_parenthesis (drop (at + 1 + 1) tokens)) →
      (left_parenthesis_inside : at + 1 + 1 ≤ length tokens) → (names : NamesTree) → (after : ℕ) → (names_more : at + 2 + 1 ≤ after) →
      (names_inside : after ≤ length tokens) →
      (names_settles : SettlesFrom (names_family d) tokens (at + 2) (at + 2) (Took names (drop after tokens))) → (right_parenthesis : Place) →
      (right_parenthesis_taken : run is_over (mark_by kind.RightParenthesis (counted d 0)) (drop (after) tokens) ≡ Took right_parenthesis (drop (after + 1) tokens)) →
      (right_parenthesis_inside : after + 1 ≤ length tokens) →
      SettlesFrom (branch_join_family d) tokens at at (Took (JoinBranch join_branch left_parenthesis names right_parenthesis) (drop (after + 1) tokens))
  branch_join_given join_branch join_branch_taken join_branch_inside left_parenthesis left_parenthesis_taken left_parenthesis_inside names after names_more names_inside names_settles right_parenthesis right_parenthesis_taken right_parenthesis_inside =
      ends (branch_join_family d) tokens at at _ (after + 1)
      (mark_step (branch_join_family d) tokens at at kind.RightParenthesis _ _ (after) (after + 1) right_parenthesis (omega arith)
      right_parenthesis_taken
      (step (branch_join_family d) tokens at at (names_family d) _ (at + 2) (at + 2) after names (omega arith) (omega arith) names_settles
      (mark_step (branch_join_family d) tokens at at kind.LeftParenthesis _ _ (at + 1) (at + 2) left_parenthesis (omega arith)
      left_parenthesis_taken
      (mark_step (branch_join_family d) tokens at at kind.JoinBranch _ _ (at) (at + 1) join_branch (omega arith) join_branch_taken
      (begin (branch_join_family d) tokens at at)))))

  pub select_join_join_select_fails : (e : SyntaxFault) → at ≤ length tokens → Expects (mark_by kind.JoinSelect (counted d 0)) tokens (at) (Err e) → FailsFrom (select_join_family d) tokens at at e
  select_join_join_select_fails e le h = mark_fails (select_join_family d) tokens at at kind.JoinSelect _ _ (at) e le h (begin (select_join_family d) tokens at at)

  pub select_join_left_parenthesis_fails :
      (join_select : Place) →
      (join_select_taken : run is_over (mark_by kind.JoinSelect (counted d 0)) (drop (at) tokens) ≡ Took join_select (drop (at + 1) tokens)) →
      (join_select_inside : at + 1 ≤ length tokens) → (e : SyntaxFault) → at + 1 ≤ length tokens →
      Expects (mark_by kind.LeftParenthesis (counted d 0)) tokens (at + 1) (Err e) → FailsFrom (select_join_family d) tokens at at e
  select_join_left_parenthesis_fails join_select join_select_taken join_select_inside e le h =
      mark_fails (select_join_family d) tokens at at kind.LeftParenthesis _ _ (at + 1) e le h
      (mark_step (select_join_family d) tokens at at kind.JoinSelect _ _ (at) (at + 1) join_select (omega arith) join_select_taken
      (begin (select_join_family d) tokens at at))

  pub select_join_count_fails :
      (join_select : Place) →
      (join_select_taken : run is_over (mark_by kind.JoinSelect (counted d 0)) (drop (at) tokens) ≡ Took join_select (drop (at + 1) tokens)) →
      (join_select_inside : at + 1 ≤ length tokens) → (left_parenthesis : Place) →
      (left_parenthesis_taken : run is_over (mark_by kind.LeftParenthesis (counted d 0)) (drop (at + 1) tokens) ≡ Took left_parenthesis (drop (at + 1 + 1) tokens)) →
      (left_parenthesis_inside : at + 1 + 1 ≤ length tokens) → at + 2 ≤ length tokens → (e : SyntaxFault) →
      FailsFrom (outermost_family d) tokens (at + 2) (at + 2) e → FailsFrom (select_join_family d) tokens at at e
  select_join_count_fails join_select join_select_taken join_select_inside left_parenthesis left_parenthesis_taken left_parenthesis_inside le e h =
      fails (select_join_family d) tokens at at (outermost_family d) _ (at + 2) (at + 2) e (omega arith) h
      (mark_step (select_join_family d) tokens at at kind.LeftParenthesis _ _ (at + 1) (at + 2) left_parenthesis (omega arith) left_parenthesis_taken
      (mark_step (select_join_family d) tokens at at kind.JoinSelect _ _ (at) (at + 1) join_select (omega arith) join_select_taken
      (begin (select_join_family d) tokens at at)))

  pub select_join_right_parenthesis_fails :
      (join_select : Place) →
      (join_select_taken : run is_over (mark_by kind.JoinSelect (counted d 0)) (drop (at) tokens) ≡ Took join_select (drop (at + 1) tokens)) →
      (join_select_inside : at + 1 ≤ length tokens) → (left_parenthesis : Place) →
      (left_parenthesis_taken : run is_over (mark_by kind.LeftParenthesis (counted d 0)) (drop (at + 1) tokens) ≡ Took left_parenthesis (drop (at + 1 + 1) tokens)) →
      (left_parenthesis_inside : at + 1 + 1 ≤ length tokens) → (count : ExprTree) → (after : ℕ) → (count_more : at + 2 + 1 ≤ after) →
      (count_inside : after ≤ length tokens) →
      (count_settles : SettlesFrom (outermost_family d) tokens (at + 2) (at + 2) (Took count (drop after tokens))) → (e : SyntaxFault) →
      after ≤ length tokens → Expects (mark_by kind.RightParenthesis (counted d 0)) tokens (after) (Err e) →
      FailsFrom (select_join_family d) tokens at at e
  select_join_right_parenthesis_fails join_select join_select_taken join_select_inside left_parenthesis left_parenthesis_taken left_parenthesis_inside count after count_more count_inside count_settles e le h =
      mark_fails (select_join_family d) tokens at at kind.RightParenthesis _ _ (after) e le h
      (step (select_join_family d) tokens at at (outermost_family d) _ (at + 2) (at + 2) after count (omega arith) (omega arith) count_settles
      (mark_step (select_join_family d) tokens at at kind.LeftParenthesis _ _ (at + 1) (at + 2) left_parenthesis (omega arith)
      left_parenthesis_taken
      (mark_step (select_join_family d) tokens at at kind.JoinSelect _ _ (at) (at + 1) join_select (omega arith) join_select_taken
      (begin (select_join_family d) tokens at at))))

  pub select_join_given :
      (join_select : Place) →
      (join_select_taken : run is_over (mark_by kind.JoinSelect (counted d 0)) (drop (at) tokens) ≡ Took join_select (drop (at + 1) tokens)) →
      (join_select_inside : at + 1 ≤ length tokens) → (left_parenthesis : Place) →
      (left_parenthesis_taken : run is_over (mark_by kind.LeftParenthesis (counted d 0)) (drop (at + 1) tokens) ≡ Took left_parenthesis (drop (at + 1 + 1) tokens)) →
      (left_parenthesis_inside : at + 1 + 1 ≤ length tokens) → (count : ExprTree) → (after : ℕ) → (count_more : at + 2 + 1 ≤ after) →
      (count_inside : after ≤ length tokens) →
      (count_settles : SettlesFrom (outermost_family d) tokens (at + 2) (at + 2) (Took count (drop after tokens))) → (right_parenthesis : Place) →
      (right_parenthesis_taken : run is_over (mark_by kind.RightParenthesis (counted d 0)) (drop (after) tokens) ≡ Took right_parenthesis (drop (after + 1) tokens)) →
      (right_parenthesis_inside : after + 1 ≤ length tokens) →
      SettlesFrom (select_join_family d) tokens at at (Took (JoinSelect join_select left_parenthesis count right_parenthesis) (drop (after + 1) tokens))
  select_join_given join_select join_select_taken join_select_inside left_parenthesis left_parenthesis_taken left_parenthesis_inside count after count_more count_inside count_settles right_parenthesis right_parenthesis_taken right_parenthesis_inside =
      ends (select_join_family d) tokens at at _ (after + 1)
      (mark_step (select_join_family d) tokens at at kind.RightParenthesis _ _ (after) (after + 1) right_parenthesis (omega arith)
      right_parenthesis_taken
      (step (select_join_family d) tokens at at (outermost_family d) _ (at + 2) (at + 2) after count (omega arith) (omega arith) count_settles
      (mark_step (select_join_family d) tokens at at kind.LeftParenthesis _ _ (at + 1) (at + 2) left_parenthesis (omega arith)
      left_parenthesis_taken
      (mark_step (select_join_family d) tokens at at kind.JoinSelect _ _ (at) (at + 1) join_select (omega arith) join_select_taken
      (begin (select_join_family d) tokens at at)))))
