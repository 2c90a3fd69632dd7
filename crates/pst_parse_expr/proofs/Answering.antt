-- What the trees of expressions spell, from the laws of their parsers.
use Rattle.std.proofs.Common.{◌≡◌, ℕ, zero, suc, ◌<◌, ◌≤◌, length, drop, length-drop, Ok, List, None, arith}
use Rattle.pst_token.specs.declared.token.Token.{Token}
use Rattle.pst_ast.specs.ExpressionTree.{ExprTree}
use Rattle.pst_ast.specs.ExpressionSpelling.{spell_expr}
use Rattle.pst_ast.specs.ExpressionProper.{IsProperExpr}
use Rattle.pst_ast.specs.ExpressionLimits.{counts_expr}
use Rattle.pst_ast.specs.Laws.{AtMostOneTree}
use Rattle.pst_ast.specs.Rule.{TheExpr}
use Rattle.pst_reading.proofs.Explaining.{Means, Explains, wider}
use Rattle.pst_reading.proofs.Final.{one_tree}
use Rattle.pst_parse_operator.specs.Reading.{expr_at}
use Rattle.pst_parse_operator.proofs.Levels.{IsLevel}
use Rattle.pst_parse_operator.proofs.Parts.{expr_explains}
use Rattle.pst_parse_operator.proofs.ExprAgain.{expr_again}
use Rattle.pst_parse_operator.proofs.Stops.{Stops, separated, nothing_closes}
use Rattle.pst_parse_operator.proofs.Deciding.{decide}
use Rattle.pst_parse_operator.proofs.NoEnd.{expr_free}
use Rattle.pst_parse_operator.specs.Families.{level_family}
use Rattle.pst_ast.specs.declared.expression.ExprNode.{ExprNode}
use Rattle.pst_ast.specs.declared.fault.SyntaxFault.{SyntaxFault}
use Rattle.pst_ast.specs.declared.fault.SyntaxFault.TheVariants as the_fault
use Rattle.pst_ast.specs.ExpressionView.{view_expr}
use Rattle.pst_ast.specs.ExpressionOperators.{operators_expr}
use Rattle.pst_ast.specs.Answers.{AnswersExpr, IsFault}
use Rattle.pst_ast.specs.Limits.{is_over}
use Rattle.pst_reading.specs.Parser.{Outcome, run}
use Rattle.pst_reading.specs.Ended.{IsEnded}
use Rattle.pst_reading.specs.Gives.{Given, SettlesFrom, FailsFrom}
use Rattle.pst_reading.proofs.Whole.{read_answer, stopped_answer, deep_answer}

pub explains : (depth n : ℕ) → Explains (Means spell_expr IsProperExpr (counts_expr depth 0)) (expr_at n depth 0)
explains depth n ts = wider (IsLevel 0 depth 0) (Means spell_expr IsProperExpr (counts_expr depth 0)) (expr_at n depth 0) ts (λ a text counts h. record { is = h.is; proper = h.proper; counted = h.counted }) (expr_explains n depth 0 ts)

ends : (e : ExprTree) → IsProperExpr e → Stops 0 e None
ends e proper = separated 0 None nothing_closes e proper 0 (omega arith) (omega arith)

pub one_expr : AtMostOneTree TheExpr
one_expr = one_tree TheExpr 0 (λ n. expr_at n 0 0) (explains 0) (Stops 0) (λ n e rest. expr_again n 0 0 e rest) ends decide

-- what the table's parser gives at each size is what that of the whole gives
at_size : (tokens : List Token) (start depth : ℕ) (o : Outcome ExprTree) → SettlesFrom (level_family 10 depth 0) tokens start start o → start ≤ length tokens → (n : ℕ) → length (drop start tokens) < n → run is_over (expr_at n depth 0) (drop start tokens) ≡ o
unfolding expr_at
at_size tokens start depth o h le zero lt = absurd (omega (arith, lt))
at_size tokens start depth o h le (suc n) lt = h n n (omega (arith, lt, length-drop start tokens, le)) (omega (arith, lt, length-drop start tokens, le))

module _ (tokens : List Token) (start depth : ℕ) (e : IsEnded tokens) (lt : start < length tokens) where
  pub tree_answers : (x : ExprNode × ℕ × ℕ) → Given view_expr operators_expr (level_family 10 depth 0) tokens start start 0 1 x → AnswersExpr tokens start depth (Ok (x.0, x.1))
  tree_answers x g = read_answer TheExpr depth (λ n. expr_at n depth 0) (explains depth) (Stops 0) (λ n e rest. expr_again n depth 0 e rest) ends decide expr_free tokens start e lt (view_expr x.0) x.1 (omega (arith, g.after)) g.inside (at_size tokens start depth _ g.settles (omega (arith, lt)))

  pub fault_answers : (f : SyntaxFault) → FailsFrom (level_family 10 depth 0) tokens start start f → IsFault TheExpr tokens start depth f
  fault_answers (the_fault.At k) g = stopped_answer TheExpr depth (λ n. expr_at n depth 0) (explains depth) (Stops 0) (λ n e rest. expr_again n depth 0 e rest) ends decide expr_free tokens start e lt k g.1 g.2 (at_size tokens start depth _ g.0 (omega (arith, lt)))
  fault_answers (the_fault.Deep k) g = deep_answer TheExpr depth (λ n. expr_at n depth 0) (explains depth) (Stops 0) (λ n e rest. expr_again n depth 0 e rest) ends decide expr_free tokens start e lt k g.1 g.2 (at_size tokens start depth _ g.0 (omega (arith, lt)))
  fault_answers the_fault.NoMemory g = tt
