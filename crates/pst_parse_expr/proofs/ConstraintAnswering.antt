-- What the trees of constraints spell, from the laws of their parsers.
use Rattle.std.proofs.Common.{◌≡◌, ℕ, zero, suc, ◌<◌, ◌≤◌, length, drop, length-drop, Ok, Err, Result, List, None, refl, arith}
use Rattle.pst_token.specs.declared.token.Token.{Token}
use Rattle.pst_ast.specs.ConstraintTree.{ConstraintTree}
use Rattle.pst_ast.specs.ConstraintProper.{constraint_ends_open, IsProperConstraint}
use Rattle.pst_ast.specs.ConstraintView.{view_constraint}
use Rattle.pst_ast.specs.Laws.{AtMostOneTree}
use Rattle.pst_ast.specs.Rule.{TheConstraint}
use Rattle.pst_ast.specs.Limits.{is_over}
use Rattle.pst_ast.specs.Answers.{AnswersConstraint}
use Rattle.pst_ast.specs.declared.constraint.ConstraintNode.{ConstraintNode}
use Rattle.pst_ast.specs.declared.fault.SyntaxFault.{SyntaxFault}
use Rattle.pst_ast.specs.declared.fault.SyntaxFault.TheVariants as the_fault
use Rattle.pst_reading.specs.Parser.{Outcome, run}
use Rattle.pst_reading.specs.Ended.{IsEnded}
use Rattle.pst_reading.specs.Gives.{SettlesFrom}
use Rattle.pst_reading.specs.Reads.{ReadsOpen}
use Rattle.pst_reading.proofs.Final.{one_tree}
use Rattle.pst_reading.proofs.Whole.{read_answer, stopped_answer, deep_answer}
use Rattle.pst_parse_expr.specs.Constraints.{constraint_at}
use Rattle.pst_parse_expr.specs.ConstraintFamilies.{set_family}
use Rattle.pst_parse_expr.proofs.ConstraintExplains.{constraint_explains}
use Rattle.pst_parse_expr.proofs.ConstraintAgain.{StopsSet, constraint_again}
use Rattle.pst_parse_expr.proofs.ConstraintDeciding.{decide_set}
use Rattle.pst_parse_expr.proofs.ConstraintNoEnd.{set_free}

ends : (s : ConstraintTree) → IsProperConstraint s → StopsSet s None
ends s proper opens = refl

pub one_constraint : AtMostOneTree TheConstraint
one_constraint = one_tree TheConstraint 0 (λ n. constraint_at n 0) (λ n. constraint_explains n 0) StopsSet (λ n s rest. constraint_again n 0 s rest) ends decide_set

-- what the parser of the whole gives at each size
at_size : (tokens : List Token) (start depth : ℕ) (o : Outcome ConstraintTree) → SettlesFrom (set_family depth) tokens start start o → start ≤ length tokens → (n : ℕ) → length (drop start tokens) < n → run is_over (constraint_at n depth) (drop start tokens) ≡ o
unfolding constraint_at
at_size tokens start depth o h le zero lt = absurd (omega (arith, lt))
at_size tokens start depth o h le (suc n) lt = h n n (omega (arith, lt, length-drop start tokens, le)) (omega (arith, lt, length-drop start tokens, le))

module _ (tokens : List Token) (start depth : ℕ) (e : IsEnded tokens) (lt : start < length tokens) where
  pub constraint_answers : (x : Result (ConstraintNode × ℕ) SyntaxFault) → ReadsOpen view_constraint constraint_ends_open (set_family depth) tokens start start x → AnswersConstraint tokens start depth x
  constraint_answers (Ok x) g = read_answer TheConstraint depth (λ n. constraint_at n depth) (λ n. constraint_explains n depth) StopsSet (λ n s rest. constraint_again n depth s rest) ends decide_set set_free tokens start e lt (view_constraint x.0) x.1 (omega (arith, g.after)) g.inside (at_size tokens start depth _ g.settles (omega (arith, lt)))
  constraint_answers (Err (the_fault.At k)) g = stopped_answer TheConstraint depth (λ n. constraint_at n depth) (λ n. constraint_explains n depth) StopsSet (λ n s rest. constraint_again n depth s rest) ends decide_set set_free tokens start e lt k g.1 g.2 (at_size tokens start depth _ g.0 (omega (arith, lt)))
  constraint_answers (Err (the_fault.Deep k)) g = deep_answer TheConstraint depth (λ n. constraint_at n depth) (λ n. constraint_explains n depth) StopsSet (λ n s rest. constraint_again n depth s rest) ends decide_set set_free tokens start e lt k g.1 g.2 (at_size tokens start depth _ g.0 (omega (arith, lt)))
  constraint_answers (Err the_fault.NoMemory) g = tt
