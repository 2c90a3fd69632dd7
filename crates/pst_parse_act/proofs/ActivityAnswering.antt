-- What the trees of activities spell, from the laws of their parsers.
use Rattle.std.proofs.Common.{◌≡◌, ℕ, ◌<◌, ◌≤◌, length, drop, length-drop, Ok, Err, Result, List, Some, inl, ◌⊎◌, ◌∷◌, [], ◌++◌, arith}
use Rattle.pst_token.specs.declared.token.Token.{Token}
use Rattle.pst_ast.specs.ActivityTree.{ActivityTree}
use Rattle.pst_ast.specs.ActivitySpelling.{spell_activity}
use Rattle.pst_ast.specs.ActivityProper.{IsProperActivity}
use Rattle.pst_ast.specs.ActivityView.{view_activity}
use Rattle.pst_ast.specs.Laws.{AtMostOneTree}
use Rattle.pst_ast.specs.Rule.{TheActivity}
use Rattle.pst_ast.specs.Viable.{IsViable}
use Rattle.pst_ast.specs.Limits.{is_over}
use Rattle.pst_ast.specs.Answers.{AnswersActivity}
use Rattle.pst_ast.specs.declared.activity.ActivityNode.{ActivityNode}
use Rattle.pst_ast.specs.declared.fault.SyntaxFault.{SyntaxFault}
use Rattle.pst_ast.specs.declared.fault.SyntaxFault.TheVariants as the_fault
use Rattle.pst_reading.specs.Parser.{Outcome, run}
use Rattle.pst_reading.specs.Ended.{IsEnded}
use Rattle.pst_reading.specs.Gives.{SettlesFrom}
use Rattle.pst_reading.specs.Reads.{Reads}
use Rattle.pst_reading.proofs.Final.{one_tree}
use Rattle.pst_reading.proofs.Whole.{read_answer, stopped_answer, deep_answer}
use Rattle.pst_reading.proofs.Rereading.{Anything}
use Rattle.pst_parse_statement.specs.Activities.{activity_at}
use Rattle.pst_parse_statement.specs.ActivityFamilies.{activity_family}
use Rattle.pst_parse_statement.proofs.ActivityExplains.{activity_explains}
use Rattle.pst_parse_statement.proofs.ActivityAgain.{activity_again}
use Rattle.pst_parse_statement.proofs.ActivityNoEnd.{activity_free}

-- an activity ends with its brace, whatever follows
decide_activity : (a : ActivityTree) (t : Token) → IsProperActivity a → Anything (Some t) ⊎ IsViable TheActivity (spell_activity a ++ t ∷ [])
decide_activity a t proper = inl tt

pub one_activity : AtMostOneTree TheActivity
one_activity = one_tree TheActivity 0 (λ n. activity_at n 0) (λ n. activity_explains n 0) (λ a. Anything) (λ n a rest. activity_again n 0 a rest) (λ a p. tt) decide_activity

-- what the parser of the whole gives at each size
at_size : (tokens : List Token) (start depth : ℕ) (o : Outcome ActivityTree) → SettlesFrom (activity_family depth) tokens start start o → start ≤ length tokens → (n : ℕ) → length (drop start tokens) < n → run is_over (activity_at n depth) (drop start tokens) ≡ o
at_size tokens start depth o h le n lt = h n n (omega (arith, lt, length-drop start tokens, le)) (omega (arith, lt, length-drop start tokens, le))

module _ (tokens : List Token) (start depth : ℕ) (e : IsEnded tokens) (lt : start < length tokens) where
  pub activity_answers : (x : Result (ActivityNode × ℕ) SyntaxFault) → Reads view_activity (activity_family depth) tokens start start 1 x → AnswersActivity tokens start depth x
  activity_answers (Ok x) g = read_answer TheActivity depth (λ n. activity_at n depth) (λ n. activity_explains n depth) (λ a. Anything) (λ n a rest. activity_again n depth a rest) (λ a p. tt) decide_activity activity_free tokens start e lt (view_activity x.0) x.1 (omega (arith, g.after)) g.inside (at_size tokens start depth _ g.settles (omega (arith, lt)))
  activity_answers (Err (the_fault.At k)) g = stopped_answer TheActivity depth (λ n. activity_at n depth) (λ n. activity_explains n depth) (λ a. Anything) (λ n a rest. activity_again n depth a rest) (λ a p. tt) decide_activity activity_free tokens start e lt k g.1 g.2 (at_size tokens start depth _ g.0 (omega (arith, lt)))
  activity_answers (Err (the_fault.Deep k)) g = deep_answer TheActivity depth (λ n. activity_at n depth) (λ n. activity_explains n depth) (λ a. Anything) (λ n a rest. activity_again n depth a rest) (λ a p. tt) decide_activity activity_free tokens start e lt k g.1 g.2 (at_size tokens start depth _ g.0 (omega (arith, lt)))
  activity_answers (Err the_fault.NoMemory) g = tt
