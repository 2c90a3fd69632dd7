-- What a parser of a rule answers, by what the proper trees of the rule spell.
use Rattle.std.specs.Prelude.{ℕ, suc, ◌-◌, ◌<◌, ◌≤◌, ◌≡◌, List, ◌++◌, length, take, slice_range, Some, None, Result, Ok, Err}
use Rattle.pst_token.specs.declared.token.Token.{Token}
use Rattle.pst_ast.specs.declared.fault.SyntaxFault.{SyntaxFault}
use Rattle.pst_ast.specs.declared.fault.SyntaxFault.TheVariants as the_fault
use Rattle.pst_ast.specs.declared.expression.ExprNode.{ExprNode}
use Rattle.pst_ast.specs.declared.constraint.ConstraintNode.{ConstraintNode}
use Rattle.pst_ast.specs.declared.activity.ActivityNode.{ActivityNode}
use Rattle.pst_ast.specs.declared.body.BodyNode.{BodyNode}
use Rattle.pst_ast.specs.declared.declaration.Item.{Item}
use Rattle.pst_ast.specs.declared.declaration.Unit.{Unit as UnitNode}
use Rattle.pst_ast.specs.ExpressionView.{view_expr}
use Rattle.pst_ast.specs.ConstraintView.{view_constraint}
use Rattle.pst_ast.specs.ActivityView.{view_activity}
use Rattle.pst_ast.specs.BodyView.{view_body}
use Rattle.pst_ast.specs.DeclarationView.{view_item, view_unit}
use Rattle.pst_ast.specs.Limits.{first_over}
use Rattle.pst_ast.specs.Rule.{Rule, TheExpr, TheConstraint, TheActivity, TheBody, TheItem, TheUnit}
use Rattle.pst_ast.specs.TreeOf.{TreeOf}
use Rattle.pst_ast.specs.SpellOf.{spell_of}
use Rattle.pst_ast.specs.ProperOf.{IsProperOf}
use Rattle.pst_ast.specs.CountsOf.{counts_of}
use Rattle.pst_ast.specs.Viable.{IsViable}

-- the tokens from one index on, up to another and with the one there
abbrev pub through : List Token → ℕ → ℕ → List Token
through tokens start k = slice_range tokens start (suc k)

-- a proper tree within the limits spells the tokens from start up to end, and no proper tree goes on with the one at end
pub record IsRead (rule : Rule) (tokens : List Token) (start depth : ℕ) (tree : TreeOf rule) (end : ℕ) : Type 0 where
  pub ordered : start ≤ end
  pub inside : end < length tokens
  pub proper : IsProperOf rule tree
  pub spelled : spell_of rule tree ≡ slice_range tokens start end
  pub within : first_over (counts_of rule depth tree) ≡ None
  pub longest : IsViable rule (through tokens start end) → ⊥

-- k is the least index such that no proper tree spells a list that begins with the tokens from start up to it and with it; the tokens before it are no whole tree and keep the limits
pub record IsStopped (rule : Rule) (tokens : List Token) (start depth k : ℕ) : Type 0 where
  pub ordered : start ≤ k
  pub inside : k < length tokens
  pub before : IsViable rule (slice_range tokens start k)
  pub here : IsViable rule (through tokens start k) → ⊥
  pub unfinished : (tree : TreeOf rule) → IsProperOf rule tree → spell_of rule tree ≡ slice_range tokens start k → ⊥
  pub within : (tree : TreeOf rule) (more : List Token) → IsProperOf rule tree → spell_of rule tree ≡ slice_range tokens start k ++ more → first_over (take (k - start) (counts_of rule depth tree)) ≡ None

-- proper trees go on with the token at k, and in each it is the first that breaks a limit
pub record IsTooDeep (rule : Rule) (tokens : List Token) (start depth k : ℕ) : Type 0 where
  pub ordered : start ≤ k
  pub inside : k < length tokens
  pub here : IsViable rule (through tokens start k)
  pub first : (tree : TreeOf rule) (more : List Token) → IsProperOf rule tree → spell_of rule tree ≡ through tokens start k ++ more → first_over (counts_of rule depth tree) ≡ Some (k - start)

-- a fault, by which it is
abbrev pub IsFault : Rule → List Token → ℕ → ℕ → SyntaxFault → Type 0
IsFault rule tokens start depth (the_fault.At k) = IsStopped rule tokens start depth k
IsFault rule tokens start depth (the_fault.Deep k) = IsTooDeep rule tokens start depth k
IsFault rule tokens start depth the_fault.NoMemory = Unit {0}

-- the tree of a rule at start and the index behind it, where depth derivations are open already; view forgets where the tree lies in memory
abbrev pub Answers : {Node : Type 0} → (rule : Rule) → (Node → TreeOf rule) → List Token → ℕ → ℕ → Result (Node × ℕ) SyntaxFault → Type 0
Answers rule view tokens start depth (Ok x) = IsRead rule tokens start depth (view x.0) x.1
Answers rule view tokens start depth (Err fault) = IsFault rule tokens start depth fault

-- expr
abbrev pub AnswersExpr : List Token → ℕ → ℕ → Result (ExprNode × ℕ) SyntaxFault → Type 0
AnswersExpr tokens start depth result = Answers TheExpr view_expr tokens start depth result

-- set
abbrev pub AnswersConstraint : List Token → ℕ → ℕ → Result (ConstraintNode × ℕ) SyntaxFault → Type 0
AnswersConstraint tokens start depth result = Answers TheConstraint view_constraint tokens start depth result

-- activity
abbrev pub AnswersActivity : List Token → ℕ → ℕ → Result (ActivityNode × ℕ) SyntaxFault → Type 0
AnswersActivity tokens start depth result = Answers TheActivity view_activity tokens start depth result

-- body
abbrev pub AnswersBody : List Token → ℕ → ℕ → Result (BodyNode × ℕ) SyntaxFault → Type 0
AnswersBody tokens start depth result = Answers TheBody view_body tokens start depth result

-- one part of unit before its end
abbrev pub AnswersItem : List Token → ℕ → Result (Item × ℕ) SyntaxFault → Type 0
AnswersItem tokens start result = Answers TheItem view_item tokens start 0 result

-- a proper tree within the limits spells all the tokens
pub record IsWhole (tokens : List Token) (tree : TreeOf TheUnit) : Type 0 where
  pub proper : IsProperOf TheUnit tree
  pub spelled : spell_of TheUnit tree ≡ tokens
  pub within : first_over (counts_of TheUnit 0 tree) ≡ None

-- unit
abbrev pub AnswersUnit : List Token → Result UnitNode SyntaxFault → Type 0
AnswersUnit tokens (Ok unit) = IsWhole tokens (view_unit unit)
AnswersUnit tokens (Err fault) = IsFault TheUnit tokens 0 0 fault
