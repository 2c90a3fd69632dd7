-- Trees at the limits, and trees that are not proper.
use Rattle.std.specs.Prelude.{ℕ, zero, suc, ◌≡◌, List, [], Some, None}
use Rattle.pst_token.specs.declared.kind.Kind.TheVariants as kind
use Rattle.pst_ast.specs.declared.leaf.Operator.{Operator}
use Rattle.pst_ast.specs.declared.leaf.Operator.TheVariants as the_operator
use Rattle.pst_ast.specs.declared.leaf.PrefixOperator.TheVariants as the_prefix_operator
use Rattle.pst_ast.specs.Marks.{mark}
use Rattle.pst_ast.specs.ExpressionTree.{ExprTree, ExprUnary, ExprBinary, ExprIn, UnaryTree, UnaryPrefix, UnaryPrimary, PrimaryGroup, PrimaryPath, PathDotted, MakePart, MakeIndex, NoNextPartRow, NoIndex, SomeIndex, MakeRanges, RangeSingle, RangeBetween, NoNextRangeRow}
use Rattle.pst_ast.specs.SharedTree.{MakeDomain, PlainBool, TypePlain}
use Rattle.pst_ast.specs.ConstraintTree.{ConstraintTree, ConstraintOne, ConstraintItemEmpty, ConstraintItemIf, ConstraintItemIfElse, ConstraintItemImplies, ConstraintItemForeach}
use Rattle.pst_ast.specs.ActivityTree.{StatementTree, StatementEmpty, StatementLabeled, StatementPlain, CoreDo, CoreRepeat, CoreIf, CoreIfElse, CoreSequence, WithSet, NoStatementRow, MoreStatementRow}
use Rattle.pst_ast.specs.BodyTree.{BodyStatementTree, BodyStatementEmpty, BodyStatementIf, BodyStatementIfElse, BodyStatementRepeat}
use Rattle.pst_ast.specs.DeclarationTree.{MakeUnit}
use Rattle.pst_ast.specs.Limits.{Count, first_over}
use Rattle.pst_ast.specs.Rule.{TheExpr, TheType, TheConstraint, TheStatement, TheBodyStatement, TheUnit}
use Rattle.pst_ast.specs.ProperOf.{IsProperOf}
use Rattle.pst_ast.specs.CountsOf.{counts_of}
use Rattle.pst_ast.specs.Closing.{origin, name_here, expr_here, type_name_here}

-- an expression in so many pairs of brackets
abbrev pub in_groups : ℕ → ExprTree
in_groups zero = expr_here
in_groups (suc n) = ExprUnary (UnaryPrimary (PrimaryGroup origin (in_groups n) origin))

-- an expression behind so many operators
abbrev pub behind_prefixes : ℕ → UnaryTree
behind_prefixes zero = UnaryPrimary (PrimaryPath (PathDotted (MakePart name_here NoIndex) NoNextPartRow))
behind_prefixes (suc n) = UnaryPrefix the_prefix_operator.Not origin (behind_prefixes n)

-- so many blocks in one another
abbrev pub in_blocks : ℕ → StatementTree
in_blocks zero = StatementEmpty origin
in_blocks (suc n) = StatementPlain (CoreSequence None origin (MoreStatementRow (in_blocks n) NoStatementRow) origin)

-- an expression on the right of so many operators of one level
abbrev pub chain : ℕ → ExprTree
chain zero = expr_here
chain (suc n) = ExprBinary (chain n) the_operator.Add origin expr_here

-- an element whose index is an expression
abbrev pub element : ExprTree → ExprTree
element index = ExprUnary (UnaryPrimary (PrimaryPath (PathDotted (MakePart name_here (SomeIndex (MakeIndex origin index origin))) NoNextPartRow)))

-- an expression with one range behind `in`
abbrev pub in_range : ExprTree → ExprTree → ExprTree → ExprTree
in_range left low high = ExprIn left origin origin (MakeRanges (RangeBetween low origin high) NoNextRangeRow) origin

-- no token breaks a limit
abbrev pub Keeps : List Count → Type 0
Keeps counts = first_over counts ≡ None

-- the token at an index is the first that breaks one
abbrev pub Breaks : List Count → ℕ → Type 0
Breaks counts index = first_over counts ≡ Some index

-- the 65th derivation in one another is too deep, and those that are open already count
abbrev pub NestingIsLimited : Type 0
NestingIsLimited =
    Keeps (counts_of TheExpr 0 (in_groups 64))
    × Breaks (counts_of TheExpr 0 (in_groups 65)) 64
    × Keeps (counts_of TheExpr 60 (in_groups 4))
    × Breaks (counts_of TheExpr 60 (in_groups 5)) 4
    × Breaks (counts_of TheExpr 0 (ExprUnary (behind_prefixes 65))) 64
    × Keeps (counts_of TheExpr 63 (element expr_here))
    × Breaks (counts_of TheExpr 64 (element expr_here)) 1
    × Keeps (counts_of TheStatement 0 (in_blocks 63))
    × Breaks (counts_of TheStatement 0 (in_blocks 64)) 64

-- the 257th operator of an outermost expression is too many; those of indices and of ranges behind `in` count, and each end of a range of a type has its own
abbrev pub OperatorsAreLimited : Type 0
OperatorsAreLimited =
    Keeps (counts_of TheExpr 0 (chain 256))
    × Breaks (counts_of TheExpr 0 (chain 257)) 513
    × Keeps (counts_of TheExpr 0 (element (chain 256)))
    × Breaks (counts_of TheExpr 0 (element (chain 257))) 515
    × Keeps (counts_of TheExpr 0 (in_range expr_here (chain 255) expr_here))
    × Breaks (counts_of TheExpr 0 (in_range expr_here (chain 256) expr_here)) 514
    × Keeps (counts_of TheType 0 (TypePlain (PlainBool origin) (Some (MakeDomain origin origin (MakeRanges (RangeBetween (chain 256) origin (chain 256)) NoNextRangeRow) origin))))

abbrev one_operator : ExprTree → Operator → ExprTree → ExprTree
one_operator left operator right = ExprBinary left operator origin right

abbrev one_in : ExprTree → ExprTree
one_in left = ExprIn left origin origin (MakeRanges (RangeSingle expr_here) NoNextRangeRow) origin

-- `if (0) ;`
abbrev open_set : ConstraintTree
open_set = ConstraintOne (ConstraintItemIf origin origin expr_here origin (ConstraintOne (ConstraintItemEmpty origin)))

-- an `if` with an `else`, and this before the `else`
abbrev set_else : ConstraintTree → ConstraintTree
set_else then_part = ConstraintOne (ConstraintItemIfElse origin origin expr_here origin then_part origin (ConstraintOne (ConstraintItemEmpty origin)))

abbrev statement_else : StatementTree → StatementTree
statement_else then_part = StatementPlain (CoreIfElse origin origin expr_here origin then_part origin (StatementEmpty origin))

abbrev open_statement : StatementTree
open_statement = StatementPlain (CoreIf origin origin expr_here origin (StatementEmpty origin))

abbrev body_else : BodyStatementTree → BodyStatementTree
body_else then_part = BodyStatementIfElse origin origin expr_here origin then_part origin (BodyStatementEmpty origin)

abbrev open_body : BodyStatementTree
open_body = BodyStatementIf origin origin expr_here origin (BodyStatementEmpty origin)

-- parts of operators that bind too loosely
abbrev pub OperatorsGroup : Type 0
OperatorsGroup =
    (IsProperOf TheExpr (one_operator expr_here the_operator.Subtract (one_operator expr_here the_operator.Subtract expr_here)) → ⊥)
    × (IsProperOf TheExpr (one_operator (one_operator expr_here the_operator.Add expr_here) the_operator.Multiply expr_here) → ⊥)
    × (IsProperOf TheExpr (one_operator expr_here the_operator.Multiply (one_operator expr_here the_operator.Add expr_here)) → ⊥)
    × (IsProperOf TheExpr (one_operator (one_in expr_here) the_operator.Add expr_here) → ⊥)
    × (IsProperOf TheExpr (one_operator expr_here the_operator.Less (one_in expr_here)) → ⊥)
    × (IsProperOf TheExpr (one_in (one_operator expr_here the_operator.Equal expr_here)) → ⊥)
    × IsProperOf TheExpr (one_operator (one_operator expr_here the_operator.Subtract expr_here) the_operator.Subtract expr_here)
    × IsProperOf TheExpr (one_in (one_in expr_here))

-- an `if` without `else` before an `else`
abbrev pub ElseBelongsToNearest : Type 0
ElseBelongsToNearest =
    (IsProperOf TheConstraint (set_else open_set) → ⊥)
    × (IsProperOf TheConstraint (set_else (set_else open_set)) → ⊥)
    × (IsProperOf TheConstraint (set_else (ConstraintOne (ConstraintItemImplies expr_here origin open_set))) → ⊥)
    × (IsProperOf TheConstraint (set_else (ConstraintOne (ConstraintItemForeach origin origin name_here [] origin name_here origin origin open_set))) → ⊥)
    × (IsProperOf TheStatement (statement_else open_statement) → ⊥)
    × (IsProperOf TheStatement (statement_else (StatementLabeled (record { name = name_here; colon = origin }) (CoreIf origin origin expr_here origin (StatementEmpty origin)))) → ⊥)
    × (IsProperOf TheStatement (statement_else (StatementPlain (CoreRepeat origin origin None expr_here origin open_statement))) → ⊥)
    × (IsProperOf TheStatement (statement_else (StatementPlain (CoreDo origin type_name_here (WithSet origin open_set)))) → ⊥)
    × (IsProperOf TheBodyStatement (body_else open_body) → ⊥)
    × (IsProperOf TheBodyStatement (body_else (BodyStatementRepeat origin origin None expr_here origin open_body)) → ⊥)
    × IsProperOf TheStatement (statement_else (statement_else (StatementEmpty origin)))

-- a unit ends with `End`
abbrev pub UnitsEndWithEnd : Type 0
UnitsEndWithEnd = (IsProperOf TheUnit (MakeUnit [] (mark kind.Semicolon origin)) → ⊥) × IsProperOf TheUnit (MakeUnit [] (mark kind.End origin))
