-- Which operators tokens are.
use Rattle.std.specs.Prelude.{ℕ, ◌==◌, ◌&&◌, Bool, if◌then◌else◌, pos, Option, Some, None}
use Rattle.std.specs.Ordering.{int_eq}
use Rattle.pst_token.specs.declared.kind.Kind.{Kind}
use Rattle.pst_token.specs.declared.kind.Kind.TheVariants as kind
use Rattle.pst_token.specs.declared.token.Token.{Token}
use Rattle.pst_ast.specs.declared.leaf.Operator.{Operator}
use Rattle.pst_ast.specs.declared.leaf.Operator.TheVariants as the_operator
use Rattle.pst_ast.specs.declared.leaf.PrefixOperator.{PrefixOperator}
use Rattle.pst_ast.specs.declared.leaf.PrefixOperator.TheVariants as the_prefix_operator
use Rattle.pst_ast.specs.ExpressionProper.{level_of}
use Rattle.pst_reading.specs.Kinds.{is_mark, next_is}

-- the operator between parts that a kind of token is
abbrev pub operator_of_kind : Kind → Option Operator
operator_of_kind kind.Star = Some the_operator.Multiply
operator_of_kind kind.Slash = Some the_operator.Divide
operator_of_kind kind.Percent = Some the_operator.Remainder
operator_of_kind kind.Plus = Some the_operator.Add
operator_of_kind kind.Minus = Some the_operator.Subtract
operator_of_kind kind.LessLess = Some the_operator.ShiftLeft
operator_of_kind kind.GreaterGreater = Some the_operator.ShiftRight
operator_of_kind kind.Less = Some the_operator.Less
operator_of_kind kind.LessEqual = Some the_operator.LessEqual
operator_of_kind kind.Greater = Some the_operator.Greater
operator_of_kind kind.GreaterEqual = Some the_operator.GreaterEqual
operator_of_kind kind.EqualEqual = Some the_operator.Equal
operator_of_kind kind.NotEqual = Some the_operator.NotEqual
operator_of_kind kind.And = Some the_operator.BitAnd
operator_of_kind kind.Caret = Some the_operator.BitXor
operator_of_kind kind.Or = Some the_operator.BitOr
operator_of_kind kind.AndAnd = Some the_operator.And
operator_of_kind kind.OrOr = Some the_operator.Or
operator_of_kind _ = None

-- the operator before a part that a kind of token is
abbrev pub prefix_of_kind : Kind → Option PrefixOperator
prefix_of_kind kind.Minus = Some the_prefix_operator.Negate
prefix_of_kind kind.Not = Some the_prefix_operator.Not
prefix_of_kind kind.Tilde = Some the_prefix_operator.Complement
prefix_of_kind _ = None

-- whether there is nothing in a token but its kind
unfoldable pub is_bare : Token → Bool
is_bare token = token.name.0 == 0 && int_eq token.number (pos 0)

abbrev pub of_level : ℕ → Option Operator → Option Operator
of_level level None = None
of_level level (Some operator) = if level_of operator == level then Some operator else None

-- the operator of a level between parts that the next token is
unfoldable pub operator_of : ℕ → Option Token → Option Operator
operator_of level None = None
operator_of level (Some token) = if is_bare token then of_level level (operator_of_kind token.kind) else None

-- whether the next token is `in`, which is an operator of level 6
unfoldable pub is_in : ℕ → Option Token → Bool
is_in level next = level == 6 && next_is (is_mark kind.In) next

-- the operator before a part that the next token is
unfoldable pub prefix_of : Option Token → Option PrefixOperator
prefix_of None = None
prefix_of (Some token) = if is_bare token then prefix_of_kind token.kind else None
