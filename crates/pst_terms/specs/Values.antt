-- The value of a term, where things have given values.
use Rattle.std.specs.Prelude.{ℤ, pos, negsuc, List, slice_get, Option, None}
use Rattle.std.specs.Option.{option_and_then}
use Rattle.pst_ast.specs.ExpressionTree.{PathTree}
use Rattle.pst_num.specs.Range.{in_range}
use Rattle.pst_expr.specs.Value.{unary_value, binary_value, given}
use Rattle.pst_terms.specs.Terms.{Term, Number, Leaf, Prefix, Infix, Indexed, Reading, term_at, path_index}

-- the value of the element at an index, none outside of the array
abbrev pub element_under : {X : Type 0} → (X → Option ℤ) → List X → ℤ → Option ℤ
element_under f elements (pos i) = option_and_then f (slice_get elements i)
element_under f elements (negsuc _) = None

abbrev pub term_value : {X : Type 0} → (X → Option ℤ) → Term X → Option ℤ
term_value f (Number n) = in_range n
term_value f (Leaf x) = given (f x)
term_value f (Prefix operator operand) = option_and_then (unary_value operator) (term_value f operand)
term_value f (Infix operator left right) = binary_value operator (term_value f left) (term_value f right)
term_value f (Indexed elements index) = given (option_and_then (element_under f elements) (term_value f index))

-- the value of a path with its index
abbrev pub path_value : {X : Type 0} → (X → Option ℤ) → (PathTree → Reading X) → PathTree → Option ℤ
path_value f read path = term_value f (term_at (read path) (path_index read path))
