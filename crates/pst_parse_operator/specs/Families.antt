-- The parsers of expressions for each size: each function of the program has one of these.
use Rattle.std.specs.Prelude.{◌≡◌, ℕ, suc, ◌+◌, ◌-◌, ◌≤◌, List, [], ◌∷◌, length, Option, Some, None, Result, Ok, Err, drop}
use Rattle.pst_token.specs.declared.token.Token.{Token}
use Rattle.pst_ast.specs.declared.leaf.Name.{Name}
use Rattle.pst_ast.specs.declared.expression.IndexNode.{IndexNode}
use Rattle.pst_ast.specs.declared.expression.PathNode.{PathNode}
use Rattle.pst_ast.specs.declared.fault.SyntaxFault.{SyntaxFault}
use Rattle.pst_ast.specs.declared.expression.NextPart.{NextPart}
use Rattle.pst_ast.specs.declared.expression.NextRange.{NextRange}
use Rattle.pst_ast.specs.ExpressionView.{view_index, view_next_part, view_next_range, view_path}
use Rattle.pst_ast.specs.ExpressionOperators.{operators_path}
use Rattle.pst_ast.specs.ExpressionTree.{ExprTree, UnaryTree, PrimaryTree, PathTree, NextPartTree, NextPartRow, NoNextPartRow, MoreNextPartRow, MaybeIndex, NoIndex, SomeIndex, RangesTree, RangeTree, NextRangeRow, NoNextRangeRow, MoreNextRangeRow}
use Rattle.pst_reading.specs.Parser.{Parser, Took, Wrong}
use Rattle.pst_reading.specs.Gives.{Family, SettlesFrom, FailsFrom}
use Rattle.pst_parse_operator.specs.Reading.{Parsers, in_by, item_by, operation_of, level_by, unary_by, primary_by, path_by, next_part_by, maybe_index_by, ranges_by, range_by, expr_at}

-- parts without an operator between them, within size
abbrev pub unary_within : ℕ → Parsers UnaryTree
unary_within size = unary_by (primary_by (expr_at size) size) (suc size)

abbrev pub level_family : ℕ → ℕ → ℕ → Family ExprTree
level_family above depth before size prefixes = level_by (unary_within size) (ranges_by (expr_at size) size) size above depth before

-- the parser of a part that begins here, where there is one
abbrev pub part_of : {A : Type 0} → Option (Parser A) → Parser A
part_of None = Wrong
part_of (Some part) = part

abbrev pub operation_family : ℕ → ℕ → ℕ → ExprTree → Option Token → Family ExprTree
operation_family above depth before left token size prefixes = part_of (operation_of (level_by (unary_within size) (ranges_by (expr_at size) size) size above) (ranges_by (expr_at size) size) (9 - above) depth before left token)

abbrev pub in_family : ℕ → ℕ → ExprTree → Family ExprTree
in_family depth before left size prefixes = in_by (ranges_by (expr_at size) size) depth before left

abbrev pub ranges_family : ℕ → ℕ → Family RangesTree
ranges_family depth before size prefixes = ranges_by (expr_at size) size depth before

abbrev pub range_family : ℕ → ℕ → Family RangeTree
range_family depth before size prefixes = range_by (expr_at size) depth before

abbrev pub unary_family : ℕ → ℕ → Family UnaryTree
unary_family depth before size prefixes = unary_by (primary_by (expr_at size) size) (suc prefixes) depth before

abbrev pub primary_family : ℕ → ℕ → Family PrimaryTree
primary_family depth before size prefixes = primary_by (expr_at size) size depth before

abbrev pub path_family : ℕ → ℕ → Family PathTree
path_family depth before size prefixes = path_by (expr_at size) size depth before

abbrev pub next_part_family : ℕ → ℕ → Family NextPartTree
next_part_family depth before size prefixes = next_part_by (expr_at size) depth before

abbrev pub index_family : ℕ → ℕ → Family MaybeIndex
index_family depth before size prefixes = maybe_index_by (expr_at size) depth before

-- an index that may be left out
abbrev pub view_index_option : Option IndexNode → MaybeIndex
view_index_option None = NoIndex
view_index_option (Some index) = SomeIndex (view_index index)

-- an item of an enum behind its first name, which has no operators
abbrev pub GivesItem : List Token → ℕ → ℕ → ℕ → Name → Result (PathNode × ℕ) SyntaxFault → Type 0
GivesItem tokens at depth before first (Ok x) = SettlesFrom (λ size prefixes. item_by depth before first) tokens at at (Took (view_path x.0) (drop x.1 tokens)) × (at + 2 ≤ x.1) × (x.1 ≤ length tokens) × (operators_path (view_path x.0) ≡ 0)
GivesItem tokens at depth before first (Err fault) = FailsFrom (λ size prefixes. item_by depth before first) tokens at at fault

-- parts behind dots, and ranges behind commas, in a row
abbrev pub part_row : List NextPart → NextPartRow
part_row [] = NoNextPartRow
part_row (part ∷ parts) = MoreNextPartRow (view_next_part part) (part_row parts)

abbrev pub range_row : List NextRange → NextRangeRow
range_row [] = NoNextRangeRow
range_row (range ∷ ranges) = MoreNextRangeRow (view_next_range range) (range_row ranges)
