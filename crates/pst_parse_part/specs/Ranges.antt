-- Ranges, each end of which is an outermost expression, parsed from left to right: depth derivations that count are open at the tokens of a part itself, and size bounds the turns of each loop.
use Rattle.pst_ast.specs.ExpressionTree.{ExprTree, RangesTree, NextRangeTree, RangeTree, NextRangeRow, MakeRanges, MakeNextRange, RangeSingle, RangeBetween, NoNextRangeRow, MoreNextRangeRow}
use Rattle.pst_ast.specs.Limits.{counted}
use Rattle.pst_parse_expr.specs.Constraints.{Within, outermost_at, is_at}
use Rattle.pst_reading.specs.Lists.{list_by}
use Rattle.pst_reading.specs.Parser.{Parser, Done, followed_by, ◌>>=◌, mark_by, if_mark}
use Rattle.pst_token.specs.declared.kind.Kind.TheVariants as kind
use Rattle.std.specs.Prelude.{ℕ, suc, List, [], ◌∷◌}

-- range = expr [ ".." expr ], each end an outermost expression of its own
abbrev pub high_by : ℕ → ℕ → ExprTree → Parser RangeTree
high_by size depth low = do
  dots ← mark_by kind.DotDot (counted depth 0)
  high ← outermost_at (suc size) depth
  Done (RangeBetween low dots high)

abbrev pub range_by : ℕ → Within RangeTree
range_by size depth = followed_by (outermost_at (suc size) depth) (λ low. if_mark kind.DotDot (high_by size depth low) (Done (RangeSingle low)))

-- "," range
abbrev pub next_range_by : ℕ → Within NextRangeTree
next_range_by size depth = do
  comma ← mark_by kind.Comma (counted depth 0)
  range ← range_by size depth
  Done (MakeNextRange comma range)

abbrev pub range_row : List NextRangeTree → NextRangeRow
range_row [] = NoNextRangeRow
range_row (range ∷ ranges) = MoreNextRangeRow range (range_row ranges)

-- ranges = range { "," range }
abbrev pub ranges_by : ℕ → Within RangesTree
ranges_by size depth = do
  first ← range_by size depth
  rest ← list_by (is_at kind.Comma) (next_range_by size depth) size
  Done (MakeRanges first (range_row rest))
