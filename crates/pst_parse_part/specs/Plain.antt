-- Plain types, parsed from left to right: depth derivations that count are open at the tokens of a part itself.
use Rattle.pst_ast.specs.Limits.{counted}
use Rattle.pst_ast.specs.SharedTree.{LowTree, WidthTree, PlainTree, MakeLow, MakeWidth, PlainInt, PlainBit, PlainBool}
use Rattle.pst_parse_expr.specs.Constraints.{Within, outermost_at, is_at}
use Rattle.pst_reading.specs.Options.{option_by}
use Rattle.pst_reading.specs.Parser.{Done, followed_by, ◌>>=◌, mark_by, if_mark}
use Rattle.pst_token.specs.declared.kind.Kind.TheVariants as kind
use Rattle.std.specs.Prelude.{ℕ, suc}

-- ":" expr
abbrev pub low_by : ℕ → Within LowTree
low_by size depth = do
  colon ← mark_by kind.Colon (counted depth 0)
  expr ← outermost_at (suc size) depth
  Done (MakeLow colon expr)

-- width = "[" expr [ ":" expr ] "]"
abbrev pub width_by : ℕ → Within WidthTree
width_by size depth = do
  left_bracket ← mark_by kind.LeftBracket (counted depth 0)
  expr ← outermost_at (suc size) depth
  low ← option_by (is_at kind.Colon) (low_by size depth)
  right_bracket ← mark_by kind.RightBracket (counted depth 0)
  Done (MakeWidth left_bracket expr low right_bracket)

abbrev pub int_by : ℕ → Within PlainTree
int_by size depth = do
  int ← mark_by kind.Int (counted depth 0)
  width ← option_by (is_at kind.LeftBracket) (width_by size depth)
  Done (PlainInt int width)

abbrev pub bit_by : ℕ → Within PlainTree
bit_by size depth = do
  bit ← mark_by kind.Bit (counted depth 0)
  width ← option_by (is_at kind.LeftBracket) (width_by size depth)
  Done (PlainBit bit width)

abbrev pub bool_by : Within PlainTree
bool_by depth = followed_by (mark_by kind.Bool (counted depth 0)) (λ place. Done (PlainBool place))

-- plain = ("int"|"bit") [width] | "bool"
abbrev pub plain_by : ℕ → Within PlainTree
plain_by size depth = if_mark kind.Int (int_by size depth) (if_mark kind.Bit (bit_by size depth) (bool_by depth))
