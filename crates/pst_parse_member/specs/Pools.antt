-- Pools and what is bound to them, parsed from left to right.
use Rattle.pst_ast.specs.DeclarationTree.{SizeTree, PoolTree, TargetTree, NextTargetTree, TargetsTree, PoolBindTree, MakeSize, MakePool, MakeTarget, MakeNextTarget, TargetsAll, TargetsOne, TargetsSeveral, MakePoolBind}
use Rattle.pst_ast.specs.Limits.{counted}
use Rattle.pst_parse_part.specs.Names.{type_name_by}
use Rattle.pst_parse_expr.specs.Constraints.{Within, outermost_at, is_at, dot_name_by}
use Rattle.pst_reading.specs.Lists.{list_by}
use Rattle.pst_reading.specs.Options.{option_by}
use Rattle.pst_reading.specs.Parser.{Done, followed_by, ◌>>=◌, mark_by, name_by, if_mark}
use Rattle.pst_token.specs.declared.kind.Kind.TheVariants as kind
use Rattle.std.specs.Prelude.{ℕ, suc}

-- "[" expr "]"
abbrev pub size_by : ℕ → Within SizeTree
size_by size depth = do
  left_bracket ← mark_by kind.LeftBracket (counted depth 0)
  expr ← outermost_at (suc size) depth
  right_bracket ← mark_by kind.RightBracket (counted depth 0)
  Done (MakeSize left_bracket expr right_bracket)

-- pool = "pool" [ "[" expr "]" ] tname NAME ";"
abbrev pub pool_by : ℕ → Within PoolTree
pool_by size depth = do
  pool ← mark_by kind.Pool (counted depth 0)
  pool_size ← option_by (is_at kind.LeftBracket) (size_by size depth)
  object ← type_name_by depth
  name ← name_by (counted depth 0)
  semicolon ← mark_by kind.Semicolon (counted depth 0)
  Done (MakePool pool pool_size object name semicolon)

-- target = NAME "." NAME { "." NAME }
abbrev pub target_by : ℕ → Within TargetTree
target_by size depth = do
  first ← name_by (counted depth 0)
  second ← dot_name_by depth
  rest ← list_by (is_at kind.Dot) (dot_name_by depth) size
  Done (MakeTarget first second rest)

-- "," target
abbrev pub next_target_by : ℕ → Within NextTargetTree
next_target_by size depth = do
  comma ← mark_by kind.Comma (counted depth 0)
  target ← target_by size depth
  Done (MakeNextTarget comma target)

abbrev pub all_targets_by : Within TargetsTree
all_targets_by depth = followed_by (mark_by kind.Star (counted depth 0)) (λ place. Done (TargetsAll place))

abbrev pub several_targets_by : ℕ → Within TargetsTree
several_targets_by size depth = do
  left_brace ← mark_by kind.LeftBrace (counted depth 0)
  first ← target_by size depth
  rest ← list_by (is_at kind.Comma) (next_target_by size depth) size
  right_brace ← mark_by kind.RightBrace (counted depth 0)
  Done (TargetsSeveral left_brace first rest right_brace)

abbrev pub one_target_by : ℕ → Within TargetsTree
one_target_by size depth = followed_by (target_by size depth) (λ target. Done (TargetsOne target))

-- "*" | target | "{" target {"," target} "}"
abbrev pub targets_by : ℕ → Within TargetsTree
targets_by size depth = if_mark kind.Star (all_targets_by depth) (if_mark kind.LeftBrace (several_targets_by size depth) (one_target_by size depth))

-- poolbind = "bind" NAME ( "*" | target | "{" target {"," target} "}" ) ";"
abbrev pub pool_bind_by : ℕ → Within PoolBindTree
pool_bind_by size depth = do
  bind ← mark_by kind.Bind (counted depth 0)
  pool ← name_by (counted depth 0)
  targets ← targets_by size depth
  semicolon ← mark_by kind.Semicolon (counted depth 0)
  Done (MakePoolBind bind pool targets semicolon)
