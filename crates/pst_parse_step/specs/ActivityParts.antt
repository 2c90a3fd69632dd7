-- Parts of activities, parsed from left to right: depth derivations that count are open at the tokens of a part itself.
use Rattle.std.specs.Prelude.{ℕ, if◌then◌else◌, Bool, ◌||◌, ◌∷◌, Option}
use Rattle.pst_token.specs.declared.kind.Kind.TheVariants as kind
use Rattle.pst_token.specs.declared.token.Token.{Token}
use Rattle.pst_ast.specs.declared.activity.EndNode.{EndNode}
use Rattle.pst_ast.specs.declared.activity.NextEnd.{NextEnd}
use Rattle.pst_ast.specs.Limits.{counted}
use Rattle.pst_ast.specs.ExpressionTree.{ExprTree}
use Rattle.pst_ast.specs.ConstraintTree.{ConstraintTree}
use Rattle.pst_ast.specs.ActivityTree.{CoreTree, CoreDo, CoreHandle, CoreBind, GuardTree, GuardCondition, GuardWeight, WeightTree, MakeWeight, ArmLabelTree, ArmLabelRanges, ArmLabelDefault, JoinTree, JoinBranch, JoinNothing, JoinSelect, WithTree, WithNothing, WithSet, BindTree, MakeBind, OtherEndsTree, OtherEndsOne, OtherEndsSeveral}
use Rattle.pst_reading.specs.Kinds.{is_mark, next_is}
use Rattle.pst_reading.specs.Parser.{Done, ◌>>=◌, mark_by, name_by, if_mark}
use Rattle.pst_reading.specs.Lists.{list_by}
use Rattle.pst_reading.specs.Options.{option_by}
use Rattle.pst_parse_expr.specs.Constraints.{Within, is_at}
use Rattle.pst_parse_part.specs.Ranges.{ranges_by}
use Rattle.pst_parse_part.specs.Names.{type_name_by, names_by}

-- ---- bind

-- end = NAME "." NAME
abbrev pub end_by : Within EndNode
end_by depth = do
  handle ← name_by (counted depth 0)
  dot ← mark_by kind.Dot (counted depth 0)
  name ← name_by (counted depth 0)
  Done (record { handle = handle; dot = dot; name = name })

-- "," end
abbrev pub next_end_by : Within NextEnd
next_end_by depth = do
  comma ← mark_by kind.Comma (counted depth 0)
  end ← end_by depth
  Done (record { comma = comma; end = end })

abbrev pub one_end_by : Within OtherEndsTree
one_end_by depth = do
  end ← end_by depth
  Done (OtherEndsOne end)

-- "{" end { "," end } "}"
abbrev pub several_ends_by : ℕ → Within OtherEndsTree
several_ends_by turns depth = do
  left_brace ← mark_by kind.LeftBrace (counted depth 0)
  first ← end_by depth
  rest ← list_by (is_at kind.Comma) (next_end_by depth) turns
  right_brace ← mark_by kind.RightBrace (counted depth 0)
  Done (OtherEndsSeveral left_brace first rest right_brace)

abbrev pub other_ends_by : ℕ → Within OtherEndsTree
other_ends_by turns depth = if_mark kind.LeftBrace (several_ends_by turns depth) (one_end_by depth)

-- "bind" end ( end | "{" end { "," end } "}" ) ";"
abbrev pub bind_by : ℕ → Within BindTree
bind_by turns depth = do
  bind_place ← mark_by kind.Bind (counted depth 0)
  first ← end_by depth
  others ← other_ends_by turns depth
  semicolon ← mark_by kind.Semicolon (counted depth 0)
  Done (MakeBind bind_place first others semicolon)

-- ---- join forms

-- "join_branch" "(" NAME { "," NAME } ")"
abbrev pub branch_join_by : ℕ → Within JoinTree
branch_join_by turns depth = do
  join_branch ← mark_by kind.JoinBranch (counted depth 0)
  left_parenthesis ← mark_by kind.LeftParenthesis (counted depth 0)
  names ← names_by turns depth
  right_parenthesis ← mark_by kind.RightParenthesis (counted depth 0)
  Done (JoinBranch join_branch left_parenthesis names right_parenthesis)

-- "join_none"
abbrev pub nothing_join_by : Within JoinTree
nothing_join_by depth = do
  place ← mark_by kind.JoinNone (counted depth 0)
  Done (JoinNothing place)

-- "join_select" "(" expr ")"
abbrev pub select_join_by : Within ExprTree → Within JoinTree
select_join_by expr depth = do
  join_select ← mark_by kind.JoinSelect (counted depth 0)
  left_parenthesis ← mark_by kind.LeftParenthesis (counted depth 0)
  count ← expr depth
  right_parenthesis ← mark_by kind.RightParenthesis (counted depth 0)
  Done (JoinSelect join_select left_parenthesis count right_parenthesis)

abbrev pub join_by : Within ExprTree → ℕ → Within JoinTree
join_by expr turns depth = if_mark kind.JoinBranch (branch_join_by turns depth) (if_mark kind.JoinNone (nothing_join_by depth) (select_join_by expr depth))

unfoldable pub begins_join : Option Token → Bool
begins_join next = next_is (is_mark kind.JoinBranch) next || (next_is (is_mark kind.JoinNone) next || next_is (is_mark kind.JoinSelect) next)

-- ---- what stands before the statement of a branch

-- "[" expr "]"
abbrev pub weight_by : Within ExprTree → Within WeightTree
weight_by expr depth = do
  left_bracket ← mark_by kind.LeftBracket (counted depth 0)
  weight ← expr depth
  right_bracket ← mark_by kind.RightBracket (counted depth 0)
  Done (MakeWeight left_bracket weight right_bracket)

-- "(" expr ")" [ "[" expr "]" ] ":"
abbrev pub condition_guard_by : Within ExprTree → Within GuardTree
condition_guard_by expr depth = do
  left_parenthesis ← mark_by kind.LeftParenthesis (counted depth 0)
  condition ← expr depth
  right_parenthesis ← mark_by kind.RightParenthesis (counted depth 0)
  weight ← option_by (is_at kind.LeftBracket) (weight_by expr depth)
  colon ← mark_by kind.Colon (counted depth 0)
  Done (GuardCondition left_parenthesis condition right_parenthesis weight colon)

-- "[" expr "]" ":"
abbrev pub weight_guard_by : Within ExprTree → Within GuardTree
weight_guard_by expr depth = do
  weight ← weight_by expr depth
  colon ← mark_by kind.Colon (counted depth 0)
  Done (GuardWeight weight colon)

abbrev pub guard_by : Within ExprTree → Within GuardTree
guard_by expr depth = if_mark kind.LeftParenthesis (condition_guard_by expr depth) (weight_guard_by expr depth)

unfoldable pub begins_guard : Option Token → Bool
begins_guard next = next_is (is_mark kind.LeftParenthesis) next || next_is (is_mark kind.LeftBracket) next

-- ---- what stands before the statement of an arm

-- "[" ranges "]"
abbrev pub ranges_label_by : ℕ → Within ArmLabelTree
ranges_label_by turns depth = do
  left_bracket ← mark_by kind.LeftBracket (counted depth 0)
  ranges ← ranges_by turns depth
  right_bracket ← mark_by kind.RightBracket (counted depth 0)
  Done (ArmLabelRanges left_bracket ranges right_bracket)

-- "default"
abbrev pub default_label_by : Within ArmLabelTree
default_label_by depth = do
  place ← mark_by kind.Default (counted depth 0)
  Done (ArmLabelDefault place)

abbrev pub arm_label_by : ℕ → Within ArmLabelTree
arm_label_by turns depth = if_mark kind.LeftBracket (ranges_label_by turns depth) (default_label_by depth)

-- ---- traversals

-- "with" set
abbrev pub with_set_by : Within ConstraintTree → Within WithTree
with_set_by set depth = do
  with_place ← mark_by kind.With (counted depth 0)
  constraints ← set depth
  Done (WithSet with_place constraints)

-- ";"
abbrev pub with_nothing_by : Within WithTree
with_nothing_by depth = do
  place ← mark_by kind.Semicolon (counted depth 0)
  Done (WithNothing place)

-- with = ";" | "with" set
abbrev pub with_by : Within ConstraintTree → Within WithTree
with_by set depth = if_mark kind.With (with_set_by set depth) (with_nothing_by depth)

-- "do" tname with
abbrev pub do_by : Within ConstraintTree → Within CoreTree
do_by set depth = do
  do_place ← mark_by kind.Do (counted depth 0)
  name ← type_name_by depth
  with_part ← with_by set depth
  Done (CoreDo do_place name with_part)

-- NAME with
abbrev pub handle_by : Within ConstraintTree → Within CoreTree
handle_by set depth = do
  name ← name_by (counted depth 0)
  with_part ← with_by set depth
  Done (CoreHandle name with_part)

abbrev pub bound_by : ℕ → Within CoreTree
bound_by turns depth = do
  bind ← bind_by turns depth
  Done (CoreBind bind)
