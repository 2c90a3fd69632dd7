-- Constraints, parsed from left to right: depth derivations that count are open at the tokens of a part itself.
use Rattle.std.specs.Prelude.{ℕ, zero, suc, if◌then◌else◌, Bool, true, false, List, [], ◌∷◌, Option, ◌||◌, is_some}
use Rattle.pst_base.specs.declared.position.Place.{Place}
use Rattle.pst_token.specs.declared.kind.Kind.{Kind}
use Rattle.pst_token.specs.declared.kind.Kind.TheVariants as kind
use Rattle.pst_token.specs.declared.token.Token.{Token}
use Rattle.pst_ast.specs.declared.leaf.Name.{Name}
use Rattle.pst_ast.specs.declared.shared.DotName.{DotName}
use Rattle.pst_ast.specs.ExpressionTree.{ExprTree}
use Rattle.pst_ast.specs.SharedTree.{NextExprTree, MakeNextExpr}
use Rattle.pst_ast.specs.ConstraintTree.{ConstraintTree, ConstraintOne, ConstraintBlock, ConstraintItemTree, ConstraintItemEmpty, ConstraintItemExpr, ConstraintItemImplies, ConstraintItemIf, ConstraintItemIfElse, ConstraintItemUnique, ConstraintItemForeach, ConstraintItemRow, NoConstraintItemRow, MoreConstraintItemRow}
use Rattle.pst_ast.specs.ConstraintProper.{constraint_ends_open}
use Rattle.pst_ast.specs.Limits.{counted}
use Rattle.pst_reading.specs.Kinds.{is_mark, is_name, is_number, next_is}
use Rattle.pst_reading.specs.Parser.{Parser, Done, Spent, followed_by, mark_by, name_by, if_mark}
use Rattle.pst_reading.specs.Lists.{list_by}
use Rattle.pst_parse_operator.specs.Operators.{prefix_of}
use Rattle.pst_parse_operator.specs.Reading.{expr_at}

-- a parser for each number of open derivations
abbrev pub Within : Type 0 → Type 0
Within A = ℕ → Parser A

-- an outermost expression, within size
abbrev pub outermost_at : ℕ → Within ExprTree
outermost_at size depth = expr_at size depth 0

-- whether the next token begins an expression
unfoldable pub begins_expr : Option Token → Bool
begins_expr next = is_some (prefix_of next) || (next_is is_number next || (next_is (is_mark kind.LeftParenthesis) next || (next_is (is_mark kind.True) next || (next_is (is_mark kind.False) next || next_is is_name next))))

-- ---- parts that several rules have

-- the next token is this mark, or is another one
abbrev pub is_at : Kind → Option Token → Bool
is_at k next = next_is (is_mark k) next

abbrev pub is_other : Kind → Option Token → Bool
is_other k next = if next_is (is_mark k) next then false else true

-- the places of the brackets round an expression, and the expression
abbrev pub ConditionTree : Type 0
ConditionTree = Place × ExprTree × Place

abbrev pub condition_close : ℕ → Place → ExprTree → Parser ConditionTree
condition_close depth left expr = followed_by (mark_by kind.RightParenthesis (counted depth 0)) (λ right. Done (left, expr, right))

abbrev pub condition_inner : Within ExprTree → ℕ → Place → Parser ConditionTree
condition_inner expr depth left = followed_by (expr depth) (condition_close depth left)

-- "(" expr ")"
abbrev pub condition_by : Within ExprTree → Within ConditionTree
condition_by expr depth = followed_by (mark_by kind.LeftParenthesis (counted depth 0)) (condition_inner expr depth)

abbrev pub next_expr_inner : Within ExprTree → ℕ → Place → Parser NextExprTree
next_expr_inner expr depth comma = followed_by (expr depth) (λ e. Done (MakeNextExpr comma e))

-- "," expr
abbrev pub next_expr_by : Within ExprTree → Within NextExprTree
next_expr_by expr depth = followed_by (mark_by kind.Comma (counted depth 0)) (next_expr_inner expr depth)

abbrev pub next_exprs_by : Within ExprTree → ℕ → Within (List NextExprTree)
next_exprs_by expr turns depth = list_by (is_at kind.Comma) (next_expr_by expr depth) turns

abbrev pub dot_name_inner : ℕ → Place → Parser DotName
dot_name_inner depth dot = followed_by (name_by (counted depth 0)) (λ name. Done (record { dot = dot; name = name }))

-- "." NAME
abbrev pub dot_name_by : Within DotName
dot_name_by depth = followed_by (mark_by kind.Dot (counted depth 0)) (dot_name_inner depth)

abbrev pub dot_names_by : ℕ → Within (List DotName)
dot_names_by turns depth = list_by (is_at kind.Dot) (dot_name_by depth) turns

-- ---- expr ";" | expr "->" set

abbrev pub expr_end : ℕ → ExprTree → Parser ConstraintItemTree
expr_end depth expr = followed_by (mark_by kind.Semicolon (counted depth 0)) (λ semicolon. Done (ConstraintItemExpr expr semicolon))

abbrev pub implied_by : Within ConstraintTree → ℕ → ExprTree → Place → Parser ConstraintItemTree
implied_by set depth expr arrow = followed_by (set depth) (λ s. Done (ConstraintItemImplies expr arrow s))

abbrev pub implies_by : Within ConstraintTree → ℕ → ExprTree → Parser ConstraintItemTree
implies_by set depth expr = followed_by (mark_by kind.Arrow (counted depth 0)) (implied_by set depth expr)

abbrev pub behind_expr : Within ConstraintTree → ℕ → ExprTree → Parser ConstraintItemTree
behind_expr set depth expr = if_mark kind.Arrow (implies_by set depth expr) (expr_end depth expr)

abbrev pub expr_item_by : Within ExprTree → Within ConstraintTree → Within ConstraintItemTree
expr_item_by expr set depth = followed_by (expr depth) (behind_expr set depth)

-- ---- "if" "(" expr ")" set [ "else" set ]

abbrev pub otherwise_by : Within ConstraintTree → ℕ → Place → ConditionTree → ConstraintTree → Place → Parser ConstraintItemTree
otherwise_by set depth if_place c then_part else_place = followed_by (set depth) (λ otherwise. Done (ConstraintItemIfElse if_place c.0 c.1 c.2 then_part else_place otherwise))

abbrev pub else_by : Within ConstraintTree → ℕ → Place → ConditionTree → ConstraintTree → Parser ConstraintItemTree
else_by set depth if_place c then_part = followed_by (mark_by kind.Else (counted depth 0)) (otherwise_by set depth if_place c then_part)

-- a part that ends with an open `if` has taken every `else` behind it
abbrev pub maybe_else_by : Within ConstraintTree → ℕ → Place → ConditionTree → ConstraintTree → Bool → Parser ConstraintItemTree
maybe_else_by set depth if_place c then_part true = Done (ConstraintItemIf if_place c.0 c.1 c.2 then_part)
maybe_else_by set depth if_place c then_part false = if_mark kind.Else (else_by set depth if_place c then_part) (Done (ConstraintItemIf if_place c.0 c.1 c.2 then_part))

abbrev pub behind_then : Within ConstraintTree → ℕ → Place → ConditionTree → ConstraintTree → Parser ConstraintItemTree
behind_then set depth if_place c then_part = maybe_else_by set depth if_place c then_part (constraint_ends_open then_part)

abbrev pub then_by : Within ConstraintTree → ℕ → Place → ConditionTree → Parser ConstraintItemTree
then_by set depth if_place c = followed_by (set depth) (behind_then set depth if_place c)

abbrev pub if_condition_by : Within ExprTree → Within ConstraintTree → ℕ → Place → Parser ConstraintItemTree
if_condition_by expr set depth if_place = followed_by (condition_by expr depth) (then_by set depth if_place)

abbrev pub if_by : Within ExprTree → Within ConstraintTree → Within ConstraintItemTree
if_by expr set depth = followed_by (mark_by kind.If (counted depth 0)) (if_condition_by expr set depth)

-- ---- "unique" "{" expr { "," expr } "}" ";"

abbrev pub unique_end : ℕ → Place → Place → ExprTree → List NextExprTree → Place → Parser ConstraintItemTree
unique_end depth unique left first rest right = followed_by (mark_by kind.Semicolon (counted depth 0)) (λ semicolon. Done (ConstraintItemUnique unique left first rest right semicolon))

abbrev pub unique_close : ℕ → Place → Place → ExprTree → List NextExprTree → Parser ConstraintItemTree
unique_close depth unique left first rest = followed_by (mark_by kind.RightBrace (counted depth 0)) (unique_end depth unique left first rest)

abbrev pub unique_rest : Within ExprTree → ℕ → ℕ → Place → Place → ExprTree → Parser ConstraintItemTree
unique_rest expr turns depth unique left first = followed_by (next_exprs_by expr turns depth) (unique_close depth unique left first)

abbrev pub unique_first : Within ExprTree → ℕ → ℕ → Place → Place → Parser ConstraintItemTree
unique_first expr turns depth unique left = followed_by (expr depth) (unique_rest expr turns depth unique left)

abbrev pub unique_open : Within ExprTree → ℕ → ℕ → Place → Parser ConstraintItemTree
unique_open expr turns depth unique = followed_by (mark_by kind.LeftBrace (counted depth 0)) (unique_first expr turns depth unique)

abbrev pub unique_by : Within ExprTree → ℕ → Within ConstraintItemTree
unique_by expr turns depth = followed_by (mark_by kind.Unique (counted depth 0)) (unique_open expr turns depth)

-- ---- "foreach" "(" NAME { "." NAME } "[" NAME "]" ")" set

-- the places of "[", "]" and ")", and the name of the index
abbrev pub SubscriptTree : Type 0
SubscriptTree = Place × Name × Place × Place

abbrev pub subscript_end : ℕ → Place → Name → Place → Parser SubscriptTree
subscript_end depth left name right = followed_by (mark_by kind.RightParenthesis (counted depth 0)) (λ close. Done (left, name, right, close))

abbrev pub subscript_close : ℕ → Place → Name → Parser SubscriptTree
subscript_close depth left name = followed_by (mark_by kind.RightBracket (counted depth 0)) (subscript_end depth left name)

abbrev pub subscript_name : ℕ → Place → Parser SubscriptTree
subscript_name depth left = followed_by (name_by (counted depth 0)) (subscript_close depth left)

-- "[" NAME "]" ")"
abbrev pub subscript_by : Within SubscriptTree
subscript_by depth = followed_by (mark_by kind.LeftBracket (counted depth 0)) (subscript_name depth)

abbrev pub foreach_set : Within ConstraintTree → ℕ → Place → Place → Name → List DotName → SubscriptTree → Parser ConstraintItemTree
foreach_set set depth foreach left first rest index = followed_by (set depth) (λ s. Done (ConstraintItemForeach foreach left first rest index.0 index.1 index.2 index.3 s))

abbrev pub foreach_index : Within ConstraintTree → ℕ → Place → Place → Name → List DotName → Parser ConstraintItemTree
foreach_index set depth foreach left first rest = followed_by (subscript_by depth) (foreach_set set depth foreach left first rest)

abbrev pub foreach_rest : Within ConstraintTree → ℕ → ℕ → Place → Place → Name → Parser ConstraintItemTree
foreach_rest set turns depth foreach left first = followed_by (dot_names_by turns depth) (foreach_index set depth foreach left first)

abbrev pub foreach_first : Within ConstraintTree → ℕ → ℕ → Place → Place → Parser ConstraintItemTree
foreach_first set turns depth foreach left = followed_by (name_by (counted depth 0)) (foreach_rest set turns depth foreach left)

abbrev pub foreach_open : Within ConstraintTree → ℕ → ℕ → Place → Parser ConstraintItemTree
foreach_open set turns depth foreach = followed_by (mark_by kind.LeftParenthesis (counted depth 0)) (foreach_first set turns depth foreach)

abbrev pub foreach_by : Within ConstraintTree → ℕ → Within ConstraintItemTree
foreach_by set turns depth = followed_by (mark_by kind.Foreach (counted depth 0)) (foreach_open set turns depth)

-- ---- citem

abbrev pub empty_by : Within ConstraintItemTree
empty_by depth = followed_by (mark_by kind.Semicolon (counted depth 0)) (λ place. Done (ConstraintItemEmpty place))

abbrev pub item_by : Within ExprTree → Within ConstraintTree → ℕ → Within ConstraintItemTree
item_by expr set turns depth = if_mark kind.Semicolon (empty_by depth) (
    if_mark kind.If (if_by expr set depth) (
    if_mark kind.Unique (unique_by expr turns depth) (
    if_mark kind.Foreach (foreach_by set turns depth)
    (expr_item_by expr set depth))))

-- ---- set = citem | "{" { citem } "}"

abbrev pub item_row : List ConstraintItemTree → ConstraintItemRow
item_row [] = NoConstraintItemRow
item_row (item ∷ items) = MoreConstraintItemRow item (item_row items)

abbrev pub items_by : Within ExprTree → Within ConstraintTree → ℕ → Within (List ConstraintItemTree)
items_by expr set turns depth = list_by (is_other kind.RightBrace) (item_by expr set turns depth) turns

abbrev pub block_close : ℕ → Place → List ConstraintItemTree → Parser ConstraintTree
block_close depth left items = followed_by (mark_by kind.RightBrace (counted depth 0)) (λ right. Done (ConstraintBlock left (item_row items) right))

abbrev pub block_items : Within ExprTree → Within ConstraintTree → ℕ → ℕ → Place → Parser ConstraintTree
block_items expr set turns depth left = followed_by (items_by expr set turns (suc depth)) (block_close depth left)

abbrev pub block_by : Within ExprTree → Within ConstraintTree → ℕ → Within ConstraintTree
block_by expr set turns depth = followed_by (mark_by kind.LeftBrace (counted depth 0)) (block_items expr set turns depth)

-- each constraint is a derivation that counts
abbrev pub one_by : Within ExprTree → Within ConstraintTree → ℕ → Within ConstraintTree
one_by expr set turns depth = followed_by (item_by expr set turns (suc depth)) (λ item. Done (ConstraintOne item))

abbrev pub set_by : Within ExprTree → Within ConstraintTree → ℕ → Within ConstraintTree
set_by expr set turns depth = if_mark kind.LeftBrace (block_by expr set turns depth) (one_by expr set turns depth)

-- sets within one another, and turns of each loop, are fewer than size
unfoldable pub constraint_at : ℕ → Within ConstraintTree
constraint_at zero depth = Spent
constraint_at (suc size) depth = set_by (outermost_at (suc size)) (constraint_at size) size depth
