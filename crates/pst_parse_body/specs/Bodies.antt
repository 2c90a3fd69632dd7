-- Bodies, parsed from left to right: depth derivations that count are open at the tokens of a part itself.
use Rattle.std.specs.Prelude.{ℕ, zero, suc, if◌then◌else◌, Bool, true, false, List, [], ◌∷◌, Option, Some, None}
use Rattle.pst_base.specs.declared.position.Place.{Place}
use Rattle.pst_token.specs.declared.kind.Kind.TheVariants as kind
use Rattle.pst_ast.specs.declared.leaf.Name.{Name}
use Rattle.pst_ast.specs.ExpressionTree.{ExprTree}
use Rattle.pst_ast.specs.SharedTree.{PlainTree}
use Rattle.pst_ast.specs.BodyTree.{BodyTree, MakeBody, BodyStatementTree, BodyStatementEmpty, BodyStatementLocal, BodyStatementAssign, BodyStatementCall, BodyStatementBlock, BodyStatementIf, BodyStatementIfElse, BodyStatementRepeat, ValueTree, MakeValue, SourceTree, SourceCall, SourceExpr, CallTree, MakeCall, ArgumentsTree, MakeArguments, BodyStatementRow, NoBodyStatementRow, MoreBodyStatementRow}
use Rattle.pst_ast.specs.BodyProper.{body_ends_open}
use Rattle.pst_ast.specs.Limits.{counted}
use Rattle.pst_reading.specs.Parser.{Parser, Done, Spent, Look, followed_by, mark_by, name_by, if_mark}
use Rattle.pst_reading.specs.Lists.{list_by}
use Rattle.pst_reading.specs.Peeking.{if_name_then}
use Rattle.pst_parse_expr.specs.Constraints.{Within, outermost_at, is_other, ConditionTree, condition_by, next_exprs_by}
use Rattle.pst_parse_body.specs.Types.{begins_plain}
use Rattle.pst_parse_part.specs.Plain.{plain_by}
use Rattle.pst_parse_part.specs.Times.{TimesTree, times_by}

-- ---- call = NAME "(" [ expr { "," expr } ] ")"

abbrev pub arguments_rest : Within ExprTree → ℕ → ℕ → ExprTree → Parser (Option ArgumentsTree)
arguments_rest expr turns depth first = followed_by (next_exprs_by expr turns depth) (λ rest. Done (Some (MakeArguments first rest)))

abbrev pub some_arguments : Within ExprTree → ℕ → ℕ → Parser (Option ArgumentsTree)
some_arguments expr turns depth = followed_by (expr depth) (arguments_rest expr turns depth)

abbrev pub arguments_by : Within ExprTree → ℕ → ℕ → Parser (Option ArgumentsTree)
arguments_by expr turns depth = if_mark kind.RightParenthesis (Done None) (some_arguments expr turns depth)

abbrev pub call_close : ℕ → Name → Place → Option ArgumentsTree → Parser CallTree
call_close depth name left arguments = followed_by (mark_by kind.RightParenthesis (counted depth 0)) (λ right. Done (MakeCall name left arguments right))

abbrev pub call_arguments : Within ExprTree → ℕ → ℕ → Name → Place → Parser CallTree
call_arguments expr turns depth name left = followed_by (arguments_by expr turns depth) (call_close depth name left)

-- behind the name
abbrev pub call_tail : Within ExprTree → ℕ → ℕ → Name → Parser CallTree
call_tail expr turns depth name = followed_by (mark_by kind.LeftParenthesis (counted depth 0)) (call_arguments expr turns depth name)

abbrev pub call_by : Within ExprTree → ℕ → Within CallTree
call_by expr turns depth = followed_by (name_by (counted depth 0)) (call_tail expr turns depth)

-- ---- source = call | expr

abbrev pub source_call : Within ExprTree → ℕ → Within SourceTree
source_call expr turns depth = followed_by (call_by expr turns depth) (λ call. Done (SourceCall call))

abbrev pub source_expr : Within ExprTree → Within SourceTree
source_expr expr depth = followed_by (expr depth) (λ e. Done (SourceExpr e))

abbrev pub source_by : Within ExprTree → ℕ → Within SourceTree
source_by expr turns depth = if_name_then kind.LeftParenthesis (counted depth 0) (source_call expr turns depth) (source_expr expr depth)

abbrev pub value_source : Within ExprTree → ℕ → ℕ → Place → Parser ValueTree
value_source expr turns depth equal = followed_by (source_by expr turns depth) (λ source. Done (MakeValue equal source))

-- "=" source
abbrev pub value_by : Within ExprTree → ℕ → Within ValueTree
value_by expr turns depth = followed_by (mark_by kind.Equal (counted depth 0)) (value_source expr turns depth)

abbrev pub maybe_value_by : Within ExprTree → ℕ → Within (Option ValueTree)
maybe_value_by expr turns depth = if_mark kind.Equal (followed_by (value_by expr turns depth) (λ value. Done (Some value))) (Done None)

-- ---- plain NAME [ "=" source ] ";"

abbrev pub local_end : ℕ → PlainTree → Name → Option ValueTree → Parser BodyStatementTree
local_end depth plain name value = followed_by (mark_by kind.Semicolon (counted depth 0)) (λ semicolon. Done (BodyStatementLocal plain name value semicolon))

abbrev pub local_value : Within ExprTree → ℕ → ℕ → PlainTree → Name → Parser BodyStatementTree
local_value expr turns depth plain name = followed_by (maybe_value_by expr turns depth) (local_end depth plain name)

abbrev pub local_name : Within ExprTree → ℕ → ℕ → PlainTree → Parser BodyStatementTree
local_name expr turns depth plain = followed_by (name_by (counted depth 0)) (local_value expr turns depth plain)

abbrev pub local_by : Within ExprTree → ℕ → Within BodyStatementTree
local_by expr turns depth = followed_by (plain_by turns depth) (local_name expr turns depth)

-- ---- NAME "=" source ";" | call ";"

abbrev pub assigned : Name → ValueTree → Place → BodyStatementTree
assigned name (MakeValue equal source) semicolon = BodyStatementAssign name equal source semicolon

abbrev pub assign_end : ℕ → Name → ValueTree → Parser BodyStatementTree
assign_end depth name value = followed_by (mark_by kind.Semicolon (counted depth 0)) (λ semicolon. Done (assigned name value semicolon))

abbrev pub assign_by : Within ExprTree → ℕ → ℕ → Name → Parser BodyStatementTree
assign_by expr turns depth name = followed_by (value_by expr turns depth) (assign_end depth name)

abbrev pub call_end : ℕ → CallTree → Parser BodyStatementTree
call_end depth call = followed_by (mark_by kind.Semicolon (counted depth 0)) (λ semicolon. Done (BodyStatementCall call semicolon))

abbrev pub called_by : Within ExprTree → ℕ → ℕ → Name → Parser BodyStatementTree
called_by expr turns depth name = followed_by (call_tail expr turns depth name) (call_end depth)

abbrev pub behind_name : Within ExprTree → ℕ → ℕ → Name → Parser BodyStatementTree
behind_name expr turns depth name = if_mark kind.Equal (assign_by expr turns depth name) (called_by expr turns depth name)

abbrev pub named_by : Within ExprTree → ℕ → Within BodyStatementTree
named_by expr turns depth = followed_by (name_by (counted depth 0)) (behind_name expr turns depth)

-- ---- "if" "(" expr ")" bstmt [ "else" bstmt ]

abbrev pub otherwise_by : Within BodyStatementTree → ℕ → Place → ConditionTree → BodyStatementTree → Place → Parser BodyStatementTree
otherwise_by statement depth if_place c then_part else_place = followed_by (statement depth) (λ otherwise. Done (BodyStatementIfElse if_place c.0 c.1 c.2 then_part else_place otherwise))

abbrev pub else_by : Within BodyStatementTree → ℕ → Place → ConditionTree → BodyStatementTree → Parser BodyStatementTree
else_by statement depth if_place c then_part = followed_by (mark_by kind.Else (counted depth 0)) (otherwise_by statement depth if_place c then_part)

-- a part that ends with an open `if` has taken every `else` behind it
abbrev pub maybe_else_by : Within BodyStatementTree → ℕ → Place → ConditionTree → BodyStatementTree → Bool → Parser BodyStatementTree
maybe_else_by statement depth if_place c then_part true = Done (BodyStatementIf if_place c.0 c.1 c.2 then_part)
maybe_else_by statement depth if_place c then_part false = if_mark kind.Else (else_by statement depth if_place c then_part) (Done (BodyStatementIf if_place c.0 c.1 c.2 then_part))

abbrev pub behind_then : Within BodyStatementTree → ℕ → Place → ConditionTree → BodyStatementTree → Parser BodyStatementTree
behind_then statement depth if_place c then_part = maybe_else_by statement depth if_place c then_part (body_ends_open then_part)

abbrev pub then_by : Within BodyStatementTree → ℕ → Place → ConditionTree → Parser BodyStatementTree
then_by statement depth if_place c = followed_by (statement depth) (behind_then statement depth if_place c)

abbrev pub if_condition_by : Within ExprTree → Within BodyStatementTree → ℕ → Place → Parser BodyStatementTree
if_condition_by expr statement depth if_place = followed_by (condition_by expr depth) (then_by statement depth if_place)

abbrev pub if_by : Within ExprTree → Within BodyStatementTree → Within BodyStatementTree
if_by expr statement depth = followed_by (mark_by kind.If (counted depth 0)) (if_condition_by expr statement depth)

-- ---- "repeat" "(" [ NAME ":" ] expr ")" bstmt

abbrev pub repeated_by : Within BodyStatementTree → ℕ → Place → TimesTree → Parser BodyStatementTree
repeated_by statement depth place t = followed_by (statement depth) (λ s. Done (BodyStatementRepeat place t.0 t.1 t.2 t.3 s))

abbrev pub times_statement : Within ExprTree → Within BodyStatementTree → ℕ → Place → Parser BodyStatementTree
times_statement expr statement depth place = followed_by (times_by expr depth) (repeated_by statement depth place)

abbrev pub loop_by : Within ExprTree → Within BodyStatementTree → Within BodyStatementTree
loop_by expr statement depth = followed_by (mark_by kind.Repeat (counted depth 0)) (times_statement expr statement depth)

-- ---- "{" { bstmt } "}"

abbrev pub statement_row : List BodyStatementTree → BodyStatementRow
statement_row [] = NoBodyStatementRow
statement_row (s ∷ ss) = MoreBodyStatementRow s (statement_row ss)

abbrev pub statements_by : Within BodyStatementTree → ℕ → Within (List BodyStatementTree)
statements_by statement turns depth = list_by (is_other kind.RightBrace) (statement depth) turns

abbrev pub block_close : ℕ → Place → List BodyStatementTree → Parser BodyStatementTree
block_close depth left ss = followed_by (mark_by kind.RightBrace (counted depth 0)) (λ right. Done (BodyStatementBlock left (statement_row ss) right))

abbrev pub block_statements : Within BodyStatementTree → ℕ → ℕ → Place → Parser BodyStatementTree
block_statements statement turns depth left = followed_by (statements_by statement turns depth) (block_close depth left)

abbrev pub block_by : Within BodyStatementTree → ℕ → Within BodyStatementTree
block_by statement turns depth = followed_by (mark_by kind.LeftBrace (counted depth 0)) (block_statements statement turns depth)

-- ---- bstmt

abbrev pub empty_by : Within BodyStatementTree
empty_by depth = followed_by (mark_by kind.Semicolon (counted depth 0)) (λ place. Done (BodyStatementEmpty place))

abbrev pub local_or_named : Within ExprTree → ℕ → Within BodyStatementTree
local_or_named expr turns depth = Look (λ next. if begins_plain next then local_by expr turns depth else named_by expr turns depth)

abbrev pub statement_by : Within ExprTree → Within BodyStatementTree → ℕ → Within BodyStatementTree
statement_by expr statement turns depth = if_mark kind.Semicolon (empty_by depth) (
    if_mark kind.LeftBrace (block_by statement turns depth) (
    if_mark kind.If (if_by expr statement depth) (
    if_mark kind.Repeat (loop_by expr statement depth)
    (local_or_named expr turns depth))))

-- a statement with depth derivations open round it; statements within one another, and turns of each loop, are fewer than size
unfoldable pub statement_at : ℕ → Within BodyStatementTree
statement_at zero depth = Spent
statement_at (suc size) depth = statement_by (outermost_at (suc size)) (statement_at size) size (suc depth)

-- ---- body = "exec" "body" "{" { bstmt } "}"

abbrev pub body_close : ℕ → Place → Place → Place → List BodyStatementTree → Parser BodyTree
body_close depth exec body left ss = followed_by (mark_by kind.RightBrace (counted depth 0)) (λ right. Done (MakeBody exec body left ss right))

abbrev pub body_statements : Within BodyStatementTree → ℕ → ℕ → Place → Place → Place → Parser BodyTree
body_statements statement turns depth exec body left = followed_by (statements_by statement turns depth) (body_close depth exec body left)

abbrev pub body_open : Within BodyStatementTree → ℕ → ℕ → Place → Place → Parser BodyTree
body_open statement turns depth exec body = followed_by (mark_by kind.LeftBrace (counted depth 0)) (body_statements statement turns depth exec body)

abbrev pub body_word : Within BodyStatementTree → ℕ → ℕ → Place → Parser BodyTree
body_word statement turns depth exec = followed_by (mark_by kind.Body (counted depth 0)) (body_open statement turns depth exec)

abbrev pub body_by : Within BodyStatementTree → ℕ → Within BodyTree
body_by statement turns depth = followed_by (mark_by kind.Exec (counted depth 0)) (body_word statement turns depth)

-- within size
abbrev pub body_at : ℕ → Within BodyTree
body_at size depth = body_by (statement_at size) size depth
