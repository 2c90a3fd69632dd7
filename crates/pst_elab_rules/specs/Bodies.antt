-- What bodies become.
use Rattle.std.specs.Prelude.{ℕ, ◌+◌, List, [], ◌∷◌, ◌++◌, map, Option, Some}
use Rattle.std.specs.List.{filter}
use Rattle.std.specs.Option.{option_map}
use Rattle.pst_ast.specs.declared.leaf.Name.{Name}
use Rattle.pst_ast.specs.BodyTree.{CallTree, MakeCall, SourceTree, SourceCall, SourceExpr, ValueTree, MakeValue, BodyStatementTree, BodyStatementEmpty, BodyStatementLocal, BodyStatementAssign, BodyStatementCall, BodyStatementBlock, BodyStatementIf, BodyStatementIfElse, BodyStatementRepeat, BodyStatementRow, NoBodyStatementRow, MoreBodyStatementRow, BodyTree, MakeBody}
use Rattle.pst_model.specs.ConstraintTree.{ConstraintTree}
use Rattle.pst_model.specs.BodyTree as body
use Rattle.pst_ast.specs.declared.scope_declaration.Declaration.{Declaration}
use Rattle.pst_ast.specs.declared.referent.Referent.{Referent}
use Rattle.pst_ast.specs.declared.referent.Referent.TheVariants.{Declared}
use Rattle.pst_ast.specs.Declarations.{in_body}
use Rattle.pst_ast.specs.Lookups.{type_here, stands_for}
use Rattle.pst_ast.specs.Uses.{arguments_of, behind_statement}
use Rattle.pst_type_rules.specs.Limits.{is_local}
use Rattle.pst_tree.specs.Bases.{number_in, function_number}
use Rattle.pst_terms.specs.Sources.{Sources, declared_in}
use Rattle.pst_terms.specs.Readings.{Setting, expression_of}
use Rattle.pst_elab_rules.specs.Spans.{plain_span}
use Rattle.pst_elab_rules.specs.Steps.{or_zero, turn_setting}

-- ---- calls and values

abbrev pub called : CallTree → Name
called (MakeCall name left arguments right) = name

-- the number of the function that is called
abbrev pub function_called : Sources → Setting → CallTree → ℕ
function_called s setting call = or_zero (option_map (function_number (declared_in s)) (type_here (declared_in s) setting.at.component (called call).id))

abbrev pub arguments_in : Sources → Setting → CallTree → List ConstraintTree
arguments_in s setting (MakeCall name left arguments right) = map (expression_of s setting) (arguments_of arguments)

abbrev pub source_of : Sources → Setting → SourceTree → body.SourceTree
source_of s setting (SourceCall call) = body.Answer (function_called s setting call) (arguments_in s setting call)
source_of s setting (SourceExpr expr) = body.Value (expression_of s setting expr)

abbrev pub value_source : Sources → Setting → ValueTree → body.SourceTree
value_source s setting (MakeValue equal source) = source_of s setting source

-- ---- locals

abbrev pub local_in : Setting → Option Referent → ℕ
local_in setting (Some (Declared d)) = number_in setting.locals d
local_in setting _ = 0

-- the number of the local that a name stands for
abbrev pub local_of : Sources → Setting → Name → ℕ
local_of s setting name = local_in setting (stands_for (declared_in s) s.names setting.at name.id)

-- a local's scope begins behind its declaration
abbrev pub behind : Setting → BodyStatementTree → Setting
behind setting statement = record setting { at = behind_statement setting.at statement }

abbrev pub declare : Sources → Setting → BodyStatementTree → body.BodyRow
declare s setting (BodyStatementLocal plain name value semicolon) =
    body.MoreBody (body.Declare (local_of s (behind setting (BodyStatementLocal plain name value semicolon)) name) (plain_span s plain) (option_map (value_source s setting) value)) body.NoBody
declare s setting _ = body.NoBody

-- ---- statements, with the number of repetitions round them

abbrev pub joined_rows : body.BodyRow → body.BodyRow → body.BodyRow
joined_rows body.NoBody row = row
joined_rows (body.MoreBody head tail) row = body.MoreBody head (joined_rows tail row)

abbrev pub one_statement : body.BodyStepTree → body.BodyRow
one_statement step = body.MoreBody step body.NoBody

-- a block stands as its statements
abbrev mutual
  pub statement_row : Sources → Setting → ℕ → BodyStatementTree → body.BodyRow
  statement_row s setting level (BodyStatementEmpty place) = body.NoBody
  statement_row s setting level (BodyStatementLocal plain name value semicolon) = declare s setting (BodyStatementLocal plain name value semicolon)
  statement_row s setting level (BodyStatementAssign name equal source semicolon) = one_statement (body.Assign (local_of s setting name) (source_of s setting source))
  statement_row s setting level (BodyStatementCall call semicolon) = one_statement (body.Call (function_called s setting call) (arguments_in s setting call))
  statement_row s setting level (BodyStatementBlock left statements right) = statement_rows s setting level statements
  statement_row s setting level (BodyStatementIf word left condition right then_part) = one_statement (body.If (expression_of s setting condition) (statement_row s setting level then_part) body.NoBody)
  statement_row s setting level (BodyStatementIfElse word left condition right then_part else_place otherwise) =
      one_statement (body.If (expression_of s setting condition) (statement_row s setting level then_part) (statement_row s setting level otherwise))
  statement_row s setting level (BodyStatementRepeat word left index count right statement) =
      one_statement (body.Repeat (expression_of s setting count) (statement_row s (turn_setting setting level index) (level + 1) statement))

  pub statement_rows : Sources → Setting → ℕ → BodyStatementRow → body.BodyRow
  statement_rows s setting level NoBodyStatementRow = body.NoBody
  statement_rows s setting level (MoreBodyStatementRow head tail) = joined_rows (statement_row s setting level head) (statement_rows s (behind setting head) level tail)

abbrev pub statement_list : Sources → Setting → List BodyStatementTree → List body.BodyStepTree
statement_list s setting [] = []
statement_list s setting (head ∷ more) = body.body_of (statement_row s setting 0 head) ++ statement_list s (behind setting head) more

-- the locals of a body in the text of a type, in order of declaration
abbrev pub locals_in : Declaration → BodyTree → List Declaration
locals_in type tree = filter (λ d. is_local d.sort) (in_body type.name.place tree)

abbrev pub statements_in : BodyTree → List BodyStatementTree
statements_in (MakeBody exec_place word left statements right) = statements

-- the body of an action
abbrev pub body_steps : Sources → Setting → Declaration → BodyTree → List body.BodyStepTree
body_steps s setting action tree = statement_list s (record setting { locals = locals_in action tree }) (statements_in tree)
