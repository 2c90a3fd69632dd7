-- Enums and functions, parsed from left to right.
use Rattle.pst_ast.specs.DeclarationTree.{EnumValueTree, EnumItemTree, NextEnumItemTree, EnumTree, AnswerTree, ParameterTree, NextParameterTree, ParametersTree, FunctionTree, MakeEnumValue, MakeEnumItem, MakeNextEnumItem, MakeEnum, AnswerVoid, AnswerPlain, MakeParameter, MakeNextParameter, MakeParameters, MakeFunction}
use Rattle.pst_ast.specs.Limits.{counted}
use Rattle.pst_base.specs.declared.position.Place.{Place}
use Rattle.pst_parse_part.specs.Plain.{plain_by}
use Rattle.pst_parse_expr.specs.Constraints.{Within, outermost_at, is_at, is_other}
use Rattle.pst_reading.specs.Lists.{list_by}
use Rattle.pst_reading.specs.Options.{option_by}
use Rattle.pst_reading.specs.Parser.{Done, followed_by, ◌>>=◌, mark_by, name_by, if_mark}
use Rattle.pst_token.specs.declared.kind.Kind.TheVariants as kind
use Rattle.std.specs.Prelude.{ℕ, suc, Option}

-- "=" expr
abbrev pub enum_value_by : ℕ → Within EnumValueTree
enum_value_by size depth = do
  equal ← mark_by kind.Equal (counted depth 0)
  expr ← outermost_at (suc size) depth
  Done (MakeEnumValue equal expr)

-- eitem = NAME [ "=" expr ]
abbrev pub enum_item_by : ℕ → Within EnumItemTree
enum_item_by size depth = do
  name ← name_by (counted depth 0)
  value ← option_by (is_at kind.Equal) (enum_value_by size depth)
  Done (MakeEnumItem name value)

-- "," eitem
abbrev pub next_enum_item_by : ℕ → Within NextEnumItemTree
next_enum_item_by size depth = do
  comma ← mark_by kind.Comma (counted depth 0)
  item ← enum_item_by size depth
  Done (MakeNextEnumItem comma item)

-- enum = "enum" NAME "{" eitem { "," eitem } "}"
abbrev pub enum_by : ℕ → Within EnumTree
enum_by size depth = do
  enum_place ← mark_by kind.Enum (counted depth 0)
  name ← name_by (counted depth 0)
  left_brace ← mark_by kind.LeftBrace (counted depth 0)
  first ← enum_item_by size depth
  rest ← list_by (is_at kind.Comma) (next_enum_item_by size depth) size
  right_brace ← mark_by kind.RightBrace (counted depth 0)
  Done (MakeEnum enum_place name left_brace first rest right_brace)

abbrev pub void_by : Within AnswerTree
void_by depth = followed_by (mark_by kind.Void (counted depth 0)) (λ place. Done (AnswerVoid place))

abbrev pub plain_answer_by : ℕ → Within AnswerTree
plain_answer_by size depth = followed_by (plain_by size depth) (λ plain. Done (AnswerPlain plain))

-- "void" | plain
abbrev pub answer_by : ℕ → Within AnswerTree
answer_by size depth = if_mark kind.Void (void_by depth) (plain_answer_by size depth)

-- param = ["input"] plain NAME
abbrev pub parameter_by : ℕ → Within ParameterTree
parameter_by size depth = do
  input ← option_by (is_at kind.Input) (mark_by kind.Input (counted depth 0))
  plain ← plain_by size depth
  name ← name_by (counted depth 0)
  Done (MakeParameter input plain name)

-- "," param
abbrev pub next_parameter_by : ℕ → Within NextParameterTree
next_parameter_by size depth = do
  comma ← mark_by kind.Comma (counted depth 0)
  parameter ← parameter_by size depth
  Done (MakeNextParameter comma parameter)

-- param { "," param }
abbrev pub parameters_by : ℕ → Within ParametersTree
parameters_by size depth = do
  first ← parameter_by size depth
  rest ← list_by (is_at kind.Comma) (next_parameter_by size depth) size
  Done (MakeParameters first rest)

-- what stands behind the name of a function
pub record FunctionRestTree : Type 0 where
  pub left_parenthesis : Place
  pub parameters : Option ParametersTree
  pub right_parenthesis : Place
  pub semicolon : Place

-- "(" [ param { "," param } ] ")" ";"
abbrev pub function_rest_by : ℕ → Within FunctionRestTree
function_rest_by size depth = do
  opening ← mark_by kind.LeftParenthesis (counted depth 0)
  listed ← option_by (is_other kind.RightParenthesis) (parameters_by size depth)
  closing ← mark_by kind.RightParenthesis (counted depth 0)
  ending ← mark_by kind.Semicolon (counted depth 0)
  Done (record { left_parenthesis = opening; parameters = listed; right_parenthesis = closing; semicolon = ending })

-- function = "import" ["target"] "function" ("void" | plain) NAME "(" [ param { "," param } ] ")" ";"
abbrev pub function_by : ℕ → Within FunctionTree
function_by size depth = do
  import_place ← mark_by kind.Import (counted depth 0)
  target ← option_by (is_at kind.Target) (mark_by kind.Target (counted depth 0))
  function ← mark_by kind.Function (counted depth 0)
  answer ← answer_by size depth
  name ← name_by (counted depth 0)
  rest ← function_rest_by size depth
  Done (MakeFunction import_place target function answer name rest.left_parenthesis rest.parameters rest.right_parenthesis rest.semicolon)
