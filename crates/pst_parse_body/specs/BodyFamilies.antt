-- The parsers of bodies for each size: each function of the program has one of these.
use Rattle.std.specs.Prelude.{ℕ, suc, List, Option, map}
use Rattle.std.specs.Option.{option_map}
use Rattle.std.specs.Global.{Box, Vec}
use Rattle.pst_token.specs.declared.kind.Kind.TheVariants as kind
use Rattle.pst_ast.specs.declared.leaf.Name.{Name}
use Rattle.pst_ast.specs.declared.body.ArgumentsNode.{ArgumentsNode}
use Rattle.pst_ast.specs.declared.body.ValueNode.{ValueNode}
use Rattle.pst_ast.specs.declared.body.BodyStatement.{BodyStatement}
use Rattle.pst_ast.specs.BodyTree.{BodyTree, BodyStatementTree, ValueTree, SourceTree, CallTree, ArgumentsTree}
use Rattle.pst_ast.specs.BodyView.{view_arguments, view_boxed_value, view_body_statement}
use Rattle.pst_reading.specs.Gives.{Family}
use Rattle.pst_reading.specs.Lists.{listed}
use Rattle.pst_parse_expr.specs.Constraints.{outermost_at, is_other}
use Rattle.pst_parse_body.specs.Bodies.{arguments_by, call_tail, source_by, value_by, maybe_value_by, local_by, named_by, if_by, loop_by, block_by, statement_by, statement_at, body_at}

abbrev pub arguments_family : ℕ → Family (Option ArgumentsTree)
arguments_family depth size prefixes = arguments_by (outermost_at (suc size)) size depth

abbrev pub call_family : ℕ → Name → Family CallTree
call_family depth name size prefixes = call_tail (outermost_at (suc size)) size depth name

abbrev pub source_family : ℕ → Family SourceTree
source_family depth size prefixes = source_by (outermost_at (suc size)) size depth

abbrev pub value_family : ℕ → Family ValueTree
value_family depth size prefixes = value_by (outermost_at (suc size)) size depth

abbrev pub maybe_value_family : ℕ → Family (Option ValueTree)
maybe_value_family depth size prefixes = maybe_value_by (outermost_at (suc size)) size depth

abbrev pub local_family : ℕ → Family BodyStatementTree
local_family depth size prefixes = local_by (outermost_at (suc size)) size depth

abbrev pub named_family : ℕ → Family BodyStatementTree
named_family depth size prefixes = named_by (outermost_at (suc size)) size depth

abbrev pub block_family : ℕ → Family BodyStatementTree
block_family depth size prefixes = block_by (statement_at size) size depth

abbrev pub if_family : ℕ → Family BodyStatementTree
if_family depth size prefixes = if_by (outermost_at (suc size)) (statement_at size) depth

abbrev pub loop_family : ℕ → Family BodyStatementTree
loop_family depth size prefixes = loop_by (outermost_at (suc size)) (statement_at size) depth

-- depth derivations are open at its tokens
abbrev pub statement_family : ℕ → Family BodyStatementTree
statement_family depth size prefixes = statement_by (outermost_at (suc size)) (statement_at size) size depth

-- depth derivations are open round each
abbrev pub nested_family : ℕ → Family BodyStatementTree
nested_family depth size prefixes = statement_at size depth

abbrev pub statements_family : ℕ → Family (List BodyStatementTree)
statements_family depth = listed (is_other kind.RightBrace) (nested_family depth)

abbrev pub body_family : ℕ → Family BodyTree
body_family depth size prefixes = body_at size depth

-- what the program has, without where it lies in memory
abbrev pub view_arguments_option : Option ArgumentsNode → Option ArgumentsTree
view_arguments_option arguments = option_map view_arguments arguments

abbrev pub view_value_option : Option (Box ValueNode) → Option ValueTree
view_value_option value = option_map view_boxed_value value

abbrev pub view_statements : Vec BodyStatement → List BodyStatementTree
view_statements v = map view_body_statement v.items
