-- The parsers of types, members, enums, functions and pools for each size: each function of the program has one of these.
use Rattle.pst_ast.specs.DeclarationTree.{NextFieldTree, FieldTree, ReferenceTree, ClaimTree, MembersTree, EnumValueTree, EnumItemTree, NextEnumItemTree, EnumTree, AnswerTree, ParameterTree, NextParameterTree, ParametersTree, FunctionTree, SizeTree, PoolTree, TargetTree, NextTargetTree, TargetsTree, PoolBindTree}
use Rattle.pst_ast.specs.DeclarationView.{view_parameters}
use Rattle.pst_ast.specs.ExpressionTree.{PartTree, MaybeIndex}
use Rattle.pst_ast.specs.SharedTree.{DomainTree, TypeTree}
use Rattle.pst_ast.specs.declared.declaration.ClaimWord.{ClaimWord}
use Rattle.pst_ast.specs.declared.declaration.ReferenceWord.{ReferenceWord}
use Rattle.pst_base.specs.declared.position.Place.{Place}
use Rattle.pst_parse_member.specs.Enums.{next_enum_item_by, enum_value_by, enum_by, answer_by, parameter_by, FunctionRestTree, function_rest_by, function_by, next_parameter_by, parameters_by, enum_item_by}
use Rattle.pst_parse_member.specs.Members.{claim_word_by, reference_by, members_by, reference_word_by, part_by, claim_by, next_field_by, field_by}
use Rattle.pst_parse_member.specs.Pools.{target_by, several_targets_by, next_target_by, targets_by, pool_by, pool_bind_by, size_by}
use Rattle.pst_parse_member.specs.Types.{named_type_by, domain_by, plain_type_by, type_by}
use Rattle.pst_parse_member.specs.declared.enums.FunctionRest.{FunctionRest}
use Rattle.pst_parse_operator.specs.Reading.{expr_at, maybe_index_by}
use Rattle.pst_reading.specs.Gives.{Family}
use Rattle.std.specs.Option.{option_map}
use Rattle.std.specs.Prelude.{ℕ, suc}

abbrev pub domain_family : ℕ → Family DomainTree
domain_family depth size prefixes = domain_by size depth

abbrev pub plain_type_family : ℕ → Family TypeTree
plain_type_family depth size prefixes = plain_type_by size depth

abbrev pub named_type_family : ℕ → Family TypeTree
named_type_family depth size prefixes = named_type_by size depth

abbrev pub type_family : ℕ → Family TypeTree
type_family depth size prefixes = type_by size depth

abbrev pub part_family : ℕ → Family PartTree
part_family depth size prefixes = part_by size depth

abbrev pub next_field_family : ℕ → Family NextFieldTree
next_field_family depth size prefixes = next_field_by size depth

abbrev pub field_family : ℕ → Family FieldTree
field_family depth size prefixes = field_by size depth

abbrev pub members_family : ℕ → Family MembersTree
members_family depth size prefixes = members_by size depth

abbrev pub reference_word_family : ℕ → Family (ReferenceWord × Place)
reference_word_family depth size prefixes = reference_word_by depth

abbrev pub reference_family : ℕ → Family ReferenceTree
reference_family depth size prefixes = reference_by size depth

abbrev pub claim_word_family : ℕ → Family (ClaimWord × Place)
claim_word_family depth size prefixes = claim_word_by depth

abbrev pub claim_family : ℕ → Family ClaimTree
claim_family depth size prefixes = claim_by size depth

abbrev pub enum_value_family : ℕ → Family EnumValueTree
enum_value_family depth size prefixes = enum_value_by size depth

abbrev pub enum_item_family : ℕ → Family EnumItemTree
enum_item_family depth size prefixes = enum_item_by size depth

abbrev pub next_enum_item_family : ℕ → Family NextEnumItemTree
next_enum_item_family depth size prefixes = next_enum_item_by size depth

abbrev pub enum_family : ℕ → Family EnumTree
enum_family depth size prefixes = enum_by size depth

abbrev pub answer_family : ℕ → Family AnswerTree
answer_family depth size prefixes = answer_by size depth

abbrev pub parameter_family : ℕ → Family ParameterTree
parameter_family depth size prefixes = parameter_by size depth

abbrev pub next_parameter_family : ℕ → Family NextParameterTree
next_parameter_family depth size prefixes = next_parameter_by size depth

abbrev pub parameters_family : ℕ → Family ParametersTree
parameters_family depth size prefixes = parameters_by size depth

abbrev pub function_rest_family : ℕ → Family FunctionRestTree
function_rest_family depth size prefixes = function_rest_by size depth

abbrev pub function_family : ℕ → Family FunctionTree
function_family depth size prefixes = function_by size depth

abbrev pub size_family : ℕ → Family SizeTree
size_family depth size prefixes = size_by size depth

abbrev pub pool_family : ℕ → Family PoolTree
pool_family depth size prefixes = pool_by size depth

abbrev pub target_family : ℕ → Family TargetTree
target_family depth size prefixes = target_by size depth

abbrev pub next_target_family : ℕ → Family NextTargetTree
next_target_family depth size prefixes = next_target_by size depth

abbrev pub several_targets_family : ℕ → Family TargetsTree
several_targets_family depth size prefixes = several_targets_by size depth

abbrev pub targets_family : ℕ → Family TargetsTree
targets_family depth size prefixes = targets_by size depth

abbrev pub pool_bind_family : ℕ → Family PoolBindTree
pool_bind_family depth size prefixes = pool_bind_by size depth

abbrev pub array_size_family : ℕ → Family MaybeIndex
array_size_family depth size prefixes = maybe_index_by (expr_at (suc size)) depth 0

abbrev pub view_function_rest : FunctionRest → FunctionRestTree
view_function_rest r = record {
  left_parenthesis = r.left_parenthesis;
  parameters = option_map view_parameters r.parameters;
  right_parenthesis = r.right_parenthesis;
  semicolon = r.semicolon;
}
