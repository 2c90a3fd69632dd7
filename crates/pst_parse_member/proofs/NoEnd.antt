-- No type, member, enum, function, pool or bind of a pool has the token `End` in it.
use Rattle.pst_ast.specs.DeclarationSpelling.{spell_next_field, spell_field, spell_reference, spell_claim, spell_members, spell_enum_value, spell_enum_item, spell_next_enum_item, spell_enum, spell_answer, spell_parameter, spell_next_parameter, spell_parameters, spell_function, spell_size, spell_pool, spell_target, spell_next_target, spell_targets, spell_pool_bind}
use Rattle.pst_ast.specs.DeclarationTree.{NextFieldTree, FieldTree, ReferenceTree, ClaimTree, MembersTree, EnumValueTree, EnumItemTree, NextEnumItemTree, EnumTree, AnswerTree, ParameterTree, NextParameterTree, ParametersTree, FunctionTree, SizeTree, PoolTree, TargetTree, NextTargetTree, TargetsTree, PoolBindTree, MakeNextField, MakeField, MakeReference, MakeClaim, MakeMembers, MakeEnumValue, MakeEnumItem, MakeNextEnumItem, MakeEnum, AnswerVoid, AnswerPlain, MakeParameter, MakeNextParameter, MakeParameters, MakeFunction, MakeSize, MakePool, MakeTarget, MakeNextTarget, TargetsAll, TargetsOne, TargetsSeveral, MakePoolBind}
use Rattle.pst_ast.specs.ExpressionSpelling.{spell_expr, spell_part, spell_ranges}
use Rattle.pst_ast.specs.Marks.{mark, spell_option, claim_word_kind, reference_word_kind}
use Rattle.pst_ast.specs.SharedSpelling.{spell_dot_name, spell_names, spell_type_name, spell_plain, spell_domain, spell_type}
use Rattle.pst_ast.specs.SharedTree.{DomainTree, TypeTree, MakeDomain, TypePlain, TypeNamed}
use Rattle.pst_ast.specs.declared.declaration.ClaimWord.TheVariants as the_claim_word
use Rattle.pst_ast.specs.declared.declaration.ClaimWord.{ClaimWord}
use Rattle.pst_ast.specs.declared.declaration.ReferenceWord.TheVariants as the_reference_word
use Rattle.pst_ast.specs.declared.declaration.ReferenceWord.{ReferenceWord}
use Rattle.pst_ast.specs.declared.shared.DotName.{DotName}
use Rattle.pst_parse_operator.proofs.NoEnd.{expr_free, part_free, ranges_free}
use Rattle.pst_reading.proofs.Whole.{NoEnd, both_free}
use Rattle.pst_token.specs.declared.kind.Kind.TheVariants as kind
use Rattle.std.proofs.Common.{◌≢◌, [], ◌∷◌}
use Rattle.std.specs.List.{flat_map}
use Rattle.pst_parse_part.proofs.NoEnd.{free_option, free_list, type_name_free, plain_free, names_free}

domain_free : (x : DomainTree) → NoEnd (spell_domain x)
domain_free (MakeDomain in_place left_bracket ranges right_bracket) = (λ e. cc, (λ e. cc, both_free (spell_ranges ranges) _ (ranges_free ranges) (λ e. cc, tt)))

type_free : (x : TypeTree) → NoEnd (spell_type x)
type_free (TypePlain plain domain) = both_free (spell_plain plain) _ (plain_free plain) (free_option spell_domain (λ x. domain_free x) domain)
type_free (TypeNamed name domain) = both_free (spell_type_name name) _ (type_name_free name) (free_option spell_domain (λ x. domain_free x) domain)

next_field_free : (x : NextFieldTree) → NoEnd (spell_next_field x)
next_field_free (MakeNextField comma part) = (λ e. cc, (part_free part))

pub field_free : (x : FieldTree) → NoEnd (spell_field x)
field_free (MakeField rand field_type first rest semicolon) = (λ e. cc, both_free (spell_type field_type) _ (type_free field_type) (both_free (spell_part first) _ (part_free first) (both_free (flat_map spell_next_field rest) _ (free_list spell_next_field (λ x. (next_field_free x)) rest) (λ e. cc, tt))))

pub members_free : (x : MembersTree) → NoEnd (spell_members x)
members_free (MakeMembers member_type names semicolon) = both_free (spell_type_name member_type) _ (type_name_free member_type) (both_free (spell_names names) _ (names_free names) (λ e. cc, tt))

reference_word_free : (w : ReferenceWord) → reference_word_kind w ≢ kind.End
reference_word_free the_reference_word.Input e = absurd cc
reference_word_free the_reference_word.Output e = absurd cc

pub reference_free : (x : ReferenceTree) → NoEnd (spell_reference x)
reference_free (MakeReference word place object names semicolon) = (reference_word_free word, both_free (spell_type_name object) _ (type_name_free object) (both_free (spell_names names) _ (names_free names) (λ e. cc, tt)))

claim_word_free : (w : ClaimWord) → claim_word_kind w ≢ kind.End
claim_word_free the_claim_word.Lock e = absurd cc
claim_word_free the_claim_word.Share e = absurd cc

pub claim_free : (x : ClaimTree) → NoEnd (spell_claim x)
claim_free (MakeClaim word place object names semicolon) = (claim_word_free word, both_free (spell_type_name object) _ (type_name_free object) (both_free (spell_names names) _ (names_free names) (λ e. cc, tt)))

enum_value_free : (x : EnumValueTree) → NoEnd (spell_enum_value x)
enum_value_free (MakeEnumValue equal expr) = (λ e. cc, (expr_free expr))

enum_item_free : (x : EnumItemTree) → NoEnd (spell_enum_item x)
enum_item_free (MakeEnumItem name value) = (λ e. cc, (free_option spell_enum_value (λ x. (enum_value_free x)) value))

next_enum_item_free : (x : NextEnumItemTree) → NoEnd (spell_next_enum_item x)
next_enum_item_free (MakeNextEnumItem comma item) = (λ e. cc, (enum_item_free item))

pub enum_free : (x : EnumTree) → NoEnd (spell_enum x)
enum_free (MakeEnum enum_place name left_brace first rest right_brace) = (λ e. cc, (λ e. cc, (λ e. cc, both_free (spell_enum_item first) _ (enum_item_free first) (both_free (flat_map spell_next_enum_item rest) _ (free_list spell_next_enum_item (λ x. (next_enum_item_free x)) rest) (λ e. cc, tt)))))

answer_free : (x : AnswerTree) → NoEnd (spell_answer x)
answer_free (AnswerVoid place) = (λ e. cc, tt)
answer_free (AnswerPlain plain) = plain_free plain

parameter_free : (x : ParameterTree) → NoEnd (spell_parameter x)
parameter_free (MakeParameter input plain name) = both_free (spell_option (λ p. mark kind.Input p ∷ []) input) _ (free_option (λ p. mark kind.Input p ∷ []) (λ x. (λ e. cc, tt)) input) (both_free (spell_plain plain) _ (plain_free plain) (λ e. cc, tt))

next_parameter_free : (x : NextParameterTree) → NoEnd (spell_next_parameter x)
next_parameter_free (MakeNextParameter comma parameter) = (λ e. cc, (parameter_free parameter))

parameters_free : (x : ParametersTree) → NoEnd (spell_parameters x)
parameters_free (MakeParameters first rest) = both_free (spell_parameter first) _ (parameter_free first) (free_list spell_next_parameter (λ x. (next_parameter_free x)) rest)

pub function_free : (x : FunctionTree) → NoEnd (spell_function x)
function_free (MakeFunction import_place target function answer name left_parenthesis parameters right_parenthesis semicolon) = (λ e. cc, both_free (spell_option (λ p. mark kind.Target p ∷ []) target) _ (free_option (λ p. mark kind.Target p ∷ []) (λ x. (λ e. cc, tt)) target) (λ e. cc, both_free (spell_answer answer) _ (answer_free answer) (λ e. cc, (λ e. cc, both_free (spell_option spell_parameters parameters) _ (free_option spell_parameters (λ x. (parameters_free x)) parameters) (λ e. cc, (λ e. cc, tt))))))

size_free : (x : SizeTree) → NoEnd (spell_size x)
size_free (MakeSize left_bracket expr right_bracket) = (λ e. cc, both_free (spell_expr expr) _ (expr_free expr) (λ e. cc, tt))

pub pool_free : (x : PoolTree) → NoEnd (spell_pool x)
pool_free (MakePool pool pool_size object name semicolon) = (λ e. cc, both_free (spell_option spell_size pool_size) _ (free_option spell_size (λ x. (size_free x)) pool_size) (both_free (spell_type_name object) _ (type_name_free object) (λ e. cc, (λ e. cc, tt))))

dot_name_free : (x : DotName) → NoEnd (spell_dot_name x)
dot_name_free x = (λ e. cc, (λ e. cc, tt))

target_free : (x : TargetTree) → NoEnd (spell_target x)
target_free (MakeTarget first second rest) = (λ e. cc, both_free (spell_dot_name second) _ (dot_name_free second) (free_list spell_dot_name (λ x. (dot_name_free x)) rest))

next_target_free : (x : NextTargetTree) → NoEnd (spell_next_target x)
next_target_free (MakeNextTarget comma target) = (λ e. cc, (target_free target))

targets_free : (x : TargetsTree) → NoEnd (spell_targets x)
targets_free (TargetsAll place) = (λ e. cc, tt)
targets_free (TargetsOne target) = target_free target
targets_free (TargetsSeveral left_brace first rest right_brace) = (λ e. cc, both_free (spell_target first) _ (target_free first) (both_free (flat_map spell_next_target rest) _ (free_list spell_next_target (λ x. next_target_free x) rest) (λ e. cc, tt)))

pub pool_bind_free : (x : PoolBindTree) → NoEnd (spell_pool_bind x)
pool_bind_free (MakePoolBind bind pool targets semicolon) = (λ e. cc, (λ e. cc, both_free (spell_targets targets) _ (targets_free targets) (λ e. cc, tt)))
