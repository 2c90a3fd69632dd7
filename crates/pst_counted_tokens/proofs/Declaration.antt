-- Each token of a tree counts once: the trees of declaration.
use Rattle.std.proofs.Common.{◌≡◌, ℕ, suc, length, ap, refl, [], ◌∷◌, ◌++◌}
use Rattle.pst_ast.specs.DeclarationTree.{UnitTree, MakeUnit, ItemTree, ItemComponent, ItemObject, ItemEnum, ItemFunction, ItemEmpty, ComponentTree, MakeComponent, ComponentPartTree, ComponentPartAction, ComponentPartObject, ComponentPartEnum, ComponentPartFunction, ComponentPartPool, ComponentPartPoolBind, ComponentPartMembers, ComponentPartEmpty, ObjectTree, MakeObject, ObjectPartTree, ObjectPartField, ObjectPartConstraint, ObjectPartEmpty, EnumTree, MakeEnum, EnumItemTree, MakeEnumItem, EnumValueTree, MakeEnumValue, NextEnumItemTree, MakeNextEnumItem, FunctionTree, MakeFunction, AnswerTree, AnswerVoid, AnswerPlain, ParametersTree, MakeParameters, ParameterTree, MakeParameter, NextParameterTree, MakeNextParameter, PoolTree, MakePool, SizeTree, MakeSize, PoolBindTree, MakePoolBind, TargetsTree, TargetsAll, TargetsOne, TargetsSeveral, TargetTree, MakeTarget, NextTargetTree, MakeNextTarget, MembersTree, MakeMembers, ActionTree, MakeAction, ActionPartTree, ActionPartField, ActionPartReference, ActionPartClaim, ActionPartMembers, ActionPartConstraint, ActionPartActivity, ActionPartBody, ActionPartEmpty, FieldTree, MakeField, NextFieldTree, MakeNextField, ReferenceTree, MakeReference, ClaimTree, MakeClaim}
use Rattle.pst_ast.specs.declared.declaration.BaseNode.{BaseNode}
use Rattle.pst_ast.specs.DeclarationLimits.{counts_base, counts_next_field, counts_field, counts_reference, counts_claim, counts_members, counts_action_part, counts_action, counts_object_part, counts_object, counts_enum_value, counts_enum_item, counts_next_enum_item, counts_enum, counts_answer, counts_parameter, counts_next_parameter, counts_parameters, counts_function, counts_size, counts_pool, counts_target, counts_next_target, counts_targets, counts_pool_bind, counts_component_part, counts_component, counts_item, counts_unit}
use Rattle.pst_ast.specs.DeclarationSpelling.{spell_base, spell_next_field, spell_field, spell_reference, spell_claim, spell_members, spell_action_part, spell_action, spell_object_part, spell_object, spell_enum_value, spell_enum_item, spell_next_enum_item, spell_enum, spell_answer, spell_parameter, spell_next_parameter, spell_parameters, spell_function, spell_size, spell_pool, spell_target, spell_next_target, spell_targets, spell_pool_bind, spell_component_part, spell_component, spell_item, spell_unit}
use Rattle.std.specs.List.{flat_map}
use Rattle.pst_ast.specs.Limits.{counted, counts_option}
use Rattle.pst_ast.specs.Marks.{mark, name_token, spell_option}
use Rattle.pst_token.specs.declared.kind.Kind.TheVariants as kind
use Rattle.pst_ast.specs.SharedLimits.{counts_dot_name, counts_names, counts_type_name}
use Rattle.pst_ast.specs.SharedSpelling.{spell_dot_name, spell_names, spell_type_name}
use Rattle.pst_counted_tokens.proofs.Activity.{each_activity}
use Rattle.pst_counted_tokens.proofs.Body.{each_body}
use Rattle.pst_counted_tokens.proofs.Constraint.{each_constraint_declaration}
use Rattle.pst_counted_tokens.proofs.Shared.{each_dot_name, each_names, each_plain, each_type, each_type_name}
use Rattle.pst_counted_tokens.proofs.Expression.{each_expr, each_part}
use Rattle.pst_counted_tokens.proofs.Rows.{behind, each_of_list, each_of_option}

pub each_base : (depth : ℕ) (t : BaseNode) → length (counts_base depth t) ≡ length (spell_base t)
each_base depth t = ap suc (each_type_name depth t.name)

pub each_next_field : (depth : ℕ) (t : NextFieldTree) → length (counts_next_field depth t) ≡ length (spell_next_field t)
each_next_field depth (MakeNextField comma_place part) = ap suc (each_part depth 0 part)

pub each_field : (depth : ℕ) (t : FieldTree) → length (counts_field depth t) ≡ length (spell_field t)
each_field depth (MakeField rand_place field_type first rest semicolon_place) = ap suc (behind _ _ _ _ (each_type depth field_type) (behind _ _ _ _ (each_part depth 0 first) (behind _ _ _ _ (each_of_list _ _ (λ x. each_next_field depth x) rest) refl)))

pub each_reference : (depth : ℕ) (t : ReferenceTree) → length (counts_reference depth t) ≡ length (spell_reference t)
each_reference depth (MakeReference word place object names semicolon_place) = ap suc (behind (counts_type_name depth object) ((counts_names depth names) ++ ((counted depth 0) ∷ [])) (spell_type_name object) ((spell_names names) ++ ((mark kind.Semicolon semicolon_place) ∷ [])) (each_type_name depth object) (behind (counts_names depth names) ((counted depth 0) ∷ []) (spell_names names) ((mark kind.Semicolon semicolon_place) ∷ []) (each_names depth names) refl))

pub each_claim : (depth : ℕ) (t : ClaimTree) → length (counts_claim depth t) ≡ length (spell_claim t)
each_claim depth (MakeClaim word place object names semicolon_place) = ap suc (behind (counts_type_name depth object) ((counts_names depth names) ++ ((counted depth 0) ∷ [])) (spell_type_name object) ((spell_names names) ++ ((mark kind.Semicolon semicolon_place) ∷ [])) (each_type_name depth object) (behind (counts_names depth names) ((counted depth 0) ∷ []) (spell_names names) ((mark kind.Semicolon semicolon_place) ∷ []) (each_names depth names) refl))

pub each_members : (depth : ℕ) (t : MembersTree) → length (counts_members depth t) ≡ length (spell_members t)
each_members depth (MakeMembers member_type names semicolon_place) = behind (counts_type_name depth member_type) ((counts_names depth names) ++ ((counted depth 0) ∷ [])) (spell_type_name member_type) ((spell_names names) ++ ((mark kind.Semicolon semicolon_place) ∷ [])) (each_type_name depth member_type) (behind (counts_names depth names) ((counted depth 0) ∷ []) (spell_names names) ((mark kind.Semicolon semicolon_place) ∷ []) (each_names depth names) refl)

pub each_action_part : (depth : ℕ) (t : ActionPartTree) → length (counts_action_part depth t) ≡ length (spell_action_part t)
each_action_part depth (ActionPartField field) = each_field depth field
each_action_part depth (ActionPartReference reference) = each_reference depth reference
each_action_part depth (ActionPartClaim claim) = each_claim depth claim
each_action_part depth (ActionPartMembers members) = each_members depth members
each_action_part depth (ActionPartConstraint constraint_declaration) = each_constraint_declaration depth constraint_declaration
each_action_part depth (ActionPartActivity activity) = each_activity depth activity
each_action_part depth (ActionPartBody body) = each_body depth body
each_action_part depth (ActionPartEmpty place) = refl

pub each_action : (depth : ℕ) (t : ActionTree) → length (counts_action depth t) ≡ length (spell_action t)
each_action depth (MakeAction abstract_place action_place name base left_brace_place parts right_brace_place) = behind _ _ _ _ (each_of_option _ _ (λ p. refl) abstract_place) (ap suc (ap suc (behind (counts_option (counts_base (suc depth)) base) ((counted (suc depth) 0) ∷ ((flat_map (counts_action_part (suc depth)) parts) ++ ((counted (suc depth) 0) ∷ []))) (spell_option spell_base base) ((mark kind.LeftBrace left_brace_place) ∷ ((flat_map spell_action_part parts) ++ ((mark kind.RightBrace right_brace_place) ∷ []))) (each_of_option (counts_base (suc depth)) spell_base (λ x. each_base (suc depth) x) base) (ap suc (behind _ _ _ _ (each_of_list _ _ (λ x. each_action_part (suc depth) x) parts) refl)))))

pub each_object_part : (depth : ℕ) (t : ObjectPartTree) → length (counts_object_part depth t) ≡ length (spell_object_part t)
each_object_part depth (ObjectPartField field) = each_field depth field
each_object_part depth (ObjectPartConstraint constraint_declaration) = each_constraint_declaration depth constraint_declaration
each_object_part depth (ObjectPartEmpty place) = refl

pub each_object : (depth : ℕ) (t : ObjectTree) → length (counts_object depth t) ≡ length (spell_object t)
each_object depth (MakeObject word place name left_brace_place parts right_brace_place) = ap suc (ap suc (ap suc (behind _ _ _ _ (each_of_list _ _ (λ x. each_object_part depth x) parts) refl)))

pub each_enum_value : (depth : ℕ) (t : EnumValueTree) → length (counts_enum_value depth t) ≡ length (spell_enum_value t)
each_enum_value depth (MakeEnumValue equal_place expr) = ap suc (each_expr depth 0 expr)

pub each_enum_item : (depth : ℕ) (t : EnumItemTree) → length (counts_enum_item depth t) ≡ length (spell_enum_item t)
each_enum_item depth (MakeEnumItem name value) = ap suc (each_of_option _ _ (λ x. each_enum_value depth x) value)

pub each_next_enum_item : (depth : ℕ) (t : NextEnumItemTree) → length (counts_next_enum_item depth t) ≡ length (spell_next_enum_item t)
each_next_enum_item depth (MakeNextEnumItem comma_place item) = ap suc (each_enum_item depth item)

pub each_enum : (depth : ℕ) (t : EnumTree) → length (counts_enum depth t) ≡ length (spell_enum t)
each_enum depth (MakeEnum enum_place name left_brace_place first rest right_brace_place) = ap suc (ap suc (ap suc (behind _ _ _ _ (each_enum_item depth first) (behind _ _ _ _ (each_of_list _ _ (λ x. each_next_enum_item depth x) rest) refl))))

pub each_answer : (depth : ℕ) (t : AnswerTree) → length (counts_answer depth t) ≡ length (spell_answer t)
each_answer depth (AnswerVoid place) = refl
each_answer depth (AnswerPlain plain) = each_plain depth plain

pub each_parameter : (depth : ℕ) (t : ParameterTree) → length (counts_parameter depth t) ≡ length (spell_parameter t)
each_parameter depth (MakeParameter input_place plain name) = behind _ _ _ _ (each_of_option _ _ (λ p. refl) input_place) (behind _ _ _ _ (each_plain depth plain) refl)

pub each_next_parameter : (depth : ℕ) (t : NextParameterTree) → length (counts_next_parameter depth t) ≡ length (spell_next_parameter t)
each_next_parameter depth (MakeNextParameter comma_place parameter) = ap suc (each_parameter depth parameter)

pub each_parameters : (depth : ℕ) (t : ParametersTree) → length (counts_parameters depth t) ≡ length (spell_parameters t)
each_parameters depth (MakeParameters first rest) = behind _ _ _ _ (each_parameter depth first) (each_of_list _ _ (λ x. each_next_parameter depth x) rest)

pub each_function : (depth : ℕ) (t : FunctionTree) → length (counts_function depth t) ≡ length (spell_function t)
each_function depth (MakeFunction import_place target_place function_place answer name left_parenthesis_place parameters right_parenthesis_place semicolon_place) = ap suc (behind _ _ _ _ (each_of_option _ _ (λ p. refl) target_place) (ap suc (behind _ _ _ _ (each_answer depth answer) (ap suc (ap suc (behind _ _ _ _ (each_of_option _ _ (λ x. each_parameters depth x) parameters) refl))))))

pub each_size : (depth : ℕ) (t : SizeTree) → length (counts_size depth t) ≡ length (spell_size t)
each_size depth (MakeSize left_bracket_place expr right_bracket_place) = ap suc (behind _ _ _ _ (each_expr depth 0 expr) refl)

pub each_pool : (depth : ℕ) (t : PoolTree) → length (counts_pool depth t) ≡ length (spell_pool t)
each_pool depth (MakePool pool_place size object name semicolon_place) = ap suc (behind _ _ _ _ (each_of_option _ _ (λ x. each_size depth x) size) (behind (counts_type_name depth object) ((counted depth 0) ∷ ((counted depth 0) ∷ [])) (spell_type_name object) ((name_token name) ∷ ((mark kind.Semicolon semicolon_place) ∷ [])) (each_type_name depth object) refl))

pub each_target : (depth : ℕ) (t : TargetTree) → length (counts_target depth t) ≡ length (spell_target t)
each_target depth (MakeTarget first second rest) = ap suc (behind (counts_dot_name depth second) (flat_map (counts_dot_name depth) rest) (spell_dot_name second) (flat_map spell_dot_name rest) (each_dot_name depth second) (each_of_list (counts_dot_name depth) spell_dot_name (λ x. each_dot_name depth x) rest))

pub each_next_target : (depth : ℕ) (t : NextTargetTree) → length (counts_next_target depth t) ≡ length (spell_next_target t)
each_next_target depth (MakeNextTarget comma_place target) = ap suc (each_target depth target)

pub each_targets : (depth : ℕ) (t : TargetsTree) → length (counts_targets depth t) ≡ length (spell_targets t)
each_targets depth (TargetsAll place) = refl
each_targets depth (TargetsOne target) = each_target depth target
each_targets depth (TargetsSeveral left_brace_place first rest right_brace_place) = ap suc (behind _ _ _ _ (each_target depth first) (behind _ _ _ _ (each_of_list _ _ (λ x. each_next_target depth x) rest) refl))

pub each_pool_bind : (depth : ℕ) (t : PoolBindTree) → length (counts_pool_bind depth t) ≡ length (spell_pool_bind t)
each_pool_bind depth (MakePoolBind bind_place pool targets semicolon_place) = ap suc (ap suc (behind _ _ _ _ (each_targets depth targets) refl))

pub each_component_part : (depth : ℕ) (t : ComponentPartTree) → length (counts_component_part depth t) ≡ length (spell_component_part t)
each_component_part depth (ComponentPartAction action) = each_action depth action
each_component_part depth (ComponentPartObject object) = each_object depth object
each_component_part depth (ComponentPartEnum enum) = each_enum depth enum
each_component_part depth (ComponentPartFunction function) = each_function depth function
each_component_part depth (ComponentPartPool pool) = each_pool depth pool
each_component_part depth (ComponentPartPoolBind pool_bind) = each_pool_bind depth pool_bind
each_component_part depth (ComponentPartMembers members) = each_members depth members
each_component_part depth (ComponentPartEmpty place) = refl

pub each_component : (depth : ℕ) (t : ComponentTree) → length (counts_component depth t) ≡ length (spell_component t)
each_component depth (MakeComponent component_place name left_brace_place parts right_brace_place) = ap suc (ap suc (ap suc (behind _ _ _ _ (each_of_list _ _ (λ x. each_component_part (suc depth) x) parts) refl)))

pub each_item : (depth : ℕ) (t : ItemTree) → length (counts_item depth t) ≡ length (spell_item t)
each_item depth (ItemComponent component) = each_component depth component
each_item depth (ItemObject object) = each_object depth object
each_item depth (ItemEnum enum) = each_enum depth enum
each_item depth (ItemFunction function) = each_function depth function
each_item depth (ItemEmpty place) = refl

pub each_unit : (depth : ℕ) (t : UnitTree) → length (counts_unit depth t) ≡ length (spell_unit t)
each_unit depth (MakeUnit items finish) = behind _ _ _ _ (each_of_list _ _ (λ x. each_item depth x) items) refl
