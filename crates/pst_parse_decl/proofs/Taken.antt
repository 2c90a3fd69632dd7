-- What the tokens that the parsers take count towards the limits.
use Rattle.pst_ast.specs.ActivityLimits.{counts_activity}
use Rattle.pst_ast.specs.BodyLimits.{counts_body}
use Rattle.pst_ast.specs.ConstraintLimits.{counts_constraint, counts_constraint_item}
use Rattle.pst_ast.specs.ConstraintTree.{ConstraintContentTree, ConstraintDeclarationTree, ConstraintContentNamed, ConstraintContentSet, MakeConstraintDeclaration}
use Rattle.pst_ast.specs.DeclarationLimits.{counts_base, counts_field, counts_reference, counts_claim, counts_members, counts_enum, counts_function, counts_pool, counts_pool_bind}
use Rattle.pst_ast.specs.DeclarationTree.{ActionPartTree, ActionTree, ObjectPartTree, ObjectTree, ComponentPartTree, ComponentTree, ItemTree, ActionPartField, ActionPartReference, ActionPartClaim, ActionPartMembers, ActionPartConstraint, ActionPartActivity, ActionPartBody, ActionPartEmpty, MakeAction, ObjectPartField, ObjectPartConstraint, ObjectPartEmpty, MakeObject, ComponentPartAction, ComponentPartObject, ComponentPartEnum, ComponentPartFunction, ComponentPartPool, ComponentPartPoolBind, ComponentPartMembers, ComponentPartEmpty, MakeComponent, ItemComponent, ItemObject, ItemEnum, ItemFunction, ItemEmpty}
use Rattle.pst_ast.specs.Limits.{Count, counted, counts_option}
use Rattle.std.proofs.Common.{ℕ, suc, List, [], ◌∷◌, ◌++◌}
use Rattle.std.specs.List.{flat_map}

-- what stands behind the word constraint: the name of several constraints counts as one that begins a constraint
abbrev pub taken_content : ℕ → ConstraintContentTree → List Count
taken_content depth (ConstraintContentNamed name left_brace items right_brace) = counted (suc depth) 0 ∷ counted depth 0 ∷ (flat_map (counts_constraint_item depth) items ++ counted depth 0 ∷ [])
taken_content depth (ConstraintContentSet set) = counts_constraint depth set

abbrev pub taken_constraint_declaration : ℕ → ConstraintDeclarationTree → List Count
taken_constraint_declaration depth (MakeConstraintDeclaration constraint_place content) = counted depth 0 ∷ taken_content depth content

abbrev pub taken_object_part : ℕ → ObjectPartTree → List Count
taken_object_part depth (ObjectPartField field) = counts_field depth field
taken_object_part depth (ObjectPartConstraint declaration) = taken_constraint_declaration depth declaration
taken_object_part depth (ObjectPartEmpty place) = counted depth 0 ∷ []

abbrev pub taken_object : ℕ → ObjectTree → List Count
taken_object depth (MakeObject word place name left_brace parts right_brace) = counted depth 0 ∷ counted depth 0 ∷ counted depth 0 ∷ (flat_map (taken_object_part depth) parts ++ counted depth 0 ∷ [])

abbrev pub taken_action_part : ℕ → ActionPartTree → List Count
taken_action_part depth (ActionPartField field) = counts_field depth field
taken_action_part depth (ActionPartReference reference) = counts_reference depth reference
taken_action_part depth (ActionPartClaim claim) = counts_claim depth claim
taken_action_part depth (ActionPartMembers members) = counts_members depth members
taken_action_part depth (ActionPartConstraint declaration) = taken_constraint_declaration depth declaration
taken_action_part depth (ActionPartActivity activity) = counts_activity depth activity
taken_action_part depth (ActionPartBody body) = counts_body depth body
taken_action_part depth (ActionPartEmpty place) = counted depth 0 ∷ []

abbrev pub taken_action : ℕ → ActionTree → List Count
taken_action depth (MakeAction abstract_place action_place name base left_brace parts right_brace) = counts_option (λ p. counted (suc depth) 0 ∷ []) abstract_place ++ counted (suc depth) 0 ∷ counted (suc depth) 0 ∷ (counts_option (counts_base (suc depth)) base ++ counted (suc depth) 0 ∷ (flat_map (taken_action_part (suc depth)) parts ++ counted (suc depth) 0 ∷ []))

abbrev pub taken_component_part : ℕ → ComponentPartTree → List Count
taken_component_part depth (ComponentPartAction action) = taken_action depth action
taken_component_part depth (ComponentPartObject object) = taken_object depth object
taken_component_part depth (ComponentPartEnum enum) = counts_enum depth enum
taken_component_part depth (ComponentPartFunction function) = counts_function depth function
taken_component_part depth (ComponentPartPool pool) = counts_pool depth pool
taken_component_part depth (ComponentPartPoolBind bind) = counts_pool_bind depth bind
taken_component_part depth (ComponentPartMembers members) = counts_members depth members
taken_component_part depth (ComponentPartEmpty place) = counted depth 0 ∷ []

abbrev pub taken_component : ℕ → ComponentTree → List Count
taken_component depth (MakeComponent component_place name left_brace parts right_brace) = counted (suc depth) 0 ∷ counted (suc depth) 0 ∷ counted (suc depth) 0 ∷ (flat_map (taken_component_part (suc depth)) parts ++ counted (suc depth) 0 ∷ [])

abbrev pub taken_item : ℕ → ItemTree → List Count
taken_item depth (ItemComponent component) = taken_component depth component
taken_item depth (ItemObject object) = taken_object depth object
taken_item depth (ItemEnum enum) = counts_enum depth enum
taken_item depth (ItemFunction function) = counts_function depth function
taken_item depth (ItemEmpty place) = counted depth 0 ∷ []
