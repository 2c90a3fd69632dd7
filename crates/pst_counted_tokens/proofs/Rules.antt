-- Each token of a tree counts once: the trees of all rules.
use Rattle.std.proofs.Common.{◌≡◌, ℕ, length, refl}
use Rattle.pst_ast.specs.Rule.{Rule, TheMark, TheName, TheNumber, TheLeft, TheRight, TheLeftOfIn, TheExpr, TheUnary, ThePrimary, ThePath, ThePart, TheNextPart, TheIndex, TheRanges, TheNextRange, TheRange, TheNextExpr, TheNextName, TheDotName, TheNames, TheLabel, TheTypeName, TheScopedName, ThePlain, TheWidth, TheLow, TheType, TheDomain, TheConstraint, TheClosedConstraint, TheConstraintItem, TheConstraintDeclaration, TheConstraintContent, TheActivity, TheStatement, TheClosedStatement, TheCore, TheBranch, TheArm, TheGuard, TheWeight, TheArmLabel, TheJoin, TheWith, TheBind, TheOtherEnds, TheEnd, TheNextEnd, TheBody, TheBodyStatement, TheClosedBodyStatement, TheValue, TheSource, TheCall, TheArguments, TheUnit, TheItem, TheComponent, TheComponentPart, TheObject, TheObjectPart, TheEnum, TheEnumItem, TheEnumValue, TheNextEnumItem, TheFunction, TheAnswer, TheParameters, TheParameter, TheNextParameter, ThePool, TheSize, ThePoolBind, TheTargets, TheTarget, TheNextTarget, TheMembers, TheAction, TheBase, TheActionPart, TheField, TheNextField, TheReference, TheClaim, TheOption, TheList}
use Rattle.pst_ast.specs.TreeOf.{TreeOf}
use Rattle.pst_ast.specs.CountsOf.{counts_of}
use Rattle.pst_ast.specs.SpellOf.{spell_of}
use Rattle.pst_counted_tokens.proofs.Expression.{each_expr, each_index, each_next_part, each_part, each_path, each_primary, each_unary}
use Rattle.pst_counted_tokens.proofs.Shared.{each_domain, each_dot_name, each_label, each_low, each_names, each_next_expr, each_next_name, each_own_next_range, each_own_range, each_own_ranges, each_plain, each_scoped_name, each_type, each_type_name, each_width}
use Rattle.pst_counted_tokens.proofs.Constraint.{each_constraint, each_constraint_content, each_constraint_declaration, each_constraint_item}
use Rattle.pst_counted_tokens.proofs.Activity.{each_activity, each_arm, each_arm_label, each_bind, each_branch, each_core, each_end, each_guard, each_join, each_next_end, each_other_ends, each_statement, each_weight, each_with}
use Rattle.pst_counted_tokens.proofs.Body.{each_arguments, each_body, each_body_statement, each_call, each_source, each_value}
use Rattle.pst_counted_tokens.proofs.Declaration.{each_action, each_action_part, each_answer, each_base, each_claim, each_component, each_component_part, each_enum, each_enum_item, each_enum_value, each_field, each_function, each_item, each_members, each_next_enum_item, each_next_field, each_next_parameter, each_next_target, each_object, each_object_part, each_parameter, each_parameters, each_pool, each_pool_bind, each_reference, each_size, each_target, each_targets, each_unit}
use Rattle.pst_counted_tokens.proofs.Rows.{each_of_list, each_of_option}

pub each_of_rule : (rule : Rule) (depth : ℕ) (t : TreeOf rule) → length (counts_of rule depth t) ≡ length (spell_of rule t)
each_of_rule (TheMark k) depth place = refl
each_of_rule TheName depth name = refl
each_of_rule TheNumber depth number = refl
each_of_rule (TheLeft o) depth expr = each_expr depth 0 expr
each_of_rule (TheRight o) depth expr = each_expr depth 0 expr
each_of_rule TheLeftOfIn depth expr = each_expr depth 0 expr
each_of_rule TheExpr depth t = each_expr depth 0 t
each_of_rule TheUnary depth t = each_unary depth 0 t
each_of_rule ThePrimary depth t = each_primary depth 0 t
each_of_rule ThePath depth t = each_path depth 0 t
each_of_rule ThePart depth t = each_part depth 0 t
each_of_rule TheNextPart depth t = each_next_part depth 0 t
each_of_rule TheIndex depth t = each_index depth 0 t
each_of_rule TheRanges depth t = each_own_ranges depth t
each_of_rule TheNextRange depth t = each_own_next_range depth t
each_of_rule TheRange depth t = each_own_range depth t
each_of_rule TheNextExpr depth t = each_next_expr depth t
each_of_rule TheNextName depth t = each_next_name depth t
each_of_rule TheDotName depth t = each_dot_name depth t
each_of_rule TheNames depth t = each_names depth t
each_of_rule TheLabel depth t = each_label depth t
each_of_rule TheTypeName depth t = each_type_name depth t
each_of_rule TheScopedName depth t = each_scoped_name depth t
each_of_rule ThePlain depth t = each_plain depth t
each_of_rule TheWidth depth t = each_width depth t
each_of_rule TheLow depth t = each_low depth t
each_of_rule TheType depth t = each_type depth t
each_of_rule TheDomain depth t = each_domain depth t
each_of_rule TheConstraint depth t = each_constraint depth t
each_of_rule TheClosedConstraint depth t = each_constraint depth t
each_of_rule TheConstraintItem depth t = each_constraint_item depth t
each_of_rule TheConstraintDeclaration depth t = each_constraint_declaration depth t
each_of_rule TheConstraintContent depth t = each_constraint_content depth t
each_of_rule TheActivity depth t = each_activity depth t
each_of_rule TheStatement depth t = each_statement depth t
each_of_rule TheClosedStatement depth t = each_statement depth t
each_of_rule TheCore depth t = each_core depth t
each_of_rule TheBranch depth t = each_branch depth t
each_of_rule TheArm depth t = each_arm depth t
each_of_rule TheGuard depth t = each_guard depth t
each_of_rule TheWeight depth t = each_weight depth t
each_of_rule TheArmLabel depth t = each_arm_label depth t
each_of_rule TheJoin depth t = each_join depth t
each_of_rule TheWith depth t = each_with depth t
each_of_rule TheBind depth t = each_bind depth t
each_of_rule TheOtherEnds depth t = each_other_ends depth t
each_of_rule TheEnd depth t = each_end depth t
each_of_rule TheNextEnd depth t = each_next_end depth t
each_of_rule TheBody depth t = each_body depth t
each_of_rule TheBodyStatement depth t = each_body_statement depth t
each_of_rule TheClosedBodyStatement depth t = each_body_statement depth t
each_of_rule TheValue depth t = each_value depth t
each_of_rule TheSource depth t = each_source depth t
each_of_rule TheCall depth t = each_call depth t
each_of_rule TheArguments depth t = each_arguments depth t
each_of_rule TheUnit depth t = each_unit depth t
each_of_rule TheItem depth t = each_item depth t
each_of_rule TheComponent depth t = each_component depth t
each_of_rule TheComponentPart depth t = each_component_part depth t
each_of_rule TheObject depth t = each_object depth t
each_of_rule TheObjectPart depth t = each_object_part depth t
each_of_rule TheEnum depth t = each_enum depth t
each_of_rule TheEnumItem depth t = each_enum_item depth t
each_of_rule TheEnumValue depth t = each_enum_value depth t
each_of_rule TheNextEnumItem depth t = each_next_enum_item depth t
each_of_rule TheFunction depth t = each_function depth t
each_of_rule TheAnswer depth t = each_answer depth t
each_of_rule TheParameters depth t = each_parameters depth t
each_of_rule TheParameter depth t = each_parameter depth t
each_of_rule TheNextParameter depth t = each_next_parameter depth t
each_of_rule ThePool depth t = each_pool depth t
each_of_rule TheSize depth t = each_size depth t
each_of_rule ThePoolBind depth t = each_pool_bind depth t
each_of_rule TheTargets depth t = each_targets depth t
each_of_rule TheTarget depth t = each_target depth t
each_of_rule TheNextTarget depth t = each_next_target depth t
each_of_rule TheMembers depth t = each_members depth t
each_of_rule TheAction depth t = each_action depth t
each_of_rule TheBase depth t = each_base depth t
each_of_rule TheActionPart depth t = each_action_part depth t
each_of_rule TheField depth t = each_field depth t
each_of_rule TheNextField depth t = each_next_field depth t
each_of_rule TheReference depth t = each_reference depth t
each_of_rule TheClaim depth t = each_claim depth t
each_of_rule (TheOption part) depth t = each_of_option (counts_of part depth) (spell_of part) (λ x. each_of_rule part depth x) t
each_of_rule (TheList part) depth t = each_of_list (counts_of part depth) (spell_of part) (λ x. each_of_rule part depth x) t
