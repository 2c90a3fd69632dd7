-- What counts towards the limits, for each rule.
use Rattle.std.specs.Prelude.{ℕ, List, [], ◌∷◌}
use Rattle.std.specs.List.{flat_map}
use Rattle.pst_ast.specs.Limits.{Count, counted, counts_option}
use Rattle.pst_ast.specs.ExpressionLimits.{counts_expr, counts_unary, counts_primary, counts_path, counts_part, counts_next_part, counts_index}
use Rattle.pst_ast.specs.SharedLimits.{counts_own_next_range, counts_next_expr, counts_next_name, counts_dot_name, counts_names, counts_label, counts_scoped_name, counts_type_name, counts_low, counts_width, counts_plain, counts_own_range, counts_own_ranges, counts_domain, counts_type}
use Rattle.pst_ast.specs.ConstraintLimits.{counts_constraint, counts_constraint_item, counts_constraint_content, counts_constraint_declaration}
use Rattle.pst_ast.specs.ActivityLimits.{counts_with, counts_join, counts_end, counts_next_end, counts_other_ends, counts_bind, counts_weight, counts_guard, counts_arm_label, counts_statement, counts_core, counts_branch, counts_arm, counts_activity}
use Rattle.pst_ast.specs.BodyLimits.{counts_arguments, counts_call, counts_source, counts_value, counts_body_statement, counts_body}
use Rattle.pst_ast.specs.DeclarationLimits.{counts_base, counts_next_field, counts_field, counts_reference, counts_claim, counts_members, counts_action_part, counts_action, counts_object_part, counts_object, counts_enum_value, counts_enum_item, counts_next_enum_item, counts_enum, counts_answer, counts_parameter, counts_next_parameter, counts_parameters, counts_function, counts_size, counts_pool, counts_target, counts_next_target, counts_targets, counts_pool_bind, counts_component_part, counts_component, counts_item, counts_unit}
use Rattle.pst_ast.specs.Rule.{Rule, TheMark, TheName, TheNumber, TheLeft, TheRight, TheLeftOfIn, TheExpr, TheUnary, ThePrimary, ThePath, ThePart, TheNextPart, TheIndex, TheRanges, TheNextRange, TheRange, TheNextExpr, TheNextName, TheDotName, TheNames, TheLabel, TheTypeName, TheScopedName, ThePlain, TheWidth, TheLow, TheType, TheDomain, TheConstraint, TheClosedConstraint, TheConstraintItem, TheConstraintDeclaration, TheConstraintContent, TheActivity, TheStatement, TheClosedStatement, TheCore, TheBranch, TheArm, TheGuard, TheWeight, TheArmLabel, TheJoin, TheWith, TheBind, TheOtherEnds, TheEnd, TheNextEnd, TheBody, TheBodyStatement, TheClosedBodyStatement, TheValue, TheSource, TheCall, TheArguments, TheUnit, TheItem, TheComponent, TheComponentPart, TheObject, TheObjectPart, TheEnum, TheEnumItem, TheEnumValue, TheNextEnumItem, TheFunction, TheAnswer, TheParameters, TheParameter, TheNextParameter, ThePool, TheSize, ThePoolBind, TheTargets, TheTarget, TheNextTarget, TheMembers, TheAction, TheBase, TheActionPart, TheField, TheNextField, TheReference, TheClaim, TheOption, TheList}
use Rattle.pst_ast.specs.TreeOf.{TreeOf}

-- what counts at each token of a tree, with so many derivations open round it
abbrev pub counts_of : (rule : Rule) → ℕ → TreeOf rule → List Count
counts_of (TheMark k) depth place = counted depth 0 ∷ []
counts_of TheName depth name = counted depth 0 ∷ []
counts_of TheNumber depth number = counted depth 0 ∷ []
counts_of (TheLeft o) depth expr = counts_expr depth 0 expr
counts_of (TheRight o) depth expr = counts_expr depth 0 expr
counts_of TheLeftOfIn depth expr = counts_expr depth 0 expr
counts_of TheExpr depth t = counts_expr depth 0 t
counts_of TheUnary depth t = counts_unary depth 0 t
counts_of ThePrimary depth t = counts_primary depth 0 t
counts_of ThePath depth t = counts_path depth 0 t
counts_of ThePart depth t = counts_part depth 0 t
counts_of TheNextPart depth t = counts_next_part depth 0 t
counts_of TheIndex depth t = counts_index depth 0 t
counts_of TheRanges depth t = counts_own_ranges depth t
counts_of TheNextRange depth t = counts_own_next_range depth t
counts_of TheRange depth t = counts_own_range depth t
counts_of TheNextExpr depth t = counts_next_expr depth t
counts_of TheNextName depth t = counts_next_name depth t
counts_of TheDotName depth t = counts_dot_name depth t
counts_of TheNames depth t = counts_names depth t
counts_of TheLabel depth t = counts_label depth t
counts_of TheTypeName depth t = counts_type_name depth t
counts_of TheScopedName depth t = counts_scoped_name depth t
counts_of ThePlain depth t = counts_plain depth t
counts_of TheWidth depth t = counts_width depth t
counts_of TheLow depth t = counts_low depth t
counts_of TheType depth t = counts_type depth t
counts_of TheDomain depth t = counts_domain depth t
counts_of TheConstraint depth t = counts_constraint depth t
counts_of TheClosedConstraint depth t = counts_constraint depth t
counts_of TheConstraintItem depth t = counts_constraint_item depth t
counts_of TheConstraintDeclaration depth t = counts_constraint_declaration depth t
counts_of TheConstraintContent depth t = counts_constraint_content depth t
counts_of TheActivity depth t = counts_activity depth t
counts_of TheStatement depth t = counts_statement depth t
counts_of TheClosedStatement depth t = counts_statement depth t
counts_of TheCore depth t = counts_core depth t
counts_of TheBranch depth t = counts_branch depth t
counts_of TheArm depth t = counts_arm depth t
counts_of TheGuard depth t = counts_guard depth t
counts_of TheWeight depth t = counts_weight depth t
counts_of TheArmLabel depth t = counts_arm_label depth t
counts_of TheJoin depth t = counts_join depth t
counts_of TheWith depth t = counts_with depth t
counts_of TheBind depth t = counts_bind depth t
counts_of TheOtherEnds depth t = counts_other_ends depth t
counts_of TheEnd depth t = counts_end depth t
counts_of TheNextEnd depth t = counts_next_end depth t
counts_of TheBody depth t = counts_body depth t
counts_of TheBodyStatement depth t = counts_body_statement depth t
counts_of TheClosedBodyStatement depth t = counts_body_statement depth t
counts_of TheValue depth t = counts_value depth t
counts_of TheSource depth t = counts_source depth t
counts_of TheCall depth t = counts_call depth t
counts_of TheArguments depth t = counts_arguments depth t
counts_of TheUnit depth t = counts_unit depth t
counts_of TheItem depth t = counts_item depth t
counts_of TheComponent depth t = counts_component depth t
counts_of TheComponentPart depth t = counts_component_part depth t
counts_of TheObject depth t = counts_object depth t
counts_of TheObjectPart depth t = counts_object_part depth t
counts_of TheEnum depth t = counts_enum depth t
counts_of TheEnumItem depth t = counts_enum_item depth t
counts_of TheEnumValue depth t = counts_enum_value depth t
counts_of TheNextEnumItem depth t = counts_next_enum_item depth t
counts_of TheFunction depth t = counts_function depth t
counts_of TheAnswer depth t = counts_answer depth t
counts_of TheParameters depth t = counts_parameters depth t
counts_of TheParameter depth t = counts_parameter depth t
counts_of TheNextParameter depth t = counts_next_parameter depth t
counts_of ThePool depth t = counts_pool depth t
counts_of TheSize depth t = counts_size depth t
counts_of ThePoolBind depth t = counts_pool_bind depth t
counts_of TheTargets depth t = counts_targets depth t
counts_of TheTarget depth t = counts_target depth t
counts_of TheNextTarget depth t = counts_next_target depth t
counts_of TheMembers depth t = counts_members depth t
counts_of TheAction depth t = counts_action depth t
counts_of TheBase depth t = counts_base depth t
counts_of TheActionPart depth t = counts_action_part depth t
counts_of TheField depth t = counts_field depth t
counts_of TheNextField depth t = counts_next_field depth t
counts_of TheReference depth t = counts_reference depth t
counts_of TheClaim depth t = counts_claim depth t
counts_of (TheOption part) depth t = counts_option (counts_of part depth) t
counts_of (TheList part) depth t = flat_map (counts_of part depth) t
