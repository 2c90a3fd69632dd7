-- The tokens of a tree of each rule.
use Rattle.std.specs.Prelude.{List, [], ◌∷◌}
use Rattle.std.specs.List.{flat_map}
use Rattle.pst_token.specs.declared.token.Token.{Token}
use Rattle.pst_ast.specs.Marks.{mark, name_token, number_token, spell_option}
use Rattle.pst_ast.specs.ExpressionSpelling.{spell_expr, spell_unary, spell_primary, spell_path, spell_part, spell_next_part, spell_index, spell_ranges, spell_next_range, spell_range}
use Rattle.pst_ast.specs.SharedSpelling.{spell_next_expr, spell_next_name, spell_dot_name, spell_names, spell_label, spell_scoped_name, spell_type_name, spell_low, spell_width, spell_plain, spell_domain, spell_type}
use Rattle.pst_ast.specs.ConstraintSpelling.{spell_constraint, spell_constraint_item, spell_constraint_content, spell_constraint_declaration}
use Rattle.pst_ast.specs.ActivitySpelling.{spell_with, spell_join, spell_end, spell_next_end, spell_other_ends, spell_bind, spell_weight, spell_guard, spell_arm_label, spell_statement, spell_core, spell_branch, spell_arm, spell_activity}
use Rattle.pst_ast.specs.BodySpelling.{spell_arguments, spell_call, spell_source, spell_value, spell_body_statement, spell_body}
use Rattle.pst_ast.specs.DeclarationSpelling.{spell_base, spell_next_field, spell_field, spell_reference, spell_claim, spell_members, spell_action_part, spell_action, spell_object_part, spell_object, spell_enum_value, spell_enum_item, spell_next_enum_item, spell_enum, spell_answer, spell_parameter, spell_next_parameter, spell_parameters, spell_function, spell_size, spell_pool, spell_target, spell_next_target, spell_targets, spell_pool_bind, spell_component_part, spell_component, spell_item, spell_unit}
use Rattle.pst_ast.specs.Rule.{Rule, TheMark, TheName, TheNumber, TheLeft, TheRight, TheLeftOfIn, TheExpr, TheUnary, ThePrimary, ThePath, ThePart, TheNextPart, TheIndex, TheRanges, TheNextRange, TheRange, TheNextExpr, TheNextName, TheDotName, TheNames, TheLabel, TheTypeName, TheScopedName, ThePlain, TheWidth, TheLow, TheType, TheDomain, TheConstraint, TheClosedConstraint, TheConstraintItem, TheConstraintDeclaration, TheConstraintContent, TheActivity, TheStatement, TheClosedStatement, TheCore, TheBranch, TheArm, TheGuard, TheWeight, TheArmLabel, TheJoin, TheWith, TheBind, TheOtherEnds, TheEnd, TheNextEnd, TheBody, TheBodyStatement, TheClosedBodyStatement, TheValue, TheSource, TheCall, TheArguments, TheUnit, TheItem, TheComponent, TheComponentPart, TheObject, TheObjectPart, TheEnum, TheEnumItem, TheEnumValue, TheNextEnumItem, TheFunction, TheAnswer, TheParameters, TheParameter, TheNextParameter, ThePool, TheSize, ThePoolBind, TheTargets, TheTarget, TheNextTarget, TheMembers, TheAction, TheBase, TheActionPart, TheField, TheNextField, TheReference, TheClaim, TheOption, TheList}
use Rattle.pst_ast.specs.TreeOf.{TreeOf}

-- the tokens of a tree, in order
abbrev pub spell_of : (rule : Rule) → TreeOf rule → List Token
spell_of (TheMark k) place = mark k place ∷ []
spell_of TheName name = name_token name ∷ []
spell_of TheNumber number = number_token number ∷ []
spell_of (TheLeft o) expr = spell_expr expr
spell_of (TheRight o) expr = spell_expr expr
spell_of TheLeftOfIn expr = spell_expr expr
spell_of TheExpr t = spell_expr t
spell_of TheUnary t = spell_unary t
spell_of ThePrimary t = spell_primary t
spell_of ThePath t = spell_path t
spell_of ThePart t = spell_part t
spell_of TheNextPart t = spell_next_part t
spell_of TheIndex t = spell_index t
spell_of TheRanges t = spell_ranges t
spell_of TheNextRange t = spell_next_range t
spell_of TheRange t = spell_range t
spell_of TheNextExpr t = spell_next_expr t
spell_of TheNextName t = spell_next_name t
spell_of TheDotName t = spell_dot_name t
spell_of TheNames t = spell_names t
spell_of TheLabel t = spell_label t
spell_of TheTypeName t = spell_type_name t
spell_of TheScopedName t = spell_scoped_name t
spell_of ThePlain t = spell_plain t
spell_of TheWidth t = spell_width t
spell_of TheLow t = spell_low t
spell_of TheType t = spell_type t
spell_of TheDomain t = spell_domain t
spell_of TheConstraint t = spell_constraint t
spell_of TheClosedConstraint t = spell_constraint t
spell_of TheConstraintItem t = spell_constraint_item t
spell_of TheConstraintDeclaration t = spell_constraint_declaration t
spell_of TheConstraintContent t = spell_constraint_content t
spell_of TheActivity t = spell_activity t
spell_of TheStatement t = spell_statement t
spell_of TheClosedStatement t = spell_statement t
spell_of TheCore t = spell_core t
spell_of TheBranch t = spell_branch t
spell_of TheArm t = spell_arm t
spell_of TheGuard t = spell_guard t
spell_of TheWeight t = spell_weight t
spell_of TheArmLabel t = spell_arm_label t
spell_of TheJoin t = spell_join t
spell_of TheWith t = spell_with t
spell_of TheBind t = spell_bind t
spell_of TheOtherEnds t = spell_other_ends t
spell_of TheEnd t = spell_end t
spell_of TheNextEnd t = spell_next_end t
spell_of TheBody t = spell_body t
spell_of TheBodyStatement t = spell_body_statement t
spell_of TheClosedBodyStatement t = spell_body_statement t
spell_of TheValue t = spell_value t
spell_of TheSource t = spell_source t
spell_of TheCall t = spell_call t
spell_of TheArguments t = spell_arguments t
spell_of TheUnit t = spell_unit t
spell_of TheItem t = spell_item t
spell_of TheComponent t = spell_component t
spell_of TheComponentPart t = spell_component_part t
spell_of TheObject t = spell_object t
spell_of TheObjectPart t = spell_object_part t
spell_of TheEnum t = spell_enum t
spell_of TheEnumItem t = spell_enum_item t
spell_of TheEnumValue t = spell_enum_value t
spell_of TheNextEnumItem t = spell_next_enum_item t
spell_of TheFunction t = spell_function t
spell_of TheAnswer t = spell_answer t
spell_of TheParameters t = spell_parameters t
spell_of TheParameter t = spell_parameter t
spell_of TheNextParameter t = spell_next_parameter t
spell_of ThePool t = spell_pool t
spell_of TheSize t = spell_size t
spell_of ThePoolBind t = spell_pool_bind t
spell_of TheTargets t = spell_targets t
spell_of TheTarget t = spell_target t
spell_of TheNextTarget t = spell_next_target t
spell_of TheMembers t = spell_members t
spell_of TheAction t = spell_action t
spell_of TheBase t = spell_base t
spell_of TheActionPart t = spell_action_part t
spell_of TheField t = spell_field t
spell_of TheNextField t = spell_next_field t
spell_of TheReference t = spell_reference t
spell_of TheClaim t = spell_claim t
spell_of (TheOption part) t = spell_option (spell_of part) t
spell_of (TheList part) t = flat_map (spell_of part) t
