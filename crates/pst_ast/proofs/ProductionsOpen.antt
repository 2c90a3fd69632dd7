-- Each alternative of a rule stands open as a whole: proper trees of its parts make a proper tree of the rule.
use Rattle.std.proofs.Common.{◌++◌, ◌∷◌, [], ◌≤◌, ◌<◌, List, Some, None, refl, ap, sym, arith, append-nil}
use Rattle.std.specs.List.{flat_map}
use Rattle.pst_token.specs.declared.token.Token.{Token}
use Rattle.pst_token.specs.declared.kind.Kind.TheVariants as kind
use Rattle.pst_ast.specs.declared.leaf.Operator.{Operator}
use Rattle.pst_ast.specs.declared.leaf.PrefixOperator.{PrefixOperator}
use Rattle.pst_ast.specs.declared.declaration.ClaimWord.{ClaimWord}
use Rattle.pst_ast.specs.declared.declaration.ObjectWord.{ObjectWord}
use Rattle.pst_ast.specs.declared.declaration.ReferenceWord.{ReferenceWord}
use Rattle.pst_ast.specs.declared.activity.TogetherWord.{TogetherWord}
use Rattle.pst_ast.specs.declared.leaf.Operator.TheVariants as the_operator
use Rattle.pst_ast.specs.Marks.{mark, operator_kind, prefix_operator_kind, claim_word_kind, object_word_kind, reference_word_kind, together_word_kind}
use Rattle.pst_ast.specs.ExpressionTree.{ExprUnary, ExprBinary, ExprIn, UnaryPrefix, UnaryPrimary, PrimaryNumber, PrimaryTrue, PrimaryFalse, PrimaryPath, PrimaryGroup, PathDotted, PathItem, PathLongItem, MakePart, MakeNextPart, MakeIndex, MakeRanges, MakeNextRange, RangeSingle, RangeBetween}
use Rattle.pst_ast.specs.SharedTree.{MakeNextExpr, MakeNames, MakeLow, MakeWidth, PlainInt, PlainBit, PlainBool, MakeDomain, TypePlain, TypeNamed}
use Rattle.pst_ast.specs.ConstraintTree.{ConstraintOne, ConstraintBlock, ConstraintItemEmpty, ConstraintItemExpr, ConstraintItemImplies, ConstraintItemIf, ConstraintItemIfElse, ConstraintItemUnique, ConstraintItemForeach, ConstraintContentNamed, ConstraintContentSet, MakeConstraintDeclaration}
use Rattle.pst_ast.specs.ActivityTree.{WithNothing, WithSet, JoinBranch, JoinNothing, JoinSelect, OtherEndsOne, OtherEndsSeveral, MakeBind, MakeWeight, GuardCondition, GuardWeight, ArmLabelRanges, ArmLabelDefault, StatementEmpty, StatementLabeled, StatementPlain, CoreDo, CoreHandle, CoreSequence, CoreTogether, CoreSelect, CoreRepeat, CoreIf, CoreIfElse, CoreMatch, CoreBind, MakeBranch, MakeArm, MakeActivity}
use Rattle.pst_ast.specs.BodyTree.{MakeArguments, MakeCall, SourceCall, SourceExpr, MakeValue, BodyStatementEmpty, BodyStatementLocal, BodyStatementAssign, BodyStatementCall, BodyStatementBlock, BodyStatementIf, BodyStatementIfElse, BodyStatementRepeat, MakeBody}
use Rattle.pst_ast.specs.DeclarationTree.{MakeNextField, MakeField, MakeReference, MakeClaim, MakeMembers, ActionPartField, ActionPartReference, ActionPartClaim, ActionPartMembers, ActionPartConstraint, ActionPartActivity, ActionPartBody, ActionPartEmpty, MakeAction, ObjectPartField, ObjectPartConstraint, ObjectPartEmpty, MakeObject, MakeEnumValue, MakeEnumItem, MakeNextEnumItem, MakeEnum, AnswerVoid, AnswerPlain, MakeParameter, MakeNextParameter, MakeParameters, MakeFunction, MakeSize, MakePool, MakeTarget, MakeNextTarget, TargetsAll, TargetsOne, TargetsSeveral, MakePoolBind, ComponentPartAction, ComponentPartObject, ComponentPartEnum, ComponentPartFunction, ComponentPartPool, ComponentPartPoolBind, ComponentPartMembers, ComponentPartEmpty, MakeComponent, ItemComponent, ItemObject, ItemEnum, ItemFunction, ItemEmpty, MakeUnit}
use Rattle.pst_ast.specs.ExpressionProper.{level_of}
use Rattle.pst_ast.specs.Rule.{Rule, TheMark, TheName, TheNumber, TheLeft, TheRight, TheLeftOfIn, TheExpr, TheUnary, ThePrimary, ThePath, ThePart, TheNextPart, TheIndex, TheRanges, TheNextRange, TheRange, TheNextExpr, TheNextName, TheDotName, TheNames, TheLabel, TheTypeName, TheScopedName, ThePlain, TheWidth, TheLow, TheType, TheDomain, TheConstraint, TheClosedConstraint, TheConstraintItem, TheConstraintDeclaration, TheConstraintContent, TheActivity, TheStatement, TheClosedStatement, TheCore, TheBranch, TheArm, TheGuard, TheWeight, TheArmLabel, TheJoin, TheWith, TheBind, TheOtherEnds, TheEnd, TheNextEnd, TheBody, TheBodyStatement, TheClosedBodyStatement, TheValue, TheSource, TheCall, TheArguments, TheUnit, TheItem, TheComponent, TheComponentPart, TheObject, TheObjectPart, TheEnum, TheEnumItem, TheEnumValue, TheNextEnumItem, TheFunction, TheAnswer, TheParameters, TheParameter, TheNextParameter, ThePool, TheSize, ThePoolBind, TheTargets, TheTarget, TheNextTarget, TheMembers, TheAction, TheBase, TheActionPart, TheField, TheNextField, TheReference, TheClaim, TheOption, TheList}
use Rattle.pst_ast.specs.SpellOf.{spell_of}
use Rattle.pst_ast.specs.Viable.{IsOpen}
use Rattle.pst_ast.specs.Production.{Production, expr_unary, expr_operator, expr_in, left_unary, left_operator, left_in, right_unary, right_operator, right_in, left_of_in_unary, left_of_in_operator, left_of_in_in, unary_prefix, unary_primary, primary_number, primary_true, primary_false, primary_path, primary_group, path_dotted, path_item, path_long_item, part, next_part, index, ranges, next_range, range_single, range_between, next_expr, next_name, dot_name, names, label, type_name, scoped_name, plain_int, plain_bit, plain_bool, width, low, type_plain, type_named, domain, constraint_one, constraint_block, constraint_item_empty, constraint_item_expr, constraint_item_implies, constraint_item_if, constraint_item_if_else, constraint_item_unique, constraint_item_foreach, constraint_declaration, constraint_content_named, constraint_content_set, activity, statement_empty, statement_labeled, statement_plain, core_do, core_handle, core_sequence, core_together, core_select, core_repeat, core_if, core_if_else, core_match, core_bind, branch, arm, guard_condition, guard_weight, weight, arm_label_ranges, arm_label_default, join_branch, join_nothing, join_select, with_nothing, with_set, bind, other_ends_one, other_ends_several, end, next_end, body, body_statement_empty, body_statement_local, body_statement_assign, body_statement_call, body_statement_block, body_statement_if, body_statement_if_else, body_statement_repeat, value, source_call, source_expr, call, arguments, unit, item_component, item_object, item_enum, item_function, item_empty, component, component_part_action, component_part_object, component_part_enum, component_part_function, component_part_pool, component_part_pool_bind, component_part_members, component_part_empty, object, object_part_field, object_part_constraint, object_part_empty, enum, enum_item, enum_value, next_enum_item, function, answer_void, answer_plain, parameters, parameter, next_parameter, pool, size, pool_bind, targets_all, targets_one, targets_several, target, next_target, members, action, base, action_part_field, action_part_reference, action_part_claim, action_part_members, action_part_constraint, action_part_activity, action_part_body, action_part_empty, field, next_field, reference, claim, option_none, option_some, list_none, list_more}
use Rattle.pst_ast.proofs.InRows.{next_parts_row, next_parts_spelled, next_parts_proper, next_ranges_row, next_ranges_spelled, next_ranges_proper, items_row, items_spelled, items_proper, statements_row, statements_spelled, statements_proper, branches_row, branches_spelled, branches_proper, arms_row, arms_spelled, arms_proper, body_statements_row, body_statements_spelled, body_statements_proper, maybe_index, maybe_index_spelled, maybe_index_proper}

level_top : (o : Operator) → level_of o < 10
level_top the_operator.Multiply = omega arith
level_top the_operator.Divide = omega arith
level_top the_operator.Remainder = omega arith
level_top the_operator.Add = omega arith
level_top the_operator.Subtract = omega arith
level_top the_operator.ShiftLeft = omega arith
level_top the_operator.ShiftRight = omega arith
level_top the_operator.Less = omega arith
level_top the_operator.LessEqual = omega arith
level_top the_operator.Greater = omega arith
level_top the_operator.GreaterEqual = omega arith
level_top the_operator.Equal = omega arith
level_top the_operator.NotEqual = omega arith
level_top the_operator.BitAnd = omega arith
level_top the_operator.BitXor = omega arith
level_top the_operator.BitOr = omega arith
level_top the_operator.And = omega arith
level_top the_operator.Or = omega arith

expr_unary_open : IsOpen TheExpr [] (TheUnary ∷ [])
expr_unary_open (t0, _) (h0, _) = (ExprUnary t0, h0, (simp append-nil refl))

expr_operator_open : (operator : Operator) → IsOpen TheExpr [] (TheLeft operator ∷ TheMark (operator_kind operator) ∷ TheRight operator ∷ [])
expr_operator_open operator (t0, (t1, (t2, _))) (h0, (h1, (h2, _))) = (ExprBinary t0 operator t1 t2, (h0.0, h2.0, h0.1, h2.1), (simp append-nil refl))

expr_in_open : IsOpen TheExpr [] (TheLeftOfIn ∷ TheMark kind.In ∷ TheMark kind.LeftBracket ∷ TheRanges ∷ TheMark kind.RightBracket ∷ [])
expr_in_open (t0, (t1, (t2, (t3, (t4, _))))) (h0, (h1, (h2, (h3, (h4, _))))) = (ExprIn t0 t1 t2 t3 t4, (h0.0, h3, h0.1), refl)

left_unary_open : (outer : Operator) → IsOpen (TheLeft outer) [] (TheUnary ∷ [])
left_unary_open outer (t0, _) (h0, _) = (ExprUnary t0, (h0, omega (arith, level_top outer)), (simp append-nil refl))

left_operator_open : (outer : Operator) → (operator : Operator) → level_of outer ≤ level_of operator → IsOpen (TheLeft outer) [] (TheLeft operator ∷ TheMark (operator_kind operator) ∷ TheRight operator ∷ [])
left_operator_open outer operator q0 (t0, (t1, (t2, _))) (h0, (h1, (h2, _))) = (ExprBinary t0 operator t1 t2, ((h0.0, h2.0, h0.1, h2.1), q0), (simp append-nil refl))

left_in_open : (outer : Operator) → level_of outer ≤ 6 → IsOpen (TheLeft outer) [] (TheLeftOfIn ∷ TheMark kind.In ∷ TheMark kind.LeftBracket ∷ TheRanges ∷ TheMark kind.RightBracket ∷ [])
left_in_open outer q0 (t0, (t1, (t2, (t3, (t4, _))))) (h0, (h1, (h2, (h3, (h4, _))))) = (ExprIn t0 t1 t2 t3 t4, ((h0.0, h3, h0.1), q0), refl)

right_unary_open : (outer : Operator) → IsOpen (TheRight outer) [] (TheUnary ∷ [])
right_unary_open outer (t0, _) (h0, _) = (ExprUnary t0, (h0, level_top outer), (simp append-nil refl))

right_operator_open : (outer : Operator) → (operator : Operator) → level_of outer < level_of operator → IsOpen (TheRight outer) [] (TheLeft operator ∷ TheMark (operator_kind operator) ∷ TheRight operator ∷ [])
right_operator_open outer operator q0 (t0, (t1, (t2, _))) (h0, (h1, (h2, _))) = (ExprBinary t0 operator t1 t2, ((h0.0, h2.0, h0.1, h2.1), q0), (simp append-nil refl))

right_in_open : (outer : Operator) → level_of outer < 6 → IsOpen (TheRight outer) [] (TheLeftOfIn ∷ TheMark kind.In ∷ TheMark kind.LeftBracket ∷ TheRanges ∷ TheMark kind.RightBracket ∷ [])
right_in_open outer q0 (t0, (t1, (t2, (t3, (t4, _))))) (h0, (h1, (h2, (h3, (h4, _))))) = (ExprIn t0 t1 t2 t3 t4, ((h0.0, h3, h0.1), q0), refl)

left_of_in_unary_open : IsOpen TheLeftOfIn [] (TheUnary ∷ [])
left_of_in_unary_open (t0, _) (h0, _) = (ExprUnary t0, (h0, omega arith), (simp append-nil refl))

left_of_in_operator_open : (operator : Operator) → 6 ≤ level_of operator → IsOpen TheLeftOfIn [] (TheLeft operator ∷ TheMark (operator_kind operator) ∷ TheRight operator ∷ [])
left_of_in_operator_open operator q0 (t0, (t1, (t2, _))) (h0, (h1, (h2, _))) = (ExprBinary t0 operator t1 t2, ((h0.0, h2.0, h0.1, h2.1), q0), (simp append-nil refl))

left_of_in_in_open : IsOpen TheLeftOfIn [] (TheLeftOfIn ∷ TheMark kind.In ∷ TheMark kind.LeftBracket ∷ TheRanges ∷ TheMark kind.RightBracket ∷ [])
left_of_in_in_open (t0, (t1, (t2, (t3, (t4, _))))) (h0, (h1, (h2, (h3, (h4, _))))) = (ExprIn t0 t1 t2 t3 t4, ((h0.0, h3, h0.1), omega arith), refl)

unary_prefix_open : (operator : PrefixOperator) → IsOpen TheUnary [] (TheMark (prefix_operator_kind operator) ∷ TheUnary ∷ [])
unary_prefix_open operator (t0, (t1, _)) (h0, (h1, _)) = (UnaryPrefix operator t0 t1, h1, (simp append-nil refl))

unary_primary_open : IsOpen TheUnary [] (ThePrimary ∷ [])
unary_primary_open (t0, _) (h0, _) = (UnaryPrimary t0, h0, (simp append-nil refl))

primary_number_open : IsOpen ThePrimary [] (TheNumber ∷ [])
primary_number_open (t0, _) (h0, _) = (PrimaryNumber t0, tt, refl)

primary_true_open : IsOpen ThePrimary [] (TheMark kind.True ∷ [])
primary_true_open (t0, _) (h0, _) = (PrimaryTrue t0, tt, refl)

primary_false_open : IsOpen ThePrimary [] (TheMark kind.False ∷ [])
primary_false_open (t0, _) (h0, _) = (PrimaryFalse t0, tt, refl)

primary_path_open : IsOpen ThePrimary [] (ThePath ∷ [])
primary_path_open (t0, _) (h0, _) = (PrimaryPath t0, h0, (simp append-nil refl))

primary_group_open : IsOpen ThePrimary [] (TheMark kind.LeftParenthesis ∷ TheExpr ∷ TheMark kind.RightParenthesis ∷ [])
primary_group_open (t0, (t1, (t2, _))) (h0, (h1, (h2, _))) = (PrimaryGroup t0 t1 t2, h1, refl)

path_dotted_open : IsOpen ThePath [] (ThePart ∷ TheList TheNextPart ∷ [])
path_dotted_open (t0, (t1, _)) (h0, (h1, _)) = (PathDotted t0 (next_parts_row t1), (h0, next_parts_proper t1 h1), (simp (next_parts_spelled t1, append-nil) refl))

path_item_open : IsOpen ThePath [] (TheName ∷ TheMark kind.ColonColon ∷ TheName ∷ [])
path_item_open (t0, (t1, (t2, _))) (h0, (h1, (h2, _))) = (PathItem t0 t1 t2, tt, refl)

path_long_item_open : IsOpen ThePath [] (TheName ∷ TheMark kind.ColonColon ∷ TheName ∷ TheMark kind.ColonColon ∷ TheName ∷ [])
path_long_item_open (t0, (t1, (t2, (t3, (t4, _))))) (h0, (h1, (h2, (h3, (h4, _))))) = (PathLongItem t0 t1 t2 t3 t4, tt, refl)

part_open : IsOpen ThePart [] (TheName ∷ TheOption TheIndex ∷ [])
part_open (t0, (t1, _)) (h0, (h1, _)) = (MakePart t0 (maybe_index t1), maybe_index_proper t1 h1, (simp (maybe_index_spelled t1, append-nil) refl))

next_part_open : IsOpen TheNextPart [] (TheMark kind.Dot ∷ ThePart ∷ [])
next_part_open (t0, (t1, _)) (h0, (h1, _)) = (MakeNextPart t0 t1, h1, (simp append-nil refl))

index_open : IsOpen TheIndex [] (TheMark kind.LeftBracket ∷ TheExpr ∷ TheMark kind.RightBracket ∷ [])
index_open (t0, (t1, (t2, _))) (h0, (h1, (h2, _))) = (MakeIndex t0 t1 t2, h1, refl)

ranges_open : IsOpen TheRanges [] (TheRange ∷ TheList TheNextRange ∷ [])
ranges_open (t0, (t1, _)) (h0, (h1, _)) = (MakeRanges t0 (next_ranges_row t1), (h0, next_ranges_proper t1 h1), (simp (next_ranges_spelled t1, append-nil) refl))

next_range_open : IsOpen TheNextRange [] (TheMark kind.Comma ∷ TheRange ∷ [])
next_range_open (t0, (t1, _)) (h0, (h1, _)) = (MakeNextRange t0 t1, h1, (simp append-nil refl))

range_single_open : IsOpen TheRange [] (TheExpr ∷ [])
range_single_open (t0, _) (h0, _) = (RangeSingle t0, h0, (simp append-nil refl))

range_between_open : IsOpen TheRange [] (TheExpr ∷ TheMark kind.DotDot ∷ TheExpr ∷ [])
range_between_open (t0, (t1, (t2, _))) (h0, (h1, (h2, _))) = (RangeBetween t0 t1 t2, (h0, h2), (simp append-nil refl))

next_expr_open : IsOpen TheNextExpr [] (TheMark kind.Comma ∷ TheExpr ∷ [])
next_expr_open (t0, (t1, _)) (h0, (h1, _)) = (MakeNextExpr t0 t1, h1, (simp append-nil refl))

next_name_open : IsOpen TheNextName [] (TheMark kind.Comma ∷ TheName ∷ [])
next_name_open (t0, (t1, _)) (h0, (h1, _)) = (record { comma = t0; name = t1 }, tt, refl)

dot_name_open : IsOpen TheDotName [] (TheMark kind.Dot ∷ TheName ∷ [])
dot_name_open (t0, (t1, _)) (h0, (h1, _)) = (record { dot = t0; name = t1 }, tt, refl)

names_open : IsOpen TheNames [] (TheName ∷ TheList TheNextName ∷ [])
names_open (t0, (t1, _)) (h0, (h1, _)) = (MakeNames t0 t1, tt, (simp append-nil refl))

label_open : IsOpen TheLabel [] (TheName ∷ TheMark kind.Colon ∷ [])
label_open (t0, (t1, _)) (h0, (h1, _)) = (record { name = t0; colon = t1 }, tt, refl)

type_name_open : IsOpen TheTypeName [] (TheName ∷ TheOption TheScopedName ∷ [])
type_name_open (t0, (t1, _)) (h0, (h1, _)) = (record { first = t0; second = t1 }, tt, (simp append-nil refl))

scoped_name_open : IsOpen TheScopedName [] (TheMark kind.ColonColon ∷ TheName ∷ [])
scoped_name_open (t0, (t1, _)) (h0, (h1, _)) = (record { colons = t0; name = t1 }, tt, refl)

plain_int_open : IsOpen ThePlain [] (TheMark kind.Int ∷ TheOption TheWidth ∷ [])
plain_int_open (t0, (t1, _)) (h0, (h1, _)) = (PlainInt t0 t1, h1, (simp append-nil refl))

plain_bit_open : IsOpen ThePlain [] (TheMark kind.Bit ∷ TheOption TheWidth ∷ [])
plain_bit_open (t0, (t1, _)) (h0, (h1, _)) = (PlainBit t0 t1, h1, (simp append-nil refl))

plain_bool_open : IsOpen ThePlain [] (TheMark kind.Bool ∷ [])
plain_bool_open (t0, _) (h0, _) = (PlainBool t0, tt, refl)

width_open : IsOpen TheWidth [] (TheMark kind.LeftBracket ∷ TheExpr ∷ TheOption TheLow ∷ TheMark kind.RightBracket ∷ [])
width_open (t0, (t1, (t2, (t3, _)))) (h0, (h1, (h2, (h3, _)))) = (MakeWidth t0 t1 t2 t3, (h1, h2), refl)

low_open : IsOpen TheLow [] (TheMark kind.Colon ∷ TheExpr ∷ [])
low_open (t0, (t1, _)) (h0, (h1, _)) = (MakeLow t0 t1, h1, (simp append-nil refl))

type_plain_open : IsOpen TheType [] (ThePlain ∷ TheOption TheDomain ∷ [])
type_plain_open (t0, (t1, _)) (h0, (h1, _)) = (TypePlain t0 t1, (h0, h1), (simp append-nil refl))

type_named_open : IsOpen TheType [] (TheTypeName ∷ TheOption TheDomain ∷ [])
type_named_open (t0, (t1, _)) (h0, (h1, _)) = (TypeNamed t0 t1, h1, (simp append-nil refl))

domain_open : IsOpen TheDomain [] (TheMark kind.In ∷ TheMark kind.LeftBracket ∷ TheRanges ∷ TheMark kind.RightBracket ∷ [])
domain_open (t0, (t1, (t2, (t3, _)))) (h0, (h1, (h2, (h3, _)))) = (MakeDomain t0 t1 t2 t3, h2, refl)

constraint_one_open : IsOpen TheConstraint [] (TheConstraintItem ∷ [])
constraint_one_open (t0, _) (h0, _) = (ConstraintOne t0, h0, (simp append-nil refl))

constraint_block_open : IsOpen TheConstraint [] (TheMark kind.LeftBrace ∷ TheList TheConstraintItem ∷ TheMark kind.RightBrace ∷ [])
constraint_block_open (t0, (t1, (t2, _))) (h0, (h1, (h2, _))) = (ConstraintBlock t0 (items_row t1) t2, items_proper t1 h1, (simp (items_spelled t1) refl))

constraint_item_empty_open : IsOpen TheConstraintItem [] (TheMark kind.Semicolon ∷ [])
constraint_item_empty_open (t0, _) (h0, _) = (ConstraintItemEmpty t0, tt, refl)

constraint_item_expr_open : IsOpen TheConstraintItem [] (TheExpr ∷ TheMark kind.Semicolon ∷ [])
constraint_item_expr_open (t0, (t1, _)) (h0, (h1, _)) = (ConstraintItemExpr t0 t1, h0, refl)

constraint_item_implies_open : IsOpen TheConstraintItem [] (TheExpr ∷ TheMark kind.Arrow ∷ TheConstraint ∷ [])
constraint_item_implies_open (t0, (t1, (t2, _))) (h0, (h1, (h2, _))) = (ConstraintItemImplies t0 t1 t2, (h0, h2), (simp append-nil refl))

constraint_item_if_open : IsOpen TheConstraintItem [] (TheMark kind.If ∷ TheMark kind.LeftParenthesis ∷ TheExpr ∷ TheMark kind.RightParenthesis ∷ TheConstraint ∷ [])
constraint_item_if_open (t0, (t1, (t2, (t3, (t4, _))))) (h0, (h1, (h2, (h3, (h4, _))))) = (ConstraintItemIf t0 t1 t2 t3 t4, (h2, h4), (simp append-nil refl))

constraint_item_if_else_open : IsOpen TheConstraintItem [] (TheMark kind.If ∷ TheMark kind.LeftParenthesis ∷ TheExpr ∷ TheMark kind.RightParenthesis ∷ TheClosedConstraint ∷ TheMark kind.Else ∷ TheConstraint ∷ [])
constraint_item_if_else_open (t0, (t1, (t2, (t3, (t4, (t5, (t6, _))))))) (h0, (h1, (h2, (h3, (h4, (h5, (h6, _))))))) = (ConstraintItemIfElse t0 t1 t2 t3 t4 t5 t6, (h2, h4.0, h6, h4.1), (simp append-nil refl))

constraint_item_unique_open : IsOpen TheConstraintItem [] (TheMark kind.Unique ∷ TheMark kind.LeftBrace ∷ TheExpr ∷ TheList TheNextExpr ∷ TheMark kind.RightBrace ∷ TheMark kind.Semicolon ∷ [])
constraint_item_unique_open (t0, (t1, (t2, (t3, (t4, (t5, _)))))) (h0, (h1, (h2, (h3, (h4, (h5, _)))))) = (ConstraintItemUnique t0 t1 t2 t3 t4 t5, (h2, h3), refl)

constraint_item_foreach_open : IsOpen TheConstraintItem [] (TheMark kind.Foreach ∷ TheMark kind.LeftParenthesis ∷ TheName ∷ TheList TheDotName ∷ TheMark kind.LeftBracket ∷ TheName ∷ TheMark kind.RightBracket ∷ TheMark kind.RightParenthesis ∷ TheConstraint ∷ [])
constraint_item_foreach_open (t0, (t1, (t2, (t3, (t4, (t5, (t6, (t7, (t8, _))))))))) (h0, (h1, (h2, (h3, (h4, (h5, (h6, (h7, (h8, _))))))))) = (ConstraintItemForeach t0 t1 t2 t3 t4 t5 t6 t7 t8, h8, (simp append-nil refl))

constraint_declaration_open : IsOpen TheConstraintDeclaration [] (TheMark kind.Constraint ∷ TheConstraintContent ∷ [])
constraint_declaration_open (t0, (t1, _)) (h0, (h1, _)) = (MakeConstraintDeclaration t0 t1, h1, (simp append-nil refl))

constraint_content_named_open : IsOpen TheConstraintContent [] (TheName ∷ TheMark kind.LeftBrace ∷ TheList TheConstraintItem ∷ TheMark kind.RightBrace ∷ [])
constraint_content_named_open (t0, (t1, (t2, (t3, _)))) (h0, (h1, (h2, (h3, _)))) = (ConstraintContentNamed t0 t1 t2 t3, h2, refl)

constraint_content_set_open : IsOpen TheConstraintContent [] (TheConstraint ∷ [])
constraint_content_set_open (t0, _) (h0, _) = (ConstraintContentSet t0, h0, (simp append-nil refl))

activity_open : IsOpen TheActivity [] (TheMark kind.Activity ∷ TheMark kind.LeftBrace ∷ TheList TheStatement ∷ TheMark kind.RightBrace ∷ [])
activity_open (t0, (t1, (t2, (t3, _)))) (h0, (h1, (h2, (h3, _)))) = (MakeActivity t0 t1 t2 t3, h2, refl)

statement_empty_open : IsOpen TheStatement [] (TheMark kind.Semicolon ∷ [])
statement_empty_open (t0, _) (h0, _) = (StatementEmpty t0, tt, refl)

statement_labeled_open : IsOpen TheStatement [] (TheLabel ∷ TheCore ∷ [])
statement_labeled_open (t0, (t1, _)) (h0, (h1, _)) = (StatementLabeled t0 t1, h1, (simp append-nil refl))

statement_plain_open : IsOpen TheStatement [] (TheCore ∷ [])
statement_plain_open (t0, _) (h0, _) = (StatementPlain t0, h0, (simp append-nil refl))

core_do_open : IsOpen TheCore [] (TheMark kind.Do ∷ TheTypeName ∷ TheWith ∷ [])
core_do_open (t0, (t1, (t2, _))) (h0, (h1, (h2, _))) = (CoreDo t0 t1 t2, h2, (simp append-nil refl))

core_handle_open : IsOpen TheCore [] (TheName ∷ TheWith ∷ [])
core_handle_open (t0, (t1, _)) (h0, (h1, _)) = (CoreHandle t0 t1, h1, (simp append-nil refl))

core_sequence_open : IsOpen TheCore [] (TheOption (TheMark kind.Sequence) ∷ TheMark kind.LeftBrace ∷ TheList TheStatement ∷ TheMark kind.RightBrace ∷ [])
core_sequence_open (t0, (t1, (t2, (t3, _)))) (h0, (h1, (h2, (h3, _)))) = (CoreSequence t0 t1 (statements_row t2) t3, statements_proper t2 h2, (simp (statements_spelled t2) refl))

core_together_open : (word : TogetherWord) → IsOpen TheCore [] (TheMark (together_word_kind word) ∷ TheOption TheJoin ∷ TheMark kind.LeftBrace ∷ TheList TheStatement ∷ TheMark kind.RightBrace ∷ [])
core_together_open word (t0, (t1, (t2, (t3, (t4, _))))) (h0, (h1, (h2, (h3, (h4, _))))) = (CoreTogether word t0 t1 t2 (statements_row t3) t4, (h1, statements_proper t3 h3), (simp (statements_spelled t3) refl))

core_select_open : IsOpen TheCore [] (TheMark kind.Select ∷ TheMark kind.LeftBrace ∷ TheBranch ∷ TheList TheBranch ∷ TheMark kind.RightBrace ∷ [])
core_select_open (t0, (t1, (t2, (t3, (t4, _))))) (h0, (h1, (h2, (h3, (h4, _))))) = (CoreSelect t0 t1 t2 (branches_row t3) t4, (h2, branches_proper t3 h3), (simp (branches_spelled t3) refl))

core_repeat_open : IsOpen TheCore [] (TheMark kind.Repeat ∷ TheMark kind.LeftParenthesis ∷ TheOption TheLabel ∷ TheExpr ∷ TheMark kind.RightParenthesis ∷ TheStatement ∷ [])
core_repeat_open (t0, (t1, (t2, (t3, (t4, (t5, _)))))) (h0, (h1, (h2, (h3, (h4, (h5, _)))))) = (CoreRepeat t0 t1 t2 t3 t4 t5, (h3, h5), (simp append-nil refl))

core_if_open : IsOpen TheCore [] (TheMark kind.If ∷ TheMark kind.LeftParenthesis ∷ TheExpr ∷ TheMark kind.RightParenthesis ∷ TheStatement ∷ [])
core_if_open (t0, (t1, (t2, (t3, (t4, _))))) (h0, (h1, (h2, (h3, (h4, _))))) = (CoreIf t0 t1 t2 t3 t4, (h2, h4), (simp append-nil refl))

core_if_else_open : IsOpen TheCore [] (TheMark kind.If ∷ TheMark kind.LeftParenthesis ∷ TheExpr ∷ TheMark kind.RightParenthesis ∷ TheClosedStatement ∷ TheMark kind.Else ∷ TheStatement ∷ [])
core_if_else_open (t0, (t1, (t2, (t3, (t4, (t5, (t6, _))))))) (h0, (h1, (h2, (h3, (h4, (h5, (h6, _))))))) = (CoreIfElse t0 t1 t2 t3 t4 t5 t6, (h2, h4.0, h6, h4.1), (simp append-nil refl))

core_match_open : IsOpen TheCore [] (TheMark kind.Match ∷ TheMark kind.LeftParenthesis ∷ TheExpr ∷ TheMark kind.RightParenthesis ∷ TheMark kind.LeftBrace ∷ TheArm ∷ TheList TheArm ∷ TheMark kind.RightBrace ∷ [])
core_match_open (t0, (t1, (t2, (t3, (t4, (t5, (t6, (t7, _)))))))) (h0, (h1, (h2, (h3, (h4, (h5, (h6, (h7, _)))))))) = (CoreMatch t0 t1 t2 t3 t4 t5 (arms_row t6) t7, (h2, h5, arms_proper t6 h6), (simp (arms_spelled t6) refl))

core_bind_open : IsOpen TheCore [] (TheBind ∷ [])
core_bind_open (t0, _) (h0, _) = (CoreBind t0, h0, (simp append-nil refl))

branch_open : IsOpen TheBranch [] (TheOption TheGuard ∷ TheStatement ∷ [])
branch_open (t0, (t1, _)) (h0, (h1, _)) = (MakeBranch t0 t1, (h0, h1), (simp append-nil refl))

arm_open : IsOpen TheArm [] (TheArmLabel ∷ TheMark kind.Colon ∷ TheStatement ∷ [])
arm_open (t0, (t1, (t2, _))) (h0, (h1, (h2, _))) = (MakeArm t0 t1 t2, (h0, h2), (simp append-nil refl))

guard_condition_open : IsOpen TheGuard [] (TheMark kind.LeftParenthesis ∷ TheExpr ∷ TheMark kind.RightParenthesis ∷ TheOption TheWeight ∷ TheMark kind.Colon ∷ [])
guard_condition_open (t0, (t1, (t2, (t3, (t4, _))))) (h0, (h1, (h2, (h3, (h4, _))))) = (GuardCondition t0 t1 t2 t3 t4, (h1, h3), refl)

guard_weight_open : IsOpen TheGuard [] (TheWeight ∷ TheMark kind.Colon ∷ [])
guard_weight_open (t0, (t1, _)) (h0, (h1, _)) = (GuardWeight t0 t1, h0, refl)

weight_open : IsOpen TheWeight [] (TheMark kind.LeftBracket ∷ TheExpr ∷ TheMark kind.RightBracket ∷ [])
weight_open (t0, (t1, (t2, _))) (h0, (h1, (h2, _))) = (MakeWeight t0 t1 t2, h1, refl)

arm_label_ranges_open : IsOpen TheArmLabel [] (TheMark kind.LeftBracket ∷ TheRanges ∷ TheMark kind.RightBracket ∷ [])
arm_label_ranges_open (t0, (t1, (t2, _))) (h0, (h1, (h2, _))) = (ArmLabelRanges t0 t1 t2, h1, refl)

arm_label_default_open : IsOpen TheArmLabel [] (TheMark kind.Default ∷ [])
arm_label_default_open (t0, _) (h0, _) = (ArmLabelDefault t0, tt, refl)

join_branch_open : IsOpen TheJoin [] (TheMark kind.JoinBranch ∷ TheMark kind.LeftParenthesis ∷ TheNames ∷ TheMark kind.RightParenthesis ∷ [])
join_branch_open (t0, (t1, (t2, (t3, _)))) (h0, (h1, (h2, (h3, _)))) = (JoinBranch t0 t1 t2 t3, h2, refl)

join_nothing_open : IsOpen TheJoin [] (TheMark kind.JoinNone ∷ [])
join_nothing_open (t0, _) (h0, _) = (JoinNothing t0, tt, refl)

join_select_open : IsOpen TheJoin [] (TheMark kind.JoinSelect ∷ TheMark kind.LeftParenthesis ∷ TheExpr ∷ TheMark kind.RightParenthesis ∷ [])
join_select_open (t0, (t1, (t2, (t3, _)))) (h0, (h1, (h2, (h3, _)))) = (JoinSelect t0 t1 t2 t3, h2, refl)

with_nothing_open : IsOpen TheWith [] (TheMark kind.Semicolon ∷ [])
with_nothing_open (t0, _) (h0, _) = (WithNothing t0, tt, refl)

with_set_open : IsOpen TheWith [] (TheMark kind.With ∷ TheConstraint ∷ [])
with_set_open (t0, (t1, _)) (h0, (h1, _)) = (WithSet t0 t1, h1, (simp append-nil refl))

bind_open : IsOpen TheBind [] (TheMark kind.Bind ∷ TheEnd ∷ TheOtherEnds ∷ TheMark kind.Semicolon ∷ [])
bind_open (t0, (t1, (t2, (t3, _)))) (h0, (h1, (h2, (h3, _)))) = (MakeBind t0 t1 t2 t3, h2, refl)

other_ends_one_open : IsOpen TheOtherEnds [] (TheEnd ∷ [])
other_ends_one_open (t0, _) (h0, _) = (OtherEndsOne t0, tt, (simp append-nil refl))

other_ends_several_open : IsOpen TheOtherEnds [] (TheMark kind.LeftBrace ∷ TheEnd ∷ TheList TheNextEnd ∷ TheMark kind.RightBrace ∷ [])
other_ends_several_open (t0, (t1, (t2, (t3, _)))) (h0, (h1, (h2, (h3, _)))) = (OtherEndsSeveral t0 t1 t2 t3, tt, refl)

end_open : IsOpen TheEnd [] (TheName ∷ TheMark kind.Dot ∷ TheName ∷ [])
end_open (t0, (t1, (t2, _))) (h0, (h1, (h2, _))) = (record { handle = t0; dot = t1; name = t2 }, tt, refl)

next_end_open : IsOpen TheNextEnd [] (TheMark kind.Comma ∷ TheEnd ∷ [])
next_end_open (t0, (t1, _)) (h0, (h1, _)) = (record { comma = t0; end = t1 }, tt, (simp append-nil refl))

body_open : IsOpen TheBody [] (TheMark kind.Exec ∷ TheMark kind.Body ∷ TheMark kind.LeftBrace ∷ TheList TheBodyStatement ∷ TheMark kind.RightBrace ∷ [])
body_open (t0, (t1, (t2, (t3, (t4, _))))) (h0, (h1, (h2, (h3, (h4, _))))) = (MakeBody t0 t1 t2 t3 t4, h3, refl)

body_statement_empty_open : IsOpen TheBodyStatement [] (TheMark kind.Semicolon ∷ [])
body_statement_empty_open (t0, _) (h0, _) = (BodyStatementEmpty t0, tt, refl)

body_statement_local_open : IsOpen TheBodyStatement [] (ThePlain ∷ TheName ∷ TheOption TheValue ∷ TheMark kind.Semicolon ∷ [])
body_statement_local_open (t0, (t1, (t2, (t3, _)))) (h0, (h1, (h2, (h3, _)))) = (BodyStatementLocal t0 t1 t2 t3, (h0, h2), refl)

body_statement_assign_open : IsOpen TheBodyStatement [] (TheName ∷ TheMark kind.Equal ∷ TheSource ∷ TheMark kind.Semicolon ∷ [])
body_statement_assign_open (t0, (t1, (t2, (t3, _)))) (h0, (h1, (h2, (h3, _)))) = (BodyStatementAssign t0 t1 t2 t3, h2, refl)

body_statement_call_open : IsOpen TheBodyStatement [] (TheCall ∷ TheMark kind.Semicolon ∷ [])
body_statement_call_open (t0, (t1, _)) (h0, (h1, _)) = (BodyStatementCall t0 t1, h0, refl)

body_statement_block_open : IsOpen TheBodyStatement [] (TheMark kind.LeftBrace ∷ TheList TheBodyStatement ∷ TheMark kind.RightBrace ∷ [])
body_statement_block_open (t0, (t1, (t2, _))) (h0, (h1, (h2, _))) = (BodyStatementBlock t0 (body_statements_row t1) t2, body_statements_proper t1 h1, (simp (body_statements_spelled t1) refl))

body_statement_if_open : IsOpen TheBodyStatement [] (TheMark kind.If ∷ TheMark kind.LeftParenthesis ∷ TheExpr ∷ TheMark kind.RightParenthesis ∷ TheBodyStatement ∷ [])
body_statement_if_open (t0, (t1, (t2, (t3, (t4, _))))) (h0, (h1, (h2, (h3, (h4, _))))) = (BodyStatementIf t0 t1 t2 t3 t4, (h2, h4), (simp append-nil refl))

body_statement_if_else_open : IsOpen TheBodyStatement [] (TheMark kind.If ∷ TheMark kind.LeftParenthesis ∷ TheExpr ∷ TheMark kind.RightParenthesis ∷ TheClosedBodyStatement ∷ TheMark kind.Else ∷ TheBodyStatement ∷ [])
body_statement_if_else_open (t0, (t1, (t2, (t3, (t4, (t5, (t6, _))))))) (h0, (h1, (h2, (h3, (h4, (h5, (h6, _))))))) = (BodyStatementIfElse t0 t1 t2 t3 t4 t5 t6, (h2, h4.0, h6, h4.1), (simp append-nil refl))

body_statement_repeat_open : IsOpen TheBodyStatement [] (TheMark kind.Repeat ∷ TheMark kind.LeftParenthesis ∷ TheOption TheLabel ∷ TheExpr ∷ TheMark kind.RightParenthesis ∷ TheBodyStatement ∷ [])
body_statement_repeat_open (t0, (t1, (t2, (t3, (t4, (t5, _)))))) (h0, (h1, (h2, (h3, (h4, (h5, _)))))) = (BodyStatementRepeat t0 t1 t2 t3 t4 t5, (h3, h5), (simp append-nil refl))

value_open : IsOpen TheValue [] (TheMark kind.Equal ∷ TheSource ∷ [])
value_open (t0, (t1, _)) (h0, (h1, _)) = (MakeValue t0 t1, h1, (simp append-nil refl))

source_call_open : IsOpen TheSource [] (TheCall ∷ [])
source_call_open (t0, _) (h0, _) = (SourceCall t0, h0, (simp append-nil refl))

source_expr_open : IsOpen TheSource [] (TheExpr ∷ [])
source_expr_open (t0, _) (h0, _) = (SourceExpr t0, h0, (simp append-nil refl))

call_open : IsOpen TheCall [] (TheName ∷ TheMark kind.LeftParenthesis ∷ TheOption TheArguments ∷ TheMark kind.RightParenthesis ∷ [])
call_open (t0, (t1, (t2, (t3, _)))) (h0, (h1, (h2, (h3, _)))) = (MakeCall t0 t1 t2 t3, h2, refl)

arguments_open : IsOpen TheArguments [] (TheExpr ∷ TheList TheNextExpr ∷ [])
arguments_open (t0, (t1, _)) (h0, (h1, _)) = (MakeArguments t0 t1, (h0, h1), (simp append-nil refl))

unit_open : IsOpen TheUnit [] (TheList TheItem ∷ TheMark kind.End ∷ [])
unit_open (t0, (t1, _)) (h0, (h1, _)) = (MakeUnit t0 (mark kind.End t1), (h0, refl), refl)

item_component_open : IsOpen TheItem [] (TheComponent ∷ [])
item_component_open (t0, _) (h0, _) = (ItemComponent t0, h0, (simp append-nil refl))

item_object_open : IsOpen TheItem [] (TheObject ∷ [])
item_object_open (t0, _) (h0, _) = (ItemObject t0, h0, (simp append-nil refl))

item_enum_open : IsOpen TheItem [] (TheEnum ∷ [])
item_enum_open (t0, _) (h0, _) = (ItemEnum t0, h0, (simp append-nil refl))

item_function_open : IsOpen TheItem [] (TheFunction ∷ [])
item_function_open (t0, _) (h0, _) = (ItemFunction t0, h0, (simp append-nil refl))

item_empty_open : IsOpen TheItem [] (TheMark kind.Semicolon ∷ [])
item_empty_open (t0, _) (h0, _) = (ItemEmpty t0, tt, refl)

component_open : IsOpen TheComponent [] (TheMark kind.Component ∷ TheName ∷ TheMark kind.LeftBrace ∷ TheList TheComponentPart ∷ TheMark kind.RightBrace ∷ [])
component_open (t0, (t1, (t2, (t3, (t4, _))))) (h0, (h1, (h2, (h3, (h4, _))))) = (MakeComponent t0 t1 t2 t3 t4, h3, refl)

component_part_action_open : IsOpen TheComponentPart [] (TheAction ∷ [])
component_part_action_open (t0, _) (h0, _) = (ComponentPartAction t0, h0, (simp append-nil refl))

component_part_object_open : IsOpen TheComponentPart [] (TheObject ∷ [])
component_part_object_open (t0, _) (h0, _) = (ComponentPartObject t0, h0, (simp append-nil refl))

component_part_enum_open : IsOpen TheComponentPart [] (TheEnum ∷ [])
component_part_enum_open (t0, _) (h0, _) = (ComponentPartEnum t0, h0, (simp append-nil refl))

component_part_function_open : IsOpen TheComponentPart [] (TheFunction ∷ [])
component_part_function_open (t0, _) (h0, _) = (ComponentPartFunction t0, h0, (simp append-nil refl))

component_part_pool_open : IsOpen TheComponentPart [] (ThePool ∷ [])
component_part_pool_open (t0, _) (h0, _) = (ComponentPartPool t0, h0, (simp append-nil refl))

component_part_pool_bind_open : IsOpen TheComponentPart [] (ThePoolBind ∷ [])
component_part_pool_bind_open (t0, _) (h0, _) = (ComponentPartPoolBind t0, h0, (simp append-nil refl))

component_part_members_open : IsOpen TheComponentPart [] (TheMembers ∷ [])
component_part_members_open (t0, _) (h0, _) = (ComponentPartMembers t0, h0, (simp append-nil refl))

component_part_empty_open : IsOpen TheComponentPart [] (TheMark kind.Semicolon ∷ [])
component_part_empty_open (t0, _) (h0, _) = (ComponentPartEmpty t0, tt, refl)

object_open : (word : ObjectWord) → IsOpen TheObject [] (TheMark (object_word_kind word) ∷ TheName ∷ TheMark kind.LeftBrace ∷ TheList TheObjectPart ∷ TheMark kind.RightBrace ∷ [])
object_open word (t0, (t1, (t2, (t3, (t4, _))))) (h0, (h1, (h2, (h3, (h4, _))))) = (MakeObject word t0 t1 t2 t3 t4, h3, refl)

object_part_field_open : IsOpen TheObjectPart [] (TheField ∷ [])
object_part_field_open (t0, _) (h0, _) = (ObjectPartField t0, h0, (simp append-nil refl))

object_part_constraint_open : IsOpen TheObjectPart [] (TheConstraintDeclaration ∷ [])
object_part_constraint_open (t0, _) (h0, _) = (ObjectPartConstraint t0, h0, (simp append-nil refl))

object_part_empty_open : IsOpen TheObjectPart [] (TheMark kind.Semicolon ∷ [])
object_part_empty_open (t0, _) (h0, _) = (ObjectPartEmpty t0, tt, refl)

enum_open : IsOpen TheEnum [] (TheMark kind.Enum ∷ TheName ∷ TheMark kind.LeftBrace ∷ TheEnumItem ∷ TheList TheNextEnumItem ∷ TheMark kind.RightBrace ∷ [])
enum_open (t0, (t1, (t2, (t3, (t4, (t5, _)))))) (h0, (h1, (h2, (h3, (h4, (h5, _)))))) = (MakeEnum t0 t1 t2 t3 t4 t5, (h3, h4), refl)

enum_item_open : IsOpen TheEnumItem [] (TheName ∷ TheOption TheEnumValue ∷ [])
enum_item_open (t0, (t1, _)) (h0, (h1, _)) = (MakeEnumItem t0 t1, h1, (simp append-nil refl))

enum_value_open : IsOpen TheEnumValue [] (TheMark kind.Equal ∷ TheExpr ∷ [])
enum_value_open (t0, (t1, _)) (h0, (h1, _)) = (MakeEnumValue t0 t1, h1, (simp append-nil refl))

next_enum_item_open : IsOpen TheNextEnumItem [] (TheMark kind.Comma ∷ TheEnumItem ∷ [])
next_enum_item_open (t0, (t1, _)) (h0, (h1, _)) = (MakeNextEnumItem t0 t1, h1, (simp append-nil refl))

function_open : IsOpen TheFunction [] (TheMark kind.Import ∷ TheOption (TheMark kind.Target) ∷ TheMark kind.Function ∷ TheAnswer ∷ TheName ∷ TheMark kind.LeftParenthesis ∷ TheOption TheParameters ∷ TheMark kind.RightParenthesis ∷ TheMark kind.Semicolon ∷ [])
function_open (t0, (t1, (t2, (t3, (t4, (t5, (t6, (t7, (t8, _))))))))) (h0, (h1, (h2, (h3, (h4, (h5, (h6, (h7, (h8, _))))))))) = (MakeFunction t0 t1 t2 t3 t4 t5 t6 t7 t8, (h3, h6), refl)

answer_void_open : IsOpen TheAnswer [] (TheMark kind.Void ∷ [])
answer_void_open (t0, _) (h0, _) = (AnswerVoid t0, tt, refl)

answer_plain_open : IsOpen TheAnswer [] (ThePlain ∷ [])
answer_plain_open (t0, _) (h0, _) = (AnswerPlain t0, h0, (simp append-nil refl))

parameters_open : IsOpen TheParameters [] (TheParameter ∷ TheList TheNextParameter ∷ [])
parameters_open (t0, (t1, _)) (h0, (h1, _)) = (MakeParameters t0 t1, (h0, h1), (simp append-nil refl))

parameter_open : IsOpen TheParameter [] (TheOption (TheMark kind.Input) ∷ ThePlain ∷ TheName ∷ [])
parameter_open (t0, (t1, (t2, _))) (h0, (h1, (h2, _))) = (MakeParameter t0 t1 t2, h1, refl)

next_parameter_open : IsOpen TheNextParameter [] (TheMark kind.Comma ∷ TheParameter ∷ [])
next_parameter_open (t0, (t1, _)) (h0, (h1, _)) = (MakeNextParameter t0 t1, h1, (simp append-nil refl))

pool_open : IsOpen ThePool [] (TheMark kind.Pool ∷ TheOption TheSize ∷ TheTypeName ∷ TheName ∷ TheMark kind.Semicolon ∷ [])
pool_open (t0, (t1, (t2, (t3, (t4, _))))) (h0, (h1, (h2, (h3, (h4, _))))) = (MakePool t0 t1 t2 t3 t4, h1, refl)

size_open : IsOpen TheSize [] (TheMark kind.LeftBracket ∷ TheExpr ∷ TheMark kind.RightBracket ∷ [])
size_open (t0, (t1, (t2, _))) (h0, (h1, (h2, _))) = (MakeSize t0 t1 t2, h1, refl)

pool_bind_open : IsOpen ThePoolBind [] (TheMark kind.Bind ∷ TheName ∷ TheTargets ∷ TheMark kind.Semicolon ∷ [])
pool_bind_open (t0, (t1, (t2, (t3, _)))) (h0, (h1, (h2, (h3, _)))) = (MakePoolBind t0 t1 t2 t3, h2, refl)

targets_all_open : IsOpen TheTargets [] (TheMark kind.Star ∷ [])
targets_all_open (t0, _) (h0, _) = (TargetsAll t0, tt, refl)

targets_one_open : IsOpen TheTargets [] (TheTarget ∷ [])
targets_one_open (t0, _) (h0, _) = (TargetsOne t0, h0, (simp append-nil refl))

targets_several_open : IsOpen TheTargets [] (TheMark kind.LeftBrace ∷ TheTarget ∷ TheList TheNextTarget ∷ TheMark kind.RightBrace ∷ [])
targets_several_open (t0, (t1, (t2, (t3, _)))) (h0, (h1, (h2, (h3, _)))) = (TargetsSeveral t0 t1 t2 t3, (h1, h2), refl)

target_open : IsOpen TheTarget [] (TheName ∷ TheDotName ∷ TheList TheDotName ∷ [])
target_open (t0, (t1, (t2, _))) (h0, (h1, (h2, _))) = (MakeTarget t0 t1 t2, tt, (simp append-nil refl))

next_target_open : IsOpen TheNextTarget [] (TheMark kind.Comma ∷ TheTarget ∷ [])
next_target_open (t0, (t1, _)) (h0, (h1, _)) = (MakeNextTarget t0 t1, h1, (simp append-nil refl))

members_open : IsOpen TheMembers [] (TheTypeName ∷ TheNames ∷ TheMark kind.Semicolon ∷ [])
members_open (t0, (t1, (t2, _))) (h0, (h1, (h2, _))) = (MakeMembers t0 t1 t2, h1, refl)

action_open : IsOpen TheAction [] (TheOption (TheMark kind.Abstract) ∷ TheMark kind.Action ∷ TheName ∷ TheOption TheBase ∷ TheMark kind.LeftBrace ∷ TheList TheActionPart ∷ TheMark kind.RightBrace ∷ [])
action_open (t0, (t1, (t2, (t3, (t4, (t5, (t6, _))))))) (h0, (h1, (h2, (h3, (h4, (h5, (h6, _))))))) = (MakeAction t0 t1 t2 t3 t4 t5 t6, h5, refl)

base_open : IsOpen TheBase [] (TheMark kind.Colon ∷ TheTypeName ∷ [])
base_open (t0, (t1, _)) (h0, (h1, _)) = (record { colon = t0; name = t1 }, tt, (simp append-nil refl))

action_part_field_open : IsOpen TheActionPart [] (TheField ∷ [])
action_part_field_open (t0, _) (h0, _) = (ActionPartField t0, h0, (simp append-nil refl))

action_part_reference_open : IsOpen TheActionPart [] (TheReference ∷ [])
action_part_reference_open (t0, _) (h0, _) = (ActionPartReference t0, h0, (simp append-nil refl))

action_part_claim_open : IsOpen TheActionPart [] (TheClaim ∷ [])
action_part_claim_open (t0, _) (h0, _) = (ActionPartClaim t0, h0, (simp append-nil refl))

action_part_members_open : IsOpen TheActionPart [] (TheMembers ∷ [])
action_part_members_open (t0, _) (h0, _) = (ActionPartMembers t0, h0, (simp append-nil refl))

action_part_constraint_open : IsOpen TheActionPart [] (TheConstraintDeclaration ∷ [])
action_part_constraint_open (t0, _) (h0, _) = (ActionPartConstraint t0, h0, (simp append-nil refl))

action_part_activity_open : IsOpen TheActionPart [] (TheActivity ∷ [])
action_part_activity_open (t0, _) (h0, _) = (ActionPartActivity t0, h0, (simp append-nil refl))

action_part_body_open : IsOpen TheActionPart [] (TheBody ∷ [])
action_part_body_open (t0, _) (h0, _) = (ActionPartBody t0, h0, (simp append-nil refl))

action_part_empty_open : IsOpen TheActionPart [] (TheMark kind.Semicolon ∷ [])
action_part_empty_open (t0, _) (h0, _) = (ActionPartEmpty t0, tt, refl)

field_open : IsOpen TheField [] (TheMark kind.Rand ∷ TheType ∷ ThePart ∷ TheList TheNextField ∷ TheMark kind.Semicolon ∷ [])
field_open (t0, (t1, (t2, (t3, (t4, _))))) (h0, (h1, (h2, (h3, (h4, _))))) = (MakeField t0 t1 t2 t3 t4, (h1, h2, h3), refl)

next_field_open : IsOpen TheNextField [] (TheMark kind.Comma ∷ ThePart ∷ [])
next_field_open (t0, (t1, _)) (h0, (h1, _)) = (MakeNextField t0 t1, h1, (simp append-nil refl))

reference_open : (word : ReferenceWord) → IsOpen TheReference [] (TheMark (reference_word_kind word) ∷ TheTypeName ∷ TheNames ∷ TheMark kind.Semicolon ∷ [])
reference_open word (t0, (t1, (t2, (t3, _)))) (h0, (h1, (h2, (h3, _)))) = (MakeReference word t0 t1 t2 t3, h2, refl)

claim_open : (word : ClaimWord) → IsOpen TheClaim [] (TheMark (claim_word_kind word) ∷ TheTypeName ∷ TheNames ∷ TheMark kind.Semicolon ∷ [])
claim_open word (t0, (t1, (t2, (t3, _)))) (h0, (h1, (h2, (h3, _)))) = (MakeClaim word t0 t1 t2 t3, h2, refl)

option_none_open : (r : Rule) → IsOpen (TheOption r) [] []
option_none_open r _ _ = (None, tt, refl)

option_some_open : (r : Rule) → IsOpen (TheOption r) [] (r ∷ [])
option_some_open r (t0, _) (h0, _) = (Some t0, h0, sym (append-nil (spell_of r t0)))

list_none_open : (r : Rule) → IsOpen (TheList r) [] []
list_none_open r _ _ = ([], tt, refl)

list_more_open : (r : Rule) → IsOpen (TheList r) [] (r ∷ TheList r ∷ [])
list_more_open r (t0, (t1, _)) (h0, (h1, _)) = (t0 ∷ t1, (h0, h1), ap (λ (ts : List Token). spell_of r t0 ++ ts) (sym (append-nil (flat_map (spell_of r) t1))))

pub productions_open : (rule : Rule) (parts : List Rule) → Production rule parts → IsOpen rule [] parts
productions_open _ _ expr_unary = expr_unary_open
productions_open _ _ (expr_operator operator) = expr_operator_open operator
productions_open _ _ expr_in = expr_in_open
productions_open _ _ (left_unary outer) = left_unary_open outer
productions_open _ _ (left_operator outer operator q0) = left_operator_open outer operator q0
productions_open _ _ (left_in outer q0) = left_in_open outer q0
productions_open _ _ (right_unary outer) = right_unary_open outer
productions_open _ _ (right_operator outer operator q0) = right_operator_open outer operator q0
productions_open _ _ (right_in outer q0) = right_in_open outer q0
productions_open _ _ left_of_in_unary = left_of_in_unary_open
productions_open _ _ (left_of_in_operator operator q0) = left_of_in_operator_open operator q0
productions_open _ _ left_of_in_in = left_of_in_in_open
productions_open _ _ (unary_prefix operator) = unary_prefix_open operator
productions_open _ _ unary_primary = unary_primary_open
productions_open _ _ primary_number = primary_number_open
productions_open _ _ primary_true = primary_true_open
productions_open _ _ primary_false = primary_false_open
productions_open _ _ primary_path = primary_path_open
productions_open _ _ primary_group = primary_group_open
productions_open _ _ path_dotted = path_dotted_open
productions_open _ _ path_item = path_item_open
productions_open _ _ path_long_item = path_long_item_open
productions_open _ _ part = part_open
productions_open _ _ next_part = next_part_open
productions_open _ _ index = index_open
productions_open _ _ ranges = ranges_open
productions_open _ _ next_range = next_range_open
productions_open _ _ range_single = range_single_open
productions_open _ _ range_between = range_between_open
productions_open _ _ next_expr = next_expr_open
productions_open _ _ next_name = next_name_open
productions_open _ _ dot_name = dot_name_open
productions_open _ _ names = names_open
productions_open _ _ label = label_open
productions_open _ _ type_name = type_name_open
productions_open _ _ scoped_name = scoped_name_open
productions_open _ _ plain_int = plain_int_open
productions_open _ _ plain_bit = plain_bit_open
productions_open _ _ plain_bool = plain_bool_open
productions_open _ _ width = width_open
productions_open _ _ low = low_open
productions_open _ _ type_plain = type_plain_open
productions_open _ _ type_named = type_named_open
productions_open _ _ domain = domain_open
productions_open _ _ constraint_one = constraint_one_open
productions_open _ _ constraint_block = constraint_block_open
productions_open _ _ constraint_item_empty = constraint_item_empty_open
productions_open _ _ constraint_item_expr = constraint_item_expr_open
productions_open _ _ constraint_item_implies = constraint_item_implies_open
productions_open _ _ constraint_item_if = constraint_item_if_open
productions_open _ _ constraint_item_if_else = constraint_item_if_else_open
productions_open _ _ constraint_item_unique = constraint_item_unique_open
productions_open _ _ constraint_item_foreach = constraint_item_foreach_open
productions_open _ _ constraint_declaration = constraint_declaration_open
productions_open _ _ constraint_content_named = constraint_content_named_open
productions_open _ _ constraint_content_set = constraint_content_set_open
productions_open _ _ activity = activity_open
productions_open _ _ statement_empty = statement_empty_open
productions_open _ _ statement_labeled = statement_labeled_open
productions_open _ _ statement_plain = statement_plain_open
productions_open _ _ core_do = core_do_open
productions_open _ _ core_handle = core_handle_open
productions_open _ _ core_sequence = core_sequence_open
productions_open _ _ (core_together word) = core_together_open word
productions_open _ _ core_select = core_select_open
productions_open _ _ core_repeat = core_repeat_open
productions_open _ _ core_if = core_if_open
productions_open _ _ core_if_else = core_if_else_open
productions_open _ _ core_match = core_match_open
productions_open _ _ core_bind = core_bind_open
productions_open _ _ branch = branch_open
productions_open _ _ arm = arm_open
productions_open _ _ guard_condition = guard_condition_open
productions_open _ _ guard_weight = guard_weight_open
productions_open _ _ weight = weight_open
productions_open _ _ arm_label_ranges = arm_label_ranges_open
productions_open _ _ arm_label_default = arm_label_default_open
productions_open _ _ join_branch = join_branch_open
productions_open _ _ join_nothing = join_nothing_open
productions_open _ _ join_select = join_select_open
productions_open _ _ with_nothing = with_nothing_open
productions_open _ _ with_set = with_set_open
productions_open _ _ bind = bind_open
productions_open _ _ other_ends_one = other_ends_one_open
productions_open _ _ other_ends_several = other_ends_several_open
productions_open _ _ end = end_open
productions_open _ _ next_end = next_end_open
productions_open _ _ body = body_open
productions_open _ _ body_statement_empty = body_statement_empty_open
productions_open _ _ body_statement_local = body_statement_local_open
productions_open _ _ body_statement_assign = body_statement_assign_open
productions_open _ _ body_statement_call = body_statement_call_open
productions_open _ _ body_statement_block = body_statement_block_open
productions_open _ _ body_statement_if = body_statement_if_open
productions_open _ _ body_statement_if_else = body_statement_if_else_open
productions_open _ _ body_statement_repeat = body_statement_repeat_open
productions_open _ _ value = value_open
productions_open _ _ source_call = source_call_open
productions_open _ _ source_expr = source_expr_open
productions_open _ _ call = call_open
productions_open _ _ arguments = arguments_open
productions_open _ _ unit = unit_open
productions_open _ _ item_component = item_component_open
productions_open _ _ item_object = item_object_open
productions_open _ _ item_enum = item_enum_open
productions_open _ _ item_function = item_function_open
productions_open _ _ item_empty = item_empty_open
productions_open _ _ component = component_open
productions_open _ _ component_part_action = component_part_action_open
productions_open _ _ component_part_object = component_part_object_open
productions_open _ _ component_part_enum = component_part_enum_open
productions_open _ _ component_part_function = component_part_function_open
productions_open _ _ component_part_pool = component_part_pool_open
productions_open _ _ component_part_pool_bind = component_part_pool_bind_open
productions_open _ _ component_part_members = component_part_members_open
productions_open _ _ component_part_empty = component_part_empty_open
productions_open _ _ (object word) = object_open word
productions_open _ _ object_part_field = object_part_field_open
productions_open _ _ object_part_constraint = object_part_constraint_open
productions_open _ _ object_part_empty = object_part_empty_open
productions_open _ _ enum = enum_open
productions_open _ _ enum_item = enum_item_open
productions_open _ _ enum_value = enum_value_open
productions_open _ _ next_enum_item = next_enum_item_open
productions_open _ _ function = function_open
productions_open _ _ answer_void = answer_void_open
productions_open _ _ answer_plain = answer_plain_open
productions_open _ _ parameters = parameters_open
productions_open _ _ parameter = parameter_open
productions_open _ _ next_parameter = next_parameter_open
productions_open _ _ pool = pool_open
productions_open _ _ size = size_open
productions_open _ _ pool_bind = pool_bind_open
productions_open _ _ targets_all = targets_all_open
productions_open _ _ targets_one = targets_one_open
productions_open _ _ targets_several = targets_several_open
productions_open _ _ target = target_open
productions_open _ _ next_target = next_target_open
productions_open _ _ members = members_open
productions_open _ _ action = action_open
productions_open _ _ base = base_open
productions_open _ _ action_part_field = action_part_field_open
productions_open _ _ action_part_reference = action_part_reference_open
productions_open _ _ action_part_claim = action_part_claim_open
productions_open _ _ action_part_members = action_part_members_open
productions_open _ _ action_part_constraint = action_part_constraint_open
productions_open _ _ action_part_activity = action_part_activity_open
productions_open _ _ action_part_body = action_part_body_open
productions_open _ _ action_part_empty = action_part_empty_open
productions_open _ _ field = field_open
productions_open _ _ next_field = next_field_open
productions_open _ _ (reference word) = reference_open word
productions_open _ _ (claim word) = claim_open word
productions_open _ _ (option_none r) = option_none_open r
productions_open _ _ (option_some r) = option_some_open r
productions_open _ _ (list_none r) = list_none_open r
productions_open _ _ (list_more r) = list_more_open r
