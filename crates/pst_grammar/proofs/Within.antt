-- A tree of an inner rule stands in a tree of an outer one with all else fixed, so that there is at most one of the inner rule where there is at most one of the outer.
use Rattle.std.proofs.Common.{◌≡◌, List, [], ◌∷◌, ◌++◌, refl, ap}
use Rattle.std.specs.Prelude.{Some, None}
use Rattle.pst_base.specs.declared.position.Place.{Place}
use Rattle.pst_token.specs.declared.kind.Kind.TheVariants as kind
use Rattle.pst_token.specs.declared.token.Token.{Token}
use Rattle.pst_ast.specs.Marks.{mark, name_token, number_token}
use Rattle.pst_ast.specs.Rule.{Rule, TheMark, TheName, TheNumber, TheLeft, TheRight, TheLeftOfIn, TheExpr, TheUnary, ThePrimary, ThePath, ThePart, TheNextPart, TheIndex, TheRanges, TheNextRange, TheRange, TheNextExpr, TheNextName, TheDotName, TheNames, TheLabel, TheTypeName, TheScopedName, ThePlain, TheWidth, TheLow, TheType, TheDomain, TheConstraint, TheClosedConstraint, TheConstraintItem, TheConstraintDeclaration, TheConstraintContent, TheActivity, TheStatement, TheClosedStatement, TheCore, TheBranch, TheArm, TheGuard, TheWeight, TheArmLabel, TheJoin, TheWith, TheBind, TheOtherEnds, TheEnd, TheNextEnd, TheBody, TheBodyStatement, TheClosedBodyStatement, TheValue, TheSource, TheCall, TheArguments, TheUnit, TheItem, TheComponent, TheComponentPart, TheObject, TheObjectPart, TheEnum, TheEnumItem, TheEnumValue, TheNextEnumItem, TheFunction, TheAnswer, TheParameters, TheParameter, TheNextParameter, ThePool, TheSize, ThePoolBind, TheTargets, TheTarget, TheNextTarget, TheMembers, TheAction, TheBase, TheActionPart, TheField, TheNextField, TheReference, TheClaim, TheOption, TheList}
use Rattle.pst_ast.specs.TreeOf.{TreeOf}
use Rattle.pst_ast.specs.SpellOf.{spell_of}
use Rattle.pst_ast.specs.ProperOf.{IsProperOf}
use Rattle.pst_ast.specs.Laws.{AtMostOneTree, OneTreeOfExpressions, OneTreeOfEachRule}
use Rattle.pst_ast.specs.declared.leaf.Name.{Name}
use Rattle.pst_ast.specs.declared.shared.DotName.{DotName}
use Rattle.pst_ast.specs.declared.shared.TypeName.{TypeName}
use Rattle.pst_ast.specs.declared.activity.EndNode.{EndNode}
use Rattle.pst_ast.specs.declared.activity.TogetherWord.TheVariants as the_together_word
use Rattle.pst_ast.specs.declared.declaration.BaseNode.{BaseNode}
use Rattle.pst_ast.specs.declared.declaration.ObjectWord.TheVariants as the_object_word
use Rattle.pst_ast.specs.ExpressionTree.{ExprTree, ExprUnary, UnaryPrimary, PrimaryTrue, PartTree, MakePart, NoIndex, SomeIndex, PathDotted, MoreNextPartRow, NoNextPartRow, MakeRanges, RangeSingle, MoreNextRangeRow, NoNextRangeRow}
use Rattle.pst_ast.specs.SharedTree.{TypePlain, PlainBool, PlainInt, MakeWidth, MakeNames}
use Rattle.pst_ast.specs.ConstraintTree.{MakeConstraintDeclaration, ConstraintContentSet, ConstraintOne, ConstraintItemUnique}
use Rattle.pst_ast.specs.ActivityTree.{MakeActivity, StatementPlain, StatementLabeled, StatementEmpty, CoreSequence, CoreHandle, CoreSelect, CoreMatch, CoreBind, CoreTogether, NoStatementRow, NoBranchRow, NoArmRow, MakeBranch, MakeArm, GuardWeight, MakeBind, OtherEndsOne, OtherEndsSeveral}
use Rattle.pst_ast.specs.BodyTree.{MakeBody, BodyStatementLocal, BodyStatementAssign, SourceCall, MakeCall}
use Rattle.pst_ast.specs.DeclarationTree.{MakeUnit, ItemComponent, ItemObject, ItemEnum, ItemFunction, MakeComponent, ComponentPartAction, ComponentPartPool, ComponentPartPoolBind, ComponentPartMembers, MakeAction, ActionPartField, ActionPartReference, ActionPartClaim, ActionPartConstraint, ActionPartActivity, ActionPartBody, MakeObject, MakeField, MakeMembers, MakePool, MakePoolBind, TargetsOne, TargetsSeveral, MakeTarget, MakeEnum, MakeEnumItem, MakeFunction, AnswerVoid, MakeParameters, MakeParameter}

-- some place, some names, an expression, a part and an end
abbrev origin : Place
origin = record { file = 0; line = 1; column = 1 }

abbrev name : Name
name = record { id = record { 0 = 0 }; place = origin }

abbrev type_name : TypeName
type_name = record { first = name; second = None }

abbrev dot_name : DotName
dot_name = record { dot = origin; name = name }

abbrev end : EndNode
end = record { handle = name; dot = origin; name = name }

abbrev yes : ExprTree
yes = ExprUnary (UnaryPrimary (PrimaryTrue origin))

abbrev part : PartTree
part = MakePart name NoIndex

abbrev finish : Token
finish = mark kind.End origin

some : {A : Type 0} {x y : A} → Some x ≡ Some y → x ≡ y
some e = cc

-- where a tree of the inner rule stands in one of the outer
one_within : (inner outer : Rule) (wrap : TreeOf inner → TreeOf outer) → ((t : TreeOf inner) → IsProperOf inner t → IsProperOf outer (wrap t))
    → ((t u : TreeOf inner) → spell_of inner t ≡ spell_of inner u → spell_of outer (wrap t) ≡ spell_of outer (wrap u))
    → ((t u : TreeOf inner) → wrap t ≡ wrap u → t ≡ u) → AtMostOneTree outer → AtMostOneTree inner
one_within inner outer wrap proper spelled same one t u h k e = same t u (one (wrap t) (wrap u) (proper t h) (proper u k) (spelled t u e))

one_item : AtMostOneTree TheUnit → AtMostOneTree TheItem
one_item unit = one_within TheItem TheUnit (λ t. MakeUnit (t ∷ []) finish) (λ t h. ((h, tt), refl)) (λ t u e. ap (λ (ts : List Token). (ts ++ []) ++ mark kind.End origin ∷ []) e) (λ t u e. cc) unit

one_component : AtMostOneTree TheUnit → AtMostOneTree TheComponent
one_component unit = one_within TheComponent TheItem (λ t. ItemComponent t) (λ t h. h) (λ t u e. ap (λ (ts : List Token). ts) e) (λ t u e. cc) (one_item unit)

one_object : AtMostOneTree TheUnit → AtMostOneTree TheObject
one_object unit = one_within TheObject TheItem (λ t. ItemObject t) (λ t h. h) (λ t u e. ap (λ (ts : List Token). ts) e) (λ t u e. cc) (one_item unit)

one_enum : AtMostOneTree TheUnit → AtMostOneTree TheEnum
one_enum unit = one_within TheEnum TheItem (λ t. ItemEnum t) (λ t h. h) (λ t u e. ap (λ (ts : List Token). ts) e) (λ t u e. cc) (one_item unit)

one_function : AtMostOneTree TheUnit → AtMostOneTree TheFunction
one_function unit = one_within TheFunction TheItem (λ t. ItemFunction t) (λ t h. h) (λ t u e. ap (λ (ts : List Token). ts) e) (λ t u e. cc) (one_item unit)

one_component_part : AtMostOneTree TheUnit → AtMostOneTree TheComponentPart
one_component_part unit = one_within TheComponentPart TheComponent (λ t. MakeComponent origin name origin (t ∷ []) origin) (λ t h. (h, tt)) (λ t u e. ap (λ (ts : List Token). mark kind.Component origin ∷ name_token name ∷ mark kind.LeftBrace origin ∷ ((ts ++ []) ++ mark kind.RightBrace origin ∷ [])) e) (λ t u e. cc) (one_component unit)

one_action : AtMostOneTree TheUnit → AtMostOneTree TheAction
one_action unit = one_within TheAction TheComponentPart (λ t. ComponentPartAction t) (λ t h. h) (λ t u e. ap (λ (ts : List Token). ts) e) (λ t u e. cc) (one_component_part unit)

one_pool : AtMostOneTree TheUnit → AtMostOneTree ThePool
one_pool unit = one_within ThePool TheComponentPart (λ t. ComponentPartPool t) (λ t h. h) (λ t u e. ap (λ (ts : List Token). ts) e) (λ t u e. cc) (one_component_part unit)

one_pool_bind : AtMostOneTree TheUnit → AtMostOneTree ThePoolBind
one_pool_bind unit = one_within ThePoolBind TheComponentPart (λ t. ComponentPartPoolBind t) (λ t h. h) (λ t u e. ap (λ (ts : List Token). ts) e) (λ t u e. cc) (one_component_part unit)

one_members : AtMostOneTree TheUnit → AtMostOneTree TheMembers
one_members unit = one_within TheMembers TheComponentPart (λ t. ComponentPartMembers t) (λ t h. h) (λ t u e. ap (λ (ts : List Token). ts) e) (λ t u e. cc) (one_component_part unit)

one_action_part : AtMostOneTree TheUnit → AtMostOneTree TheActionPart
one_action_part unit = one_within TheActionPart TheAction (λ t. MakeAction None origin name None origin (t ∷ []) origin) (λ t h. (h, tt)) (λ t u e. ap (λ (ts : List Token). mark kind.Action origin ∷ name_token name ∷ mark kind.LeftBrace origin ∷ ((ts ++ []) ++ mark kind.RightBrace origin ∷ [])) e) (λ t u e. cc) (one_action unit)

one_base : AtMostOneTree TheUnit → AtMostOneTree TheBase
one_base unit = one_within TheBase TheAction (λ t. MakeAction None origin name (Some t) origin [] origin) (λ t h. tt) (λ t u e. ap (λ (ts : List Token). mark kind.Action origin ∷ name_token name ∷ (ts ++ mark kind.LeftBrace origin ∷ mark kind.RightBrace origin ∷ [])) e) (λ t u e. cc) (one_action unit)

one_type_name : AtMostOneTree TheUnit → AtMostOneTree TheTypeName
one_type_name unit = one_within TheTypeName TheBase (λ t. record { colon = origin; name = t }) (λ t h. tt) (λ t u e. ap (λ (ts : List Token). mark kind.Colon origin ∷ ts) e) (λ t u e. ap (λ (b : BaseNode). b.name) e) (one_base unit)

one_scoped_name : AtMostOneTree TheUnit → AtMostOneTree TheScopedName
one_scoped_name unit = one_within TheScopedName TheTypeName (λ t. record { first = name; second = Some t }) (λ t h. tt) (λ t u e. ap (λ (ts : List Token). name_token name ∷ ts) e) (λ t u e. some (ap (λ (n : TypeName). n.second) e)) (one_type_name unit)

one_field : AtMostOneTree TheUnit → AtMostOneTree TheField
one_field unit = one_within TheField TheActionPart (λ t. ActionPartField t) (λ t h. h) (λ t u e. ap (λ (ts : List Token). ts) e) (λ t u e. cc) (one_action_part unit)

one_reference : AtMostOneTree TheUnit → AtMostOneTree TheReference
one_reference unit = one_within TheReference TheActionPart (λ t. ActionPartReference t) (λ t h. h) (λ t u e. ap (λ (ts : List Token). ts) e) (λ t u e. cc) (one_action_part unit)

one_claim : AtMostOneTree TheUnit → AtMostOneTree TheClaim
one_claim unit = one_within TheClaim TheActionPart (λ t. ActionPartClaim t) (λ t h. h) (λ t u e. ap (λ (ts : List Token). ts) e) (λ t u e. cc) (one_action_part unit)

one_constraint_declaration : AtMostOneTree TheUnit → AtMostOneTree TheConstraintDeclaration
one_constraint_declaration unit = one_within TheConstraintDeclaration TheActionPart (λ t. ActionPartConstraint t) (λ t h. h) (λ t u e. ap (λ (ts : List Token). ts) e) (λ t u e. cc) (one_action_part unit)

one_activity : AtMostOneTree TheUnit → AtMostOneTree TheActivity
one_activity unit = one_within TheActivity TheActionPart (λ t. ActionPartActivity t) (λ t h. h) (λ t u e. ap (λ (ts : List Token). ts) e) (λ t u e. cc) (one_action_part unit)

one_body : AtMostOneTree TheUnit → AtMostOneTree TheBody
one_body unit = one_within TheBody TheActionPart (λ t. ActionPartBody t) (λ t h. h) (λ t u e. ap (λ (ts : List Token). ts) e) (λ t u e. cc) (one_action_part unit)

one_object_part : AtMostOneTree TheUnit → AtMostOneTree TheObjectPart
one_object_part unit = one_within TheObjectPart TheObject (λ t. MakeObject the_object_word.Buffer origin name origin (t ∷ []) origin) (λ t h. (h, tt)) (λ t u e. ap (λ (ts : List Token). mark kind.Buffer origin ∷ name_token name ∷ mark kind.LeftBrace origin ∷ ((ts ++ []) ++ mark kind.RightBrace origin ∷ [])) e) (λ t u e. cc) (one_object unit)

one_type : AtMostOneTree TheUnit → AtMostOneTree TheType
one_type unit = one_within TheType TheField (λ t. MakeField origin t part [] origin) (λ t h. (h, tt, tt)) (λ t u e. ap (λ (ts : List Token). mark kind.Rand origin ∷ (ts ++ name_token name ∷ mark kind.Semicolon origin ∷ [])) e) (λ t u e. cc) (one_field unit)

one_next_field : AtMostOneTree TheUnit → AtMostOneTree TheNextField
one_next_field unit = one_within TheNextField TheField (λ t. MakeField origin (TypePlain (PlainBool origin) None) part (t ∷ []) origin) (λ t h. ((tt, tt), tt, (h, tt))) (λ t u e. ap (λ (ts : List Token). mark kind.Rand origin ∷ mark kind.Bool origin ∷ name_token name ∷ ((ts ++ []) ++ mark kind.Semicolon origin ∷ [])) e) (λ t u e. cc) (one_field unit)

one_plain : AtMostOneTree TheUnit → AtMostOneTree ThePlain
one_plain unit = one_within ThePlain TheType (λ t. TypePlain t None) (λ t h. (h, tt)) (λ t u e. ap (λ (ts : List Token). ts ++ []) e) (λ t u e. cc) (one_type unit)

one_domain : AtMostOneTree TheUnit → AtMostOneTree TheDomain
one_domain unit = one_within TheDomain TheType (λ t. TypePlain (PlainBool origin) (Some t)) (λ t h. (tt, h)) (λ t u e. ap (λ (ts : List Token). mark kind.Bool origin ∷ ts) e) (λ t u e. cc) (one_type unit)

one_width : AtMostOneTree TheUnit → AtMostOneTree TheWidth
one_width unit = one_within TheWidth ThePlain (λ t. PlainInt origin (Some t)) (λ t h. h) (λ t u e. ap (λ (ts : List Token). mark kind.Int origin ∷ ts) e) (λ t u e. cc) (one_plain unit)

one_low : AtMostOneTree TheUnit → AtMostOneTree TheLow
one_low unit = one_within TheLow TheWidth (λ t. MakeWidth origin yes (Some t) origin) (λ t h. (tt, h)) (λ t u e. ap (λ (ts : List Token). mark kind.LeftBracket origin ∷ mark kind.True origin ∷ (ts ++ mark kind.RightBracket origin ∷ [])) e) (λ t u e. cc) (one_width unit)

one_names : AtMostOneTree TheUnit → AtMostOneTree TheNames
one_names unit = one_within TheNames TheMembers (λ t. MakeMembers type_name t origin) (λ t h. h) (λ t u e. ap (λ (ts : List Token). name_token name ∷ (ts ++ mark kind.Semicolon origin ∷ [])) e) (λ t u e. cc) (one_members unit)

one_next_name : AtMostOneTree TheUnit → AtMostOneTree TheNextName
one_next_name unit = one_within TheNextName TheNames (λ t. MakeNames name (t ∷ [])) (λ t h. tt) (λ t u e. ap (λ (ts : List Token). name_token name ∷ (ts ++ [])) e) (λ t u e. cc) (one_names unit)

one_size : AtMostOneTree TheUnit → AtMostOneTree TheSize
one_size unit = one_within TheSize ThePool (λ t. MakePool origin (Some t) type_name name origin) (λ t h. h) (λ t u e. ap (λ (ts : List Token). mark kind.Pool origin ∷ (ts ++ name_token name ∷ name_token name ∷ mark kind.Semicolon origin ∷ [])) e) (λ t u e. cc) (one_pool unit)

one_targets : AtMostOneTree TheUnit → AtMostOneTree TheTargets
one_targets unit = one_within TheTargets ThePoolBind (λ t. MakePoolBind origin name t origin) (λ t h. h) (λ t u e. ap (λ (ts : List Token). mark kind.Bind origin ∷ name_token name ∷ (ts ++ mark kind.Semicolon origin ∷ [])) e) (λ t u e. cc) (one_pool_bind unit)

one_target : AtMostOneTree TheUnit → AtMostOneTree TheTarget
one_target unit = one_within TheTarget TheTargets (λ t. TargetsOne t) (λ t h. h) (λ t u e. ap (λ (ts : List Token). ts) e) (λ t u e. cc) (one_targets unit)

one_next_target : AtMostOneTree TheUnit → AtMostOneTree TheNextTarget
one_next_target unit = one_within TheNextTarget TheTargets (λ t. TargetsSeveral origin (MakeTarget name dot_name []) (t ∷ []) origin) (λ t h. (tt, (h, tt))) (λ t u e. ap (λ (ts : List Token). mark kind.LeftBrace origin ∷ name_token name ∷ mark kind.Dot origin ∷ name_token name ∷ ((ts ++ []) ++ mark kind.RightBrace origin ∷ [])) e) (λ t u e. cc) (one_targets unit)

one_dot_name : AtMostOneTree TheUnit → AtMostOneTree TheDotName
one_dot_name unit = one_within TheDotName TheTarget (λ t. MakeTarget name t []) (λ t h. tt) (λ t u e. ap (λ (ts : List Token). name_token name ∷ (ts ++ [])) e) (λ t u e. cc) (one_target unit)

one_enum_item : AtMostOneTree TheUnit → AtMostOneTree TheEnumItem
one_enum_item unit = one_within TheEnumItem TheEnum (λ t. MakeEnum origin name origin t [] origin) (λ t h. (h, tt)) (λ t u e. ap (λ (ts : List Token). mark kind.Enum origin ∷ name_token name ∷ mark kind.LeftBrace origin ∷ (ts ++ mark kind.RightBrace origin ∷ [])) e) (λ t u e. cc) (one_enum unit)

one_next_enum_item : AtMostOneTree TheUnit → AtMostOneTree TheNextEnumItem
one_next_enum_item unit = one_within TheNextEnumItem TheEnum (λ t. MakeEnum origin name origin (MakeEnumItem name None) (t ∷ []) origin) (λ t h. (tt, (h, tt))) (λ t u e. ap (λ (ts : List Token). mark kind.Enum origin ∷ name_token name ∷ mark kind.LeftBrace origin ∷ name_token name ∷ ((ts ++ []) ++ mark kind.RightBrace origin ∷ [])) e) (λ t u e. cc) (one_enum unit)

one_enum_value : AtMostOneTree TheUnit → AtMostOneTree TheEnumValue
one_enum_value unit = one_within TheEnumValue TheEnumItem (λ t. MakeEnumItem name (Some t)) (λ t h. h) (λ t u e. ap (λ (ts : List Token). name_token name ∷ ts) e) (λ t u e. cc) (one_enum_item unit)

one_answer : AtMostOneTree TheUnit → AtMostOneTree TheAnswer
one_answer unit = one_within TheAnswer TheFunction (λ t. MakeFunction origin None origin t name origin None origin origin) (λ t h. (h, tt)) (λ t u e. ap (λ (ts : List Token). mark kind.Import origin ∷ mark kind.Function origin ∷ (ts ++ name_token name ∷ mark kind.LeftParenthesis origin ∷ mark kind.RightParenthesis origin ∷ mark kind.Semicolon origin ∷ [])) e) (λ t u e. cc) (one_function unit)

one_parameters : AtMostOneTree TheUnit → AtMostOneTree TheParameters
one_parameters unit = one_within TheParameters TheFunction (λ t. MakeFunction origin None origin (AnswerVoid origin) name origin (Some t) origin origin) (λ t h. (tt, h)) (λ t u e. ap (λ (ts : List Token). mark kind.Import origin ∷ mark kind.Function origin ∷ mark kind.Void origin ∷ name_token name ∷ mark kind.LeftParenthesis origin ∷ (ts ++ mark kind.RightParenthesis origin ∷ mark kind.Semicolon origin ∷ [])) e) (λ t u e. cc) (one_function unit)

one_parameter : AtMostOneTree TheUnit → AtMostOneTree TheParameter
one_parameter unit = one_within TheParameter TheParameters (λ t. MakeParameters t []) (λ t h. (h, tt)) (λ t u e. ap (λ (ts : List Token). ts ++ []) e) (λ t u e. cc) (one_parameters unit)

one_next_parameter : AtMostOneTree TheUnit → AtMostOneTree TheNextParameter
one_next_parameter unit = one_within TheNextParameter TheParameters (λ t. MakeParameters (MakeParameter None (PlainBool origin) name) (t ∷ [])) (λ t h. (tt, (h, tt))) (λ t u e. ap (λ (ts : List Token). mark kind.Bool origin ∷ name_token name ∷ (ts ++ [])) e) (λ t u e. cc) (one_parameters unit)

one_constraint_content : AtMostOneTree TheUnit → AtMostOneTree TheConstraintContent
one_constraint_content unit = one_within TheConstraintContent TheConstraintDeclaration (λ t. MakeConstraintDeclaration origin t) (λ t h. h) (λ t u e. ap (λ (ts : List Token). mark kind.Constraint origin ∷ ts) e) (λ t u e. cc) (one_constraint_declaration unit)

one_constraint : AtMostOneTree TheUnit → AtMostOneTree TheConstraint
one_constraint unit = one_within TheConstraint TheConstraintContent (λ t. ConstraintContentSet t) (λ t h. h) (λ t u e. ap (λ (ts : List Token). ts) e) (λ t u e. cc) (one_constraint_content unit)

one_closed_constraint : AtMostOneTree TheUnit → AtMostOneTree TheClosedConstraint
one_closed_constraint unit = one_within TheClosedConstraint TheConstraint (λ t. t) (λ t h. h.0) (λ t u e. ap (λ (ts : List Token). ts) e) (λ t u e. e) (one_constraint unit)

one_constraint_item : AtMostOneTree TheUnit → AtMostOneTree TheConstraintItem
one_constraint_item unit = one_within TheConstraintItem TheConstraint (λ t. ConstraintOne t) (λ t h. h) (λ t u e. ap (λ (ts : List Token). ts) e) (λ t u e. cc) (one_constraint unit)

one_next_expr : AtMostOneTree TheUnit → AtMostOneTree TheNextExpr
one_next_expr unit = one_within TheNextExpr TheConstraintItem (λ t. ConstraintItemUnique origin origin yes (t ∷ []) origin origin) (λ t h. (tt, (h, tt))) (λ t u e. ap (λ (ts : List Token). mark kind.Unique origin ∷ mark kind.LeftBrace origin ∷ mark kind.True origin ∷ ((ts ++ []) ++ mark kind.RightBrace origin ∷ mark kind.Semicolon origin ∷ [])) e) (λ t u e. cc) (one_constraint_item unit)

one_statement : AtMostOneTree TheUnit → AtMostOneTree TheStatement
one_statement unit = one_within TheStatement TheActivity (λ t. MakeActivity origin origin (t ∷ []) origin) (λ t h. (h, tt)) (λ t u e. ap (λ (ts : List Token). mark kind.Activity origin ∷ mark kind.LeftBrace origin ∷ ((ts ++ []) ++ mark kind.RightBrace origin ∷ [])) e) (λ t u e. cc) (one_activity unit)

one_closed_statement : AtMostOneTree TheUnit → AtMostOneTree TheClosedStatement
one_closed_statement unit = one_within TheClosedStatement TheStatement (λ t. t) (λ t h. h.0) (λ t u e. ap (λ (ts : List Token). ts) e) (λ t u e. e) (one_statement unit)

one_core : AtMostOneTree TheUnit → AtMostOneTree TheCore
one_core unit = one_within TheCore TheStatement (λ t. StatementPlain t) (λ t h. h) (λ t u e. ap (λ (ts : List Token). ts) e) (λ t u e. cc) (one_statement unit)

one_label : AtMostOneTree TheUnit → AtMostOneTree TheLabel
one_label unit = one_within TheLabel TheStatement (λ t. StatementLabeled t (CoreSequence None origin NoStatementRow origin)) (λ t h. tt) (λ t u e. ap (λ (ts : List Token). ts ++ mark kind.LeftBrace origin ∷ mark kind.RightBrace origin ∷ []) e) (λ t u e. cc) (one_statement unit)

one_with : AtMostOneTree TheUnit → AtMostOneTree TheWith
one_with unit = one_within TheWith TheCore (λ t. CoreHandle name t) (λ t h. h) (λ t u e. ap (λ (ts : List Token). name_token name ∷ ts) e) (λ t u e. cc) (one_core unit)

one_branch : AtMostOneTree TheUnit → AtMostOneTree TheBranch
one_branch unit = one_within TheBranch TheCore (λ t. CoreSelect origin origin t NoBranchRow origin) (λ t h. (h, tt)) (λ t u e. ap (λ (ts : List Token). mark kind.Select origin ∷ mark kind.LeftBrace origin ∷ (ts ++ mark kind.RightBrace origin ∷ [])) e) (λ t u e. cc) (one_core unit)

one_arm : AtMostOneTree TheUnit → AtMostOneTree TheArm
one_arm unit = one_within TheArm TheCore (λ t. CoreMatch origin origin yes origin origin t NoArmRow origin) (λ t h. (tt, h, tt)) (λ t u e. ap (λ (ts : List Token). mark kind.Match origin ∷ mark kind.LeftParenthesis origin ∷ mark kind.True origin ∷ mark kind.RightParenthesis origin ∷ mark kind.LeftBrace origin ∷ (ts ++ mark kind.RightBrace origin ∷ [])) e) (λ t u e. cc) (one_core unit)

one_bind : AtMostOneTree TheUnit → AtMostOneTree TheBind
one_bind unit = one_within TheBind TheCore (λ t. CoreBind t) (λ t h. h) (λ t u e. ap (λ (ts : List Token). ts) e) (λ t u e. cc) (one_core unit)

one_join : AtMostOneTree TheUnit → AtMostOneTree TheJoin
one_join unit = one_within TheJoin TheCore (λ t. CoreTogether the_together_word.Parallel origin (Some t) origin NoStatementRow origin) (λ t h. (h, tt)) (λ t u e. ap (λ (ts : List Token). mark kind.Parallel origin ∷ (ts ++ mark kind.LeftBrace origin ∷ mark kind.RightBrace origin ∷ [])) e) (λ t u e. cc) (one_core unit)

one_guard : AtMostOneTree TheUnit → AtMostOneTree TheGuard
one_guard unit = one_within TheGuard TheBranch (λ t. MakeBranch (Some t) (StatementEmpty origin)) (λ t h. (h, tt)) (λ t u e. ap (λ (ts : List Token). ts ++ mark kind.Semicolon origin ∷ []) e) (λ t u e. cc) (one_branch unit)

one_weight : AtMostOneTree TheUnit → AtMostOneTree TheWeight
one_weight unit = one_within TheWeight TheGuard (λ t. GuardWeight t origin) (λ t h. h) (λ t u e. ap (λ (ts : List Token). ts ++ mark kind.Colon origin ∷ []) e) (λ t u e. cc) (one_guard unit)

one_arm_label : AtMostOneTree TheUnit → AtMostOneTree TheArmLabel
one_arm_label unit = one_within TheArmLabel TheArm (λ t. MakeArm t origin (StatementEmpty origin)) (λ t h. (h, tt)) (λ t u e. ap (λ (ts : List Token). ts ++ mark kind.Colon origin ∷ mark kind.Semicolon origin ∷ []) e) (λ t u e. cc) (one_arm unit)

one_other_ends : AtMostOneTree TheUnit → AtMostOneTree TheOtherEnds
one_other_ends unit = one_within TheOtherEnds TheBind (λ t. MakeBind origin end t origin) (λ t h. h) (λ t u e. ap (λ (ts : List Token). mark kind.Bind origin ∷ name_token name ∷ mark kind.Dot origin ∷ name_token name ∷ (ts ++ mark kind.Semicolon origin ∷ [])) e) (λ t u e. cc) (one_bind unit)

one_end : AtMostOneTree TheUnit → AtMostOneTree TheEnd
one_end unit = one_within TheEnd TheOtherEnds (λ t. OtherEndsOne t) (λ t h. tt) (λ t u e. ap (λ (ts : List Token). ts) e) (λ t u e. cc) (one_other_ends unit)

one_next_end : AtMostOneTree TheUnit → AtMostOneTree TheNextEnd
one_next_end unit = one_within TheNextEnd TheOtherEnds (λ t. OtherEndsSeveral origin end (t ∷ []) origin) (λ t h. tt) (λ t u e. ap (λ (ts : List Token). mark kind.LeftBrace origin ∷ name_token name ∷ mark kind.Dot origin ∷ name_token name ∷ ((ts ++ []) ++ mark kind.RightBrace origin ∷ [])) e) (λ t u e. cc) (one_other_ends unit)

one_body_statement : AtMostOneTree TheUnit → AtMostOneTree TheBodyStatement
one_body_statement unit = one_within TheBodyStatement TheBody (λ t. MakeBody origin origin origin (t ∷ []) origin) (λ t h. (h, tt)) (λ t u e. ap (λ (ts : List Token). mark kind.Exec origin ∷ mark kind.Body origin ∷ mark kind.LeftBrace origin ∷ ((ts ++ []) ++ mark kind.RightBrace origin ∷ [])) e) (λ t u e. cc) (one_body unit)

one_closed_body_statement : AtMostOneTree TheUnit → AtMostOneTree TheClosedBodyStatement
one_closed_body_statement unit = one_within TheClosedBodyStatement TheBodyStatement (λ t. t) (λ t h. h.0) (λ t u e. ap (λ (ts : List Token). ts) e) (λ t u e. e) (one_body_statement unit)

one_value : AtMostOneTree TheUnit → AtMostOneTree TheValue
one_value unit = one_within TheValue TheBodyStatement (λ t. BodyStatementLocal (PlainBool origin) name (Some t) origin) (λ t h. (tt, h)) (λ t u e. ap (λ (ts : List Token). mark kind.Bool origin ∷ name_token name ∷ (ts ++ mark kind.Semicolon origin ∷ [])) e) (λ t u e. cc) (one_body_statement unit)

one_source : AtMostOneTree TheUnit → AtMostOneTree TheSource
one_source unit = one_within TheSource TheBodyStatement (λ t. BodyStatementAssign name origin t origin) (λ t h. h) (λ t u e. ap (λ (ts : List Token). name_token name ∷ mark kind.Equal origin ∷ (ts ++ mark kind.Semicolon origin ∷ [])) e) (λ t u e. cc) (one_body_statement unit)

one_call : AtMostOneTree TheUnit → AtMostOneTree TheCall
one_call unit = one_within TheCall TheSource (λ t. SourceCall t) (λ t h. h) (λ t u e. ap (λ (ts : List Token). ts) e) (λ t u e. cc) (one_source unit)

one_arguments : AtMostOneTree TheUnit → AtMostOneTree TheArguments
one_arguments unit = one_within TheArguments TheCall (λ t. MakeCall name origin (Some t) origin) (λ t h. h) (λ t u e. ap (λ (ts : List Token). name_token name ∷ mark kind.LeftParenthesis origin ∷ (ts ++ mark kind.RightParenthesis origin ∷ [])) e) (λ t u e. cc) (one_call unit)

one_next_part : OneTreeOfExpressions → AtMostOneTree TheNextPart
one_next_part exprs = one_within TheNextPart ThePath (λ t. PathDotted part (MoreNextPartRow t NoNextPartRow)) (λ t h. (tt, (h, tt))) (λ t u e. ap (λ (ts : List Token). name_token name ∷ (ts ++ [])) e) (λ t u e. cc) exprs.6

one_index : OneTreeOfExpressions → AtMostOneTree TheIndex
one_index exprs = one_within TheIndex ThePart (λ t. MakePart name (SomeIndex t)) (λ t h. h) (λ t u e. ap (λ (ts : List Token). name_token name ∷ ts) e) (λ t u e. cc) exprs.7

one_next_range : OneTreeOfExpressions → AtMostOneTree TheNextRange
one_next_range exprs = one_within TheNextRange TheRanges (λ t. MakeRanges (RangeSingle yes) (MoreNextRangeRow t NoNextRangeRow)) (λ t h. (tt, (h, tt))) (λ t u e. ap (λ (ts : List Token). mark kind.True origin ∷ (ts ++ [])) e) (λ t u e. cc) exprs.8

-- a mark, a name and a number are told by their tokens
first_same : (t u : Token) (ts us : List Token) → t ∷ ts ≡ u ∷ us → t ≡ u
first_same t u ts us e = cc

one_mark : (k : _) → AtMostOneTree (TheMark k)
one_mark k t u h l e = ap (λ (x : Token). x.place) (first_same (mark k t) (mark k u) [] [] e)

one_name : AtMostOneTree TheName
one_name t u h l e =
    let same = first_same (name_token t) (name_token u) [] [] e in
    λ i. record { id = ap (λ (x : Token). x.name) same i; place = ap (λ (x : Token). x.place) same i }

one_number : AtMostOneTree TheNumber
one_number t u h l e =
    let same = first_same (number_token t) (number_token u) [] [] e in
    λ i. record { value = ap (λ (x : Token). x.number) same i; place = ap (λ (x : Token). x.place) same i }

pub each_rule : OneTreeOfExpressions → AtMostOneTree TheUnit → OneTreeOfEachRule
each_rule exprs unit (TheMark k) named = one_mark k
each_rule exprs unit TheName named = one_name
each_rule exprs unit TheNumber named = one_number
each_rule exprs unit TheExpr named = exprs.0
each_rule exprs unit (TheLeft operator) named = exprs.1 operator
each_rule exprs unit (TheRight operator) named = exprs.2 operator
each_rule exprs unit TheLeftOfIn named = exprs.3
each_rule exprs unit TheUnary named = exprs.4
each_rule exprs unit ThePrimary named = exprs.5
each_rule exprs unit ThePath named = exprs.6
each_rule exprs unit ThePart named = exprs.7
each_rule exprs unit TheRanges named = exprs.8
each_rule exprs unit TheRange named = exprs.9
each_rule exprs unit TheUnit named = unit
each_rule exprs unit (TheOption inner) named = absurd named
each_rule exprs unit (TheList inner) named = absurd named
each_rule exprs unit TheItem named = one_item unit
each_rule exprs unit TheComponent named = one_component unit
each_rule exprs unit TheObject named = one_object unit
each_rule exprs unit TheEnum named = one_enum unit
each_rule exprs unit TheFunction named = one_function unit
each_rule exprs unit TheComponentPart named = one_component_part unit
each_rule exprs unit TheAction named = one_action unit
each_rule exprs unit ThePool named = one_pool unit
each_rule exprs unit ThePoolBind named = one_pool_bind unit
each_rule exprs unit TheMembers named = one_members unit
each_rule exprs unit TheActionPart named = one_action_part unit
each_rule exprs unit TheBase named = one_base unit
each_rule exprs unit TheTypeName named = one_type_name unit
each_rule exprs unit TheScopedName named = one_scoped_name unit
each_rule exprs unit TheField named = one_field unit
each_rule exprs unit TheReference named = one_reference unit
each_rule exprs unit TheClaim named = one_claim unit
each_rule exprs unit TheConstraintDeclaration named = one_constraint_declaration unit
each_rule exprs unit TheActivity named = one_activity unit
each_rule exprs unit TheBody named = one_body unit
each_rule exprs unit TheObjectPart named = one_object_part unit
each_rule exprs unit TheType named = one_type unit
each_rule exprs unit TheNextField named = one_next_field unit
each_rule exprs unit ThePlain named = one_plain unit
each_rule exprs unit TheDomain named = one_domain unit
each_rule exprs unit TheWidth named = one_width unit
each_rule exprs unit TheLow named = one_low unit
each_rule exprs unit TheNames named = one_names unit
each_rule exprs unit TheNextName named = one_next_name unit
each_rule exprs unit TheSize named = one_size unit
each_rule exprs unit TheTargets named = one_targets unit
each_rule exprs unit TheTarget named = one_target unit
each_rule exprs unit TheNextTarget named = one_next_target unit
each_rule exprs unit TheDotName named = one_dot_name unit
each_rule exprs unit TheEnumItem named = one_enum_item unit
each_rule exprs unit TheNextEnumItem named = one_next_enum_item unit
each_rule exprs unit TheEnumValue named = one_enum_value unit
each_rule exprs unit TheAnswer named = one_answer unit
each_rule exprs unit TheParameters named = one_parameters unit
each_rule exprs unit TheParameter named = one_parameter unit
each_rule exprs unit TheNextParameter named = one_next_parameter unit
each_rule exprs unit TheConstraintContent named = one_constraint_content unit
each_rule exprs unit TheConstraint named = one_constraint unit
each_rule exprs unit TheClosedConstraint named = one_closed_constraint unit
each_rule exprs unit TheConstraintItem named = one_constraint_item unit
each_rule exprs unit TheNextExpr named = one_next_expr unit
each_rule exprs unit TheStatement named = one_statement unit
each_rule exprs unit TheClosedStatement named = one_closed_statement unit
each_rule exprs unit TheCore named = one_core unit
each_rule exprs unit TheLabel named = one_label unit
each_rule exprs unit TheWith named = one_with unit
each_rule exprs unit TheBranch named = one_branch unit
each_rule exprs unit TheArm named = one_arm unit
each_rule exprs unit TheBind named = one_bind unit
each_rule exprs unit TheJoin named = one_join unit
each_rule exprs unit TheGuard named = one_guard unit
each_rule exprs unit TheWeight named = one_weight unit
each_rule exprs unit TheArmLabel named = one_arm_label unit
each_rule exprs unit TheOtherEnds named = one_other_ends unit
each_rule exprs unit TheEnd named = one_end unit
each_rule exprs unit TheNextEnd named = one_next_end unit
each_rule exprs unit TheBodyStatement named = one_body_statement unit
each_rule exprs unit TheClosedBodyStatement named = one_closed_body_statement unit
each_rule exprs unit TheValue named = one_value unit
each_rule exprs unit TheSource named = one_source unit
each_rule exprs unit TheCall named = one_call unit
each_rule exprs unit TheArguments named = one_arguments unit
each_rule exprs unit TheNextPart named = one_next_part exprs
each_rule exprs unit TheIndex named = one_index exprs
each_rule exprs unit TheNextRange named = one_next_range exprs
