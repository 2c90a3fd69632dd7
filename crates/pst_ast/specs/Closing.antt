-- For each rule a smallest tree, and the tokens that close a part of the rule that stands open.
use Rattle.std.specs.Prelude.{pos, List, [], None}
use Rattle.std.specs.List.{flat_map}
use Rattle.pst_base.specs.declared.position.Place.{Place}
use Rattle.pst_token.specs.declared.token.Token.{Token}
use Rattle.pst_token.specs.declared.kind.Kind.TheVariants as kind
use Rattle.pst_ast.specs.declared.leaf.Name.{Name}
use Rattle.pst_ast.specs.declared.leaf.Number.{Number}
use Rattle.pst_ast.specs.declared.shared.DotName.{DotName}
use Rattle.pst_ast.specs.declared.activity.EndNode.{EndNode}
use Rattle.pst_ast.specs.declared.shared.TypeName.{TypeName}
use Rattle.pst_ast.specs.declared.declaration.ClaimWord.TheVariants as the_claim_word
use Rattle.pst_ast.specs.declared.declaration.ObjectWord.TheVariants as the_object_word
use Rattle.pst_ast.specs.declared.declaration.ReferenceWord.TheVariants as the_reference_word
use Rattle.pst_ast.specs.Marks.{mark}
use Rattle.pst_ast.specs.ExpressionTree.{ExprTree, ExprUnary, UnaryPrimary, PrimaryNumber, PathDotted, MakePart, MakeNextPart, MakeIndex, MakeRanges, MakeNextRange, RangeSingle, NoNextPartRow, NoIndex, NoNextRangeRow}
use Rattle.pst_ast.specs.SharedTree.{MakeNextExpr, MakeNames, MakeLow, MakeWidth, PlainBool, MakeDomain, TypePlain}
use Rattle.pst_ast.specs.ConstraintTree.{ConstraintOne, ConstraintItemEmpty, ConstraintContentSet, MakeConstraintDeclaration}
use Rattle.pst_ast.specs.ActivityTree.{WithNothing, JoinNothing, OtherEndsOne, MakeBind, MakeWeight, GuardWeight, ArmLabelDefault, StatementEmpty, CoreHandle, MakeBranch, MakeArm, MakeActivity}
use Rattle.pst_ast.specs.BodyTree.{MakeArguments, MakeCall, SourceExpr, MakeValue, BodyStatementEmpty, MakeBody}
use Rattle.pst_ast.specs.DeclarationTree.{MakeNextField, MakeField, MakeReference, MakeClaim, MakeMembers, ActionPartEmpty, MakeAction, ObjectPartEmpty, MakeObject, MakeEnumValue, MakeEnumItem, MakeNextEnumItem, MakeEnum, AnswerVoid, MakeParameter, MakeNextParameter, MakeParameters, MakeFunction, MakeSize, MakePool, MakeTarget, MakeNextTarget, TargetsAll, MakePoolBind, ComponentPartEmpty, MakeComponent, ItemEmpty, MakeUnit}
use Rattle.pst_ast.specs.Rule.{Rule, TheMark, TheName, TheNumber, TheLeft, TheRight, TheLeftOfIn, TheExpr, TheUnary, ThePrimary, ThePath, ThePart, TheNextPart, TheIndex, TheRanges, TheNextRange, TheRange, TheNextExpr, TheNextName, TheDotName, TheNames, TheLabel, TheTypeName, TheScopedName, ThePlain, TheWidth, TheLow, TheType, TheDomain, TheConstraint, TheClosedConstraint, TheConstraintItem, TheConstraintDeclaration, TheConstraintContent, TheActivity, TheStatement, TheClosedStatement, TheCore, TheBranch, TheArm, TheGuard, TheWeight, TheArmLabel, TheJoin, TheWith, TheBind, TheOtherEnds, TheEnd, TheNextEnd, TheBody, TheBodyStatement, TheClosedBodyStatement, TheValue, TheSource, TheCall, TheArguments, TheUnit, TheItem, TheComponent, TheComponentPart, TheObject, TheObjectPart, TheEnum, TheEnumItem, TheEnumValue, TheNextEnumItem, TheFunction, TheAnswer, TheParameters, TheParameter, TheNextParameter, ThePool, TheSize, ThePoolBind, TheTargets, TheTarget, TheNextTarget, TheMembers, TheAction, TheBase, TheActionPart, TheField, TheNextField, TheReference, TheClaim, TheOption, TheList}
use Rattle.pst_ast.specs.TreeOf.{TreeOf}
use Rattle.pst_ast.specs.SpellOf.{spell_of}

-- a place in no file
abbrev pub origin : Place
origin = record { file = 0; line = 0; column = 0 }

abbrev pub name_here : Name
name_here = record { id = record { 0 = 0 }; place = origin }

abbrev pub zero_here : Number
zero_here = record { value = pos 0; place = origin }

abbrev pub expr_here : ExprTree
expr_here = ExprUnary (UnaryPrimary (PrimaryNumber zero_here))

abbrev pub type_name_here : TypeName
type_name_here = record { first = name_here; second = None }

abbrev pub dot_name_here : DotName
dot_name_here = record { dot = origin; name = name_here }

abbrev pub end_here : EndNode
end_here = record { handle = name_here; dot = origin; name = name_here }

-- a smallest tree of a rule
abbrev pub smallest : (rule : Rule) → TreeOf rule
smallest (TheMark k) = origin
smallest TheName = name_here
smallest TheNumber = zero_here
smallest (TheLeft o) = expr_here
smallest (TheRight o) = expr_here
smallest TheLeftOfIn = expr_here
smallest TheExpr = ExprUnary (UnaryPrimary (PrimaryNumber zero_here))
smallest TheUnary = UnaryPrimary (PrimaryNumber zero_here)
smallest ThePrimary = PrimaryNumber zero_here
smallest ThePath = PathDotted (MakePart name_here NoIndex) NoNextPartRow
smallest ThePart = MakePart name_here NoIndex
smallest TheNextPart = MakeNextPart origin (MakePart name_here NoIndex)
smallest TheIndex = MakeIndex origin expr_here origin
smallest TheRanges = MakeRanges (RangeSingle expr_here) NoNextRangeRow
smallest TheNextRange = MakeNextRange origin (RangeSingle expr_here)
smallest TheRange = RangeSingle expr_here
smallest TheNextExpr = MakeNextExpr origin expr_here
smallest TheNextName = record { comma = origin; name = name_here }
smallest TheDotName = record { dot = origin; name = name_here }
smallest TheNames = MakeNames name_here []
smallest TheLabel = record { name = name_here; colon = origin }
smallest TheTypeName = record { first = name_here; second = None }
smallest TheScopedName = record { colons = origin; name = name_here }
smallest ThePlain = PlainBool origin
smallest TheWidth = MakeWidth origin expr_here None origin
smallest TheLow = MakeLow origin expr_here
smallest TheType = TypePlain (PlainBool origin) None
smallest TheDomain = MakeDomain origin origin (MakeRanges (RangeSingle expr_here) NoNextRangeRow) origin
smallest TheConstraint = ConstraintOne (ConstraintItemEmpty origin)
smallest TheClosedConstraint = ConstraintOne (ConstraintItemEmpty origin)
smallest TheConstraintItem = ConstraintItemEmpty origin
smallest TheConstraintDeclaration = MakeConstraintDeclaration origin (ConstraintContentSet (ConstraintOne (ConstraintItemEmpty origin)))
smallest TheConstraintContent = ConstraintContentSet (ConstraintOne (ConstraintItemEmpty origin))
smallest TheActivity = MakeActivity origin origin [] origin
smallest TheStatement = StatementEmpty origin
smallest TheClosedStatement = StatementEmpty origin
smallest TheCore = CoreHandle name_here (WithNothing origin)
smallest TheBranch = MakeBranch None (StatementEmpty origin)
smallest TheArm = MakeArm (ArmLabelDefault origin) origin (StatementEmpty origin)
smallest TheGuard = GuardWeight (MakeWeight origin expr_here origin) origin
smallest TheWeight = MakeWeight origin expr_here origin
smallest TheArmLabel = ArmLabelDefault origin
smallest TheJoin = JoinNothing origin
smallest TheWith = WithNothing origin
smallest TheBind = MakeBind origin end_here (OtherEndsOne end_here) origin
smallest TheOtherEnds = OtherEndsOne end_here
smallest TheEnd = end_here
smallest TheNextEnd = record { comma = origin; end = end_here }
smallest TheBody = MakeBody origin origin origin [] origin
smallest TheBodyStatement = BodyStatementEmpty origin
smallest TheClosedBodyStatement = BodyStatementEmpty origin
smallest TheValue = MakeValue origin (SourceExpr expr_here)
smallest TheSource = SourceExpr expr_here
smallest TheCall = MakeCall name_here origin None origin
smallest TheArguments = MakeArguments expr_here []
smallest TheUnit = MakeUnit [] (mark kind.End origin)
smallest TheItem = ItemEmpty origin
smallest TheComponent = MakeComponent origin name_here origin [] origin
smallest TheComponentPart = ComponentPartEmpty origin
smallest TheObject = MakeObject the_object_word.Buffer origin name_here origin [] origin
smallest TheObjectPart = ObjectPartEmpty origin
smallest TheEnum = MakeEnum origin name_here origin (MakeEnumItem name_here None) [] origin
smallest TheEnumItem = MakeEnumItem name_here None
smallest TheEnumValue = MakeEnumValue origin expr_here
smallest TheNextEnumItem = MakeNextEnumItem origin (MakeEnumItem name_here None)
smallest TheFunction = MakeFunction origin None origin (AnswerVoid origin) name_here origin None origin origin
smallest TheAnswer = AnswerVoid origin
smallest TheParameters = MakeParameters (MakeParameter None (PlainBool origin) name_here) []
smallest TheParameter = MakeParameter None (PlainBool origin) name_here
smallest TheNextParameter = MakeNextParameter origin (MakeParameter None (PlainBool origin) name_here)
smallest ThePool = MakePool origin None type_name_here name_here origin
smallest TheSize = MakeSize origin expr_here origin
smallest ThePoolBind = MakePoolBind origin name_here (TargetsAll origin) origin
smallest TheTargets = TargetsAll origin
smallest TheTarget = MakeTarget name_here dot_name_here []
smallest TheNextTarget = MakeNextTarget origin (MakeTarget name_here dot_name_here [])
smallest TheMembers = MakeMembers type_name_here (MakeNames name_here []) origin
smallest TheAction = MakeAction None origin name_here None origin [] origin
smallest TheBase = record { colon = origin; name = type_name_here }
smallest TheActionPart = ActionPartEmpty origin
smallest TheField = MakeField origin (TypePlain (PlainBool origin) None) (MakePart name_here NoIndex) [] origin
smallest TheNextField = MakeNextField origin (MakePart name_here NoIndex)
smallest TheReference = MakeReference the_reference_word.Input origin type_name_here (MakeNames name_here []) origin
smallest TheClaim = MakeClaim the_claim_word.Lock origin type_name_here (MakeNames name_here []) origin
smallest (TheOption part) = None
smallest (TheList part) = []

-- tokens that close a part that stands open
abbrev pub closing : Rule → List Token
closing rule = spell_of rule (smallest rule)

-- tokens that close the parts that stand open, in order
abbrev pub closings : List Rule → List Token
closings parts = flat_map closing parts
