-- The trees of each rule.
use Rattle.std.specs.Prelude.{List, Option}
use Rattle.pst_base.specs.declared.position.Place.{Place}
use Rattle.pst_ast.specs.declared.leaf.Name.{Name}
use Rattle.pst_ast.specs.declared.leaf.Number.{Number}
use Rattle.pst_ast.specs.declared.declaration.BaseNode.{BaseNode}
use Rattle.pst_ast.specs.declared.shared.DotName.{DotName}
use Rattle.pst_ast.specs.declared.activity.EndNode.{EndNode}
use Rattle.pst_ast.specs.declared.shared.LabelNode.{LabelNode}
use Rattle.pst_ast.specs.declared.activity.NextEnd.{NextEnd}
use Rattle.pst_ast.specs.declared.shared.NextName.{NextName}
use Rattle.pst_ast.specs.declared.shared.ScopedName.{ScopedName}
use Rattle.pst_ast.specs.declared.shared.TypeName.{TypeName}
use Rattle.pst_ast.specs.ExpressionTree.{ExprTree, UnaryTree, PrimaryTree, PathTree, PartTree, NextPartTree, IndexTree, RangesTree, NextRangeTree, RangeTree}
use Rattle.pst_ast.specs.SharedTree.{NextExprTree, NamesTree, LowTree, WidthTree, PlainTree, DomainTree, TypeTree}
use Rattle.pst_ast.specs.ConstraintTree.{ConstraintTree, ConstraintItemTree, ConstraintContentTree, ConstraintDeclarationTree}
use Rattle.pst_ast.specs.ActivityTree.{WithTree, JoinTree, OtherEndsTree, BindTree, WeightTree, GuardTree, ArmLabelTree, StatementTree, CoreTree, BranchTree, ArmTree, ActivityTree}
use Rattle.pst_ast.specs.BodyTree.{ArgumentsTree, CallTree, SourceTree, ValueTree, BodyStatementTree, BodyTree}
use Rattle.pst_ast.specs.DeclarationTree.{NextFieldTree, FieldTree, ReferenceTree, ClaimTree, MembersTree, ActionPartTree, ActionTree, ObjectPartTree, ObjectTree, EnumValueTree, EnumItemTree, NextEnumItemTree, EnumTree, AnswerTree, ParameterTree, NextParameterTree, ParametersTree, FunctionTree, SizeTree, PoolTree, TargetTree, NextTargetTree, TargetsTree, PoolBindTree, ComponentPartTree, ComponentTree, ItemTree, UnitTree}
use Rattle.pst_ast.specs.Rule.{Rule, TheMark, TheName, TheNumber, TheLeft, TheRight, TheLeftOfIn, TheExpr, TheUnary, ThePrimary, ThePath, ThePart, TheNextPart, TheIndex, TheRanges, TheNextRange, TheRange, TheNextExpr, TheNextName, TheDotName, TheNames, TheLabel, TheTypeName, TheScopedName, ThePlain, TheWidth, TheLow, TheType, TheDomain, TheConstraint, TheClosedConstraint, TheConstraintItem, TheConstraintDeclaration, TheConstraintContent, TheActivity, TheStatement, TheClosedStatement, TheCore, TheBranch, TheArm, TheGuard, TheWeight, TheArmLabel, TheJoin, TheWith, TheBind, TheOtherEnds, TheEnd, TheNextEnd, TheBody, TheBodyStatement, TheClosedBodyStatement, TheValue, TheSource, TheCall, TheArguments, TheUnit, TheItem, TheComponent, TheComponentPart, TheObject, TheObjectPart, TheEnum, TheEnumItem, TheEnumValue, TheNextEnumItem, TheFunction, TheAnswer, TheParameters, TheParameter, TheNextParameter, ThePool, TheSize, ThePoolBind, TheTargets, TheTarget, TheNextTarget, TheMembers, TheAction, TheBase, TheActionPart, TheField, TheNextField, TheReference, TheClaim, TheOption, TheList}

-- the trees of a rule
abbrev pub TreeOf : Rule → Type 0
TreeOf (TheMark k) = Place
TreeOf TheName = Name
TreeOf TheNumber = Number
TreeOf (TheLeft o) = ExprTree
TreeOf (TheRight o) = ExprTree
TreeOf TheLeftOfIn = ExprTree
TreeOf TheExpr = ExprTree
TreeOf TheUnary = UnaryTree
TreeOf ThePrimary = PrimaryTree
TreeOf ThePath = PathTree
TreeOf ThePart = PartTree
TreeOf TheNextPart = NextPartTree
TreeOf TheIndex = IndexTree
TreeOf TheRanges = RangesTree
TreeOf TheNextRange = NextRangeTree
TreeOf TheRange = RangeTree
TreeOf TheNextExpr = NextExprTree
TreeOf TheNextName = NextName
TreeOf TheDotName = DotName
TreeOf TheNames = NamesTree
TreeOf TheLabel = LabelNode
TreeOf TheTypeName = TypeName
TreeOf TheScopedName = ScopedName
TreeOf ThePlain = PlainTree
TreeOf TheWidth = WidthTree
TreeOf TheLow = LowTree
TreeOf TheType = TypeTree
TreeOf TheDomain = DomainTree
TreeOf TheConstraint = ConstraintTree
TreeOf TheClosedConstraint = ConstraintTree
TreeOf TheConstraintItem = ConstraintItemTree
TreeOf TheConstraintDeclaration = ConstraintDeclarationTree
TreeOf TheConstraintContent = ConstraintContentTree
TreeOf TheActivity = ActivityTree
TreeOf TheStatement = StatementTree
TreeOf TheClosedStatement = StatementTree
TreeOf TheCore = CoreTree
TreeOf TheBranch = BranchTree
TreeOf TheArm = ArmTree
TreeOf TheGuard = GuardTree
TreeOf TheWeight = WeightTree
TreeOf TheArmLabel = ArmLabelTree
TreeOf TheJoin = JoinTree
TreeOf TheWith = WithTree
TreeOf TheBind = BindTree
TreeOf TheOtherEnds = OtherEndsTree
TreeOf TheEnd = EndNode
TreeOf TheNextEnd = NextEnd
TreeOf TheBody = BodyTree
TreeOf TheBodyStatement = BodyStatementTree
TreeOf TheClosedBodyStatement = BodyStatementTree
TreeOf TheValue = ValueTree
TreeOf TheSource = SourceTree
TreeOf TheCall = CallTree
TreeOf TheArguments = ArgumentsTree
TreeOf TheUnit = UnitTree
TreeOf TheItem = ItemTree
TreeOf TheComponent = ComponentTree
TreeOf TheComponentPart = ComponentPartTree
TreeOf TheObject = ObjectTree
TreeOf TheObjectPart = ObjectPartTree
TreeOf TheEnum = EnumTree
TreeOf TheEnumItem = EnumItemTree
TreeOf TheEnumValue = EnumValueTree
TreeOf TheNextEnumItem = NextEnumItemTree
TreeOf TheFunction = FunctionTree
TreeOf TheAnswer = AnswerTree
TreeOf TheParameters = ParametersTree
TreeOf TheParameter = ParameterTree
TreeOf TheNextParameter = NextParameterTree
TreeOf ThePool = PoolTree
TreeOf TheSize = SizeTree
TreeOf ThePoolBind = PoolBindTree
TreeOf TheTargets = TargetsTree
TreeOf TheTarget = TargetTree
TreeOf TheNextTarget = NextTargetTree
TreeOf TheMembers = MembersTree
TreeOf TheAction = ActionTree
TreeOf TheBase = BaseNode
TreeOf TheActionPart = ActionPartTree
TreeOf TheField = FieldTree
TreeOf TheNextField = NextFieldTree
TreeOf TheReference = ReferenceTree
TreeOf TheClaim = ClaimTree
TreeOf (TheOption part) = Option (TreeOf part)
TreeOf (TheList part) = List (TreeOf part)
