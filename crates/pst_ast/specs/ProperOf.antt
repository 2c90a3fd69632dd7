-- The proper trees of each rule.
use Rattle.std.specs.Prelude.{false, ◌≡◌, ◌≤◌, ◌<◌}
use Rattle.std.specs.List.{AllByRecursion}
use Rattle.pst_ast.specs.Marks.{OptionIs}
use Rattle.pst_ast.specs.ExpressionProper.{level_of, level, IsProperExpr, IsProperUnary, IsProperPrimary, IsProperPath, IsProperPart, IsProperNextPart, IsProperIndex, IsProperRanges, IsProperNextRange, IsProperRange}
use Rattle.pst_ast.specs.SharedProper.{IsProperNextExpr, IsProperNames, IsProperLow, IsProperWidth, IsProperPlain, IsProperDomain, IsProperType}
use Rattle.pst_ast.specs.ConstraintProper.{constraint_ends_open, IsProperConstraint, IsProperConstraintItem, IsProperConstraintContent, IsProperConstraintDeclaration}
use Rattle.pst_ast.specs.ActivityProper.{statement_ends_open, IsProperWith, IsProperJoin, IsProperOtherEnds, IsProperBind, IsProperWeight, IsProperGuard, IsProperArmLabel, IsProperStatement, IsProperCore, IsProperBranch, IsProperArm, IsProperActivity}
use Rattle.pst_ast.specs.BodyProper.{body_ends_open, IsProperArguments, IsProperCall, IsProperSource, IsProperValue, IsProperBodyStatement, IsProperBody}
use Rattle.pst_ast.specs.DeclarationProper.{IsProperNextField, IsProperField, IsProperReference, IsProperClaim, IsProperMembers, IsProperActionPart, IsProperAction, IsProperObjectPart, IsProperObject, IsProperEnumValue, IsProperEnumItem, IsProperNextEnumItem, IsProperEnum, IsProperAnswer, IsProperParameter, IsProperNextParameter, IsProperParameters, IsProperFunction, IsProperSize, IsProperPool, IsProperTarget, IsProperNextTarget, IsProperTargets, IsProperPoolBind, IsProperComponentPart, IsProperComponent, IsProperItem, IsProperUnit}
use Rattle.pst_ast.specs.Rule.{Rule, TheMark, TheName, TheNumber, TheLeft, TheRight, TheLeftOfIn, TheExpr, TheUnary, ThePrimary, ThePath, ThePart, TheNextPart, TheIndex, TheRanges, TheNextRange, TheRange, TheNextExpr, TheNextName, TheDotName, TheNames, TheLabel, TheTypeName, TheScopedName, ThePlain, TheWidth, TheLow, TheType, TheDomain, TheConstraint, TheClosedConstraint, TheConstraintItem, TheConstraintDeclaration, TheConstraintContent, TheActivity, TheStatement, TheClosedStatement, TheCore, TheBranch, TheArm, TheGuard, TheWeight, TheArmLabel, TheJoin, TheWith, TheBind, TheOtherEnds, TheEnd, TheNextEnd, TheBody, TheBodyStatement, TheClosedBodyStatement, TheValue, TheSource, TheCall, TheArguments, TheUnit, TheItem, TheComponent, TheComponentPart, TheObject, TheObjectPart, TheEnum, TheEnumItem, TheEnumValue, TheNextEnumItem, TheFunction, TheAnswer, TheParameters, TheParameter, TheNextParameter, ThePool, TheSize, ThePoolBind, TheTargets, TheTarget, TheNextTarget, TheMembers, TheAction, TheBase, TheActionPart, TheField, TheNextField, TheReference, TheClaim, TheOption, TheList}
use Rattle.pst_ast.specs.TreeOf.{TreeOf}

-- operators group by level and to the left, and an `else` belongs to the nearest `if`
abbrev pub IsProperOf : (rule : Rule) → TreeOf rule → Type 0
IsProperOf (TheMark k) place = Unit {0}
IsProperOf TheName name = Unit {0}
IsProperOf TheNumber number = Unit {0}
IsProperOf (TheLeft o) expr = IsProperExpr expr × (level_of o ≤ level expr)
IsProperOf (TheRight o) expr = IsProperExpr expr × (level_of o < level expr)
IsProperOf TheLeftOfIn expr = IsProperExpr expr × (6 ≤ level expr)
IsProperOf TheExpr t = IsProperExpr t
IsProperOf TheUnary t = IsProperUnary t
IsProperOf ThePrimary t = IsProperPrimary t
IsProperOf ThePath t = IsProperPath t
IsProperOf ThePart t = IsProperPart t
IsProperOf TheNextPart t = IsProperNextPart t
IsProperOf TheIndex t = IsProperIndex t
IsProperOf TheRanges t = IsProperRanges t
IsProperOf TheNextRange t = IsProperNextRange t
IsProperOf TheRange t = IsProperRange t
IsProperOf TheNextExpr t = IsProperNextExpr t
IsProperOf TheNextName t = Unit {0}
IsProperOf TheDotName t = Unit {0}
IsProperOf TheNames t = IsProperNames t
IsProperOf TheLabel t = Unit {0}
IsProperOf TheTypeName t = Unit {0}
IsProperOf TheScopedName t = Unit {0}
IsProperOf ThePlain t = IsProperPlain t
IsProperOf TheWidth t = IsProperWidth t
IsProperOf TheLow t = IsProperLow t
IsProperOf TheType t = IsProperType t
IsProperOf TheDomain t = IsProperDomain t
IsProperOf TheConstraint t = IsProperConstraint t
IsProperOf TheClosedConstraint t = IsProperConstraint t × (constraint_ends_open t ≡ false)
IsProperOf TheConstraintItem t = IsProperConstraintItem t
IsProperOf TheConstraintDeclaration t = IsProperConstraintDeclaration t
IsProperOf TheConstraintContent t = IsProperConstraintContent t
IsProperOf TheActivity t = IsProperActivity t
IsProperOf TheStatement t = IsProperStatement t
IsProperOf TheClosedStatement t = IsProperStatement t × (statement_ends_open t ≡ false)
IsProperOf TheCore t = IsProperCore t
IsProperOf TheBranch t = IsProperBranch t
IsProperOf TheArm t = IsProperArm t
IsProperOf TheGuard t = IsProperGuard t
IsProperOf TheWeight t = IsProperWeight t
IsProperOf TheArmLabel t = IsProperArmLabel t
IsProperOf TheJoin t = IsProperJoin t
IsProperOf TheWith t = IsProperWith t
IsProperOf TheBind t = IsProperBind t
IsProperOf TheOtherEnds t = IsProperOtherEnds t
IsProperOf TheEnd t = Unit {0}
IsProperOf TheNextEnd t = Unit {0}
IsProperOf TheBody t = IsProperBody t
IsProperOf TheBodyStatement t = IsProperBodyStatement t
IsProperOf TheClosedBodyStatement t = IsProperBodyStatement t × (body_ends_open t ≡ false)
IsProperOf TheValue t = IsProperValue t
IsProperOf TheSource t = IsProperSource t
IsProperOf TheCall t = IsProperCall t
IsProperOf TheArguments t = IsProperArguments t
IsProperOf TheUnit t = IsProperUnit t
IsProperOf TheItem t = IsProperItem t
IsProperOf TheComponent t = IsProperComponent t
IsProperOf TheComponentPart t = IsProperComponentPart t
IsProperOf TheObject t = IsProperObject t
IsProperOf TheObjectPart t = IsProperObjectPart t
IsProperOf TheEnum t = IsProperEnum t
IsProperOf TheEnumItem t = IsProperEnumItem t
IsProperOf TheEnumValue t = IsProperEnumValue t
IsProperOf TheNextEnumItem t = IsProperNextEnumItem t
IsProperOf TheFunction t = IsProperFunction t
IsProperOf TheAnswer t = IsProperAnswer t
IsProperOf TheParameters t = IsProperParameters t
IsProperOf TheParameter t = IsProperParameter t
IsProperOf TheNextParameter t = IsProperNextParameter t
IsProperOf ThePool t = IsProperPool t
IsProperOf TheSize t = IsProperSize t
IsProperOf ThePoolBind t = IsProperPoolBind t
IsProperOf TheTargets t = IsProperTargets t
IsProperOf TheTarget t = IsProperTarget t
IsProperOf TheNextTarget t = IsProperNextTarget t
IsProperOf TheMembers t = IsProperMembers t
IsProperOf TheAction t = IsProperAction t
IsProperOf TheBase t = Unit {0}
IsProperOf TheActionPart t = IsProperActionPart t
IsProperOf TheField t = IsProperField t
IsProperOf TheNextField t = IsProperNextField t
IsProperOf TheReference t = IsProperReference t
IsProperOf TheClaim t = IsProperClaim t
IsProperOf (TheOption part) t = OptionIs (IsProperOf part) t
IsProperOf (TheList part) t = AllByRecursion (IsProperOf part) t
