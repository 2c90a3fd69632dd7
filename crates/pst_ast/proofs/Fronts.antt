-- Fronts of a rule, with the parts that stand open behind them.
use Rattle.std.proofs.Common.{◌≡◌, ◌++◌, ◌∷◌, [], ◌<◌, List, refl, ap, sym, ◌∙◌, arith, append_assoc}
use Rattle.pst_token.specs.declared.token.Token.{Token}
use Rattle.pst_ast.specs.declared.leaf.Operator.{Operator}
use Rattle.pst_ast.specs.declared.leaf.Operator.TheVariants as the_operator
use Rattle.pst_ast.specs.ExpressionProper.{level_of}
use Rattle.pst_ast.specs.Rule.{Rule, TheMark, TheName, TheNumber, TheLeft, TheRight, TheLeftOfIn, TheExpr, TheUnary, ThePrimary, ThePath, ThePart, TheNextPart, TheIndex, TheRanges, TheNextRange, TheRange, TheNextExpr, TheNextName, TheDotName, TheNames, TheLabel, TheTypeName, TheScopedName, ThePlain, TheWidth, TheLow, TheType, TheDomain, TheConstraint, TheClosedConstraint, TheConstraintItem, TheConstraintDeclaration, TheConstraintContent, TheActivity, TheStatement, TheClosedStatement, TheCore, TheBranch, TheArm, TheGuard, TheWeight, TheArmLabel, TheJoin, TheWith, TheBind, TheOtherEnds, TheEnd, TheNextEnd, TheBody, TheBodyStatement, TheClosedBodyStatement, TheValue, TheSource, TheCall, TheArguments, TheUnit, TheItem, TheComponent, TheComponentPart, TheObject, TheObjectPart, TheEnum, TheEnumItem, TheEnumValue, TheNextEnumItem, TheFunction, TheAnswer, TheParameters, TheParameter, TheNextParameter, ThePool, TheSize, ThePoolBind, TheTargets, TheTarget, TheNextTarget, TheMembers, TheAction, TheBase, TheActionPart, TheField, TheNextField, TheReference, TheClaim, TheOption, TheList}
use Rattle.pst_ast.specs.TreeOf.{TreeOf}
use Rattle.pst_ast.specs.SpellOf.{spell_of}
use Rattle.pst_ast.specs.ProperOf.{IsProperOf}
use Rattle.pst_ast.specs.Closing.{smallest, closings}
use Rattle.pst_ast.specs.Viable.{IsViable, TreesOf, AreProperOf, spell_all, IsOpen}

under : (o : Operator) → level_of o < 10
under the_operator.Multiply = omega arith
under the_operator.Divide = omega arith
under the_operator.Remainder = omega arith
under the_operator.Add = omega arith
under the_operator.Subtract = omega arith
under the_operator.ShiftLeft = omega arith
under the_operator.ShiftRight = omega arith
under the_operator.Less = omega arith
under the_operator.LessEqual = omega arith
under the_operator.Greater = omega arith
under the_operator.GreaterEqual = omega arith
under the_operator.Equal = omega arith
under the_operator.NotEqual = omega arith
under the_operator.BitAnd = omega arith
under the_operator.BitXor = omega arith
under the_operator.BitOr = omega arith
under the_operator.And = omega arith
under the_operator.Or = omega arith

-- the smallest tree of a rule is proper
smallest_proper : (rule : Rule) → IsProperOf rule (smallest rule)
smallest_proper (TheMark k) = tt
smallest_proper TheName = tt
smallest_proper TheNumber = tt
smallest_proper (TheLeft o) = (tt, omega (arith, under o))
smallest_proper (TheRight o) = (tt, under o)
smallest_proper TheLeftOfIn = (tt, omega arith)
smallest_proper TheExpr = tt
smallest_proper TheUnary = tt
smallest_proper ThePrimary = tt
smallest_proper ThePath = (tt, tt)
smallest_proper ThePart = tt
smallest_proper TheNextPart = tt
smallest_proper TheIndex = tt
smallest_proper TheRanges = (tt, tt)
smallest_proper TheNextRange = tt
smallest_proper TheRange = tt
smallest_proper TheNextExpr = tt
smallest_proper TheNextName = tt
smallest_proper TheDotName = tt
smallest_proper TheNames = tt
smallest_proper TheLabel = tt
smallest_proper TheTypeName = tt
smallest_proper TheScopedName = tt
smallest_proper ThePlain = tt
smallest_proper TheWidth = (tt, tt)
smallest_proper TheLow = tt
smallest_proper TheType = (tt, tt)
smallest_proper TheDomain = (tt, tt)
smallest_proper TheConstraint = tt
smallest_proper TheClosedConstraint = (tt, refl)
smallest_proper TheConstraintItem = tt
smallest_proper TheConstraintDeclaration = tt
smallest_proper TheConstraintContent = tt
smallest_proper TheActivity = tt
smallest_proper TheStatement = tt
smallest_proper TheClosedStatement = (tt, refl)
smallest_proper TheCore = tt
smallest_proper TheBranch = (tt, tt)
smallest_proper TheArm = (tt, tt)
smallest_proper TheGuard = tt
smallest_proper TheWeight = tt
smallest_proper TheArmLabel = tt
smallest_proper TheJoin = tt
smallest_proper TheWith = tt
smallest_proper TheBind = tt
smallest_proper TheOtherEnds = tt
smallest_proper TheEnd = tt
smallest_proper TheNextEnd = tt
smallest_proper TheBody = tt
smallest_proper TheBodyStatement = tt
smallest_proper TheClosedBodyStatement = (tt, refl)
smallest_proper TheValue = tt
smallest_proper TheSource = tt
smallest_proper TheCall = tt
smallest_proper TheArguments = (tt, tt)
smallest_proper TheUnit = (tt, refl)
smallest_proper TheItem = tt
smallest_proper TheComponent = tt
smallest_proper TheComponentPart = tt
smallest_proper TheObject = tt
smallest_proper TheObjectPart = tt
smallest_proper TheEnum = (tt, tt)
smallest_proper TheEnumItem = tt
smallest_proper TheEnumValue = tt
smallest_proper TheNextEnumItem = tt
smallest_proper TheFunction = (tt, tt)
smallest_proper TheAnswer = tt
smallest_proper TheParameters = (tt, tt)
smallest_proper TheParameter = tt
smallest_proper TheNextParameter = tt
smallest_proper ThePool = tt
smallest_proper TheSize = tt
smallest_proper ThePoolBind = tt
smallest_proper TheTargets = tt
smallest_proper TheTarget = tt
smallest_proper TheNextTarget = tt
smallest_proper TheMembers = tt
smallest_proper TheAction = tt
smallest_proper TheBase = tt
smallest_proper TheActionPart = tt
smallest_proper TheField = ((tt, tt), tt, tt)
smallest_proper TheNextField = tt
smallest_proper TheReference = tt
smallest_proper TheClaim = tt
smallest_proper (TheOption part) = tt
smallest_proper (TheList part) = tt

-- the smallest trees of rules
smallest_all : (rules : List Rule) → TreesOf rules
smallest_all [] = tt
smallest_all (rule ∷ rules) = (smallest rule, smallest_all rules)

smallest_all_proper : (rules : List Rule) → AreProperOf rules (smallest_all rules)
unfolding smallest_all
smallest_all_proper [] = tt
smallest_all_proper (rule ∷ rules) = (smallest_proper rule, smallest_all_proper rules)

smallest_all_spelled : (rules : List Rule) → spell_all rules (smallest_all rules) ≡ closings rules
unfolding smallest_all
smallest_all_spelled [] = refl
smallest_all_spelled (rule ∷ rules) = ap (λ (ts : List Token). spell_of rule (smallest rule) ++ ts) (smallest_all_spelled rules)

pub closings_close : (rule : Rule) (front : List Token) (parts : List Rule) → IsOpen rule front parts → (tree : TreeOf rule) × IsProperOf rule tree × (spell_of rule tree ≡ front ++ closings parts)
closings_close rule front parts stands =
    let r = stands (smallest_all parts) (smallest_all_proper parts) in
    (r.0, r.1, r.2 ∙ ap (λ (ts : List Token). front ++ ts) (smallest_all_spelled parts))

pub open_is_viable : (rule : Rule) (front : List Token) (parts : List Rule) → IsOpen rule front parts → IsViable rule front
open_is_viable rule front parts stands = let r = closings_close rule front parts stands in (r.0, closings parts, r.1, r.2)

pub part_is_read : (rule : Rule) (front : List Token) (part : Rule) (parts : List Rule) (tree : TreeOf part) → IsOpen rule front (part ∷ parts) → IsProperOf part tree → IsOpen rule (front ++ spell_of part tree) parts
part_is_read rule front part parts tree stands is trees are =
    let r = stands (tree, trees) (is, are) in
    (r.0, r.1, r.2 ∙ sym (append_assoc front (spell_of part tree) (spell_all parts trees)))

-- trees of rules in two rows
first_trees : (left right : List Rule) → TreesOf (left ++ right) → TreesOf left
first_trees [] right trees = tt
first_trees (rule ∷ left) right trees = (trees.0, first_trees left right trees.1)

last_trees : (left right : List Rule) → TreesOf (left ++ right) → TreesOf right
last_trees [] right trees = trees
last_trees (rule ∷ left) right trees = last_trees left right trees.1

first_proper : (left right : List Rule) (trees : TreesOf (left ++ right)) → AreProperOf (left ++ right) trees → AreProperOf left (first_trees left right trees)
unfolding first_trees
first_proper [] right trees are = tt
first_proper (rule ∷ left) right trees are = (are.0, first_proper left right trees.1 are.1)

last_proper : (left right : List Rule) (trees : TreesOf (left ++ right)) → AreProperOf (left ++ right) trees → AreProperOf right (last_trees left right trees)
unfolding last_trees
last_proper [] right trees are = are
last_proper (rule ∷ left) right trees are = last_proper left right trees.1 are.1

both_spelled : (left right : List Rule) (trees : TreesOf (left ++ right)) → spell_all (left ++ right) trees ≡ spell_all left (first_trees left right trees) ++ spell_all right (last_trees left right trees)
unfolding first_trees last_trees
both_spelled [] right trees = refl
both_spelled (rule ∷ left) right trees = ap (λ (ts : List Token). spell_of rule trees.0 ++ ts) (both_spelled left right trees.1) ∙ sym (append_assoc (spell_of rule trees.0) (spell_all left (first_trees left right trees.1)) (spell_all right (last_trees left right trees.1)))

pub part_is_begun : (rule : Rule) (front : List Token) (part : Rule) (parts : List Rule) (inner : List Token) (more : List Rule) → IsOpen rule front (part ∷ parts) → IsOpen part inner more → IsOpen rule (front ++ inner) (more ++ parts)
part_is_begun rule front part parts inner more stands within trees are =
    let p = within (first_trees more parts trees) (first_proper more parts trees are) in
    let r = stands (p.0, last_trees more parts trees) (p.1, last_proper more parts trees are) in (
      r.0,
      r.1,
      r.2
          ∙ ap (λ (ts : List Token). front ++ (ts ++ spell_all parts (last_trees more parts trees))) p.2
          ∙ ap (λ (ts : List Token). front ++ ts) (append_assoc inner (spell_all more (first_trees more parts trees)) (spell_all parts (last_trees more parts trees)))
          ∙ ap (λ (ts : List Token). front ++ (inner ++ ts)) (sym (both_spelled more parts trees))
          ∙ sym (append_assoc front inner (spell_all (more ++ parts) trees)),
    )

pub viable_begins : (rule : Rule) (front more : List Token) → IsViable rule (front ++ more) → IsViable rule front
viable_begins rule front more is = (is.0, more ++ is.1, is.2, is.3 ∙ append_assoc front more is.1)
