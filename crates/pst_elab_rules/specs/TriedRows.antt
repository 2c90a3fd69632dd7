-- The models of small sources: an empty activity, a choice, inline constraints, and an array.
use Rattle.std.specs.Prelude.{◌≡◌, ℕ, pos, List, [], ◌∷◌, false, Option, Some, None, codes}
use Rattle.pst_ast.specs.declared.instance.Instance.{Instance}
use Rattle.pst_ast.specs.declared.leaf.Operator.{Operator}
use Rattle.pst_ast.specs.declared.leaf.Operator.TheVariants as sign
use Rattle.pst_ast.specs.ExpressionTree.{ExprTree, ExprUnary, ExprBinary, UnaryPrimary, PrimaryPath, PathDotted, MakePart, SomeIndex, MakeIndex, NoNextPartRow, RangeSingle, RangeBetween}
use Rattle.pst_ast.specs.SharedTree.{PlainBit, MakeWidth, TypeTree, TypePlain}
use Rattle.pst_ast.specs.ConstraintTree.{ConstraintTree as SetTree, ConstraintOne, ConstraintBlock, ConstraintItemTree, ConstraintItemExpr, ConstraintItemImplies, ConstraintItemForeach, NoConstraintItemRow, MoreConstraintItemRow, ConstraintContentSet, MakeConstraintDeclaration}
use Rattle.pst_ast.specs.ActivityTree.{WithTree, WithNothing, WithSet, StatementTree, StatementEmpty, StatementPlain, CoreTree, CoreDo, CoreSelect, CoreRepeat, CoreMatch, MakeBranch, GuardCondition, GuardWeight, MakeWeight, MakeArm, ArmLabelRanges, NoBranchRow as NoMoreBranches, MoreBranchRow, NoArmRow, MoreArmRow}
use Rattle.pst_ast.specs.DeclarationTree.{UnitTree, ActionPartTree, ActionPartField, ActionPartConstraint, MakeField}
use Rattle.pst_expr.specs.Tree.{Expression, Constant, Variable, Binary, Element}
use Rattle.pst_expr.specs.declared.ranges.Span.{Span}
use Rattle.pst_expr.specs.declared.tree.BinaryOp.TheVariants.{Mul, Add, Sub, Greater, Equal, Implies}
use Rattle.pst_model.specs.declared.action.Field.{Field}
use Rattle.pst_model.specs.declared.model.Part.{Part}
use Rattle.pst_model.specs.ConstraintTree.{ConstraintTree, SlotTree, Own, Index, Outer}
use Rattle.pst_model.specs.ActivityTree.{StepTree, Traverse, Select, Repeat, Match, NoBranches, MoreBranches, NoArms, MoreArms, NoStep, MakeBranch as Branch, MakeArm as Arm}
use Rattle.pst_model.specs.ModelTree.{ContentTree, Atomic, Compound, ActionTree, ModelTree}
use Rattle.pst_type_rules.specs.Domains.{span}
use Rattle.pst_type_rules.specs.declared.typed.ConstantValue.{ConstantValue}
use Rattle.pst_type_rules.specs.Tried.{on, name, number, component_with}
use Rattle.pst_type_rules.specs.TriedRules.{mark, type, path, field, action, one_range}
use Rattle.pst_type_rules.specs.TriedMore.{activity}
use Rattle.pst_tree.specs.Tried.{id, instance}
use Rattle.pst_elab_rules.specs.Model.{IsModel, model_by, sources}
use Rattle.pst_elab_rules.specs.Ends.{RootBreach, root_number, root_place}

-- ---- parts of sources

abbrev pub constant : ℕ → ℕ → ℕ → ConstantValue
constant line column n = record { at = on line column; value = pos n }

-- bit[n], whose width stands there
abbrev pub bits : ℕ → ℕ → ℕ → TypeTree
bits n line column = TypePlain (PlainBit mark (Some (MakeWidth mark (number n (on line column)) None mark))) None

abbrev pub of_two : ExprTree → Operator → ExprTree → ExprTree
of_two left operator right = ExprBinary left operator mark right

abbrev pub named : ℕ → ExprTree
named id = path id 98 1 NoNextPartRow

abbrev pub plain : ℕ → ExprTree
plain n = number n mark

abbrev pub item : ExprTree → ConstraintItemTree
item expr = ConstraintItemExpr expr mark

abbrev pub constraint : SetTree → ActionPartTree
constraint set = ActionPartConstraint (MakeConstraintDeclaration mark (ConstraintContentSet set))

abbrev pub traversal : ℕ → WithTree → CoreTree
traversal id with_part = CoreDo mark (type id 97 1) with_part

abbrev pub do_it : ℕ → StatementTree
do_it id = StatementPlain (traversal id (WithNothing mark))

-- ---- parts of models

abbrev pub expression : Expression → List SlotTree → ConstraintTree
expression e slots = record { expression = e; slots = slots }

abbrev pub part : ℕ → ℕ → Option ℕ → ℕ → Part
part name component parent last = record { name = id name; component = id component; parent = parent; last = last }

abbrev pub a_field : ℕ → List Span → Option ℕ → Field
a_field name domain element = record { name = id name; domain = domain; element = element }

-- an action of the component with the name 0, without references and claims
abbrev pub simple : ℕ → List Field → List ConstraintTree → ContentTree → ActionTree
simple name fields constraints content =
    record { name = id name; component = id 0; is_abstract = false; fields = fields; references = []; claims = []; constraints = constraints; content = content }

abbrev pub activity_of : List StepTree → ContentTree
activity_of steps = Compound (record { handles = []; steps = steps; binds = [] })

-- the root alone, and no objects, pools and functions
abbrev pub of_actions : List ActionTree → ModelTree
of_actions actions = record { actions = actions; objects = []; instances = part 0 0 None 0 ∷ []; pools = []; functions = []; served = [] }

abbrev pub root_alone : List Instance
root_alone = instance 0 0 None 0 ∷ []

abbrev pub names : List (List ℕ)
names = codes "pss_top" ∷ codes "A" ∷ codes "B" ∷ codes "entry" ∷ codes "n" ∷ codes "v" ∷ codes "a" ∷ codes "i" ∷ codes "k" ∷ []

abbrev pub sixteen : List Span
sixteen = span (pos 0) (pos 15) ∷ []

-- ---- component pss_top { action A { } action B { } action entry { activity { } } }

abbrev pub empty_activity : List UnitTree
empty_activity = component_with 1 (action 1 2 10 [] ∷ action 2 3 10 [] ∷ action 3 4 10 (activity [] ∷ []) ∷ []) ∷ []

abbrev pub of_empty_activity : ModelTree
of_empty_activity = of_actions (simple 1 [] [] (Atomic []) ∷ simple 2 [] [] (Atomic []) ∷ simple 3 [] [] (activity_of []) ∷ [])

-- ---- action A { } action B { }
--      action entry { rand bit[4] n; constraint n == 3;
--        activity { select { (n > 5): do A; [20]: do B; } match (n) { [0..2]: do A; [3]: do B; } } }

abbrev pub choice : List UnitTree
choice =
    component_with 1
    (action 1 2 10 [] ∷ action 2 3 10 []
    ∷ action 3 4 10
    (ActionPartField (field (bits 4 4 26) 4 4 29) ∷ constraint (ConstraintOne (item (of_two (named 4) sign.Equal (plain 3))))
    ∷ activity
    (StatementPlain (CoreSelect mark mark (MakeBranch (Some (GuardCondition mark (of_two (named 4) sign.Greater (plain 5)) mark None mark)) (do_it 1)) (MoreBranchRow (MakeBranch (Some (GuardWeight (MakeWeight mark (number 20 (on 5 33)) mark) mark)) (do_it 2)) NoMoreBranches) mark)
    ∷ StatementPlain (CoreMatch mark mark (named 4) mark mark (MakeArm (ArmLabelRanges mark (one_range (RangeBetween (number 0 (on 6 20)) mark (number 2 (on 6 23)))) mark) mark (do_it 1)) (MoreArmRow (MakeArm (ArmLabelRanges mark (one_range (RangeSingle (number 3 (on 6 35)))) mark) mark (do_it 2)) NoArmRow) mark)
    ∷ []) ∷ []) ∷ []) ∷ []

abbrev pub choice_constants : List ConstantValue
choice_constants = constant 4 26 4 ∷ constant 5 33 20 ∷ constant 6 20 0 ∷ constant 6 23 2 ∷ constant 6 35 3 ∷ []

abbrev pub of_choice : ModelTree
of_choice =
    of_actions
    (simple 1 [] [] (Atomic []) ∷ simple 2 [] [] (Atomic [])
    ∷ simple 3 (a_field 4 sixteen None ∷ []) (expression (Binary Equal (Variable 0) (Constant (pos 3))) (Own 0 ∷ []) ∷ [])
    (activity_of
    (Select
    (MoreBranches (Branch (Some (expression (Binary Greater (Variable 0) (Constant (pos 5))) (Own 0 ∷ []))) 1 (Traverse 0 None []))
    (MoreBranches (Branch None 20 (Traverse 1 None [])) NoBranches))
    ∷ Match (expression (Variable 0) (Own 0 ∷ [])) (MoreArms (Arm (span (pos 0) (pos 2) ∷ []) (Traverse 0 None [])) (MoreArms (Arm (span (pos 3) (pos 3) ∷ []) (Traverse 1 None [])) NoArms)) NoStep
    ∷ [])) ∷ [])

-- ---- action A { rand bit[4] v; }
--      action entry { rand bit[4] n; activity { do A with { v == 9; }; repeat (k : 2) do A with v == n + k; } }

abbrev pub inline : List UnitTree
inline =
    component_with 1
    (action 1 2 10 (ActionPartField (field (bits 4 2 22) 5 2 25) ∷ [])
    ∷ action 3 3 10
    (ActionPartField (field (bits 4 3 26) 4 3 29)
    ∷ activity
    (StatementPlain (traversal 1 (WithSet mark (ConstraintBlock mark (MoreConstraintItemRow (item (of_two (named 5) sign.Equal (plain 9))) NoConstraintItemRow) mark))) ∷ StatementEmpty mark
    ∷ StatementPlain (CoreRepeat mark mark (Some (record { name = name 8 (on 3 80); colon = mark })) (plain 2) mark (StatementPlain (traversal 1 (WithSet mark (ConstraintOne (item (of_two (named 5) sign.Equal (of_two (named 4) sign.Add (named 8)))))))))
    ∷ []) ∷ []) ∷ []) ∷ []

abbrev pub inline_constants : List ConstantValue
inline_constants = constant 2 22 4 ∷ constant 3 26 4 ∷ []

abbrev pub of_inline : ModelTree
of_inline =
    of_actions
    (simple 1 (a_field 5 sixteen None ∷ []) [] (Atomic [])
    ∷ simple 3 (a_field 4 sixteen None ∷ []) []
    (activity_of
    (Traverse 0 None (expression (Binary Equal (Variable 0) (Constant (pos 9))) (Own 0 ∷ []) ∷ [])
    ∷ Repeat (expression (Constant (pos 2)) []) (Traverse 0 None (expression (Binary Equal (Variable 0) (Binary Add (Variable 1) (Variable 2))) (Own 0 ∷ Outer (Own 0) ∷ Index 0 ∷ []) ∷ []))
    ∷ [])) ∷ [])

-- ---- action entry { rand bit[4] a[3]; constraint { a[0] == 1; foreach (a[i]) { i > 0 -> a[i] == a[i - 1] * 2; } } }

abbrev pub element : ExprTree → ExprTree
element index = ExprUnary (UnaryPrimary (PrimaryPath (PathDotted (MakePart (name 6 (on 98 1)) (SomeIndex (MakeIndex mark index mark))) NoNextPartRow)))

abbrev pub array : List UnitTree
array =
    component_with 1
    (action 3 2 10
    (ActionPartField (MakeField mark (bits 4 2 26) (MakePart (name 6 (on 2 29)) (SomeIndex (MakeIndex mark (number 3 (on 2 31)) mark))) [] mark)
    ∷ constraint
    (ConstraintBlock mark
    (MoreConstraintItemRow (item (of_two (element (plain 0)) sign.Equal (plain 1)))
    (MoreConstraintItemRow
    (ConstraintItemForeach mark mark (name 6 mark) [] mark (name 7 (on 2 70)) mark mark
    (ConstraintBlock mark
    (MoreConstraintItemRow
    (ConstraintItemImplies (of_two (named 7) sign.Greater (plain 0)) mark
    (ConstraintOne (item (of_two (element (named 7)) sign.Equal (of_two (element (of_two (named 7) sign.Subtract (plain 1))) sign.Multiply (plain 2))))))
    NoConstraintItemRow) mark))
    NoConstraintItemRow)) mark)
    ∷ []) ∷ []) ∷ []

abbrev pub array_constants : List ConstantValue
array_constants = constant 2 26 4 ∷ constant 2 31 3 ∷ []

abbrev pub elements : List SlotTree
elements = Own 0 ∷ Own 1 ∷ Own 2 ∷ []

-- i > 0 -> a[i] == a[i - 1] * 2
abbrev pub doubles : ℕ → ConstraintTree
doubles i =
    let at : Expression = Constant (pos i) in
    expression (Binary Implies (Binary Greater at (Constant (pos 0))) (Binary Equal (Element 0 3 at) (Binary Mul (Element 0 3 (Binary Sub at (Constant (pos 1)))) (Constant (pos 2))))) elements

abbrev pub of_array : ModelTree
of_array =
    of_actions
    (simple 3 (a_field 6 sixteen (Some 0) ∷ a_field 6 sixteen (Some 1) ∷ a_field 6 sixteen (Some 2) ∷ [])
    (expression (Binary Equal (Element 0 3 (Constant (pos 0))) (Constant (pos 1))) elements ∷ doubles 0 ∷ doubles 1 ∷ doubles 2 ∷ []) (Atomic []) ∷ [])

pub record RowsAreTried : Type 0 where
  pub empty : IsModel empty_activity names of_empty_activity
  pub choosing : model_by (sources choice names choice_constants) (sixteen ∷ []) root_alone ≡ of_choice
  pub inline_constraints : model_by (sources inline names inline_constants) (sixteen ∷ sixteen ∷ []) root_alone ≡ of_inline
  pub elements_of_array : model_by (sources array names array_constants) (sixteen ∷ []) root_alone ≡ of_array
  -- the root, and a root that there isn't
  pub root : root_number empty_activity names root_alone (codes "pss_top") (codes "entry") ≡ Some 2
  pub no_root : RootBreach empty_activity names root_alone (codes "pss_top") (codes "none") root_place 24
