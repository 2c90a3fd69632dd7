-- The models of small sources, in which parts stand in an order. The constraints of bases, and the indices of nested repetitions:
--    1  component pss_top {
--    2    action A { rand bit[4] v; constraint v == 1; }
--    3    action B : A { constraint v == 2; }
--    4    action entry { activity {
--    5      repeat (k : 2) repeat (j : 3) do A with v == k + j;
--    6      repeat (2) repeat (i : 3) do A with v == i; } }
--       }
-- A bind of three ends:
--    1  buffer b { }
--    2  component pss_top { pool b p; bind p *;
--    3    action P { output b o; }
--    4    action C { input b i; }
--    5    action entry { P x; C y; C z; activity { x; y; z; bind x.o {y.i, z.i}; } }
--       }
use Rattle.std.specs.Prelude.{◌≡◌, ℕ, pos, List, [], ◌∷◌, map, Option, Some, None, codes}
use Rattle.pst_ast.specs.declared.shared.LabelNode.{LabelNode}
use Rattle.pst_ast.specs.declared.activity.EndNode.{EndNode}
use Rattle.pst_ast.specs.declared.declaration.ObjectWord.TheVariants as object
use Rattle.pst_ast.specs.declared.leaf.Operator.TheVariants as sign
use Rattle.pst_ast.specs.ExpressionTree.{ExprTree}
use Rattle.pst_ast.specs.ConstraintTree.{ConstraintOne}
use Rattle.pst_ast.specs.ActivityTree.{WithSet, StatementTree, StatementPlain, CoreRepeat, CoreBind, MakeBind, OtherEndsSeveral}
use Rattle.pst_ast.specs.DeclarationTree.{UnitTree, ItemObject, MakeObject, ActionPartTree, ActionPartField}
use Rattle.pst_expr.specs.Tree.{Constant, Variable, Binary}
use Rattle.pst_expr.specs.declared.tree.BinaryOp.TheVariants.{Add, Equal}
use Rattle.pst_model.specs.declared.activity.Tie.{Tie}
use Rattle.pst_model.specs.ConstraintTree.{ConstraintTree, Own, Index}
use Rattle.pst_model.specs.ActivityTree.{StepTree, Traverse, Repeat}
use Rattle.pst_model.specs.ModelTree.{ContentTree, Atomic, Compound, ModelTree}
use Rattle.pst_type_rules.specs.Tried.{on, name, component_with}
use Rattle.pst_type_rules.specs.TriedRules.{mark, field, action, traverse}
use Rattle.pst_type_rules.specs.TriedMore.{activity, handle}
use Rattle.pst_tree.specs.Tried.{component, unit}
use Rattle.pst_tree.specs.InheritedTried.{an_action, base_named}
use Rattle.pst_bind.specs.Tried.{pool, bind, all, output, input}
use Rattle.pst_elab_rules.specs.Model.{model_by, sources}
use Rattle.pst_elab_rules.specs.TriedRows.{constant, bits, of_two, named, plain, item, constraint, traversal, expression, a_field, simple, activity_of, of_actions, root_alone, sixteen}

abbrev pub names : List (List ℕ)
names = codes "pss_top" ∷ codes "A" ∷ codes "B" ∷ codes "entry" ∷ codes "v" ∷ codes "k" ∷ codes "j" ∷ codes "i" ∷ []

-- ---- the source

-- v == that
abbrev pub v_is : ExprTree → ExprTree
v_is expr = of_two (named 4) sign.Equal expr

abbrev pub constrained : ℕ → ActionPartTree
constrained n = constraint (ConstraintOne (item (v_is (plain n))))

abbrev pub index : ℕ → ℕ → ℕ → Option LabelNode
index id line column = Some (record { name = name id (on line column); colon = mark })

abbrev pub repeated : Option LabelNode → ℕ → StatementTree → StatementTree
repeated label count statement = StatementPlain (CoreRepeat mark mark label (plain count) mark statement)

-- do A with v == that
abbrev pub do_with : ExprTree → StatementTree
do_with expr = StatementPlain (traversal 1 (WithSet mark (ConstraintOne (item (v_is expr)))))

abbrev pub ordered : List UnitTree
ordered =
    component_with 1
    (action 1 2 10 (ActionPartField (field (bits 4 2 22) 4 2 25) ∷ constrained 1 ∷ [])
    ∷ an_action 2 3 (Some (base_named 1 3 14)) (constrained 2 ∷ [])
    ∷ action 3 4 10
    (activity
    (repeated (index 5 5 15) 2 (repeated (index 6 5 30) 3 (do_with (of_two (named 5) sign.Add (named 6))))
    ∷ repeated None 2 (repeated (index 7 6 26) 3 (do_with (named 7)))
    ∷ []) ∷ []) ∷ []) ∷ []

-- ---- its model

abbrev pub value_is : ℕ → ConstraintTree
value_is n = expression (Binary Equal (Variable 0) (Constant (pos n))) (Own 0 ∷ [])

abbrev pub turns : ℕ → StepTree → StepTree
turns n step = Repeat (expression (Constant (pos n)) []) step

abbrev pub of_ordered : ModelTree
of_ordered =
    of_actions
    (simple 1 (a_field 4 sixteen None ∷ []) (value_is 1 ∷ []) (Atomic [])
    ∷ simple 2 (a_field 4 sixteen None ∷ []) (value_is 1 ∷ value_is 2 ∷ []) (Atomic [])
    ∷ simple 3 [] []
    (activity_of
    (turns 2 (turns 3 (Traverse 0 None (expression (Binary Equal (Variable 0) (Binary Add (Variable 1) (Variable 2))) (Own 0 ∷ Index 0 ∷ Index 1 ∷ []) ∷ [])))
    ∷ turns 2 (turns 3 (Traverse 0 None (expression (Binary Equal (Variable 0) (Variable 1)) (Own 0 ∷ Index 1 ∷ []) ∷ [])))
    ∷ [])) ∷ [])

-- ---- the source with a bind

abbrev pub bound_names : List (List ℕ)
bound_names =
    codes "pss_top" ∷ codes "b" ∷ codes "p" ∷ codes "P" ∷ codes "o" ∷ codes "C" ∷ codes "i" ∷ codes "entry" ∷ codes "x" ∷ codes "y" ∷ codes "z" ∷ []

abbrev pub end_of : ℕ → ℕ → EndNode
end_of handle reference = record { handle = name handle mark; dot = mark; name = name reference mark }

abbrev pub bound : List UnitTree
bound =
    unit
    (ItemObject (MakeObject object.Buffer mark (name 1 (on 1 8)) mark [] mark)
    ∷ component 0 2
    (pool 1 2 2 28 ∷ bind 2 2 36 all ∷ action 3 3 10 (output 1 4 3 23 ∷ []) ∷ action 5 4 10 (input 1 6 4 22 ∷ [])
    ∷ action 7 5 10
    (handle 3 8 5 20 ∷ handle 5 9 5 25 ∷ handle 5 10 5 30
    ∷ activity
    (traverse 8 5 44 ∷ traverse 9 5 47 ∷ traverse 10 5 50
    ∷ StatementPlain (CoreBind (MakeBind mark (end_of 8 4) (OtherEndsSeveral mark (end_of 9 6) (record { comma = mark; end = end_of 10 6 } ∷ []) mark) mark)) ∷ []) ∷ [])
    ∷ []) ∷ []) ∷ []

-- the output of the first handle, bound to the input of another
abbrev pub to_handle : ℕ → Tie
to_handle handle = record { from_handle = 0; from_reference = 0; to_handle = handle; to_reference = 0 }

abbrev pub contents_of_bound : List ContentTree
contents_of_bound =
    Atomic [] ∷ Atomic []
    ∷ Compound (record { handles = 0 ∷ 1 ∷ 1 ∷ []; steps = Traverse 0 (Some 0) [] ∷ Traverse 1 (Some 1) [] ∷ Traverse 1 (Some 2) [] ∷ []; binds = to_handle 1 ∷ to_handle 2 ∷ [] }) ∷ []

pub record OrdersAreTried : Type 0 where
  -- the constraints of the base come first; an index is of its own level
  pub parts : model_by (sources ordered names (constant 2 22 4 ∷ [])) (sixteen ∷ []) root_alone ≡ of_ordered
  -- the first end is tied to each other one
  pub ends : map (λ a. a.content) (model_by (sources bound bound_names []) [] root_alone).actions ≡ contents_of_bound
