-- The models of further small sources: states, handles and join forms, a body, and rewritten constraints.
use Rattle.std.specs.Prelude.{◌≡◌, ℕ, pos, List, [], ◌∷◌, map, true, false, Some, None, codes}
use Rattle.pst_ast.specs.declared.activity.TogetherWord.TheVariants as together
use Rattle.pst_ast.specs.declared.leaf.Operator.TheVariants as sign
use Rattle.pst_ast.specs.declared.leaf.PrefixOperator.TheVariants as prefix
use Rattle.pst_ast.specs.declared.declaration.ObjectWord.TheVariants as object
use Rattle.pst_ast.specs.ExpressionTree.{ExprTree, ExprUnary, ExprIn, UnaryPrefix, UnaryPrimary, PrimaryPath, PathDotted, MakePart, NoIndex, NoNextPartRow, RangeSingle, RangeBetween, MakeRanges, MoreNextRangeRow, MakeNextRange, NoNextRangeRow}
use Rattle.pst_ast.specs.SharedTree.{PlainInt, MakeNextExpr}
use Rattle.pst_ast.specs.ConstraintTree.{ConstraintOne, ConstraintBlock, ConstraintItemImplies, ConstraintItemIfElse, ConstraintItemUnique, NoConstraintItemRow, MoreConstraintItemRow, ConstraintContentSet, MakeConstraintDeclaration}
use Rattle.pst_ast.specs.ActivityTree.{StatementTree, StatementEmpty, StatementLabeled, StatementPlain, CoreTogether, CoreBind, MakeBind, OtherEndsOne, JoinBranch, JoinNothing, JoinSelect, WithNothing, StatementRow, NoStatementRow, MoreStatementRow}
use Rattle.pst_ast.specs.BodyTree.{MakeArguments, CallTree, MakeCall, SourceCall, SourceExpr, MakeValue, BodyStatementTree, BodyStatementEmpty, BodyStatementLocal, BodyStatementAssign, BodyStatementCall, BodyStatementBlock, BodyStatementIf, BodyStatementRepeat, NoBodyStatementRow, MoreBodyStatementRow, MakeBody}
use Rattle.pst_ast.specs.DeclarationTree.{UnitTree, ItemObject, ItemFunction, ItemEnum, MakeObject, ObjectPartField, ObjectPartConstraint, MakeEnum, MakeEnumItem, MakeNextEnumItem, MakeEnumValue, MakeFunction, AnswerPlain, MakeParameters, MakeParameter, ComponentPartPool, MakePool, MakeSize, ActionPartField, ActionPartBody}
use Rattle.pst_expr.specs.Tree.{Expression, Constant, Variable, Unary, Binary}
use Rattle.pst_expr.specs.declared.tree.UnaryOp.TheVariants.{Not}
use Rattle.pst_expr.specs.declared.tree.BinaryOp.TheVariants.{Div, Add, LessOrEqual, GreaterOrEqual, Equal, NotEqual, And, Or, Implies}
use Rattle.pst_model.specs.declared.activity.Join.TheVariants.{Fixed, Choose}
use Rattle.pst_model.specs.declared.model.Serve.{Serve}
use Rattle.pst_model.specs.declared.object.ObjectKind.TheVariants as kind
use Rattle.pst_model.specs.ConstraintTree.{ConstraintTree, Own, Object, ClaimId, Prev, IsFirst, Index, Local}
use Rattle.pst_model.specs.ActivityTree.{StepTree, Traverse, Joined, StepRow, NoSteps, MoreSteps}
use Rattle.pst_model.specs.BodyTree as body
use Rattle.pst_model.specs.ModelTree.{Atomic, Compound, ModelTree}
use Rattle.pst_type_rules.specs.Domains.{span, signed_span}
use Rattle.pst_type_rules.specs.declared.typed.ConstantValue.{ConstantValue}
use Rattle.pst_type_rules.specs.Tried.{on, name, number}
use Rattle.pst_type_rules.specs.TriedRules.{mark, type, alone, path, behind_dot, field, action, traverse}
use Rattle.pst_type_rules.specs.TriedMore.{activity, handle}
use Rattle.pst_tree.specs.Tried.{id, component, unit}
use Rattle.pst_tree.specs.InheritedTried.{an_action, base_named}
use Rattle.pst_bind.specs.Tried.{pool, bind, all, output, input, lock}
use Rattle.pst_elab_rules.specs.Model.{model_by, sources}
use Rattle.pst_elab_rules.specs.TriedRows.{constant, bits, of_two, named, plain, item, constraint, traversal, do_it, expression, part, a_field, simple, activity_of, root_alone, sixteen}

abbrev pub serve : ℕ → ℕ → ℕ → ℕ → Serve
serve action instance reference pool = record { action = action; instance = instance; reference = reference; pool = pool }

-- ---- state st_t { rand bit[2] x; constraint { initial -> x == 0; !initial -> x == prev.x + 1; } }
--      component pss_top { pool st_t s; bind s *;
--        action W { output st_t o; } action R { input st_t i; constraint i.x == 1; }
--        action entry { activity { do R; } } }

abbrev pub state_names : List (List ℕ)
state_names =
    codes "pss_top" ∷ codes "st_t" ∷ codes "x" ∷ codes "initial" ∷ codes "prev" ∷ codes "s" ∷ codes "W" ∷ codes "o" ∷ codes "R" ∷ codes "i" ∷ codes "entry" ∷ []

abbrev pub not_initial : ExprTree
not_initial = ExprUnary (UnaryPrefix prefix.Not mark (UnaryPrimary (PrimaryPath (PathDotted (MakePart (name 3 mark) NoIndex) NoNextPartRow))))

abbrev pub state : List UnitTree
state =
    unit
    (ItemObject (MakeObject object.State mark (name 1 (on 1 7)) mark
    (ObjectPartField (field (bits 2 1 23) 2 1 26)
    ∷ ObjectPartConstraint (MakeConstraintDeclaration mark (ConstraintContentSet (ConstraintBlock mark
    (MoreConstraintItemRow (ConstraintItemImplies (named 3) mark (ConstraintOne (item (of_two (named 2) sign.Equal (plain 0)))))
    (MoreConstraintItemRow (ConstraintItemImplies not_initial mark (ConstraintOne (item (of_two (named 2) sign.Equal (of_two (path 4 98 1 (behind_dot 2 98 2)) sign.Add (plain 1))))))
    NoConstraintItemRow)) mark)))
    ∷ []) mark)
    ∷ component 0 2
    (pool 1 5 2 30 ∷ bind 5 2 38 all ∷ action 6 3 10 (output 1 7 3 28 ∷ [])
    ∷ action 8 4 10 (input 1 9 4 27 ∷ constraint (ConstraintOne (item (of_two (path 9 98 1 (behind_dot 2 98 2)) sign.Equal (plain 1)))) ∷ [])
    ∷ action 10 5 10 (activity (do_it 8 ∷ []) ∷ []) ∷ []) ∷ []) ∷ []

abbrev pub of_state : ModelTree
of_state = record {
  actions =
      record (simple 6 [] [] (Atomic [])) { references = record { name = id 7; object = 0; output = true } ∷ [] }
      ∷ record (simple 8 [] (expression (Binary Equal (Variable 0) (Constant (pos 1))) (Object 0 0 ∷ []) ∷ []) (Atomic [])) { references = record { name = id 9; object = 0; output = false } ∷ [] }
      ∷ simple 10 [] [] (activity_of (Traverse 1 None [] ∷ [])) ∷ [];
  objects =
      record {
        name = id 1;
        kind = kind.State;
        fields = a_field 2 (span (pos 0) (pos 3) ∷ []) None ∷ [];
        constraints =
            expression (Binary Implies (Variable 0) (Binary Equal (Variable 1) (Constant (pos 0)))) (IsFirst ∷ Own 0 ∷ [])
            ∷ expression (Binary Implies (Unary Not (Variable 0)) (Binary Equal (Variable 1) (Binary Add (Variable 2) (Constant (pos 1))))) (IsFirst ∷ Own 0 ∷ Prev 0 ∷ []) ∷ [];
      } ∷ [];
  instances = part 0 0 None 0 ∷ [];
  pools = record { name = id 5; instance = 0; object = 0; size = 1 } ∷ [];
  functions = [];
  served = serve 0 0 0 0 ∷ serve 1 0 0 0 ∷ [];
}

-- ---- buffer b_t { }
--      component pss_top { pool b_t b; bind b *;
--        action P { output b_t o; } action C { input b_t i; }
--        action entry { C c; P p; activity { parallel join_none { c; } p; bind p.o c.i; } }
--        action late : entry { P q; }
--        action more { activity { parallel join_branch (y) { x: do P; ; y: do C; y: do P; } schedule join_select (1) { do P; do P; } } } }

abbrev pub join_names : List (List ℕ)
join_names =
    codes "pss_top" ∷ codes "b_t" ∷ codes "b" ∷ codes "P" ∷ codes "o" ∷ codes "C" ∷ codes "i" ∷ codes "entry" ∷ codes "c" ∷ codes "p" ∷ codes "late" ∷ codes "q" ∷ codes "more" ∷ codes "x" ∷ codes "y" ∷ []

abbrev pub labeled : ℕ → ℕ → StatementTree
labeled label of = StatementLabeled (record { name = name label mark; colon = mark }) (traversal of (WithNothing mark))

abbrev pub branches : List StatementTree → StatementRow
branches [] = NoStatementRow
branches (s ∷ more) = MoreStatementRow s (branches more)

abbrev pub joins : List UnitTree
joins =
    unit
    (ItemObject (MakeObject object.Buffer mark (name 1 (on 1 8)) mark [] mark)
    ∷ component 0 2
    (pool 1 2 2 30 ∷ bind 2 2 38 all ∷ action 3 3 10 (output 1 4 3 28 ∷ []) ∷ action 5 4 10 (input 1 6 4 27 ∷ [])
    ∷ action 7 5 10
    (handle 5 8 5 20 ∷ handle 3 9 5 25
    ∷ activity
    (StatementPlain (CoreTogether together.Parallel mark (Some (JoinNothing mark)) mark (branches (traverse 8 5 60 ∷ [])) mark) ∷ traverse 9 5 64
    ∷ StatementPlain (CoreBind (MakeBind mark (record { handle = name 9 mark; dot = mark; name = name 4 mark }) (OtherEndsOne (record { handle = name 8 mark; dot = mark; name = name 6 mark })) mark)) ∷ []) ∷ [])
    ∷ an_action 10 6 (Some (base_named 7 6 20)) (handle 3 11 6 30 ∷ [])
    ∷ action 12 7 10
    (activity
    (StatementPlain (CoreTogether together.Parallel mark (Some (JoinBranch mark mark (alone 14 7 48) mark)) mark (branches (labeled 13 3 ∷ StatementEmpty mark ∷ labeled 14 5 ∷ labeled 14 3 ∷ [])) mark)
    ∷ StatementPlain (CoreTogether together.Schedule mark (Some (JoinSelect mark mark (number 1 (on 8 20)) mark)) mark (branches (do_it 3 ∷ do_it 3 ∷ [])) mark) ∷ []) ∷ [])
    ∷ []) ∷ []) ∷ []

abbrev pub row : List StepTree → StepRow
row [] = NoSteps
row (s ∷ more) = MoreSteps s (row more)

abbrev pub of_joins : ModelTree
of_joins =
    let waits : List StepTree = Joined true (Fixed 0) (row (Traverse 1 (Some 0) [] ∷ [])) ∷ Traverse 0 (Some 1) [] ∷ [] in
    record {
      actions =
          record (simple 3 [] [] (Atomic [])) { references = record { name = id 4; object = 0; output = true } ∷ [] }
          ∷ record (simple 5 [] [] (Atomic [])) { references = record { name = id 6; object = 0; output = false } ∷ [] }
          ∷ simple 7 [] [] (Compound (record { handles = 1 ∷ 0 ∷ []; steps = waits; binds = record { from_handle = 1; from_reference = 0; to_handle = 0; to_reference = 0 } ∷ [] }))
          ∷ simple 10 [] [] (Compound (record { handles = 1 ∷ 0 ∷ 0 ∷ []; steps = waits; binds = record { from_handle = 1; from_reference = 0; to_handle = 0; to_reference = 0 } ∷ [] }))
          ∷ simple 12 [] []
          (activity_of
          (Joined true (Fixed 2) (row (Traverse 0 None [] ∷ Traverse 1 None [] ∷ Traverse 0 None [] ∷ [])) ∷ Joined false (Choose 1) (row (Traverse 0 None [] ∷ Traverse 0 None [] ∷ [])) ∷ []))
          ∷ [];
      objects = record { name = id 1; kind = kind.Buffer; fields = []; constraints = [] } ∷ [];
      instances = part 0 0 None 0 ∷ [];
      pools = record { name = id 2; instance = 0; object = 0; size = 1 } ∷ [];
      functions = [];
      served = serve 0 0 0 0 ∷ serve 1 0 0 0 ∷ [];
    }

-- ---- import function int step(int n);
--      resource r_t { }
--      component pss_top { pool [2] r_t r; bind r *;
--        action A { rand bit[4] x; lock r_t k;
--          exec body { int q = step(1); { q = 10 / q; } repeat (j : 2) step(j + x); if (q == k.instance_id) ; } } }

abbrev pub body_names : List (List ℕ)
body_names =
    codes "pss_top" ∷ codes "step" ∷ codes "n" ∷ codes "r_t" ∷ codes "r" ∷ codes "A" ∷ codes "x" ∷ codes "k" ∷ codes "q" ∷ codes "j" ∷ codes "instance_id" ∷ []

abbrev pub call : ExprTree → CallTree
call argument = MakeCall (name 1 mark) mark (Some (MakeArguments argument [])) mark

abbrev pub statements : List BodyStatementTree
statements =
    BodyStatementLocal (PlainInt mark None) (name 8 (on 5 30)) (Some (MakeValue mark (SourceCall (call (plain 1))))) mark
    ∷ BodyStatementBlock (on 5 44) (MoreBodyStatementRow (BodyStatementAssign (name 8 mark) mark (SourceExpr (of_two (plain 10) sign.Divide (named 8))) mark) NoBodyStatementRow) mark
    ∷ BodyStatementRepeat mark mark (Some (record { name = name 9 (on 5 68); colon = mark })) (plain 2) (on 5 74) (BodyStatementCall (call (of_two (named 9) sign.Add (named 6))) mark)
    ∷ BodyStatementIf mark mark (of_two (named 8) sign.Equal (path 7 98 1 (behind_dot 10 98 2))) (on 5 99) (BodyStatementEmpty mark)
    ∷ []

abbrev pub with_body : List UnitTree
with_body =
    unit
    (ItemFunction (MakeFunction mark None mark (AnswerPlain (PlainInt mark None)) (name 1 (on 1 21)) mark (Some (MakeParameters (MakeParameter None (PlainInt mark None) (name 2 (on 1 30))) [])) mark mark)
    ∷ ItemObject (MakeObject object.Resource mark (name 3 (on 2 10)) mark [] mark)
    ∷ component 0 3
    (ComponentPartPool (MakePool mark (Some (MakeSize mark (number 2 (on 3 27)) mark)) (type 3 3 30) (name 4 (on 3 34)) mark) ∷ bind 4 3 42 all
    ∷ action 5 4 10 (ActionPartField (field (bits 4 4 24) 6 4 27) ∷ lock 3 7 4 39 ∷ ActionPartBody (MakeBody mark mark (on 5 20) statements mark) ∷ []) ∷ []) ∷ []) ∷ []

abbrev pub with_body_constants : List ConstantValue
with_body_constants = constant 3 27 2 ∷ constant 4 24 4 ∷ []

abbrev pub of_body : ModelTree
of_body = record {
  actions =
      record
      (simple 5 (a_field 6 sixteen None ∷ []) []
      (Atomic
      (body.Declare 0 (signed_span 32) (Some (body.Answer 0 (expression (Constant (pos 1)) [] ∷ [])))
      ∷ body.Assign 0 (body.Value (expression (Binary Div (Constant (pos 10)) (Variable 0)) (Local 0 ∷ [])))
      ∷ body.Repeat (expression (Constant (pos 2)) []) (body.MoreBody (body.Call 0 (expression (Binary Add (Variable 0) (Variable 1)) (Index 0 ∷ Own 0 ∷ []) ∷ [])) body.NoBody)
      ∷ body.If (expression (Binary Equal (Variable 0) (Variable 1)) (Local 0 ∷ ClaimId 0 ∷ [])) body.NoBody body.NoBody
      ∷ [])))
      { claims = record { name = id 7; object = 0; lock = true } ∷ [] } ∷ [];
  objects = record { name = id 3; kind = kind.Resource; fields = []; constraints = [] } ∷ [];
  instances = part 0 0 None 0 ∷ [];
  pools = record { name = id 4; instance = 0; object = 0; size = 2 } ∷ [];
  functions = record { name = id 1; parameters = signed_span 32 ∷ []; answer = Some (signed_span 32) } ∷ [];
  served = serve 0 0 0 0 ∷ [];
}

-- ---- enum e { K = 5, L }
--      component pss_top { action A { rand bit[4] x, y, z; constraint { unique {x, y, z}; if (x == L) y == K; else z in [1..2, 4]; } } }

abbrev pub set_names : List (List ℕ)
set_names = codes "pss_top" ∷ codes "e" ∷ codes "K" ∷ codes "L" ∷ codes "A" ∷ codes "x" ∷ codes "y" ∷ codes "z" ∷ []

abbrev pub in_ranges : ExprTree
in_ranges = ExprIn (named 7) mark mark (MakeRanges (RangeBetween (plain 1) mark (plain 2)) (MoreNextRangeRow (MakeNextRange mark (RangeSingle (plain 4))) NoNextRangeRow)) mark

abbrev pub with_sets : List UnitTree
with_sets =
    unit
    (ItemEnum (MakeEnum mark (name 1 (on 1 6)) mark (MakeEnumItem (name 2 (on 1 10)) (Some (MakeEnumValue mark (number 5 (on 1 14))))) (MakeNextEnumItem mark (MakeEnumItem (name 3 (on 1 17)) None) ∷ []) mark)
    ∷ component 0 2
    (action 4 3 10
    (ActionPartField (field (bits 4 3 26) 5 3 29) ∷ ActionPartField (field (bits 4 3 46) 6 3 49) ∷ ActionPartField (field (bits 4 3 66) 7 3 69)
    ∷ constraint
    (ConstraintBlock mark
    (MoreConstraintItemRow (ConstraintItemUnique mark mark (named 5) (MakeNextExpr mark (named 6) ∷ MakeNextExpr mark (named 7) ∷ []) mark mark)
    (MoreConstraintItemRow
    (ConstraintItemIfElse mark mark (of_two (named 5) sign.Equal (named 3)) mark (ConstraintOne (item (of_two (named 6) sign.Equal (named 2)))) mark (ConstraintOne (item in_ranges)))
    NoConstraintItemRow)) mark)
    ∷ []) ∷ []) ∷ []) ∷ []

abbrev pub with_sets_constants : List ConstantValue
with_sets_constants = constant 1 14 5 ∷ constant 3 26 4 ∷ constant 3 46 4 ∷ constant 3 66 4 ∷ []

abbrev pub differ : ℕ → ℕ → ConstraintTree
differ a b = expression (Binary NotEqual (Variable 0) (Variable 1)) (Own a ∷ Own b ∷ [])

abbrev pub of_sets : List ConstraintTree
of_sets =
    let is_last : Expression = Binary Equal (Variable 0) (Constant (pos 6)) in
    differ 0 1 ∷ differ 0 2 ∷ differ 1 2
    ∷ expression (Binary Implies is_last (Binary Equal (Variable 1) (Constant (pos 5)))) (Own 0 ∷ Own 1 ∷ [])
    ∷ expression
    (Binary Implies (Unary Not is_last)
    (Binary Or (Binary And (Binary GreaterOrEqual (Variable 1) (Constant (pos 1))) (Binary LessOrEqual (Variable 1) (Constant (pos 2)))) (Binary Equal (Variable 1) (Constant (pos 4)))))
    (Own 0 ∷ Own 2 ∷ []) ∷ []

pub record StatementsAreTried : Type 0 where
  pub states : model_by (sources state state_names (constant 1 23 2 ∷ [])) ((span (pos 0) (pos 3) ∷ []) ∷ []) root_alone ≡ of_state
  pub handles_and_joins : model_by (sources joins join_names (constant 8 20 1 ∷ [])) [] root_alone ≡ of_joins
  pub bodies : model_by (sources with_body body_names with_body_constants) (sixteen ∷ []) root_alone ≡ of_body
  pub sets : map (λ a. a.constraints) (model_by (sources with_sets set_names with_sets_constants) (sixteen ∷ sixteen ∷ sixteen ∷ []) root_alone).actions ≡ of_sets ∷ []
