-- The rules of types on a second source, in which counts are too large, ends are bound twice, and a handle is traversed in a base alone:
--    1  component pss_top {
--    2    stream s { }
--    3    action S { input s i; output s o; rand bit x; }
--    4    action T { S a; S b; S c; activity { a; b; c; bind a.o b.i; bind a.o c.i; bind a.o b.i; } }
--    5    action U { rand bit v[64]; rand bit y; rand bit[3:1] w; rand bit in [2] e; }
--    6    action K { S h; constraint h.x == 1; activity { h; } }
--    7    action L : K { activity { } }
--    8    action N { input s r1, .. , r17; }
--        }
use Rattle.std.specs.Prelude.{ℕ, ◌+◌, List, [], ◌∷◌, map, Some, None, codes}
use Rattle.pst_ast.specs.declared.leaf.Operator.TheVariants as sign
use Rattle.pst_ast.specs.declared.declaration.ObjectWord.TheVariants as object
use Rattle.pst_ast.specs.declared.declaration.ReferenceWord.TheVariants as way
use Rattle.pst_ast.specs.declared.shared.NextName.{NextName}
use Rattle.pst_ast.specs.ExpressionTree.{ExprBinary, MakePart, SomeIndex, MakeIndex, RangeSingle}
use Rattle.pst_ast.specs.SharedTree.{MakeNames, PlainBit, MakeWidth, MakeLow, MakeDomain, TypeTree, TypePlain}
use Rattle.pst_ast.specs.ConstraintTree.{ConstraintOne, ConstraintItemExpr, ConstraintContentSet, MakeConstraintDeclaration}
use Rattle.pst_ast.specs.ActivityTree.{StatementTree, StatementPlain, CoreBind, MakeBind, OtherEndsOne, MakeActivity}
use Rattle.pst_ast.specs.DeclarationTree.{UnitTree, ComponentPartTree, ComponentPartAction, ComponentPartObject, MakeObject, MakeAction, ActionPartTree, ActionPartField, ActionPartReference, ActionPartMembers, ActionPartConstraint, ActionPartActivity, MakeField, MakeReference, MakeMembers}
use Rattle.pst_ast.specs.declared.scope_declaration.Declaration.{Declaration}
use Rattle.pst_ast.specs.Declarations.{action_declared}
use Rattle.pst_type_rules.specs.Handles.{IsSteadyIn}
use Rattle.pst_type_rules.specs.TypeRules.{TypeBreach}
use Rattle.pst_type_rules.specs.Tried.{on, name, number, component_with}
use Rattle.pst_type_rules.specs.TriedRules.{mark, type, alone, path, behind_dot, field, bit, action, traverse, one_range}

abbrev pub handle : ℕ → ℕ → ℕ → ℕ → ActionPartTree
handle of id line column = ActionPartMembers (MakeMembers (type of line 1) (alone id line column) mark)

abbrev pub activity : List StatementTree → ActionPartTree
activity statements = ActionPartActivity (MakeActivity mark mark statements mark)

-- bind a.o H.i
abbrev pub bound : ℕ → ℕ → ℕ → StatementTree
bound first_column other column =
    StatementPlain (CoreBind (MakeBind mark (record { handle = name 5 (on 4 first_column); dot = mark; name = name 4 mark }) (OtherEndsOne (record { handle = name other (on 4 column); dot = mark; name = name 3 mark })) mark))

abbrev pub with_lowest : TypeTree
with_lowest = TypePlain (PlainBit (on 5 46) (Some (MakeWidth mark (number 3 (on 5 50)) (Some (MakeLow mark (number 1 (on 5 52)))) mark))) None

abbrev pub without_value : TypeTree
without_value = TypePlain (PlainBit (on 5 64) None) (Some (MakeDomain mark mark (one_range (RangeSingle (number 2 (on 5 72)))) mark))

abbrev pub base : Declaration
base = action_declared (on 1 11) None (name 14 (on 6 10))

abbrev pub derived : Declaration
derived = action_declared (on 1 11) (Some (record { colon = mark; name = type 14 7 14 })) (name 15 (on 7 10))

abbrev pub more_names : List NextName
more_names = map (λ k. record { comma = mark; name = name (20 + k) (on 8 k) }) (2 ∷ 3 ∷ 4 ∷ 5 ∷ 6 ∷ 7 ∷ 8 ∷ 9 ∷ 10 ∷ 11 ∷ 12 ∷ 13 ∷ 14 ∷ 15 ∷ 16 ∷ 17 ∷ [])

abbrev pub parts : List ComponentPartTree
parts =
    ComponentPartObject (MakeObject object.Stream mark (name 1 (on 2 10)) mark [] mark)
    ∷ action 2 3 10
    (ActionPartReference (MakeReference way.Input mark (type 1 3 20) (alone 3 3 22) mark) ∷ ActionPartReference (MakeReference way.Output mark (type 1 3 32) (alone 4 3 34) mark) ∷ ActionPartField (field (bit (on 3 42)) 8 3 46) ∷ [])
    ∷ action 9 4 10
    (handle 2 5 4 16 ∷ handle 2 6 4 21 ∷ handle 2 7 4 26 ∷ activity (traverse 5 4 40 ∷ traverse 6 4 43 ∷ traverse 7 4 46 ∷ bound 54 6 58 ∷ bound 68 7 72 ∷ bound 82 6 86 ∷ []) ∷ [])
    ∷ action 10 5 10
    (ActionPartField (MakeField mark (bit (on 5 19)) (MakePart (name 11 (on 5 23)) (SomeIndex (MakeIndex mark (number 64 (on 5 25)) mark))) [] mark) ∷ ActionPartField (field (bit (on 5 35)) 12 5 39)
    ∷ ActionPartField (field with_lowest 13 5 55) ∷ ActionPartField (field without_value 16 5 75) ∷ [])
    ∷ action 14 6 10
    (handle 2 17 6 16 ∷ ActionPartConstraint (MakeConstraintDeclaration mark (ConstraintContentSet (ConstraintOne (ConstraintItemExpr (ExprBinary (path 17 6 30 (behind_dot 8 6 32)) sign.Equal mark (number 1 (on 6 37))) mark))))
    ∷ activity (traverse 17 6 51 ∷ []) ∷ [])
    ∷ ComponentPartAction (MakeAction None mark (name 15 (on 7 10)) (Some (record { colon = mark; name = type 14 7 14 })) mark (activity [] ∷ []) mark)
    ∷ action 18 8 10 (ActionPartReference (MakeReference way.Input mark (type 1 8 20) (MakeNames (name 20 (on 8 1)) more_names) mark) ∷ [])
    ∷ []

abbrev pub source : UnitTree
source = component_with 1 parts

abbrev pub names : List (List ℕ)
names =
    codes "pss_top" ∷ codes "s" ∷ codes "S" ∷ codes "i" ∷ codes "o" ∷ codes "a" ∷ codes "b" ∷ codes "c" ∷ codes "x" ∷ codes "T" ∷ codes "U" ∷ codes "v" ∷ codes "y" ∷ codes "w" ∷ codes "K" ∷ codes "L" ∷ codes "e" ∷ codes "h"
    ∷ codes "N" ∷ []

abbrev pub Breaks : ℕ → ℕ → ℕ → Type 0
Breaks line column rule = TypeBreach (source ∷ []) names (on line column) rule

pub record MoreAreTried : Type 0 where
  pub lowest_bit : Breaks 5 46 9
  pub no_value : Breaks 5 64 10
  pub fields_with_array : Breaks 5 39 12
  pub references : Breaks 8 17 12
  -- the output of a stream, and then an input
  pub output_twice : Breaks 4 72 20
  pub input_twice : Breaks 4 86 20
  -- the base traverses the handle that its constraint names; the derived action doesn't
  pub steady : IsSteadyIn (source ∷ []) base (record { 0 = 17 })
  pub unsteady_in_derived : Breaks 6 30 18
