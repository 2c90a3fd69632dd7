-- The rules of types on a source that breaks many of them, its names and numbers at their lines and columns, its marks all at one place:
--    1  component pss_top {
--    2    buffer b { rand bit v; }
--    3    resource r { }
--    4    pool [2] b p;
--    5    bind p C.i;
--    6    import function void f(int n);
--    7    abstract action V { }
--    8    action P { rand bit x; output b o; lock b k; }
--    9    action C { input r i; input b j; rand bit[2 / 0] z; }
--   10    action M { P h; C c; rand bit m; lock r q; constraint h.x in [0] in [1];
--   11      activity { select { h; c; } l: do V; if (h.x) c; bind c.j h.o;
--   12        match (m) { [0..1]: ; [1]: ; default: ; default: ; } } }
--   13    action B { rand bit m; exec body { f(); int w = f(1); m = 1; } }
--   14    enum e { A = 1, Y = 1, F = 2147483647, G }
--   15    action D : M { activity { h; c; } }
--        }
use Rattle.std.specs.Prelude.{ℕ, List, [], ◌∷◌, ◌++◌, Some, None, codes}
use Rattle.pst_base.specs.declared.position.Place.{Place}
use Rattle.pst_ast.specs.declared.leaf.Operator.TheVariants as sign
use Rattle.pst_ast.specs.declared.shared.TypeName.{TypeName}
use Rattle.pst_ast.specs.declared.declaration.ObjectWord.TheVariants as object
use Rattle.pst_ast.specs.declared.declaration.ReferenceWord.TheVariants as way
use Rattle.pst_ast.specs.declared.declaration.ClaimWord.TheVariants as claiming
use Rattle.pst_ast.specs.ExpressionTree.{ExprTree, ExprUnary, ExprBinary, ExprIn, UnaryPrimary, PrimaryPath, PathDotted, MakePart, NextPartRow, NoNextPartRow, MoreNextPartRow, MakeNextPart, NoIndex, RangeTree, RangeSingle, RangeBetween, RangesTree, MakeRanges, NoNextRangeRow}
use Rattle.pst_ast.specs.SharedTree.{NamesTree, MakeNames, PlainInt, PlainBit, MakeWidth, TypeTree, TypePlain}
use Rattle.pst_ast.specs.ConstraintTree.{ConstraintOne, ConstraintItemExpr, ConstraintContentSet, MakeConstraintDeclaration}
use Rattle.pst_ast.specs.ActivityTree.{StatementTree, StatementEmpty, StatementLabeled, StatementPlain, CoreDo, CoreHandle, CoreSelect, CoreIf, CoreMatch, CoreBind, MakeBind, OtherEndsOne, BranchTree, MakeBranch, NoBranchRow, MoreBranchRow, ArmTree, MakeArm, ArmLabelTree, ArmLabelRanges, ArmLabelDefault, NoArmRow, MoreArmRow, WithNothing, MakeActivity}
use Rattle.pst_ast.specs.BodyTree.{MakeArguments, CallTree, MakeCall, SourceCall, SourceExpr, MakeValue, BodyStatementTree, BodyStatementLocal, BodyStatementAssign, BodyStatementCall, MakeBody}
use Rattle.pst_ast.specs.DeclarationTree.{UnitTree, ComponentPartTree, ComponentPartAction, ComponentPartObject, ComponentPartEnum, ComponentPartFunction, ComponentPartPool, ComponentPartPoolBind, MakeObject, ObjectPartField, MakeEnum, EnumItemTree, MakeEnumItem, MakeNextEnumItem, MakeEnumValue, MakeFunction, AnswerVoid, MakeParameters, MakeParameter, MakePool, MakeSize, MakePoolBind, TargetsOne, MakeTarget, MakeAction, ActionPartTree, ActionPartField, ActionPartReference, ActionPartClaim, ActionPartMembers, ActionPartConstraint, ActionPartActivity, ActionPartBody, FieldTree, MakeField, MakeReference, MakeClaim, MakeMembers}
use Rattle.pst_type_rules.specs.TypeRules.{TypeBreach}
use Rattle.pst_type_rules.specs.Tried.{on, name, number, component_with}

abbrev pub mark : Place
mark = on 99 1

abbrev pub type : ℕ → ℕ → ℕ → TypeName
type id line column = record { first = name id (on line column); second = None }

abbrev pub alone : ℕ → ℕ → ℕ → NamesTree
alone id line column = MakeNames (name id (on line column)) []

abbrev pub path : ℕ → ℕ → ℕ → NextPartRow → ExprTree
path id line column rest = ExprUnary (UnaryPrimary (PrimaryPath (PathDotted (MakePart (name id (on line column)) NoIndex) rest)))

abbrev pub behind_dot : ℕ → ℕ → ℕ → NextPartRow
behind_dot id line column = MoreNextPartRow (MakeNextPart mark (MakePart (name id (on line column)) NoIndex)) NoNextPartRow

abbrev pub field : TypeTree → ℕ → ℕ → ℕ → FieldTree
field of id line column = MakeField mark of (MakePart (name id (on line column)) NoIndex) [] mark

abbrev pub bit : Place → TypeTree
bit place = TypePlain (PlainBit place None) None

abbrev pub action : ℕ → ℕ → ℕ → List ActionPartTree → ComponentPartTree
action id line column parts = ComponentPartAction (MakeAction None mark (name id (on line column)) None mark parts mark)

-- ---- objects, pools and functions

abbrev pub things : List ComponentPartTree
things =
    ComponentPartObject (MakeObject object.Buffer mark (name 1 (on 2 10)) mark (ObjectPartField (field (bit (on 2 19)) 2 2 23) ∷ []) mark)
    ∷ ComponentPartObject (MakeObject object.Resource mark (name 3 (on 3 12)) mark [] mark)
    ∷ ComponentPartPool (MakePool mark (Some (MakeSize mark (number 2 (on 4 9)) mark)) (type 1 4 12) (name 4 (on 4 14)) mark)
    ∷ ComponentPartPoolBind (MakePoolBind mark (name 4 (on 5 8)) (TargetsOne (MakeTarget (name 12 (on 5 10)) (record { dot = mark; name = name 13 (on 5 12) }) [])) mark)
    ∷ ComponentPartFunction (MakeFunction mark None mark (AnswerVoid mark) (name 5 (on 6 24)) mark (Some (MakeParameters (MakeParameter None (PlainInt mark None) (name 6 (on 6 30))) [])) mark mark)
    ∷ []

-- ---- actions without an activity

abbrev pub quotient : TypeTree
quotient = TypePlain (PlainBit (on 9 44) (Some (MakeWidth mark (ExprBinary (number 2 (on 9 48)) sign.Divide mark (number 0 (on 9 52))) None mark))) None

abbrev pub call : ℕ → List ExprTree → CallTree
call column [] = MakeCall (name 5 (on 13 column)) mark None mark
call column (e ∷ more) = MakeCall (name 5 (on 13 column)) mark (Some (MakeArguments e [])) mark

abbrev pub statements : List BodyStatementTree
statements =
    BodyStatementCall (call 38 []) mark
    ∷ BodyStatementLocal (PlainInt (on 13 43) None) (name 22 (on 13 47)) (Some (MakeValue mark (SourceCall (call 51 (number 1 (on 13 53) ∷ []))))) mark
    ∷ BodyStatementAssign (name 18 (on 13 57)) mark (SourceExpr (number 1 (on 13 61))) mark
    ∷ []

abbrev pub atomic : List ComponentPartTree
atomic =
    ComponentPartAction (MakeAction (Some mark) mark (name 7 (on 7 19)) None mark [] mark)
    ∷ action 8 8 10
    (ActionPartField (field (bit (on 8 19)) 9 8 23) ∷ ActionPartReference (MakeReference way.Output mark (type 1 8 33) (alone 10 8 35) mark)
    ∷ ActionPartClaim (MakeClaim claiming.Lock mark (type 1 8 43) (alone 11 8 45) mark) ∷ [])
    ∷ action 12 9 10
    (ActionPartReference (MakeReference way.Input mark (type 3 9 20) (alone 13 9 22) mark) ∷ ActionPartReference (MakeReference way.Input mark (type 1 9 31) (alone 14 9 33) mark)
    ∷ ActionPartField (field quotient 28 9 55) ∷ [])
    ∷ []

abbrev pub with_body : ComponentPartTree
with_body = action 21 13 10 (ActionPartField (field (bit (on 13 19)) 18 13 23) ∷ ActionPartBody (MakeBody mark mark mark statements mark) ∷ [])

-- ---- an action with an activity, and one derived from it

abbrev pub traverse : ℕ → ℕ → ℕ → StatementTree
traverse id line column = StatementPlain (CoreHandle (name id (on line column)) (WithNothing mark))

abbrev pub branch : ℕ → ℕ → BranchTree
branch id column = MakeBranch None (traverse id 11 column)

abbrev pub arm : ArmLabelTree → ArmTree
arm label = MakeArm label mark (StatementEmpty mark)

abbrev pub one_range : RangeTree → RangesTree
one_range range = MakeRanges range NoNextRangeRow

abbrev pub zero_to_one : RangeTree
zero_to_one = RangeBetween (number 0 (on 12 22)) mark (number 1 (on 12 25))

abbrev pub only_one : RangeTree
only_one = RangeSingle (number 1 (on 12 32))

abbrev pub range_label : RangeTree → ArmLabelTree
range_label range = ArmLabelRanges mark (one_range range) mark

abbrev pub default_label : ℕ → ArmLabelTree
default_label column = ArmLabelDefault (on 12 column)

-- h.x in [0] in [1]
abbrev pub twice_in : ExprTree
twice_in = ExprIn (ExprIn (path 16 10 57 (behind_dot 9 10 59)) (on 10 61) mark (one_range (RangeSingle (number 0 (on 10 65)))) mark) (on 10 68) mark (one_range (RangeSingle (number 1 (on 10 72)))) mark

abbrev pub performs : List StatementTree
performs =
    StatementPlain (CoreSelect (on 11 16) mark (branch 16 25) (MoreBranchRow (branch 17 28) NoBranchRow) mark)
    ∷ StatementLabeled (record { name = name 20 (on 11 33); colon = mark }) (CoreDo (on 11 36) (type 7 11 39) (WithNothing mark))
    ∷ StatementPlain (CoreIf (on 11 42) mark (path 16 11 46 (behind_dot 9 11 48)) mark (traverse 17 11 51))
    ∷ StatementPlain (CoreBind (MakeBind (on 11 54) (record { handle = name 17 (on 11 59); dot = mark; name = name 14 (on 11 61) }) (OtherEndsOne (record { handle = name 16 (on 11 63); dot = mark; name = name 10 (on 11 65) })) mark))
    ∷ StatementPlain (CoreMatch (on 12 9) mark (path 18 12 16 NoNextPartRow) mark mark (arm (range_label zero_to_one))
    (MoreArmRow (arm (range_label only_one)) (MoreArmRow (arm (default_label 38)) (MoreArmRow (arm (default_label 49)) NoArmRow))) mark)
    ∷ []

abbrev pub compound : ComponentPartTree
compound =
    action 15 10 10
    (ActionPartMembers (MakeMembers (type 8 10 14) (alone 16 10 16) mark) ∷ ActionPartMembers (MakeMembers (type 12 10 19) (alone 17 10 21) mark) ∷ ActionPartField (field (bit (on 10 29)) 18 10 33)
    ∷ ActionPartClaim (MakeClaim claiming.Lock mark (type 3 10 41) (alone 19 10 43) mark) ∷ ActionPartConstraint (MakeConstraintDeclaration mark (ConstraintContentSet (ConstraintOne (ConstraintItemExpr twice_in mark))))
    ∷ ActionPartActivity (MakeActivity mark mark performs mark) ∷ [])

abbrev pub derived : ComponentPartTree
derived =
    ComponentPartAction (MakeAction None mark (name 25 (on 15 10)) (Some (record { colon = mark; name = type 15 15 14 })) mark
    (ActionPartActivity (MakeActivity mark mark (traverse 16 15 29 ∷ traverse 17 15 32 ∷ []) mark) ∷ []) mark)

-- ---- an enum

abbrev pub item : ℕ → ℕ → ℕ → ℕ → EnumItemTree
item id column n value_column = MakeEnumItem (name id (on 14 column)) (Some (MakeEnumValue mark (number n (on 14 value_column))))

abbrev pub enum : ComponentPartTree
enum =
    ComponentPartEnum (MakeEnum mark (name 23 (on 14 8)) mark (item 24 12 1 16)
    (MakeNextEnumItem mark (item 29 19 1 23) ∷ MakeNextEnumItem mark (item 26 26 2147483647 30) ∷ MakeNextEnumItem mark (MakeEnumItem (name 27 (on 14 42)) None) ∷ []) mark)

abbrev pub source : UnitTree
source = component_with 1 (things ++ (atomic ++ (compound ∷ with_body ∷ enum ∷ derived ∷ [])))

abbrev pub names : List (List ℕ)
names =
    codes "pss_top" ∷ codes "b" ∷ codes "v" ∷ codes "r" ∷ codes "p" ∷ codes "f" ∷ codes "n" ∷ codes "V" ∷ codes "P" ∷ codes "x" ∷ codes "o" ∷ codes "k" ∷ codes "C" ∷ codes "i" ∷ codes "j" ∷ codes "M" ∷ codes "h" ∷ codes "c"
    ∷ codes "m" ∷ codes "q" ∷ codes "l" ∷ codes "B" ∷ codes "w" ∷ codes "e" ∷ codes "A" ∷ codes "D" ∷ codes "F" ∷ codes "G" ∷ codes "z" ∷ codes "Y" ∷ []

-- the source breaks the rule there
abbrev pub Breaks : ℕ → ℕ → ℕ → Type 0
Breaks line column rule = TypeBreach (source ∷ []) names (on line column) rule

pub record RulesAreTried : Type 0 where
  pub inner_in : Breaks 10 61 10
  pub quotient_by_0 : Breaks 9 48 11
  pub same_value : Breaks 14 23 12
  pub item_too_large : Breaks 14 42 12
  pub meeting : Breaks 12 32 13
  pub second_default : Breaks 12 49 13
  pub size_of_buffers : Breaks 4 9 14
  pub claim_of_buffer : Breaks 8 43 15
  pub reference_of_resource : Breaks 9 20 15
  pub compound_with_claim : Breaks 10 10 16
  pub derived_with_claim : Breaks 15 10 16
  pub abstract_traversed : Breaks 11 33 17
  pub within_select : Breaks 10 57 18
  pub condition : Breaks 11 46 19
  pub from_input : Breaks 11 63 20
  pub other_object : Breaks 5 10 20
  pub no_argument : Breaks 13 38 21
  pub void_value : Breaks 13 51 21
  pub assigned_field : Breaks 13 57 21
