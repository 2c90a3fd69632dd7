-- Uses that break no rule, in this source:
--    1  component pss_top {
--    2    resource r { }
--    3    stream s { }
--    4    pool [1024] r p;
--    5    action S { input s i; output s o; rand bit[63] in [1..1] x; }
--    6    action T { S a; S b; rand bit m; activity { a; b; bind a.o b.i; match (m) { [0..1]: ; [2]: ; default: ; } } }
--        }
use Rattle.std.specs.Prelude.{ℕ, List, [], ◌∷◌, Some, None, codes}
use Rattle.pst_base.specs.declared.position.Place.{Place}
use Rattle.pst_ast.specs.declared.activity.EndNode.{EndNode}
use Rattle.pst_ast.specs.declared.declaration.ObjectWord.TheVariants as object
use Rattle.pst_ast.specs.declared.declaration.ReferenceWord.TheVariants as way
use Rattle.pst_ast.specs.ExpressionTree.{RangeTree, RangeSingle, RangeBetween, NoNextPartRow}
use Rattle.pst_ast.specs.SharedTree.{PlainTree, PlainBit, MakeWidth, MakeDomain, TypeTree, TypePlain}
use Rattle.pst_ast.specs.ActivityTree.{StatementPlain, CoreMatch, CoreBind, MakeBind, OtherEndsOne, NoArmRow, MoreArmRow, ArmLabelTree}
use Rattle.pst_ast.specs.DeclarationTree.{UnitTree, ComponentPartTree, ComponentPartObject, ComponentPartPool, MakeObject, MakePool, MakeSize, ActionPartField, ActionPartReference, MakeReference}
use Rattle.pst_ast.specs.declared.scope_declaration.Declaration.{Declaration}
use Rattle.pst_ast.specs.declared.environment.Environment.{Environment}
use Rattle.pst_ast.specs.declared.referent.Owner.TheVariants.{Nobody, OfAction}
use Rattle.pst_ast.specs.Declarations.{action_declared}
use Rattle.pst_ast.specs.Uses.{Use, Judges, HasPlain, HasType, Arms, Ties, PoolSize, environment}
use Rattle.pst_type_rules.specs.TypeRules.{UseBreaks}
use Rattle.pst_type_rules.specs.Tried.{on, name, number, component_with}
use Rattle.pst_type_rules.specs.TriedRules.{mark, type, alone, path, field, bit, action, traverse, arm, one_range, range_label, default_label}
use Rattle.pst_type_rules.specs.TriedMore.{handle, activity}

-- bit[63] in [1..1]
abbrev pub wide : PlainTree
wide = PlainBit (on 5 42) (Some (MakeWidth mark (number 63 (on 5 46)) None mark))

abbrev pub one : RangeTree
one = RangeBetween (number 1 (on 5 54)) mark (number 1 (on 5 57))

abbrev pub only_one : TypeTree
only_one = TypePlain wide (Some (MakeDomain mark mark (one_range one) mark))

abbrev pub output : EndNode
output = record { handle = name 8 (on 6 56); dot = mark; name = name 6 (on 6 58) }

abbrev pub input : EndNode
input = record { handle = name 9 (on 6 60); dot = mark; name = name 5 (on 6 62) }

abbrev pub zero_to_one : RangeTree
zero_to_one = RangeBetween (number 0 (on 6 78)) mark (number 1 (on 6 81))

abbrev pub two : RangeTree
two = RangeSingle (number 2 (on 6 88))

abbrev pub labels : List ArmLabelTree
labels = range_label zero_to_one ∷ range_label two ∷ default_label 94 ∷ []

abbrev pub parts : List ComponentPartTree
parts =
    ComponentPartObject (MakeObject object.Resource mark (name 1 (on 2 12)) mark [] mark)
    ∷ ComponentPartObject (MakeObject object.Stream mark (name 2 (on 3 10)) mark [] mark)
    ∷ ComponentPartPool (MakePool mark (Some (MakeSize mark (number 1024 (on 4 9)) mark)) (type 1 4 15) (name 3 (on 4 17)) mark)
    ∷ action 4 5 10
    (ActionPartReference (MakeReference way.Input mark (type 2 5 20) (alone 5 5 22) mark) ∷ ActionPartReference (MakeReference way.Output mark (type 2 5 32) (alone 6 5 34) mark) ∷ ActionPartField (field only_one 7 5 60) ∷ [])
    ∷ action 10 6 10
    (handle 4 8 6 16 ∷ handle 4 9 6 21 ∷ ActionPartField (field (bit (on 6 29)) 11 6 33)
    ∷ activity
    (traverse 8 6 45 ∷ traverse 9 6 48 ∷ StatementPlain (CoreBind (MakeBind mark output (OtherEndsOne input) mark))
    ∷ StatementPlain (CoreMatch mark mark (path 11 6 73 NoNextPartRow) mark mark (arm (range_label zero_to_one)) (MoreArmRow (arm (range_label two)) (MoreArmRow (arm (default_label 94)) NoArmRow)) mark) ∷ [])
    ∷ [])
    ∷ []

abbrev pub source : UnitTree
source = component_with 1 parts

abbrev pub names : List (List ℕ)
names =
    codes "pss_top" ∷ codes "r" ∷ codes "s" ∷ codes "p" ∷ codes "S" ∷ codes "i" ∷ codes "o" ∷ codes "x" ∷ codes "a" ∷ codes "b" ∷ codes "T" ∷ codes "m" ∷ []

abbrev pub within_pool : Environment
within_pool = environment (Some (on 1 11)) Nobody

abbrev pub within : Declaration → Environment
within action = environment (Some (on 1 11)) (OfAction action)

abbrev pub simple : Declaration
simple = action_declared (on 1 11) None (name 4 (on 5 10))

abbrev pub compound : Declaration
compound = action_declared (on 1 11) None (name 10 (on 6 10))

-- the use breaks no rule
abbrev pub IsRight : Use → Type 0
IsRight u = (place : Place) (rule : ℕ) → UseBreaks (source ∷ []) names u place rule → ⊥

pub record RightIsTried : Type 0 where
  pub greatest_size : IsRight (Judges within_pool (PoolSize (type 1 4 15)) (number 1024 (on 4 9)))
  pub greatest_width : IsRight (HasPlain (within simple) wide)
  pub one_value : IsRight (HasType (within simple) only_one)
  pub output_to_input : IsRight (Ties (within compound) output (input ∷ []))
  pub apart : IsRight (Arms (within compound) labels)
