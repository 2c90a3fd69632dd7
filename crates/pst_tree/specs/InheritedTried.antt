-- What derived actions have, in this source:
--    1  component pss_top {
--    2    buffer b { }
--    3    action A { rand bit x; input b i; exec body { } rand bit y; }
--    4    action B : A { output b o; rand bit z; }
--    5    action C : B { rand bit w; }
--    6    action D { A h; activity { h; } }
--    7    action E : D { C k; }
--    8    action F : D { exec body { } }
--        }
use Rattle.std.specs.Prelude.{◌≡◌, ℕ, List, [], ◌∷◌, map, true, false, Option, Some, None, codes}
use Rattle.pst_ast.specs.declared.declaration.ObjectWord.TheVariants as object
use Rattle.pst_ast.specs.declared.declaration.ReferenceWord.{ReferenceWord}
use Rattle.pst_ast.specs.declared.declaration.ReferenceWord.TheVariants as way
use Rattle.pst_ast.specs.declared.declaration.BaseNode.{BaseNode}
use Rattle.pst_ast.specs.ActivityTree.{ActivityTree, MakeActivity}
use Rattle.pst_ast.specs.BodyTree.{BodyTree, MakeBody}
use Rattle.pst_ast.specs.DeclarationTree.{UnitTree, ComponentPartTree, ComponentPartAction, ComponentPartObject, MakeObject, MakeAction, ActionPartTree, ActionPartField, ActionPartReference, ActionPartActivity, ActionPartBody, MakeReference}
use Rattle.pst_ast.specs.declared.scope_declaration.Declaration.{Declaration}
use Rattle.pst_ast.specs.Declarations.{declarations, action_declared, member}
use Rattle.pst_ast.specs.declared.scope_declaration.Sort.TheVariants as sort
use Rattle.pst_type_rules.specs.Tried.{on, name, component_with}
use Rattle.pst_type_rules.specs.TriedRules.{mark, type, alone, field, bit, traverse}
use Rattle.pst_type_rules.specs.TriedMore.{handle}
use Rattle.pst_tree.specs.Bases.{with_bases, fields_of, needs_of, handles_of, reference_number, handle_number, action_number}
use Rattle.pst_tree.specs.Contents.{Activity, Body, content_of, is_compound}

abbrev pub names : List (List ℕ)
names =
    codes "pss_top" ∷ codes "b" ∷ codes "A" ∷ codes "x" ∷ codes "i" ∷ codes "y" ∷ codes "B" ∷ codes "o" ∷ codes "z" ∷ codes "C" ∷ codes "w" ∷ codes "D" ∷ codes "h" ∷ codes "E" ∷ codes "k" ∷ codes "F" ∷ []

abbrev pub a_field : ℕ → ℕ → ℕ → ActionPartTree
a_field id line column = ActionPartField (field (bit mark) id line column)

abbrev pub reference : ReferenceWord → ℕ → ℕ → ℕ → ActionPartTree
reference word id line column = ActionPartReference (MakeReference word mark (type 1 line 1) (alone id line column) mark)

abbrev pub base_named : ℕ → ℕ → ℕ → BaseNode
base_named id line column = record { colon = mark; name = type id line column }

-- an action whose name stands at column 10
abbrev pub an_action : ℕ → ℕ → Option BaseNode → List ActionPartTree → ComponentPartTree
an_action id line base parts = ComponentPartAction (MakeAction None mark (name id (on line 10)) base mark parts mark)

abbrev pub body_of : ℕ → BodyTree
body_of line = MakeBody (on line 40) mark mark [] mark

abbrev pub activity_of : ActivityTree
activity_of = MakeActivity (on 6 21) mark (traverse 12 6 32 ∷ []) mark

abbrev pub source : UnitTree
source =
    component_with 1
    (ComponentPartObject (MakeObject object.Buffer mark (name 1 (on 2 10)) mark [] mark)
    ∷ an_action 2 3 None (a_field 3 3 23 ∷ reference way.Input 4 3 34 ∷ ActionPartBody (body_of 3) ∷ a_field 5 3 62 ∷ [])
    ∷ an_action 6 4 (Some (base_named 2 4 14)) (reference way.Output 7 4 27 ∷ a_field 8 4 39 ∷ [])
    ∷ an_action 9 5 (Some (base_named 6 5 14)) (a_field 10 5 27 ∷ [])
    ∷ an_action 11 6 None (handle 2 12 6 16 ∷ ActionPartActivity activity_of ∷ [])
    ∷ an_action 13 7 (Some (base_named 11 7 14)) (handle 9 14 7 20 ∷ [])
    ∷ an_action 15 8 (Some (base_named 11 8 14)) (ActionPartBody (body_of 8) ∷ [])
    ∷ [])

abbrev pub units : List UnitTree
units = source ∷ []

abbrev pub ds : List Declaration
ds = declarations units

abbrev pub first_action : Declaration
first_action = action_declared (on 1 11) None (name 2 (on 3 10))

abbrev pub derived : ℕ → ℕ → ℕ → Declaration
derived id line base = action_declared (on 1 11) (Some (base_named base line 14)) (name id (on line 10))

abbrev pub compound : Declaration
compound = action_declared (on 1 11) None (name 11 (on 6 10))

abbrev pub output : Declaration
output = member (on 4 10) (sort.Reference (type 1 4 1) true) (name 7 (on 4 27))

abbrev pub own_handle : Declaration
own_handle = member (on 7 10) (sort.Handle (type 9 7 1)) (name 14 (on 7 20))

abbrev pub ids : List Declaration → List ℕ
ids list = map (λ d. d.name.id.0) list

pub record BasesAreTried : Type 0 where
  pub bases : with_bases ds (derived 9 5 6) ≡ first_action ∷ derived 6 4 2 ∷ derived 9 5 6 ∷ []
  -- x, y, z, w, and i, o
  pub fields : ids (fields_of ds (derived 9 5 6)) ≡ 3 ∷ 5 ∷ 8 ∷ 10 ∷ []
  pub needs : ids (needs_of ds (derived 9 5 6)) ≡ 4 ∷ 7 ∷ []
  pub reference : reference_number ds (derived 9 5 6) output ≡ 1
  -- h, k
  pub handles : ids (handles_of ds (derived 13 7 11)) ≡ 12 ∷ 14 ∷ []
  pub handle : handle_number ds (derived 13 7 11) own_handle ≡ 1
  pub number : action_number ds (derived 15 8 11) ≡ 5
  -- the body of the base's base, the base's activity, and a body in the place of an activity
  pub inherited_body : content_of units (derived 9 5 6) ≡ Some (Body first_action (body_of 3))
  pub inherited_activity : content_of units (derived 13 7 11) ≡ Some (Activity compound activity_of)
  pub own_body : content_of units (derived 15 8 11) ≡ Some (Body (derived 15 8 11) (body_of 8))
  pub atomic : is_compound units (derived 15 8 11) ≡ false
  pub still_compound : is_compound units (derived 13 7 11) ≡ true
