-- What action types, object types and functions become, with what they inherit.
use Rattle.std.specs.Prelude.{ℕ, Bool, true, false, List, [], ◌∷◌, map, Option, Some, None}
use Rattle.std.specs.List.{find, flat_map, filter_map, list_any}
use Rattle.std.specs.Option.{option_map_or, option_and_then}
use Rattle.pst_base.specs.declared.position.Place.{Place}
use Rattle.pst_base.specs.declared.table.NameId.{NameId}
use Rattle.pst_ast.specs.declared.leaf.Name.{Name}
use Rattle.pst_ast.specs.declared.declaration.ObjectWord.{ObjectWord}
use Rattle.pst_ast.specs.declared.declaration.ObjectWord.TheVariants as word
use Rattle.pst_ast.specs.declared.declaration.ClaimWord.{ClaimWord}
use Rattle.pst_ast.specs.declared.declaration.ClaimWord.TheVariants as claiming
use Rattle.pst_ast.specs.ConstraintTree.{ConstraintDeclarationTree}
use Rattle.pst_ast.specs.ActivityTree.{ActivityTree, MakeActivity}
use Rattle.pst_ast.specs.DeclarationTree.{UnitTree, ItemTree, ItemComponent, ItemObject, MakeComponent, ComponentPartTree, ComponentPartObject, ObjectTree, MakeObject, ObjectPartTree, ObjectPartConstraint, ActionPartTree, ActionPartClaim, ActionPartConstraint, MakeClaim, AnswerTree, AnswerVoid, AnswerPlain, ParameterTree, MakeParameter}
use Rattle.pst_expr.specs.declared.ranges.Span.{Span}
use Rattle.pst_model.specs.declared.action.Field.{Field}
use Rattle.pst_model.specs.declared.action.Reference.{Reference}
use Rattle.pst_model.specs.declared.action.Claim.{Claim}
use Rattle.pst_model.specs.declared.object.ObjectKind.{ObjectKind}
use Rattle.pst_model.specs.declared.object.ObjectKind.TheVariants as kind
use Rattle.pst_model.specs.ConstraintTree.{ConstraintTree}
use Rattle.pst_model.specs.ModelTree.{ContentTree, Atomic, Compound, ActionTree as ActionModel, ObjectTree as ObjectModel, FunctionTree as FunctionModel}
use Rattle.pst_ast.specs.declared.scope_declaration.Declaration.{Declaration}
use Rattle.pst_ast.specs.declared.scope_declaration.Sort.{Sort}
use Rattle.pst_ast.specs.declared.scope_declaration.Sort.TheVariants as sort
use Rattle.pst_ast.specs.declared.referent.Owner.{Owner}
use Rattle.pst_ast.specs.declared.referent.Owner.TheVariants.{OfAction, OfObject}
use Rattle.pst_ast.specs.Declarations.{names_of}
use Rattle.pst_ast.specs.Sorts.{is_action, is_object, same_place}
use Rattle.pst_ast.specs.Lookups.{declared_at, type_of}
use Rattle.pst_ast.specs.Uses.{environment}
use Rattle.pst_type_rules.specs.Members.{those_that}
use Rattle.pst_type_rules.specs.Sites.{DeclaredFunction, items_of, actions, action_at, functions, fields}
use Rattle.pst_tree.specs.Bases.{with_bases, fields_of, references_of, claims_of, handles_of, action_number, object_number}
use Rattle.pst_tree.specs.Contents.{Content, Activity, Body, content_of}
use Rattle.pst_terms.specs.Sources.{Sources, declared_in}
use Rattle.pst_terms.specs.Fields.{counted, size_of}
use Rattle.pst_terms.specs.Slots.{constraint_of}
use Rattle.pst_terms.specs.Readings.{Setting}
use Rattle.pst_elab_rules.specs.Constraints.{declaration_terms}
use Rattle.pst_elab_rules.specs.Spans.{plain_span, domain_at}
use Rattle.pst_elab_rules.specs.Steps.{statement_step}
use Rattle.pst_elab_rules.specs.Ties.{ties_in}
use Rattle.pst_elab_rules.specs.Bodies.{body_steps}

-- in the text of a type, outside of all repetitions and bodies
abbrev pub setting_of : Declaration → Owner → Setting
setting_of type owner = record { at = environment type.inside owner; turns = []; locals = [] }

-- ---- fields: each element of an array is one

abbrev pub field : Name → List Span → Option ℕ → Field
field name domain element = record { name = name.id; domain = domain; element = element }

abbrev pub elements_of : Name → List Span → Option ℕ → List Field
elements_of name domain None = field name domain None ∷ []
elements_of name domain (Some n) = map (λ i. field name domain (Some i)) (counted 0 n)

abbrev pub model_fields : Sources → List (List Span) → Declaration → List Field
model_fields s domains type = flat_map (λ d. elements_of d.name (domain_at (fields s.units) domains d.name.place) (size_of s d)) (fields_of (declared_in s) type)

-- ---- references and claims

-- the number of the object type of a reference, claim or pool
abbrev pub object_of : List Declaration → Declaration → ℕ
object_of ds d = option_map_or (object_number ds) (type_of ds d) 0

abbrev pub is_output : Sort → Bool
is_output (sort.Reference of output) = output
is_output _ = false

abbrev pub reference : List Declaration → Declaration → Reference
reference ds d = record { name = d.name.id; object = object_of ds d; output = is_output d.sort }

abbrev pub is_lock : ClaimWord → Bool
is_lock claiming.Lock = true
is_lock claiming.Share = false

-- the names that a part of an action claims by `lock`
abbrev pub locked_in : ActionPartTree → List Name
locked_in (ActionPartClaim (MakeClaim claiming.Lock place object names semicolon)) = names_of names
locked_in _ = []

abbrev pub locked : List UnitTree → List Name
locked units = flat_map (λ a. flat_map locked_in a.parts) (actions units)

abbrev pub claim : List UnitTree → List Declaration → Declaration → Claim
claim units ds d = record { name = d.name.id; object = object_of ds d; lock = list_any (λ n. same_place n.place d.name.place) (locked units) }

-- ---- actions

abbrev pub constraint_in : ActionPartTree → Option ConstraintDeclarationTree
constraint_in (ActionPartConstraint constraint) = Some constraint
constraint_in _ = None

-- the constraints in the own text of an action
abbrev pub own_constraints : Sources → Declaration → List ConstraintTree
own_constraints s d =
    option_map_or (λ a. map constraint_of (flat_map (declaration_terms s (setting_of d (OfAction d))) (filter_map constraint_in a.parts))) (action_at s.units d.name.place) []

abbrev pub handle_types : List Declaration → Declaration → List ℕ
handle_types ds d = map (λ h. option_map_or (action_number ds) (type_of ds h) 0) (handles_of ds d)

-- an activity, in the text of one action, of another one
abbrev pub compound : Sources → Declaration → Declaration → ActivityTree → ContentTree
compound s action d (MakeActivity word left statements right) =
    let setting = setting_of action (OfAction action) in
    Compound (record { handles = handle_types (declared_in s) d; steps = filter_map (statement_step s setting 0) statements; binds = ties_in s setting statements })

abbrev pub content : Sources → Declaration → Option Content → ContentTree
content s d None = Atomic []
content s d (Some (Activity action activity)) = compound s action d activity
content s d (Some (Body action tree)) = Atomic (body_steps s (setting_of action (OfAction action)) action tree)

abbrev pub name_at : List Declaration → Option Place → NameId → NameId
name_at ds place otherwise = option_map_or (λ d. d.name.id) (option_and_then (declared_at ds) place) otherwise

abbrev pub is_abstract : List UnitTree → Declaration → Bool
is_abstract units d = option_map_or (λ a. a.is_abstract) (action_at units d.name.place) false

abbrev pub model_action : Sources → List (List Span) → Declaration → ActionModel
model_action s domains d =
    let ds = declared_in s in
    record {
      name = d.name.id;
      component = name_at ds d.inside d.name.id;
      is_abstract = is_abstract s.units d;
      fields = model_fields s domains d;
      references = map (reference ds) (references_of ds d);
      claims = map (claim s.units ds) (claims_of ds d);
      constraints = flat_map (own_constraints s) (with_bases ds d);
      content = content s d (content_of s.units d);
    }

abbrev pub model_actions : Sources → List (List Span) → List ActionModel
model_actions s domains = map (model_action s domains) (those_that is_action (declared_in s))

-- ---- objects

pub record DeclaredObject : Type 0 where
  pub name : Name
  pub parts : List ObjectPartTree

abbrev pub object_of_tree : ObjectTree → DeclaredObject
object_of_tree (MakeObject word place name left parts right) = record { name = name; parts = parts }

abbrev pub objects_in_part : ComponentPartTree → List DeclaredObject
objects_in_part (ComponentPartObject object) = object_of_tree object ∷ []
objects_in_part _ = []

abbrev pub objects_in_item : ItemTree → List DeclaredObject
objects_in_item (ItemComponent (MakeComponent word name left parts right)) = flat_map objects_in_part parts
objects_in_item (ItemObject object) = object_of_tree object ∷ []
objects_in_item _ = []

-- the object whose name stands at a place
abbrev pub object_at : List UnitTree → Place → Option DeclaredObject
object_at units place = find (λ o. same_place o.name.place place) (flat_map objects_in_item (flat_map items_of units))

abbrev pub kind_of : ObjectWord → ObjectKind
kind_of word.Buffer = kind.Buffer
kind_of word.Stream = kind.Stream
kind_of word.State = kind.State
kind_of word.Resource = kind.Resource

abbrev pub kind_in : Sort → ObjectKind
kind_in (sort.Object word) = kind_of word
kind_in _ = kind.Buffer

abbrev pub object_constraint_in : ObjectPartTree → Option ConstraintDeclarationTree
object_constraint_in (ObjectPartConstraint constraint) = Some constraint
object_constraint_in _ = None

abbrev pub object_constraints : Sources → Declaration → List ConstraintTree
object_constraints s d =
    option_map_or (λ o. map constraint_of (flat_map (declaration_terms s (setting_of d (OfObject d))) (filter_map object_constraint_in o.parts))) (object_at s.units d.name.place) []

abbrev pub model_object : Sources → List (List Span) → Declaration → ObjectModel
model_object s domains d = record { name = d.name.id; kind = kind_in d.sort; fields = model_fields s domains d; constraints = object_constraints s d }

abbrev pub model_objects : Sources → List (List Span) → List ObjectModel
model_objects s domains = map (model_object s domains) (those_that is_object (declared_in s))

-- ---- functions

abbrev pub parameter_span : Sources → ParameterTree → Span
parameter_span s (MakeParameter input plain name) = plain_span s plain

abbrev pub answer_span : Sources → AnswerTree → Option Span
answer_span s (AnswerVoid place) = None
answer_span s (AnswerPlain plain) = Some (plain_span s plain)

abbrev pub model_function : Sources → DeclaredFunction → FunctionModel
model_function s f = record { name = f.name.id; parameters = map (parameter_span s) f.parameters; answer = answer_span s f.answer }

abbrev pub model_functions : Sources → List FunctionModel
model_functions s = map (model_function s) (functions s.units)
