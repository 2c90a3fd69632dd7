-- What a name stands for where it is used. Which names hide which is this project's own.
use Rattle.std.specs.Prelude.{ℕ, zero, suc, Bool, false, ◌&&◌, List, length, slice_get, codes, Option, Some, None, if◌then◌else◌}
use Rattle.std.specs.List.{find}
use Rattle.std.specs.Option.{option_map, option_map_or, option_or, option_and_then}
use Rattle.std.specs.Str.{bytes_eq}
use Rattle.pst_base.specs.declared.position.Place.{Place}
use Rattle.pst_base.specs.declared.table.NameId.{NameId}
use Rattle.pst_ast.specs.declared.leaf.Name.{Name}
use Rattle.pst_ast.specs.declared.shared.TypeName.{TypeName}
use Rattle.pst_ast.specs.declared.scope_declaration.Declaration.{Declaration}
use Rattle.pst_ast.specs.declared.scope_declaration.Scope.{Scope}
use Rattle.pst_ast.specs.declared.scope_declaration.Scope.TheVariants.{Files, Part}
use Rattle.pst_ast.specs.declared.scope_declaration.Sort.{Sort}
use Rattle.pst_ast.specs.declared.scope_declaration.Sort.TheVariants as sort
pub use Rattle.pst_ast.specs.declared.environment.Environment.{Environment}
pub use Rattle.pst_ast.specs.declared.referent.Owner.{Owner}
pub use Rattle.pst_ast.specs.declared.referent.Owner.TheVariants.{Nobody, OfAction, OfObject}
pub use Rattle.pst_ast.specs.declared.referent.Traversal.{Traversal}
pub use Rattle.pst_ast.specs.declared.referent.Traversal.TheVariants.{ByType, ByHandle}
pub use Rattle.pst_ast.specs.declared.referent.Referent.{Referent}
pub use Rattle.pst_ast.specs.declared.referent.Referent.TheVariants.{Declared, Initial, Previous, Number}
pub use Rattle.pst_ast.specs.Inner.{inner_named}
use Rattle.pst_ast.specs.Sorts.{is_component, is_action, is_object, is_handle, is_field, is_state, is_resource, same_name, same_place, same_scope}

-- ---- declarations of a scope

-- of two declarations of one name in a scope the first counts
unfoldable pub look_up : List Declaration → Scope → NameId → Option Declaration
look_up ds scope name = find (λ d. same_scope d.scope scope && same_name d.name.id name) ds

-- what is declared by the name at that place
unfoldable pub declared_at : List Declaration → Place → Option Declaration
declared_at ds place = find (λ d. same_place d.name.place place) ds

-- it, where it is of such a sort
abbrev pub if_sort : (Sort → Bool) → Declaration → Option Declaration
if_sort test d = if test d.sort then Some d else None

-- ---- types

-- a type name by itself is looked up in the component where it stands, then at file level
abbrev pub type_here : List Declaration → Option Place → NameId → Option Declaration
type_here ds None name = look_up ds Files name
type_here ds (Some component) name = option_or (look_up ds (Part component) name) (look_up ds Files name)

-- the component that a name stands for
abbrev pub component_named : List Declaration → Option Place → Name → Option Declaration
component_named ds component name = option_and_then (if_sort is_component) (type_here ds component name.id)

-- T, or C::T in the component that C stands for
abbrev pub type_by : List Declaration → Option Place → Name → Option Name → Option Declaration
type_by ds component first None = type_here ds component first.id
type_by ds component first (Some second) = option_and_then (λ c. look_up ds (Part c.name.place) second.id) (component_named ds component first)

abbrev pub second_of : TypeName → Option Name
second_of name = option_map (λ s. s.name) name.second

abbrev pub type_named : List Declaration → Option Place → TypeName → Option Declaration
type_named ds component name = type_by ds component name.first (second_of name)

-- the component in whose text a declaration stands: that in whose text its type stands, or which its type is
abbrev pub component_of : Declaration → Option Place
component_of owner = if is_component owner.sort then Some owner.name.place else owner.inside

abbrev pub home : List Declaration → Declaration → Option Place
home ds d = option_and_then component_of (option_and_then (declared_at ds) d.inside)

-- ---- actions and their bases

abbrev pub base_in : Sort → Option TypeName
base_in (sort.Action base) = base
base_in _ = None

-- an action of the same component
abbrev pub action_beside : Declaration → Declaration → Option Declaration
action_beside d base = if is_action base.sort && same_scope base.scope d.scope then Some base else None

-- the base of an action; none where its name stands for no action of the same component
unfoldable pub base_of : List Declaration → Declaration → Option Declaration
base_of ds d = option_and_then (action_beside d) (option_and_then (type_named ds d.inside) (base_in d.sort))

-- a name among the members of an action and so many bases
abbrev pub member_within : ℕ → List Declaration → Declaration → NameId → Option Declaration
member_within zero ds action name = None
member_within (suc k) ds action name = option_or (look_up ds (Part action.name.place) name) (option_and_then (λ b. member_within k ds b name) (base_of ds action))

-- a member of an action, with its bases' (a chain of bases without a loop isn't longer than the declarations)
unfoldable pub member_of : List Declaration → Declaration → NameId → Option Declaration
member_of ds action name = member_within (length ds) ds action name

-- ---- enum items

abbrev pub is_item_at : Scope → Sort → Bool
is_item_at level (sort.Item at) = same_scope at level
is_item_at level _ = false

-- an item by itself: the first of its name in the enums of a level
unfoldable pub item_at : List Declaration → Scope → NameId → Option Declaration
item_at ds level name = find (λ d. is_item_at level d.sort && same_name d.name.id name) ds

abbrev pub item_here : List Declaration → Option Place → NameId → Option Declaration
item_here ds None name = item_at ds Files name
item_here ds (Some component) name = option_or (item_at ds (Part component) name) (item_at ds Files name)

-- ---- where a name is used

abbrev pub referent : Option Declaration → Option Referent
referent d = option_map Declared d

-- the text of a name
abbrev pub is_text : List (List ℕ) → List ℕ → NameId → Bool
is_text names text name = option_map_or (bytes_eq text) (slice_get names name.0) false

-- words that are names in the objects of some kinds
abbrev pub word_in : List (List ℕ) → Declaration → NameId → Option Referent
word_in names object name =
    if is_state object.sort && is_text names (codes "initial") name then Some (Initial object)
    else (if is_state object.sort && is_text names (codes "prev") name then Some (Previous object)
    else (if is_resource object.sort && is_text names (codes "instance_id") name then Some (Number object) else None))

-- a field of an object, whose named constraints aren't looked up
abbrev pub field_of : List Declaration → Declaration → NameId → Option Declaration
field_of ds object name = find (λ d. same_scope d.scope (Part object.name.place) && (same_name d.name.id name && is_field d.sort)) ds

abbrev pub owned : List Declaration → List (List ℕ) → Owner → NameId → Option Referent
owned ds names Nobody name = None
owned ds names (OfAction action) name = referent (member_of ds action name)
owned ds names (OfObject object) name = option_or (referent (field_of ds object name)) (word_in names object name)

-- a name behind the indices and locals, of which one may have that name
abbrev pub value_behind : List Declaration → List (List ℕ) → Environment → Option Name → NameId → Option Referent
value_behind ds names at inner name =
    option_or (referent (option_and_then (λ n. declared_at ds n.place) inner)) (option_or (owned ds names at.owner name) (referent (item_here ds at.component name)))

-- a name in an expression that is no inline constraint
unfoldable pub value_named : List Declaration → List (List ℕ) → Environment → NameId → Option Referent
value_named ds names at name = value_behind ds names at (inner_named at.inner name) name

-- ---- types of members

-- the name of the type of a reference, claim, pool, handle or instance, and what sort of thing it must stand for
abbrev pub type_in : Sort → Option TypeName
type_in (sort.Reference of output) = Some of
type_in (sort.Claim of) = Some of
type_in (sort.Pool of) = Some of
type_in (sort.Handle of) = Some of
type_in (sort.Instance of) = Some of
type_in _ = None

abbrev pub is_type_for : Sort → Sort → Bool
is_type_for (sort.Reference of output) s = is_object s
is_type_for (sort.Claim of) s = is_object s
is_type_for (sort.Pool of) s = is_object s
is_type_for (sort.Handle of) s = is_action s
is_type_for (sort.Instance of) s = is_component s
is_type_for _ s = false

-- The type, whose name is looked up where the member is declared; none where it stands for another sort of thing.
unfoldable pub type_of : List Declaration → Declaration → Option Declaration
type_of ds d = option_and_then (if_sort (is_type_for d.sort)) (option_and_then (type_named ds (home ds d)) (type_in d.sort))

-- ---- traversals

-- the action that a handle traverses
abbrev pub handled : List Declaration → Option Referent → Option Declaration
handled ds (Some (Declared d)) = if is_handle d.sort then type_of ds d else None
handled ds _ = None

-- the type of the action that a traversal is of
unfoldable pub traversed : List Declaration → List (List ℕ) → Environment → Traversal → Option Declaration
traversed ds names at (ByType name) = option_and_then (if_sort is_action) (type_named ds at.component name)
traversed ds names at (ByHandle hidden_by name) = handled ds (value_behind ds names at hidden_by name.id)

-- the member of the traversed action, in an inline constraint
abbrev pub traversed_member : List Declaration → List (List ℕ) → Environment → NameId → Option Declaration
traversed_member ds names at name = option_and_then (λ t. option_and_then (λ a. member_of ds a name) (traversed ds names at t)) at.traversal

-- a name in an expression: in an inline constraint the members of the traversed action come before all others
unfoldable pub stands_for : List Declaration → List (List ℕ) → Environment → NameId → Option Referent
stands_for ds names at name = option_or (referent (traversed_member ds names at name)) (value_named ds names at name)
