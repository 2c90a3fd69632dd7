-- The rules of names: what breaks each of them, and where. The numbers of the rules are this project's own.
use Rattle.std.specs.Prelude.{◌≡◌, ℕ, Bool, false, not, ◌&&◌, ◌||◌, IsTrue, IsFalse, List, [], ◌∷◌, ◌++◌, codes, Option, Some, None, is_some, if◌then◌else◌}
use Rattle.std.specs.List.{list_any, Contains}
use Rattle.std.specs.Option.{option_map_or, option_or, option_and_then}
use Rattle.pst_base.specs.declared.position.Place.{Place}
use Rattle.pst_base.specs.declared.table.NameId.{NameId}
use Rattle.pst_ast.specs.declared.leaf.Name.{Name}
use Rattle.pst_ast.specs.declared.shared.TypeName.{TypeName}
use Rattle.pst_ast.specs.DeclarationTree.{UnitTree, MakeUnit}
use Rattle.pst_ast.specs.declared.scope_declaration.Declaration.{Declaration}
use Rattle.pst_ast.specs.declared.scope_declaration.Scope.TheVariants.{Files, Part}
use Rattle.pst_ast.specs.declared.scope_declaration.Sort.{Sort}
use Rattle.pst_ast.specs.Declarations.{declarations}
pub use Rattle.pst_ast.specs.declared.referent.Finding.{Finding}
pub use Rattle.pst_ast.specs.declared.referent.Target.{Target}
use Rattle.pst_ast.specs.Sorts.{same_name, same_place, same_scope, is_component, is_action, is_object, is_enum, is_function, is_instance, is_pool, is_item, is_reference, is_need}
use Rattle.pst_ast.specs.Lookups.{Environment, Referent, look_up, declared_at, if_sort, type_here, type_by, component_named, second_of, base_of, member_of, type_of, handled, stands_for, is_text}
use Rattle.pst_ast.specs.Paths.{Checked, Is, Breaks, and_then, is_value, is_array, is_handle_referent, is_ambiguous, read_path}
use Rattle.pst_ast.specs.Uses.{Use, Reads, Repeats, TakesItem, NamesType, NamesBase, Calls, Assigns, Traverses, Ends, Joins, Binds, Targets, Wanted, AComponent, AnAction, AnObject, AnEnum, uses}

abbrev pub finding : Place → ℕ → Option Finding
finding place rule = Some (record { place = place; rule = rule })

-- the place breaks the rule, unless that is so
abbrev pub unless : Bool → Place → ℕ → Option Finding
unless good place rule = if good then None else finding place rule

abbrev pub found : {X : Type 0} → Checked X → Option Finding
found (Is x) = None
found (Breaks place rule) = finding place rule

-- ---- type names, rule 2

abbrev pub is_wanted : Wanted → Sort → Bool
is_wanted AComponent s = is_component s
is_wanted AnAction s = is_action s
is_wanted AnObject s = is_object s
is_wanted AnEnum s = is_enum s

abbrev pub is_so : (Sort → Bool) → Option Declaration → Bool
is_so test d = option_map_or (λ d. test d.sort) d false

-- T stands for no such type, or the C of C::T for no component
abbrev pub type_finding : List Declaration → Option Place → (Sort → Bool) → Name → Option Name → Option Finding
type_finding ds component test first None = unless (is_so test (type_here ds component first.id)) first.place 2
type_finding ds component test first (Some second) =
    option_or (unless (is_some (component_named ds component first)) first.place 2) (unless (is_so test (type_by ds component first (Some second))) second.place 2)

-- the last name of T or C::T
abbrev pub last_name : TypeName → Name
last_name name = option_map_or (λ n. n) (second_of name) name.first

-- ---- enum items with their enum, rules 2 and 3

abbrev pub enum_finding : List Declaration → Option Place → Option Name → Name → Option Finding
enum_finding ds component None enum = type_finding ds component is_enum enum None
enum_finding ds component (Some c) enum = type_finding ds component is_enum c (Some enum)

-- the enum of E::A or C::E::A, and its item
abbrev pub enum_by : List Declaration → Option Place → Option Name → Name → Option Declaration
enum_by ds component None enum = option_and_then (if_sort is_enum) (type_by ds component enum None)
enum_by ds component (Some c) enum = option_and_then (if_sort is_enum) (type_by ds component c (Some enum))

abbrev pub item_by : List Declaration → Option Place → Option Name → Name → Name → Option Declaration
item_by ds component c enum item = option_and_then (λ e. look_up ds (Part e.name.place) item.id) (enum_by ds component c enum)

-- ---- handles and the ends of binds, rules 3 and 6

abbrev pub is_handle_name : List Declaration → List (List ℕ) → Environment → Name → Bool
is_handle_name ds names at name = option_map_or is_handle_referent (stands_for ds names at name.id) false

-- what an end names among the members of its handle's action
abbrev pub end_named : List Declaration → List (List ℕ) → Environment → Name → NameId → Option Declaration
end_named ds names at handle reference = option_and_then (λ action. member_of ds action reference) (handled ds (stands_for ds names at handle.id))

-- ---- targets of pool binds, rule 3

-- a name that is declared in the scope of a type, as a thing of such a sort
abbrev pub named_in : List Declaration → Place → (Sort → Bool) → Name → Option Declaration
named_in ds type test name = option_and_then (if_sort test) (look_up ds (Part type) name.id)

abbrev pub or_breaks : {X : Type 0} → Option X → Place → ℕ → Checked X
or_breaks None place rule = Breaks place rule
or_breaks (Some x) place rule = Is x

-- the same in a type that may be missing, in which nothing is declared
abbrev pub named_within : List Declaration → Option Declaration → (Sort → Bool) → Name → Option Declaration
named_within ds None test name = None
named_within ds (Some type) test name = named_in ds type.name.place test name

-- the component to which instances lead; none where the last of them names no component as its type
abbrev pub along : List Declaration → Option Declaration → List Name → Checked (Option Declaration)
along ds component [] = Is component
along ds component (i ∷ more) = and_then (or_breaks (named_within ds component is_instance i) i.place 3) (λ instance. along ds (type_of ds instance) more)

abbrev pub target_of : List Declaration → Place → List Name → Name → Name → Checked Target
target_of ds component instances action reference =
    and_then (along ds (declared_at ds component) instances) (λ reached.
    and_then (or_breaks (named_within ds reached is_action action) action.place 3) (λ a.
    and_then (or_breaks (option_and_then (if_sort is_need) (member_of ds a reference.id)) reference.place 3) (λ need.
    Is (record { action = a; need = need }))))

-- ---- uses: the first name that is wrong, and the rule that it breaks

-- what a value is assigned to: nothing breaks rule 3, an item of two enums rule 4 (another thing than a local breaks rule 21)
abbrev pub assigned_finding : List Declaration → Name → Option Referent → Option Finding
assigned_finding ds name None = finding name.place 3
assigned_finding ds name (Some r) = unless (not (is_ambiguous ds r)) name.place 4

abbrev pub use_finding : List Declaration → List (List ℕ) → Use → Option Finding
use_finding ds names (Reads at first rest) = found (read_path ds names at is_value first rest)
use_finding ds names (Repeats at first rest) = found (read_path ds names at is_array first rest)
use_finding ds names (TakesItem at component enum item) =
    option_or (enum_finding ds at.component component enum) (unless (is_so is_item (item_by ds at.component component enum item)) item.place 3)
use_finding ds names (NamesType component wanted name) = type_finding ds component (is_wanted wanted) name.first (second_of name)
use_finding ds names (NamesBase action name) =
    option_or (type_finding ds action.inside is_action name.first (second_of name)) (unless (is_some (base_of ds action)) (last_name name).place 2)
use_finding ds names (Calls component name) = unless (is_so is_function (type_here ds component name.id)) name.place 3
use_finding ds names (Assigns at name) = assigned_finding ds name (stands_for ds names at name.id)
use_finding ds names (Traverses at name) = unless (is_handle_name ds names at name) name.place 3
use_finding ds names (Ends at handle reference) =
    option_or (unless (is_handle_name ds names at handle) handle.place 3) (unless (is_so is_reference (end_named ds names at handle reference.id)) reference.place 6)
use_finding ds names (Joins labels name) = unless (list_any (same_name name.id) labels) name.place 3
use_finding ds names (Binds component pool) = unless (is_some (named_in ds component is_pool pool)) pool.place 3
use_finding ds names (Targets component pool instances action reference) = found (target_of ds component instances action reference)
use_finding ds names _ = None

-- ---- declarations

-- the first declaration of its name in its scope is another
abbrev pub is_declared_before : List Declaration → Declaration → Bool
is_declared_before ds d = option_map_or (λ e. not (same_place e.name.place d.name.place)) (look_up ds d.scope d.name.id) false

-- one leads to the next: an action to its base, a component to those of its instances
pub data LeadsTo (ds : List Declaration) (d : Declaration) : Declaration → Type 0 where
  ToBase : (base : Declaration) → base_of ds d ≡ Some base → LeadsTo ds d base
  ToInstance : (i component : Declaration) → Contains ds i → i.scope ≡ Part d.name.place → IsTrue (is_instance i.sort) → type_of ds i ≡ Some component → LeadsTo ds d component

-- in any number of steps, at least one
pub data Reaches (ds : List Declaration) : Declaration → Declaration → Type 0 where
  AtOnce : (d e : Declaration) → LeadsTo ds d e → Reaches ds d e
  Through : (d e f : Declaration) → LeadsTo ds d e → Reaches ds e f → Reaches ds d f

-- what names the scope in which it is declared
abbrev pub owner_of : List Declaration → Declaration → Option Declaration
owner_of ds d = option_and_then (λ type. if same_scope d.scope (Part type.name.place) then Some type else None) (option_and_then (declared_at ds) d.inside)

-- the base of its action has a member of that name
abbrev pub is_in_base : List Declaration → Declaration → Bool
is_in_base ds d = is_some (option_and_then (λ b. member_of ds b d.name.id) (option_and_then (base_of ds) (owner_of ds d)))

-- a word of objects
abbrev pub is_word : List (List ℕ) → NameId → Bool
is_word names name = is_text names (codes "prev") name || (is_text names (codes "initial") name || is_text names (codes "instance_id") name)

pub data DeclarationBreaks (ds : List Declaration) (names : List (List ℕ)) (d : Declaration) : ℕ → Type 0 where
  -- it is declared twice in its scope
  Twice : IsTrue (is_declared_before ds d) → DeclarationBreaks ds names d 1
  -- its bases, or the instances in it, lead back to it
  Loops : Reaches ds d d → DeclarationBreaks ds names d 5
  -- it is a name of its action's base
  Inherits : IsTrue (is_in_base ds d) → DeclarationBreaks ds names d 7
  -- it is a word of objects, declared in one
  Reserved : IsTrue (is_so is_object (owner_of ds d) && is_word names d.name.id) → DeclarationBreaks ds names d 7

-- ---- the rules

abbrev pub is_root_component : List (List ℕ) → Declaration → Bool
is_root_component names d = is_component d.sort && (same_scope d.scope Files && is_text names (codes "pss_top") d.name.id)

abbrev pub finish_of : UnitTree → Place
finish_of (MakeUnit items finish) = finish.place

-- The sources break the rule at the place.
pub data NameBreach (units : List UnitTree) (names : List (List ℕ)) : Place → ℕ → Type 0 where
  OfDeclaration : (d : Declaration) (rule : ℕ) → Contains (declarations units) d → DeclarationBreaks (declarations units) names d rule → NameBreach units names d.name.place rule
  OfUse : (u : Use) (place : Place) (rule : ℕ) → Contains (uses units) u → use_finding (declarations units) names u ≡ finding place rule → NameBreach units names place rule
  NoRoot : (front : List UnitTree) (last : UnitTree) → units ≡ front ++ last ∷ [] → IsFalse (list_any (is_root_component names) (declarations units)) → NameBreach units names (finish_of last) 8
