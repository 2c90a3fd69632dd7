-- The definitions on a small source:
--   component pss_top { state st { rand bit f; } action A { input st i; rand bit a[2]; } action B : A { rand bit f; } enum e { K } enum g { K } }
use Rattle.std.specs.Prelude.{◌≡◌, ℕ, ◌-◌, ◌^◌, List, [], ◌∷◌, map, true, false, Some, None, codes}
use Rattle.pst_base.specs.declared.position.Place.{Place}
use Rattle.pst_ast.specs.declared.leaf.Name.{Name}
use Rattle.pst_ast.specs.declared.shared.TypeName.{TypeName}
use Rattle.pst_ast.specs.declared.declaration.ObjectWord.TheVariants as word
use Rattle.pst_ast.specs.declared.scope_declaration.Declaration.{Declaration}
use Rattle.pst_ast.specs.declared.scope_declaration.Scope.TheVariants.{Part}
use Rattle.pst_ast.specs.declared.scope_declaration.Sort.TheVariants as sort
use Rattle.pst_ast.specs.Declarations.{type_declared, member}
use Rattle.pst_ast.specs.Lookups.{Environment, OfAction, OfObject, Declared, Initial, Previous, ByType}
use Rattle.pst_ast.specs.Paths.{Checked, Is, Breaks, PathPart, PathReferent, is_value, is_array, read_path}
use Rattle.pst_ast.specs.Uses.{NamesBase, NamesType, TakesItem, AnObject}
use Rattle.pst_ast.specs.NameRules.{use_finding, is_in_base, is_declared_before}
use Rattle.pst_ast.specs.Scopes.{entries, numbers_of}

abbrev pub at : ℕ → Place
at column = record { file = 0; line = 1; column = column }

abbrev pub name : ℕ → ℕ → Name
name id column = record { id = record { 0 = id }; place = at column }

abbrev pub type : ℕ → ℕ → TypeName
type id column = record { first = name id column; second = None }

abbrev pub names : List (List ℕ)
names =
    codes "pss_top" ∷ codes "st" ∷ codes "f" ∷ codes "A" ∷ codes "i" ∷ codes "a" ∷ codes "initial" ∷ codes "prev" ∷ codes "x" ∷ codes "B" ∷ codes "e" ∷ codes "g" ∷ codes "K" ∷ []

abbrev pub state : Declaration
state = type_declared (Some (at 1)) (sort.Object word.State) (name 1 10)

abbrev pub its_field : Declaration
its_field = member (at 10) (sort.Field false) (name 2 11)

abbrev pub action : Declaration
action = type_declared (Some (at 1)) (sort.Action None) (name 3 20)

abbrev pub input : Declaration
input = member (at 20) (sort.Reference (type 1 21) false) (name 4 22)

abbrev pub array : Declaration
array = member (at 20) (sort.Field true) (name 5 23)

abbrev pub derived : Declaration
derived = type_declared (Some (at 1)) (sort.Action (Some (type 3 25))) (name 9 24)

abbrev pub own_field : Declaration
own_field = member (at 24) (sort.Field false) (name 2 26)

abbrev pub item : ℕ → ℕ → Declaration
item enum column = member (at enum) (sort.Item (Part (at 1))) (name 12 column)

abbrev pub ds : List Declaration
ds =
    type_declared None sort.Component (name 0 1) ∷ state ∷ its_field ∷ action ∷ input ∷ array ∷ derived ∷ own_field
    ∷ type_declared (Some (at 1)) sort.Enumeration (name 10 30) ∷ item 30 31 ∷ type_declared (Some (at 1)) sort.Enumeration (name 11 32) ∷ item 32 33 ∷ []

abbrev pub inside : Declaration → Environment
inside owner = record { component = Some (at 1); owner = OfAction owner; inner = []; traversal = None }

abbrev pub in_state : Environment
in_state = record { component = Some (at 1); owner = OfObject state; inner = []; traversal = None }

abbrev pub part : ℕ → ℕ → PathPart
part id column = record { name = name id column; index = false }

abbrev pub indexed : ℕ → ℕ → PathPart
indexed id column = record { name = name id column; index = true }

abbrev pub path : Environment → PathPart → List PathPart → Checked PathReferent
path env first rest = read_path ds names env is_value first rest

pub record NamesAreTried : Type 0 where
  -- paths from an action
  pub field_of_input : path (inside action) (part 4 50) (part 2 51 ∷ []) ≡ Is (record { before = Declared input ∷ []; last = Declared its_field })
  pub behind_a_value : path (inside action) (part 4 50) (part 2 51 ∷ part 8 52 ∷ []) ≡ Breaks (at 52) 6
  pub initial_of_input : path (inside action) (part 4 50) (part 6 51 ∷ []) ≡ Is (record { before = Declared input ∷ []; last = Initial state })
  pub behind_initial : path (inside action) (part 4 50) (part 6 51 ∷ part 8 52 ∷ []) ≡ Breaks (at 52) 6
  pub no_prev_of_input : path (inside action) (part 4 50) (part 7 51 ∷ []) ≡ Breaks (at 51) 6
  pub no_such_field : path (inside action) (part 4 50) (part 8 51 ∷ []) ≡ Breaks (at 51) 6
  pub nothing : path (inside action) (part 8 50) [] ≡ Breaks (at 50) 3
  pub input_alone : path (inside action) (part 4 50) [] ≡ Breaks (at 50) 3
  pub array_alone : path (inside action) (part 5 50) [] ≡ Breaks (at 50) 3
  pub element : path (inside action) (indexed 5 50) [] ≡ Is (record { before = []; last = Declared array })
  pub field_before_a_dot : path (inside action) (indexed 5 50) (part 2 51 ∷ []) ≡ Breaks (at 50) 3
  pub index_behind_a_field : path (inside action) (part 4 50) (indexed 2 51 ∷ []) ≡ Breaks (at 51) 3
  pub array_repeats : read_path ds names (inside action) is_array (part 5 50) [] ≡ Is (record { before = []; last = Declared array })
  pub input_repeats : read_path ds names (inside action) is_array (part 4 50) [] ≡ Breaks (at 50) 3
  -- from a derived action: its base's members
  pub from_base : path (inside derived) (part 4 50) (part 2 51 ∷ []) ≡ Is (record { before = Declared input ∷ []; last = Declared its_field })
  pub own : path (inside derived) (part 2 50) [] ≡ Is (record { before = []; last = Declared own_field })
  -- from a state object
  pub first_object : path in_state (part 6 50) [] ≡ Is (record { before = []; last = Initial state })
  pub field_of_prev : path in_state (part 7 50) (part 2 51 ∷ []) ≡ Is (record { before = Previous state ∷ []; last = Declared its_field })
  pub prev_alone : path in_state (part 7 50) [] ≡ Breaks (at 50) 3
  -- in an inline constraint the traversed action's members come first
  pub of_traversed : path (record (inside action) { traversal = Some (ByType (type 9 49)) }) (part 2 50) [] ≡ Is (record { before = []; last = Declared own_field })
  -- an item of two enums of one level, by itself and with its enum
  pub two_items : path (inside action) (part 12 50) [] ≡ Breaks (at 50) 4
  pub with_enum : use_finding ds names (TakesItem (inside action) None (name 11 50) (name 12 51)) ≡ None
  pub no_enum : use_finding ds names (TakesItem (inside action) None (name 3 50) (name 12 51)) ≡ Some (record { place = at 50; rule = 2 })
  pub no_item : use_finding ds names (TakesItem (inside action) None (name 11 50) (name 8 51)) ≡ Some (record { place = at 51; rule = 3 })
  -- type names
  pub a_state : use_finding ds names (NamesType (Some (at 1)) AnObject (type 1 50)) ≡ None
  pub no_object : use_finding ds names (NamesType (Some (at 1)) AnObject (type 3 50)) ≡ Some (record { place = at 50; rule = 2 })
  pub a_base : use_finding ds names (NamesBase derived (type 3 25)) ≡ None
  -- names of a base, and names that are declared twice
  pub not_in_base : is_in_base ds own_field ≡ false
  pub once : is_declared_before ds own_field ≡ false
  pub twice : is_declared_before ds (record own_field { scope = Part (at 20); name = name 5 60 }) ≡ true
  -- numbers
  pub types : map (λ e. e.place) (entries ds) ≡ at 1 ∷ at 10 ∷ at 20 ∷ at 24 ∷ at 30 ∷ at 32 ∷ []
  pub of_array : numbers_of ds (Declared array) ≡ Some (2, 2)
  pub of_derived : numbers_of ds (Declared derived) ≡ Some (3, 0)
  pub of_initial : numbers_of ds (Initial state) ≡ Some (1, 2 ^ 32 - 1)
