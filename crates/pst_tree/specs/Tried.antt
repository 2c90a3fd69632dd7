-- The instances of small sources, each token on a line and at a column of its own where it matters.
use Rattle.std.specs.Prelude.{◌≡◌, ℕ, zero, suc, ◌+◌, List, [], ◌∷◌, ◌++◌, length, Option, Some, None, pos, codes}
use Rattle.pst_base.specs.declared.position.Place.{Place}
use Rattle.pst_base.specs.declared.table.NameId.{NameId}
use Rattle.pst_token.specs.declared.token.Token.{Token}
use Rattle.pst_token.specs.declared.kind.Kind.TheVariants as kind
use Rattle.pst_ast.specs.declared.leaf.Name.{Name}
use Rattle.pst_ast.specs.declared.instance.Instance.{Instance}
use Rattle.pst_ast.specs.declared.shared.TypeName.{TypeName}
use Rattle.pst_ast.specs.SharedTree.{NamesTree, MakeNames}
use Rattle.pst_ast.specs.DeclarationTree.{UnitTree, MakeUnit, ItemTree, ItemComponent, MakeComponent, ComponentPartTree, ComponentPartMembers, MakeMembers}
use Rattle.pst_tree.specs.Instances.{AreInstances}

abbrev pub on : ℕ → ℕ → Place
on line column = record { file = 0; line = line; column = column }

abbrev pub name : ℕ → Place → Name
name id place = record { id = record { 0 = id }; place = place }

-- a place that nothing asks for
abbrev pub mark : Place
mark = on 0 0

abbrev pub type : ℕ → ℕ → ℕ → TypeName
type id line column = record { first = name id (on line column); second = None }

abbrev pub alone : ℕ → ℕ → ℕ → NamesTree
alone id line column = MakeNames (name id (on line column)) []

abbrev pub two_names : ℕ → ℕ → ℕ → ℕ → ℕ → NamesTree
two_names id column other further line = MakeNames (name id (on line column)) (record { comma = mark; name = name other (on line further) } ∷ [])

-- instances of a component
abbrev pub members : TypeName → NamesTree → ComponentPartTree
members type names = ComponentPartMembers (MakeMembers type names mark)

-- a component whose name stands at column 11
abbrev pub component : ℕ → ℕ → List ComponentPartTree → ItemTree
component id line parts = ItemComponent (MakeComponent mark (name id (on line 11)) mark parts mark)

abbrev pub end : Token
end = record { kind = kind.End; name = record { 0 = 0 }; number = pos 0; place = on 99 1 }

abbrev pub unit : List ItemTree → UnitTree
unit items = MakeUnit items end

abbrev pub id : ℕ → NameId
id n = record { 0 = n }

abbrev pub instance : ℕ → ℕ → Option ℕ → ℕ → Instance
instance name component parent last = record { name = id name; component = id component; parent = parent; last = last }

-- ---- component leaf { }
--      component pair { leaf a, b; }
--      component pss_top { pair x; leaf y; pair z; }

abbrev pub names : List (List ℕ)
names = codes "pss_top" ∷ codes "leaf" ∷ codes "pair" ∷ codes "a" ∷ codes "b" ∷ codes "x" ∷ codes "y" ∷ codes "z" ∷ []

abbrev pub leaf : ItemTree
leaf = component 1 1 []

abbrev pub pair : ItemTree
pair = component 2 2 (members (type 1 2 18) (two_names 3 23 4 26 2) ∷ [])

abbrev pub top : ItemTree
top = component 0 3 (members (type 2 3 21) (alone 5 3 26) ∷ members (type 1 3 29) (alone 6 3 34) ∷ members (type 2 3 37) (alone 7 3 42) ∷ [])

-- a pair that stands in the root
abbrev pub pair_at : ℕ → ℕ → List Instance
pair_at name n = instance name 2 (Some 0) (n + 2) ∷ instance 3 1 (Some n) (n + 1) ∷ instance 4 1 (Some n) (n + 2) ∷ []

abbrev pub nested : List Instance
nested = instance 0 0 None 7 ∷ pair_at 5 1 ++ instance 6 1 (Some 0) 4 ∷ pair_at 7 5

-- ---- component c0 { }
--      component c1 { c0 a, b; } and so on up to c7, each with two instances of the one before it
--      component pss_top { c7 x; } or component pss_top { c7 x; c0 y; }

-- c0 has the name 1, and stands on line 1
abbrev pub doubled : ℕ → ItemTree
doubled zero = component 1 1 []
doubled (suc k) = component (k + 2) (k + 2) (members (type (k + 1) (k + 2) 16) (two_names 10 19 11 22 (k + 2)) ∷ [])

abbrev pub doubled_to : ℕ → List ItemTree
doubled_to zero = doubled zero ∷ []
doubled_to (suc k) = doubled_to k ++ doubled (suc k) ∷ []

abbrev pub one_c7 : ComponentPartTree
one_c7 = members (type 8 20 21) (alone 12 20 24)

abbrev pub one_c0 : ComponentPartTree
one_c0 = members (type 1 20 27) (alone 13 20 30)

abbrev pub large : List ComponentPartTree → UnitTree
large parts = unit (doubled_to 7 ++ component 0 20 parts ∷ [])

-- there are that many instances
pub record HasInstances (units : List UnitTree) (names : List (List ℕ)) (count : ℕ) : Type 0 where
  pub instances : List Instance
  pub are : AreInstances units names instances
  pub counted : length instances ≡ count

pub record InstancesAreTried : Type 0 where
  -- whether the root stands behind what it has, or before it in another file
  pub nested_instances : AreInstances (unit (leaf ∷ pair ∷ top ∷ []) ∷ []) names nested
  pub in_two_files : AreInstances (unit (top ∷ []) ∷ unit (pair ∷ leaf ∷ []) ∷ []) names nested
  -- the limit, and one too many
  pub at_the_limit : HasInstances (large (one_c7 ∷ []) ∷ []) names 256
  pub one_too_many : HasInstances (large (one_c7 ∷ one_c0 ∷ []) ∷ []) names 257
