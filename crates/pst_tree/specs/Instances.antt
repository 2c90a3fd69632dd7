-- The component instances of the sources. They are numbered in preorder from the one of `pss_top`, those of one component in the
-- order in which it declares them.
use Rattle.std.specs.Prelude.{◌≡◌, ℕ, ◌+◌, ◌&&◌, List, [], ◌∷◌, ◌++◌, map, length, Option, Some, None}
use Rattle.std.specs.List.{find, filter}
use Rattle.pst_base.specs.declared.table.NameId.{NameId}
use Rattle.pst_ast.specs.declared.instance.Instance.{Instance}
use Rattle.pst_ast.specs.DeclarationTree.{UnitTree}
use Rattle.pst_model.specs.declared.model.Part.{Part}
use Rattle.pst_ast.specs.declared.scope_declaration.Declaration.{Declaration}
use Rattle.pst_ast.specs.declared.scope_declaration.Scope.TheVariants.{Part as Inside}
use Rattle.pst_ast.specs.Declarations.{declarations}
use Rattle.pst_ast.specs.Sorts.{is_instance, same_scope}
use Rattle.pst_ast.specs.Lookups.{type_of}
use Rattle.pst_ast.specs.NameRules.{is_root_component}

-- the component of all others
abbrev pub root_of : List (List ℕ) → List Declaration → Option Declaration
root_of names ds = find (is_root_component names) ds

-- the instances that a component declares
abbrev pub instances_in : List Declaration → Declaration → List Declaration
instances_in ds component = filter (λ d. is_instance d.sort && same_scope d.scope (Inside component.name.place)) ds

-- an instance of a component, and the number of the last one in its subtree
abbrev pub instance : NameId → Declaration → Option ℕ → ℕ → Instance
instance name component parent last = record { name = name; component = component.name.id; parent = parent; last = last }

mutual
  -- an instance with that number, of a component: itself, and then those below it
  pub data IsSubtree (ds : List Declaration) : ℕ → Declaration → NameId → Option ℕ → List Instance → Type 0 where
    Subtree : (number : ℕ) (component : Declaration) (name : NameId) (parent : Option ℕ) (below : List Instance) → AreSubtrees ds number (number + 1) (instances_in ds component) below
        → IsSubtree ds number component name parent (instance name component parent (number + length below) ∷ below)

  -- declared instances of one parent, each with those below it; the first has that number
  pub data AreSubtrees (ds : List Declaration) : ℕ → ℕ → List Declaration → List Instance → Type 0 where
    NoSubtree : (parent number : ℕ) → AreSubtrees ds parent number [] []
    MoreSubtrees : (parent number : ℕ) (d component : Declaration) (more : List Declaration) (first rest : List Instance) → type_of ds d ≡ Some component
        → IsSubtree ds number component d.name.id (Some parent) first → AreSubtrees ds parent (number + length first) more rest → AreSubtrees ds parent number (d ∷ more) (first ++ rest)

-- The component instances of the sources; the first is named as its component is.
pub record AreInstances (units : List UnitTree) (names : List (List ℕ)) (instances : List Instance) : Type 0 where
  pub root : Declaration
  pub is_root : root_of names (declarations units) ≡ Some root
  pub subtree : IsSubtree (declarations units) 0 root root.name.id None instances

-- ---- in a model

abbrev pub part_of : Instance → Part
part_of i = record { name = i.name; component = i.component; parent = i.parent; last = i.last }

abbrev pub parts_of : List Instance → List Part
parts_of instances = map part_of instances
