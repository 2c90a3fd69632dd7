-- Laws of the definitions.
use Rattle.std.specs.Prelude.{◌≡◌, ℕ, List, Some, IsTrue}
use Rattle.std.specs.List.{Contains}
use Rattle.pst_ast.specs.declared.instance.Instance.{Instance}
use Rattle.pst_ast.specs.DeclarationTree.{UnitTree}
use Rattle.pst_ast.specs.declared.scope_declaration.Declaration.{Declaration}
use Rattle.pst_ast.specs.Declarations.{declarations}
use Rattle.pst_ast.specs.Sorts.{is_instance}
use Rattle.pst_ast.specs.Lookups.{type_of}
use Rattle.pst_ast.specs.NameRules.{Reaches}
use Rattle.pst_model.specs.Preorder.{IsInstanceTree}
use Rattle.pst_tree.specs.Instances.{root_of, AreInstances, parts_of}

-- sources have at most one list of instances
abbrev pub InstancesAreOne : Type 0
InstancesAreOne = (units : List UnitTree) (names : List (List ℕ)) (instances others : List Instance) → AreInstances units names instances → AreInstances units names others → instances ≡ others

-- the instances stand in preorder
abbrev pub InstancesAreInPreorder : Type 0
InstancesAreInPreorder = (units : List UnitTree) (names : List (List ℕ)) (instances : List Instance) → AreInstances units names instances → IsInstanceTree (parts_of instances)

-- each declared instance has a component, and no component stands in itself, not even some levels down
pub record AreComponentsRight (ds : List Declaration) : Type 0 where
  pub typed : (d : Declaration) → Contains ds d → IsTrue (is_instance d.sort) → (component : Declaration) × (type_of ds d ≡ Some component)
  pub no_loops : (d : Declaration) → Contains ds d → Reaches ds d d → ⊥

-- such sources with a component `pss_top` have a list of instances
abbrev pub InstancesExist : Type 0
InstancesExist =
    (units : List UnitTree) (names : List (List ℕ)) (root : Declaration) → root_of names (declarations units) ≡ Some root → AreComponentsRight (declarations units)
    → (instances : List Instance) × AreInstances units names instances
