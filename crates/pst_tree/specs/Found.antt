-- What is found of the instances of sources.
use Rattle.std.specs.Prelude.{◌≡◌, ℕ, ◌<◌, ◌≤◌, List, length, slice_get, is_some, IsTrue, Vec, Option, Some, None}
use Rattle.std.specs.declared.alloc.Global.{Global}
use Rattle.pst_ast.specs.declared.instance.Instance.{Instance}
use Rattle.pst_ast.specs.DeclarationTree.{UnitTree}
use Rattle.pst_ast.specs.declared.scope_declaration.Declaration.{Declaration}
use Rattle.pst_ast.specs.Sorts.{is_instance}
use Rattle.pst_ast.specs.Lookups.{type_of}
use Rattle.pst_tree.specs.Instances.{AreInstances}
use Rattle.pst_tree.specs.declared.tree.TreeEnd.{TreeEnd}
use Rattle.pst_tree.specs.declared.tree.TreeEnd.TheVariants as tree_end

-- each declared instance has a component
abbrev pub AreTyped : List Declaration → Type 0
AreTyped ds = (k : ℕ) (d : Declaration) → slice_get ds k ≡ Some d → IsTrue (is_instance d.sort) → IsTrue (is_some (type_of ds d))

-- the sources have more instances than the limit
pub record AreMany (units : List UnitTree) (names : List (List ℕ)) : Type 0 where
  pub instances : List Instance
  pub are : AreInstances units names instances
  pub many : 256 < length instances

-- all instances, or none where there are more than the limit
abbrev pub AreFound : List UnitTree → List (List ℕ) → Option (Vec Instance Global) → Type 0
AreFound units names None = AreMany units names
AreFound units names (Some instances) = AreInstances units names instances.items × (length instances.items ≤ 256)

-- why there is no list of them, where memory sufficed
abbrev pub IsTreeEnd : List UnitTree → List (List ℕ) → TreeEnd → Type 0
IsTreeEnd units names (tree_end.Many count) = (count ≡ 257) × AreMany units names
IsTreeEnd units names tree_end.NoMemory = Unit {0}
