use Rattle.std.proofs.Common.{◌≡◌, ℕ, ◌<◌, IsTrue}
use Rattle.std.specs.Prelude.{Some, slice_get, is_some}
use Rattle.pst_ast.specs.declared.scope_declaration.Declaration.{Declaration}
use Rattle.pst_ast.specs.Sorts.{is_instance}
use Rattle.pst_ast.specs.Lookups.{type_of}
use Rattle.pst_tree.proofs.sources.are_typed.Given as goal

abbrev pub invariant-loop-declaration : goal.invariant-loop-declaration
invariant-loop-declaration l = (k : ℕ) (d : Declaration) → k < l.declaration-index → slice_get l.index k ≡ Some d → IsTrue (is_instance d.sort) → IsTrue (is_some (type_of l.index d))
