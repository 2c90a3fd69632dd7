-- The labels of a block, as a set of numbers.
use Rattle.std.specs.Prelude.{◌≡◌, ℕ, nat_eq, List}
use Rattle.std.specs.HashSet.{HashSet, contains}
use Rattle.std.specs.List.{list_any}
use Rattle.pst_base.specs.declared.table.NameId.{NameId}
use Rattle.pst_ast.specs.Sorts.{same_name}

abbrev pub AreLabels : {S : Type 0} → HashSet ℕ S → List NameId → Type 0
AreLabels set labels = (name : NameId) → contains nat_eq set name.0 ≡ list_any (same_name name) labels
