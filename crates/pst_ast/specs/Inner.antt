-- The innermost of some names.
use Rattle.std.specs.Prelude.{List, Option}
use Rattle.std.specs.List.{find}
use Rattle.pst_base.specs.declared.table.NameId.{NameId}
use Rattle.pst_ast.specs.declared.leaf.Name.{Name}
use Rattle.pst_ast.specs.Sorts.{same_name}

-- the innermost of the indices and locals of that name
abbrev pub inner_named : List Name → NameId → Option Name
inner_named inner name = find (λ n. same_name n.id name) inner
