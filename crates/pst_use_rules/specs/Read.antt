-- What has been found of the paths in a condition.
use Rattle.std.specs.Prelude.{ℕ, List, Option}
use Rattle.pst_ast.specs.declared.scope_declaration.Declaration.{Declaration}
use Rattle.pst_ast.specs.declared.referent.Finding.{Finding}
use Rattle.pst_ast.specs.Uses.{Use}
use Rattle.pst_name_rules.specs.Earlier.{earlier}
use Rattle.pst_use_rules.specs.Found.{read_found}

-- what the sources declare, the texts of names, and the least finding so far
pub record ReadSoFar : Type 0 where
  pub ds : List Declaration
  pub names : List (List ℕ)
  pub least : Option Finding

-- a further use
abbrev pub read : ReadSoFar → Use → ReadSoFar
read so_far u = record so_far { least = earlier so_far.least (read_found so_far.ds so_far.names u) }
