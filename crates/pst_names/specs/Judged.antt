-- What has been found of the uses that a walk has shown.
use Rattle.std.specs.Prelude.{ℕ, List, ◌++◌, Option}
use Rattle.pst_ast.specs.declared.scope_declaration.Declaration.{Declaration}
use Rattle.pst_ast.specs.declared.referent.Finding.{Finding}
use Rattle.pst_ast.specs.declared.referent.Meant.{Meant}
use Rattle.pst_ast.specs.Uses.{Use}
use Rattle.pst_ast.specs.NameRules.{use_finding}
use Rattle.pst_ast.specs.Scopes.{use_meant}
use Rattle.pst_name_rules.specs.Earlier.{earlier}

-- what the sources declare and the texts of names, the least finding so far, and what the names so far stand for
pub record Judged : Type 0 where
  pub ds : List Declaration
  pub names : List (List ℕ)
  pub least : Option Finding
  pub meant : List Meant

-- a further use
abbrev pub judged : Judged → Use → Judged
judged so_far u = record so_far { least = earlier so_far.least (use_finding so_far.ds so_far.names u); meant = so_far.meant ++ use_meant so_far.ds so_far.names u }
