-- What contracts see of marked bases.
use Rattle.std.specs.Prelude.{List}
use Rattle.pst_base.specs.declared.position.Place.{Place}
use Rattle.pst_ast.specs.declared.scope_declaration.Declaration.{Declaration}

pub record Shown : Type 0 where
  -- where the names of the marked types stand
  pub places : List Place
  -- what is declared
  pub declared : List Declaration
