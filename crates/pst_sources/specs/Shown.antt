-- What contracts see of the sources.
use Rattle.std.specs.Prelude.{ℕ, List, map}
use Rattle.pst_ast.specs.DeclarationTree.{UnitTree}
use Rattle.pst_ast.specs.DeclarationView.{view_unit}
use Rattle.pst_ast.specs.declared.declaration.Unit.{Unit}
use Rattle.pst_type_rules.specs.declared.typed.ConstantValue.{ConstantValue}
use Rattle.pst_terms.specs.Sources.{Sources}

-- the sources, the texts of names, and the values of constants
abbrev pub Shown : Type 0
Shown = List Unit × List (List ℕ) × List ConstantValue

abbrev pub with_constants : List UnitTree → List (List ℕ) → List ConstantValue → Sources
with_constants units names constants = record { units = units; names = names; constants = constants }

-- their trees
abbrev pub sources_of : Shown → Sources
sources_of x = with_constants (map view_unit x.0) x.1 x.2
