-- How the sources and the values of their constants are kept.
use Rattle.std.specs.Prelude.{◌≡◌, map}
use Rattle.pst_ast.specs.DeclarationView.{view_unit}
use Rattle.pst_ast.specs.Declarations.{declarations}
use Rattle.pst_sources.specs.Shown.{Shown}
use Rattle.pst_sources.specs.declared.known.Known.TheInside.{Inside}

abbrev pub known_sources : Inside → Shown
known_sources k = (k.sites.now, k.names.now, k.constants.now)

-- what is declared is what the sources declare, and the places are those of the constants
pub record IsKnown (k : Inside) : Type 0 where
  pub declared : k.members ≡ declarations (map view_unit k.sites.now)
  pub places_are : k.places ≡ map (λ c. c.at) k.constants.now
