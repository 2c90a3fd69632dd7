-- The places of the names of bases.
use Rattle.std.specs.Prelude.{List, Option}
use Rattle.std.specs.List.{filter_map}
use Rattle.std.specs.Option.{option_map}
use Rattle.pst_base.specs.declared.position.Place.{Place}
use Rattle.pst_ast.specs.declared.scope_declaration.Declaration.{Declaration}
use Rattle.pst_ast.specs.Lookups.{base_of}

abbrev pub base_place : List Declaration → Declaration → Option Place
base_place ds d = option_map (λ b. b.name.place) (base_of ds d)

abbrev pub places_of_bases : List Declaration → List Place
places_of_bases ds = filter_map (base_place ds) ds
