-- How the numbers of types are kept.
use Rattle.pst_terms.specs.Sources.{declared_in}
use Rattle.pst_sources.specs.Shown.{sources_of}
use Rattle.pst_type_numbers.specs.declared.numbered.Numbered.TheInside.{Inside}
use Rattle.pst_type_numbers.specs.Placed.{AreTables}

abbrev pub HasNumbers : Inside → Type 0
HasNumbers n = AreTables (declared_in (sources_of n.sources.now)) n.tables
