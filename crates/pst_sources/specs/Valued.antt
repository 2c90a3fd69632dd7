-- How the values of enum items and the numbers of fields are kept.
use Rattle.std.specs.Prelude.{◌≡◌, ℤ, map, Option}
use Rattle.pst_base.specs.declared.position.Place.{Place}
use Rattle.pst_terms.specs.Sources.{Sources, all_item_values}
use Rattle.pst_sources.specs.Numbered.{AreFieldRows}
use Rattle.pst_sources.specs.Shown.{sources_of}
use Rattle.pst_sources.specs.declared.sources.SourceTables.{SourceTables}
use Rattle.pst_sources.specs.declared.sources.Sources.TheInside.{Inside}

pub record AreTables (s : Sources) (t : SourceTables) : Type 0 where
  pub items_are : t.items.items ≡ all_item_values s
  pub places_are : t.places ≡ map (λ (x : Place × Option ℤ). x.0) t.items.items
  pub numbers_are : AreFieldRows s t.numbers.rows.items

abbrev pub HasTables : Inside → Type 0
HasTables s = AreTables (sources_of s.known) s.tables
