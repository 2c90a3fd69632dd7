-- What crates above use of libraries below this one, passed on, so that they need not list those libraries.
pub use Rattle.pst_search_places.specs.Laws.{BarrenListsConflict, IsOfPlaces, PlacesRestOnEarlierOnes, PlacesRestOnTheSources}
pub use Rattle.pst_read_domains.specs.RefusalsStayLaws.{RefusedListsAreBarren}
