-- Which blanks of a scenario, which may still be read, are open, and which places of a list are still to come.
use Rattle.std.specs.Prelude.{ℕ, ℤ, List, [], length, drop, Bool, true, false, Option, Some, None}
use Rattle.std.specs.List.{filter}
use Rattle.pst_model.specs.ModelTree.{ModelTree}
use Rattle.pst_scen.specs.declared.scenario.Scenario.{Scenario}
use Rattle.pst_legal.specs.Blanks.{Blank}
use Rattle.pst_legal.specs.Growing.{nothing_yet}
use Rattle.pst_legal.specs.Reading.{Reading, Wants, Stops, Reads, then_read, read_tree}
use Rattle.pst_legal.specs.SupplyReading.{read_supply}
use Rattle.pst_few_places.specs.Fillings.{all_blanks}
use Rattle.pst_blank_values.specs.Rows.{stands_in}

abbrev pub is_nothing : Option ℤ → Bool
is_nothing None = true
is_nothing (Some v) = false

-- nothing stands in the blank yet
abbrev pub is_open : Scenario → Blank → Bool
is_open s blank = is_nothing (stands_in s blank)

-- the open blanks, in the order of their places
abbrev pub open_blanks : ModelTree → Scenario → List Blank
open_blanks m s = filter (is_open s) (all_blanks m s)

-- the choices that are left of a list behind the activity and the sources; none while these are still being read
abbrev pub left_of : Reading → List ℕ
left_of (Wants s n) = []
left_of Stops = []
left_of (Reads s place left) = left

abbrev pub choices_behind : ModelTree → ℕ → ℕ → ℕ → List ℕ → List ℕ
choices_behind m root seed level choices = left_of (then_read (read_tree m seed root (nothing_yet level) 0 choices) (read_supply m seed))

-- The blanks whose places are still to come. Behind the sources each blank has its place, in order.
abbrev pub to_come : ModelTree → ℕ → ℕ → ℕ → List ℕ → Scenario → List Blank
to_come m root seed level choices s = drop (length (choices_behind m root seed level choices)) (all_blanks m s)
