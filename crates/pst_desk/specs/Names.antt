-- A name that is never read.
use Rattle.std.specs.Prelude.{[]}
use Rattle.atomic_table.specs.Seated.{TableId}
use Rattle.pst_scen.specs.declared.scenario.Scenario.{Scenario}
use Rattle.pst_scen.specs.declared.rows.Rows.{Rows}
use Rattle.pst_scen.specs.Plan.{Entries}

abbrev pub no_scenario : Scenario
no_scenario = record { level = 0; nodes = []; actions = []; firsts = [] }

abbrev pub no_rows : Rows
no_rows = record { size = 0; words = [] }

abbrev pub no_plan : Entries
no_plan = record { groups = []; must = no_rows; conflict = no_rows }

abbrev pub no_table : TableId
no_table = record { words = 0; slots = 0; views_name = 0; atom = 0; block = 0; offset = 0; slot_names = [] }
