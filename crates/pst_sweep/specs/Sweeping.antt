-- What the parts of a sweep say.
use Rattle.std.specs.Prelude.{◌≡◌, ℕ, length}
use Rattle.pst_model.specs.ModelTree.{ModelTree}
use Rattle.pst_scen.specs.declared.scenario.Scenario.{Scenario}
use Rattle.pst_sweep_table.specs.declared.row.Outcome.{Outcome}
use Rattle.pst_sweep_table.specs.declared.row.Outcome.TheVariants.{Found}
use Rattle.pst_sweep_table.specs.declared.row.SweepRow.{SweepRow}
use Rattle.pst_sweep_table.specs.Counts.{uses_of, no_uses}

-- the row of a seed with that scenario
abbrev pub IsFoundRow : ModelTree → ℕ → Scenario → SweepRow → Type 0
IsFoundRow m seed s row = row ≡ record { seed = seed; outcome = Found (length s.actions) s.level; uses = uses_of m s }

-- the row of a seed without one
abbrev pub IsEndedRow : ModelTree → ℕ → Outcome → SweepRow → Type 0
IsEndedRow m seed outcome row = row ≡ record { seed = seed; outcome = outcome; uses = no_uses m }
