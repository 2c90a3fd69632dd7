-- The order of a scenario, or a cycle in it.
use Rattle.std.specs.Prelude.{◌≡◌, ◌<◌, ◌↔◌, ℕ, length}
use Rattle.pst_scen.specs.declared.rows.Rows.{Rows}
use Rattle.pst_scen.specs.declared.scenario.Scenario.{Scenario}
use Rattle.pst_scen.specs.Order.{Must}
use Rattle.pst_scen.specs.Refusals.{IsLeast, IsOnCycle}
use Rattle.pst_scen.specs.Rows.{IsSquare, Has}
use Rattle.pst_square.specs.declared.closure.Closing.{Closing}
use Rattle.pst_square.specs.declared.closure.Closing.TheVariants.{Closed, Circle}

-- the pairs of which the first must come before the second
pub record IsOrder (s : Scenario) (rows : Rows) : Type 0 where
  pub size : rows.size ≡ length s.actions
  pub square : IsSquare rows
  pub must : (a b : ℕ) → a < length s.actions → b < length s.actions → Has rows a b ↔ Must s a b

-- it is the order, or the least action that must come before itself
abbrev pub IsOrderOf : Scenario → Closing → Type 0
IsOrderOf s (Closed rows) = IsOrder s rows
IsOrderOf s (Circle least) = IsLeast (IsOnCycle s) least
