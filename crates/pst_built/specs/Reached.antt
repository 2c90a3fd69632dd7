-- What lists of choices lead to.
use Rattle.std.specs.Prelude.{◌≡◌, ℕ, List, ◌++◌}
use Rattle.pst_scen.specs.declared.scenario.Scenario.{Scenario}
use Rattle.pst_legal.specs.Reading.{Reads, Reader}

-- Some choices, from that place on, lead from the one scenario to the other, whatever choices stand behind them.
pub record IsReached (reader : Reader) (before : Scenario) (place : ℕ) (after : Scenario) : Type 0 where
  pub choices : List ℕ
  pub end : ℕ
  pub reads : (more : List ℕ) → reader before place (choices ++ more) ≡ Reads after end more
