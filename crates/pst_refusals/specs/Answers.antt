-- What is told of a scenario's constraints.
use Rattle.std.specs.Prelude.{Bool, true, false}
use Rattle.pst_model.specs.ModelTree.{ModelTree}
use Rattle.pst_scen.specs.declared.scenario.Scenario.{Scenario}
use Rattle.pst_legal.specs.Constraints.{Holds}
use Rattle.pst_legal.specs.First.{NoneRefused}
use Rattle.pst_built.specs.Refused.{SomeRefused}
pub use Rattle.pst_handle_nodes.specs.Children.{StandEarlier}

abbrev pub TellsRefusals : ModelTree → Scenario → Bool → Type 0
TellsRefusals m s true = SomeRefused m s
TellsRefusals m s false = NoneRefused m s

abbrev pub TellsUnmet : ModelTree → Scenario → Bool → Type 0
TellsUnmet m s true = Holds m s → ⊥
TellsUnmet m s false = Holds m s
