-- How the actions that are inferred are numbered.
use Rattle.std.specs.Prelude.{◌≡◌, ℕ, List, length}
use Rattle.pst_model.specs.ModelTree.{ModelTree}
use Rattle.pst_scen.specs.declared.scenario.Scenario.{Scenario}
use Rattle.pst_scen.specs.Scenarios.{leaves_of}
use Rattle.pst_legal.specs.Supplied.{linkings, AreNamedInTurn}
use Rattle.pst_legal.specs.ValueReading.{Whole, read}

-- In a scenario that is read whole the needs, in order, name each inferred action with the next number.
abbrev pub WholeReadingsAreNumbered : Type 0
WholeReadingsAreNumbered =
    (m : ModelTree) (root seed level : ℕ) (choices : List ℕ) (s : Scenario) → read m root seed level choices ≡ Whole s
    → AreNamedInTurn (linkings s.actions) (length (leaves_of s.nodes)) (length s.actions)
