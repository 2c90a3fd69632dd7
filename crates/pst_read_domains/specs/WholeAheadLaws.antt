-- Lists of choices that go on behind the sources.
use Rattle.std.specs.Prelude.{◌≡◌, ℕ, List, ◌++◌}
use Rattle.pst_model.specs.ModelTree.{ModelTree}
use Rattle.pst_model.specs.Sound.{IsSound}
use Rattle.pst_scen.specs.declared.scenario.Scenario.{Scenario}
use Rattle.pst_legal.specs.ValueReading.{Whole, read}
use Rattle.pst_built.specs.Laws.{IsConcreteRoot}
use Rattle.pst_built.specs.SoFar.{HasRead}
use Rattle.pst_read_slots.specs.Laws.{ReadsSources}

-- A list that reads the activity and the sources, and perhaps more, goes on to one that is read whole.
abbrev pub WholeListsLieAhead : Type 0
WholeListsLieAhead =
    (m : ModelTree) (root seed level : ℕ) (choices : List ℕ) (s : Scenario) → IsSound m → IsConcreteRoot m root
    → ReadsSources m root seed level choices → HasRead (read m root seed level choices) s
    → (more : List ℕ) × (t : Scenario) × (read m root seed level (choices ++ more) ≡ Whole t)
