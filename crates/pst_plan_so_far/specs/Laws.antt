-- Plans of scenarios whose activity and sources are read, and perhaps more.
use Rattle.std.specs.Prelude.{◌≡◌, ℕ, List}
use Rattle.pst_model.specs.ModelTree.{ModelTree}
use Rattle.pst_scen.specs.declared.scenario.Scenario.{Scenario}
use Rattle.pst_scen.specs.Scenarios.{AreLinked}
use Rattle.pst_scen.specs.Refusals.{Refusal, IsRefused}
use Rattle.pst_legal.specs.ValueReading.{read}
use Rattle.pst_order.specs.Built.{IsBuilt}
use Rattle.pst_built.specs.SoFar.{HasRead}
use Rattle.pst_built.specs.OrderStaysLaws.{IsBarren}
pub use Rattle.pst_read_slots.specs.Laws.{ReadsSources}

-- Where a list reads the activity and the sources, and perhaps claims and values behind them, what it has read is built, and
-- its links name what there is.
abbrev pub SourcesAreBuilt : Type 0
SourcesAreBuilt =
    (m : ModelTree) (root seed level : ℕ) (choices : List ℕ) (s : Scenario) → ReadsSources m root seed level choices → HasRead (read m root seed level choices) s
    → IsBuilt s × AreLinked s.actions

-- Where its plan refuses it, no longer list reads a legal scenario.
abbrev pub PlansRefuseLists : Type 0
PlansRefuseLists =
    (m : ModelTree) (root seed level : ℕ) (choices : List ℕ) (s : Scenario) (r : Refusal) → AreLinked s.actions → HasRead (read m root seed level choices) s → IsRefused s r
    → IsBarren m root seed level choices
