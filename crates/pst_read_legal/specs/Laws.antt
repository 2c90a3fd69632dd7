-- What is read whole, holds its constraints and has a plan is legal, and what is legal has a plan.
use Rattle.std.specs.Prelude.{◌≡◌, ℕ, List, Some}
use Rattle.pst_model.specs.ModelTree.{ModelTree}
use Rattle.pst_model.specs.Sound.{IsSound}
use Rattle.pst_scen.specs.declared.act.Filled.{Filled}
use Rattle.pst_scen.specs.declared.act.Flow.TheVariants.{StateOut}
use Rattle.pst_scen.specs.declared.scenario.Scenario.{Scenario}
use Rattle.pst_scen.specs.Scenarios.{reference_at}
use Rattle.pst_scen.specs.Plan.{Entries}
use Rattle.pst_scen.specs.Plans.{CanRun, IsPlanOf}
use Rattle.pst_scen.specs.Refusals.{IsUnrefused}
use Rattle.pst_legal.specs.Constraints.{Holds}
use Rattle.pst_legal.specs.Supplied.{ComesFromFirst, Supplied}
use Rattle.pst_legal.specs.Legal.{Legal}
use Rattle.pst_legal.specs.ValueReading.{Whole, read}
use Rattle.pst_legal.specs.First.{ReadsLegal}
use Rattle.pst_built.specs.Sources.{HasSources}
use Rattle.pst_built.specs.Laws.{IsConcreteRoot}

-- Where a scenario's links lead to sources and it can run to its end, the previous writers of each output to a state pool lead
-- back to the pool's first object.
abbrev pub WritersComeFromFirst : Type 0
WritersComeFromFirst =
    (m : ModelTree) (s : Scenario) → HasSources m s → CanRun s
    → (a r : ℕ) (filled : Filled) → reference_at s.actions a r ≡ Some filled → filled.flow ≡ StateOut → ComesFromFirst s.actions a r

-- A scenario that is read whole and can run to its end is supplied.
abbrev pub RunningReadingsAreSupplied : Type 0
RunningReadingsAreSupplied = (m : ModelTree) (root seed level : ℕ) (choices : List ℕ) (s : Scenario) → read m root seed level choices ≡ Whole s → CanRun s → Supplied m s

-- Of a sound model and a root that isn't abstract, a scenario that is read whole, in which every constraint holds and that has a
-- plan, is a legal one of the level that was asked for.
abbrev pub PlannedReadingsAreLegal : Type 0
PlannedReadingsAreLegal =
    (m : ModelTree) (root seed level : ℕ) (choices : List ℕ) (s : Scenario) (p : Entries) → IsSound m → IsConcreteRoot m root
    → read m root seed level choices ≡ Whole s → Holds m s → IsPlanOf s p → ReadsLegal m root seed level choices s × (s.level ≡ level)

-- A legal scenario isn't refused by its plan.
abbrev pub LegalIsUnrefused : Type 0
LegalIsUnrefused = (m : ModelTree) (root : ℕ) (s : Scenario) → Legal m root s → IsUnrefused s
