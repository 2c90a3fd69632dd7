-- Laws of slots.
use Rattle.std.specs.Prelude.{ℕ, Contains}
use Rattle.pst_model.specs.ConstraintTree.{SlotTree, ConstraintTree}
use Rattle.pst_model.specs.ModelTree.{ModelTree}
use Rattle.pst_model.specs.Sound.{IsSound}
use Rattle.pst_scen.specs.declared.scenario.Scenario.{Scenario}
use Rattle.pst_scen.specs.Scenarios.{IsScenario}
use Rattle.pst_legal.specs.Fits.{Fits}
use Rattle.pst_legal.specs.Supplied.{Supplied}
use Rattle.pst_legal.specs.Standing.{Standing}
use Rattle.pst_legal.specs.Constraints.{HasConstraint}
use Rattle.pst_slots.specs.Decided.{IsDecided, IsPlaced, IsReadThrough}

-- In a scenario of a sound model that fits and whose needs have their sources, each slot of each constraint has a value, or
-- stands for nothing that ever has one: none is open, and none isn't read.
abbrev pub SlotsAreDecided : Type 0
SlotsAreDecided =
    (m : ModelTree) (root : ℕ) (s : Scenario) → IsSound m → IsScenario s → Fits m root s → Supplied m s
    → (k : ConstraintTree) (standing : SlotTree → Standing) → HasConstraint m s k standing → (slot : SlotTree) → Contains k.slots slot → IsDecided (standing slot)

-- In a scenario of a sound model whose activity and sources are read, each slot of each constraint has a value, stands for
-- nothing that ever has one, or is an open value whose place is known: none isn't read.
abbrev pub SlotsArePlaced : Type 0
SlotsArePlaced =
    (m : ModelTree) (root : ℕ) (s : Scenario) → IsSound m → IsReadThrough m root s
    → (k : ConstraintTree) (standing : SlotTree → Standing) → HasConstraint m s k standing → (slot : SlotTree) → Contains k.slots slot → IsPlaced (standing slot)
