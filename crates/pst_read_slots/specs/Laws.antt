-- What is known once the activity and the sources are read.
use Rattle.std.specs.Prelude.{◌≡◌, ℕ, List, Contains}
use Rattle.pst_model.specs.ConstraintTree.{SlotTree, ConstraintTree}
use Rattle.pst_model.specs.ModelTree.{ModelTree}
use Rattle.pst_model.specs.Sound.{IsSound}
use Rattle.pst_scen.specs.declared.scenario.Scenario.{Scenario}
use Rattle.pst_legal.specs.Growing.{nothing_yet}
use Rattle.pst_legal.specs.Reading.{Reads, then_read, read_tree}
use Rattle.pst_legal.specs.SupplyReading.{read_supply}
use Rattle.pst_legal.specs.ValueReading.{read}
use Rattle.pst_legal.specs.Standing.{Standing}
use Rattle.pst_legal.specs.Constraints.{HasConstraint}
use Rattle.pst_built.specs.Laws.{IsConcreteRoot}
use Rattle.pst_slots.specs.Decided.{IsPlaced, IsReadThrough}
use Rattle.pst_built.specs.SoFar.{HasRead}

-- the list of choices reads the activity and the sources, and perhaps claims and values behind them
abbrev pub ReadsSources : ModelTree → ℕ → ℕ → ℕ → List ℕ → Type 0
ReadsSources m root seed level choices =
    (u : Scenario) × (place : ℕ) × (left : List ℕ) × (then_read (read_tree m seed root (nothing_yet level) 0 choices) (read_supply m seed) ≡ Reads u place left)

-- What such a list has read is read through.
abbrev pub ListsBehindTheSources : Type 0
ListsBehindTheSources =
    (m : ModelTree) (root seed level : ℕ) (choices : List ℕ) (s : Scenario) → IsSound m → IsConcreteRoot m root
    → ReadsSources m root seed level choices → HasRead (read m root seed level choices) s → IsReadThrough m root s

-- So each slot of each constraint has a value, stands for nothing that ever has one, or is an open value whose place is known.
abbrev pub SlotsBehindTheSources : Type 0
SlotsBehindTheSources =
    (m : ModelTree) (root seed level : ℕ) (choices : List ℕ) (s : Scenario) → IsSound m → IsConcreteRoot m root
    → ReadsSources m root seed level choices → HasRead (read m root seed level choices) s
    → (k : ConstraintTree) (standing : SlotTree → Standing) → HasConstraint m s k standing → (slot : SlotTree) → Contains k.slots slot → IsPlaced (standing slot)
