-- Laws of statements and constraints.
use Rattle.std.specs.Prelude.{◌≡◌, ◌↔◌, ℕ, List, Contains, true, Some}
use Rattle.pst_model.specs.ConstraintTree.{SlotTree, ConstraintTree}
use Rattle.pst_model.specs.ActivityTree.{StepTree}
use Rattle.pst_model.specs.ModelTree.{ModelTree}
use Rattle.pst_scen.specs.declared.scenario.Scenario.{Scenario}
use Rattle.pst_scen.specs.Scenarios.{IsWellFormed}
use Rattle.pst_legal.specs.Pieces.{is_true}
use Rattle.pst_legal.specs.Standing.{Standing}
use Rattle.pst_legal.specs.Statements.{StandsFor}
use Rattle.pst_legal.specs.Constraints.{HasConstraint, Holds, value_at}
use Rattle.pst_slots.specs.Stated.{statement_of}
use Rattle.pst_slots.specs.Listed.{Stating, stating, constraints_of}

-- A node stands for a statement, with the node whose activity has it and the turns round it, exactly where that is the one
-- found from the node up.
abbrev pub StatementsAreFound : Type 0
StatementsAreFound =
    (m : ModelTree) (s : Scenario) → IsWellFormed s → (n top : ℕ) (step : StepTree) (indices : List ℕ)
    → StandsFor m s.nodes top n step indices ↔ (statement_of m s.nodes n ≡ Some (record { top = top; step = step; indices = indices }))

-- A scenario has a constraint, whose slots stand for that, exactly where it is in the list.
abbrev pub ConstraintsAreListed : Type 0
ConstraintsAreListed =
    (m : ModelTree) (s : Scenario) → IsWellFormed s → (k : ConstraintTree) (standing : SlotTree → Standing)
    → HasConstraint m s k standing ↔ Contains (constraints_of m s) (stating standing k)

-- Every constraint holds exactly where each of the list does.
abbrev pub HoldingIsListed : Type 0
HoldingIsListed =
    (m : ModelTree) (s : Scenario) → IsWellFormed s
    → Holds m s ↔ ((one : Stating) → Contains (constraints_of m s) one → is_true (value_at one.constraint one.standing) ≡ true)
