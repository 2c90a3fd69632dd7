-- The laws of constraints.
use Rattle.std.proofs.Common.{Contains}
use Rattle.std.specs.Prelude.{length}
use Rattle.pst_model.specs.ConstraintTree.{SlotTree, ConstraintTree}
use Rattle.pst_model.specs.ModelTree.{ModelTree}
use Rattle.pst_scen.specs.declared.scenario.Scenario.{Scenario}
use Rattle.pst_scen.specs.Scenarios.{IsWellFormed}
use Rattle.pst_legal.specs.Standing.{Standing}
use Rattle.pst_legal.specs.Constraints.{HasConstraint}
use Rattle.pst_built.proofs.Members.{to_contains}
use Rattle.pst_slots.specs.Listed.{Stating, stating, constraints_of}
use Rattle.pst_slots.specs.StatementsLaws.{ConstraintsAreListed, HoldingIsListed}
use Rattle.pst_slots.proofs.Found.{found}
use Rattle.pst_slots.proofs.Kept.{all_found, stands_at}
use Rattle.pst_slots.proofs.Listed.{in_contains, has_listed, listed_has}

to_list : (m : ModelTree) (s : Scenario) → IsWellFormed s → (k : ConstraintTree) (standing : SlotTree → Standing) → HasConstraint m s k standing → Contains (constraints_of m s) (stating standing k)
to_list m s formed k standing has =
    to_contains (constraints_of m s) (stating standing k)
    (has_listed m s (λ n top step indices stands. all_found m s.nodes formed.parents n top step indices stands) (λ n top step indices stands. stands_at m s.nodes top stands) has)

from_list : (m : ModelTree) (s : Scenario) (one : Stating) → Contains (constraints_of m s) one → HasConstraint m s one.constraint one.standing
from_list m s one has = listed_has m s (λ n x is. found m s.nodes (length s.nodes) n x is) one (in_contains (constraints_of m s) one has)

pub listed : ConstraintsAreListed
listed m s formed k standing = (λ has. to_list m s formed k standing has, λ has. from_list m s (stating standing k) has)

pub holding : HoldingIsListed
holding m s formed = (
  λ holds one has. holds one.constraint one.standing (from_list m s one has),
  λ each k standing has. each (stating standing k) (to_list m s formed k standing has),
)
