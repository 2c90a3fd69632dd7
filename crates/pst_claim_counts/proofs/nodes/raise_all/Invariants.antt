use Rattle.std.proofs.Common.{◌≡◌, ◌≤◌, ℕ, List, length}
use Rattle.pst_scen.specs.declared.scenario.Scenario.{Scenario}
use Rattle.pst_claim_rivals.specs.declared.claims.OpenClaim.{OpenClaim}
use Rattle.pst_claim_counts.specs.Needs.{AreNeeds, IsBelow}
use Rattle.pst_claim_counts.proofs.nodes.raise_all.Given as goal

abbrev pub decreases-nodes : goal.decreases-nodes
decreases-nodes l = l.n

abbrev pub invariant-nodes : goal.invariant-nodes
invariant-nodes l =
    (l.n ≤ length l.nodes) × (length l.needs.items ≡ length l.nodes)
    × ((s : Scenario) (claims : List OpenClaim) (pool : ℕ) → s.nodes ≡ l.nodes → AreNeeds s (IsBelow l.nodes claims pool (length l.nodes)) l.initial.needs.items → AreNeeds s (IsBelow l.nodes claims pool l.n) l.needs.items)
