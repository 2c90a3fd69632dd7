use Rattle.std.proofs.Common.{◌≡◌, length}
use Rattle.pst_scen.specs.declared.scenario.Scenario.{Scenario}
use Rattle.pst_claim_counts.specs.Needs.{SlotsMeet, AreNeeds, IsOwn}
use Rattle.pst_claim_counts.proofs.needs.own_needs.Given as goal

abbrev pub invariant-loop-place : goal.invariant-loop-place
invariant-loop-place l = (length l.needs.items ≡ l.count) × ((s : Scenario) → SlotsMeet s l.slots → AreNeeds s (IsOwn l.slots l.claims l.pool l.place) l.needs.items)
