-- Numbers of groups that are least members.
use Rattle.std.proofs.Common.{◌≡◌, ◌≤◌, ◌<◌, ℕ, List, length, get_or, subst, arith}
use Rattle.pst_scen.specs.declared.scenario.Scenario.{Scenario}
use Rattle.pst_scen.specs.Order.{Itself}
use Rattle.pst_scen.specs.Plan.{AreGroupsNumbered}
use Rattle.pst_scen.specs.Plans.{IsGroupNumber}
use Rattle.pst_graph.proofs.Grouped.{same_group}

pub are_numbered : (s : Scenario) (groups : List ℕ) → length groups ≡ length s.actions → ((a : ℕ) → a < length s.actions → IsGroupNumber s a (get_or groups a 0)) → AreGroupsNumbered groups
are_numbered s groups many numbers = record { least = least; member = member }
  where
    within : (a : ℕ) → a < length groups → a < length s.actions
    within a a_in = subst (λ (n : ℕ). a < n) many a_in

    least : (a : ℕ) → a < length groups → get_or groups a 0 ≤ a
    least a a_in = (numbers a (within a a_in)).least a Itself

    member : (a : ℕ) → a < length groups → get_or groups (get_or groups a 0) 0 ≡ get_or groups a 0
    member a a_in =
        let low = least a a_in in
        let is_in = within a a_in in
        let first_in : get_or groups a 0 < length s.actions = omega (arith, low, is_in) in
        (same_group s groups numbers a (get_or groups a 0) is_in first_in).1 (numbers a is_in).member
