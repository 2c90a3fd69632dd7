-- Numbers of groups on the way to the least members.
use Rattle.std.specs.Prelude.{◌≡◌, ◌≤◌, ◌<◌, ℕ, List, length, get_or}
use Rattle.pst_scen.specs.declared.scenario.Scenario.{Scenario}
use Rattle.pst_scen.specs.Flows.{Streams}
use Rattle.pst_scen.specs.Order.{Together, Direct}

-- the number of each action is a member of its group, and none after the action itself
pub record AreMembers (s : Scenario) (groups : List ℕ) : Type 0 where
  pub many : length groups ≡ length s.actions
  pub member : (a : ℕ) → a < length s.actions → Together s a (get_or groups a 0)
  pub below : (a : ℕ) → a < length s.actions → get_or groups a 0 ≤ a

-- a stream joins the two actions, and the second has the lower number
pub record IsApart (s : Scenario) (groups : List ℕ) (a b : ℕ) : Type 0 where
  pub a_in : a < length s.actions
  pub b_in : b < length s.actions
  pub link : Streams s a b
  pub less : get_or groups b 0 < get_or groups a 0

-- a is a direct cause for a member of b's group
pub record MustDirectly (s : Scenario) (a b : ℕ) : Type 0 where
  pub x : ℕ
  pub direct : Direct s a x
  pub together : Together s b x
