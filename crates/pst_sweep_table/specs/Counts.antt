-- How many actions are of a type.
use Rattle.std.specs.Prelude.{◌≡◌, ℕ, ◌<◌, List, length, get_or, map, replicate, nat_eq, count_by, Bool}
use Rattle.std.specs.List.{range_with_len}
use Rattle.pst_model.specs.ModelTree.{ModelTree}
use Rattle.pst_scen.specs.declared.act.Act.{Act}
use Rattle.pst_scen.specs.declared.scenario.Scenario.{Scenario}

abbrev pub is_of : ℕ → Act → Bool
is_of type act = nat_eq type act.action

-- of a scenario's atomic actions
abbrev pub count_of : Scenario → ℕ → ℕ
count_of s type = count_by (is_of type) s.actions

-- the counts of all types
abbrev pub uses_of : ModelTree → Scenario → List ℕ
uses_of m s = map (count_of s) (range_with_len 0 (length m.actions))

abbrev pub no_uses : ModelTree → List ℕ
no_uses m = replicate (length m.actions) 0

-- a table of the counts of so many types
pub record AreCountsOf (acts : List Act) (types : ℕ) (counts : List ℕ) : Type 0 where
  pub many : length counts ≡ types
  pub each : (type : ℕ) → type < types → get_or counts type 0 ≡ count_by (is_of type) acts
