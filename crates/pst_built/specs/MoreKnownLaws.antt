-- What stays refused as more is known.
use Rattle.pst_model.specs.ModelTree.{ModelTree}
use Rattle.pst_model.specs.Sound.{IsSound}
use Rattle.pst_scen.specs.declared.scenario.Scenario.{Scenario}
use Rattle.pst_built.specs.Onward.{Onward}
use Rattle.pst_built.specs.Known.{InDomains, HandlesHaveTypes, LeavesHaveActions}
use Rattle.pst_built.specs.Refused.{SomeRefused}

-- Where a scenario goes on from another, and what is known of it lies in the domains of a sound model, a constraint that was
-- refused is refused.
abbrev pub RefusalsGoOn : Type 0
RefusalsGoOn = (m : ModelTree) (s t : Scenario) → IsSound m → Onward s t → LeavesHaveActions s → InDomains m t → HandlesHaveTypes m t → SomeRefused m s → SomeRefused m t
