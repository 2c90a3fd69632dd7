-- What is told of the order so far.
use Rattle.pst_scen.specs.declared.scenario.Scenario.{Scenario}
use Rattle.pst_order_ahead.specs.Ahead.{IsRefusedAhead}
use Rattle.pst_link_order.specs.declared.judging.Outcome.{Outcome}
use Rattle.pst_link_order.specs.declared.judging.Outcome.TheVariants as outcome
use Rattle.pst_link_order.specs.Takes.{IsAheadBy}

-- it is refused ahead, or a plan orders what must come in that order
abbrev pub TellsOutcome : Scenario → Outcome → Type 0
TellsOutcome s outcome.Refused = IsRefusedAhead s
TellsOutcome s outcome.Silent = Unit {0}
TellsOutcome s (outcome.Planned plan) = IsAheadBy s plan
