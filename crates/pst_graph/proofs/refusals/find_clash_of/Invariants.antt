use Rattle.std.proofs.Common.{◌≤◌, ◌-◌, length}
use Rattle.pst_scen.specs.Refusals.{GroupClashes}
use Rattle.pst_graph.proofs.Least.{HoldsNowhereTo}
use Rattle.pst_graph.proofs.refusals.find_clash_of.Given as goal

abbrev pub decreases-rest : goal.decreases-rest
decreases-rest l = length l.scenario.actions - l.at

abbrev pub invariant-rest : goal.invariant-rest
invariant-rest l = record { behind : l.a ≤ l.at; before : HoldsNowhereTo (GroupClashes l.scenario l.a) l.at }
