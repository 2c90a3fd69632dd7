use Rattle.std.proofs.Common.{◌≡◌, ◌++◌, drop}
use Rattle.pst_model.specs.ModelView.{view_model}
use Rattle.pst_addr.specs.Asks.{asks_from}
use Rattle.pst_addr.proofs.asks.asks_of.Given as goal

abbrev pub invariant-loop-number : goal.invariant-loop-number
invariant-loop-number l =
    l.asks.items ++ asks_from l.names (view_model l.model) l.number (drop l.number l.scenario.actions) ≡ asks_from l.names (view_model l.model) 0 l.scenario.actions
