use Rattle.std.proofs.Common.{◌≡◌, ◌++◌, List, length}
use Rattle.pst_scen.specs.declared.event.Event.{Event}
use Rattle.pst_trace_lines.proofs.Pairing.{Going}
use Rattle.pst_trace_lines.proofs.blocks.read_pairs.Given as goal

abbrev pub invariant-pairs : goal.invariant-pairs
invariant-pairs l = record {
  own : List Event;
  are : l.events.items ≡ l.fn.events.items ++ own;
  going : Going l.text l.rest own;
}

abbrev pub decreases-pairs : goal.decreases-pairs
decreases-pairs l = length l.rest
