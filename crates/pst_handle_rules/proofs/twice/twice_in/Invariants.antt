use Rattle.pst_name_rules.specs.Leasts.{IsLeastOf}
use Rattle.pst_handle_rules.specs.declared.end_key.Side.TheVariants as side
use Rattle.pst_handle_rules.specs.Twice.{AreFirsts, IsTwiceBefore}
use Rattle.pst_handle_rules.proofs.twice.twice_in.Given as goal

abbrev pub invariant-loop-at : goal.invariant-loop-at
invariant-loop-at l =
    record {
      inputs : AreFirsts side.Other l.ties l.at l.inputs;
      outputs : AreFirsts side.First l.ties l.at l.outputs;
      least : IsLeastOf (IsTwiceBefore l.ties l.at) l.least;
    }
