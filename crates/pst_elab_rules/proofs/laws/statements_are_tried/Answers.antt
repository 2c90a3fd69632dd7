use Rattle.pst_elab_rules.proofs.StatementsTried.{states, handles_and_joins, bodies, sets}
use Rattle.pst_elab_rules.proofs.laws.statements_are_tried.Goals as goal

pub returns : goal.returns
returns c = record {
  states = states;
  handles_and_joins = handles_and_joins;
  bodies = bodies;
  sets = sets;
}
