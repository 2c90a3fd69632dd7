use Rattle.pst_read_legal.proofs.Planned.{are_legal}
use Rattle.pst_read_legal.proofs.laws.planned_readings_are_legal.Goals as goal

pub returns : goal.returns
returns c =
    are_legal c.whole_readings_are_built.ensures.built c.whole_readings_are_scenarios.ensures c.whole_readings_fit.ensures c.fitting_scenarios_have_shape.ensures.whole
    c.writers_come_from_first.ensures.supplied
