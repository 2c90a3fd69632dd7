use Rattle.pst_read_legal.proofs.Shapes.{has_shape, whole_has_shape}
use Rattle.pst_read_legal.proofs.read_shape_laws.fitting_scenarios_have_shape.Goals as goal

pub returns-clause-fitting : goal.returns-clause-fitting
returns-clause-fitting c = has_shape

pub returns-clause-whole : goal.returns-clause-whole
returns-clause-whole c = whole_has_shape c.whole_readings_are_scenarios.ensures c.whole_readings_have_sources.ensures c.whole_readings_fit.ensures
