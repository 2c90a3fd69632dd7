use Rattle.pst_built.proofs.WellFormed.{well_formed, within_is_small}
use Rattle.pst_built.proofs.Whole.{whole_is_well_formed}
use Rattle.pst_built.proofs.forms.scenarios_are_well_formed.Goals as goal

pub returns-clause-scenario : goal.returns-clause-scenario
returns-clause-scenario c = λ s is small. well_formed s is.nodes is.leaves is.links small

pub returns-clause-read : goal.returns-clause-read
returns-clause-read c = whole_is_well_formed

pub returns-clause-legal : goal.returns-clause-legal
returns-clause-legal c = λ m root s legal. well_formed s legal.scenario.nodes legal.scenario.leaves legal.scenario.links (within_is_small s legal.fits.within)
