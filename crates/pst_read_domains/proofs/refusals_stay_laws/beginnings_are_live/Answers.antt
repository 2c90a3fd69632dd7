use Rattle.pst_read_domains.proofs.Barren.{are_live}
use Rattle.pst_read_domains.proofs.refusals_stay_laws.beginnings_are_live.Goals as goal

pub returns : goal.returns
returns c = are_live c.dead_stays_dead.ensures c.refused_lists_are_barren.ensures
