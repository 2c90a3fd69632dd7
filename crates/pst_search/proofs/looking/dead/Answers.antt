use Rattle.pst_search.proofs.Looks.{dead_barren}
use Rattle.pst_search.proofs.looking.dead.Goals as goal

pub refused-requires : goal.refused-requires
refused-requires c = dead_barren c.args.lists.now c.dead_stays_dead.ensures c.requires
