use Rattle.pst_read_domains.proofs.Whole.{read_in_domains}
use Rattle.pst_read_domains.proofs.laws.read_values_are_in_domains.Goals as goal

pub returns : goal.returns
returns c =
    read_in_domains c.acts_are_of_their_types.ensures c.links_join_pools.ensures c.compound_values_are_in_domains.ensures c.whole_lists_lie_ahead.ensures c.whole_readings_fit.ensures
    c.longer_lists_keep_what_is_known.ensures
