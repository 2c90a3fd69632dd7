use Rattle.pst_read_domains.proofs.Whole.{stay_refused}
use Rattle.pst_read_domains.proofs.laws.refusals_stay_refused.Goals as goal

pub returns : goal.returns
returns c =
    stay_refused c.read_values_are_in_domains.ensures c.refusals_go_on.ensures c.nodes_stand_for_pieces.ensures.leaves c.handles_have_their_types.ensures c.longer_lists_keep_what_is_known.ensures
