use Rattle.pst_read_so_far.proofs.Refused.{stay_refused}
use Rattle.pst_read_so_far.proofs.laws.constraints_stay_refused.Goals as goal

pub returns : goal.returns
returns c =
    stay_refused c.narrower_bounds_give_inner_spans.ensures c.spans_are_sane.ensures c.read_values_are_in_domains.ensures c.nodes_stand_for_pieces.ensures.leaves c.handles_have_their_types.ensures
    c.longer_lists_keep_what_is_known.ensures
