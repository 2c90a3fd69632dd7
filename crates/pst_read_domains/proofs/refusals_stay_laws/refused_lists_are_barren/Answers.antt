use Rattle.pst_read_domains.proofs.Barren.{refused_barren}
use Rattle.pst_read_domains.proofs.refusals_stay_laws.refused_lists_are_barren.Goals as goal

pub returns : goal.returns
returns c =
    refused_barren c.refusals_go_on.ensures c.nodes_stand_for_pieces.ensures.leaves c.handles_have_their_types.ensures c.longer_lists_keep_what_is_known.ensures c.legal_scenarios_are_in_domains.ensures
    c.refused_does_not_hold.ensures.own
