use Rattle.pst_joined_spans.proofs.Cutting.{has_more_behind}
use Rattle.pst_joined_spans.proofs.common.add_common.Goals as goal

pub returns : goal.returns
returns c =
    has_more_behind c.args.found.now.items c.args.spans.now c.args.range c.count_below-below.result c.requires c.count_below-below.ensures.within c.count_below-below.ensures.below c.add_cuts.new.found.items
    c.in_ok-add_cuts.ensures
