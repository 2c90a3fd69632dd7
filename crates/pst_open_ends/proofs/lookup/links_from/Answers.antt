use Rattle.std.proofs.Common.{◌∙◌}
use Rattle.pst_open_ends.specs.Spots.{spot_at}
use Rattle.pst_open_ends.specs.Options.{link_of}
use Rattle.pst_open_ends.proofs.Lookups.{linked_none, linked_some}
use Rattle.pst_open_ends.proofs.lookup.links_from.Goals as goal

pub returns-in-None : goal.returns-in-None
returns-in-None c = linked_none (link_of c.args.to) (spot_at c.args.acts.now c.args.end) c.in-None.ensures.spot

pub returns-in-Some : goal.returns-in-Some
returns-in-Some c = c.links_to.ensures ∙ linked_some (link_of c.args.to) (spot_at c.args.acts.now c.args.end) c.in-Some.spot c.in-Some.ensures.spot
