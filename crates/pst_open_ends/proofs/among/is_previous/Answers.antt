use Rattle.std.proofs.Common.{ap, ◌∙◌}
use Rattle.std.specs.List.{list_any}
use Rattle.pst_open_ends.specs.Options.{link_of, links_from}
use Rattle.pst_open_ends.proofs.Lookups.{previous_is}
use Rattle.pst_open_ends.proofs.among.is_previous.Goals as goal

pub returns : goal.returns
returns c =
    let acts = c.args.acts.now in
    let to = link_of c.args.to in
    c.some_links.ensures ∙ ap (list_any (links_from acts to)) c.requires ∙ previous_is acts c.args._need.now.pool to
