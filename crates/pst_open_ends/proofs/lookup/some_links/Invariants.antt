use Rattle.std.proofs.Common.{◌≡◌, drop}
use Rattle.std.specs.List.{list_any}
use Rattle.pst_open_ends.specs.Options.{link_of, links_from}
use Rattle.pst_open_ends.proofs.lookup.some_links.Given as goal

abbrev pub invariant-loop-end : goal.invariant-loop-end
invariant-loop-end l = list_any (links_from l.acts (link_of l.to)) (drop l.end-index l.ends) ≡ list_any (links_from l.acts (link_of l.to)) l.ends
