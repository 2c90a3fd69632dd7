use Rattle.std.proofs.Common.{sym, ◌∙◌}
use Rattle.pst_touched.proofs.Ways.{old_way}
use Rattle.pst_touched.proofs.upward.add_above.Goals as goal

pub returns-clause-old : goal.returns-clause-old
returns-clause-old c = old_way c.args.nodes.now c.args.from c.add_way.new.found.items c.args.n c.in-Some.parent c.requires.from (sym c.parent_of.ensures ∙ c.in-Some.is) c.in_ok-add_way.ensures.way
