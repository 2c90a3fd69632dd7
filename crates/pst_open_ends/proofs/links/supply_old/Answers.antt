use Rattle.std.proofs.Common.{◌∙◌}
use Rattle.pst_open_ends.specs.Spots.{read_spot}
use Rattle.pst_open_ends.proofs.Supplies.{old_supplied}
use Rattle.pst_open_ends.proofs.links.supply_old.Goals as goal

pub returns-clause-supplied : goal.returns-clause-supplied
returns-clause-supplied c = λ m. old_supplied m (read_spot c.args.need.now) c.args.act c.args.reference _ c.args.acts.now.items c.join.new.acts.items c.in_ok-ends.ensures.joined (c.len-count.ensures ∙ c.args.acts.now.ok.0) c.lowest.ensures
