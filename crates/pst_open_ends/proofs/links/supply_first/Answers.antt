use Rattle.pst_open_ends.specs.Spots.{read_spot}
use Rattle.std.proofs.Common.{◌∙◌, refl}
use Rattle.pst_open_ends.proofs.Supplies.{first_supplied}
use Rattle.pst_open_ends.proofs.links.supply_first.Goals as goal

pub returns : goal.returns
returns c = λ m. first_supplied m (read_spot c.args.need.now) _ c.args.acts.now.items c.put-end.new.acts.items c.put-end.ensures.put c.put-end.ensures.back (c.len-count.ensures ∙ c.args.acts.now.ok.0) refl
