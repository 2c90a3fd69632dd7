use Rattle.std.proofs.Common.{sym, subst}
use Rattle.pst_model.specs.ModelView.{view_model}
use Rattle.pst_open_ends.specs.Spots.{read_spot, given_source}
use Rattle.pst_open_ends.specs.Changes.{Supplies}
use Rattle.pst_open_ends.proofs.links.supply.Goals as goal

pub returns-in-Initially-clause-supplied : goal.returns-in-Initially-clause-supplied
returns-in-Initially-clause-supplied c =
    let m = view_model c.args.beyond.now.model.now in
    subst (λ s. Supplies m (read_spot c.args.need.now) (given_source s) c.supply_first.result c.args.acts.now.items c.supply_first.new.acts.items) (sym c.in-Initially.is) (c.supply_first.ensures m)
