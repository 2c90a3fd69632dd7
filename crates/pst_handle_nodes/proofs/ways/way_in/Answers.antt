use Rattle.std.proofs.Common.{true, map, sym, subst}
use Rattle.pst_model.specs.ModelView.{view_step}
use Rattle.pst_legal.specs.Statements.{way_in}
use Rattle.pst_handle_nodes.specs.Ways.{Leads}
use Rattle.pst_handle_nodes.proofs.Rows.{leads_back}
use Rattle.pst_handle_nodes.proofs.ways.way_in.Goals as goal

pub returns : goal.returns
returns c =
    let o = way_in c.args.handle 0 (map view_step c.args.steps.now) in
    let found = c.find_in.new.way.items in
    sym (leads_back o found c.reverse.new.self.items
    (subst (λ old. Leads o true old found) c.new-way.ensures.items (subst (λ b. Leads o b c.new-way.result.items found) c.if-not-found.false c.in_ok-found.ensures))
    c.reverse.ensures.items)
