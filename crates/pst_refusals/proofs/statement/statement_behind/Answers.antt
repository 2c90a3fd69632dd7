use Rattle.std.proofs.Common.{◌∙◌, length}
use Rattle.pst_model.specs.ModelView.{view_model}
use Rattle.pst_refusals.proofs.Placed.{by_nodes}
use Rattle.pst_refusals.proofs.statement.statement_behind.Goals as goal

pub returns : goal.returns
returns c = λ earlier. c.in_ok-found.ensures ∙ by_nodes (view_model c.args.model.now) c.args.nodes.now earlier (length c.args.nodes.now) c.args.n
